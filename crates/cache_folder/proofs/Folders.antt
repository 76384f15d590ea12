-- What a folder has at a name after a change, and what an append leaves.
use Rattle.std.proofs.Common.{◌≡◌, ◌≢◌, ℕ, List, [], ◌∷◌, ◌++◌, Bool, true, false, cond, Some, None, refl, sym, ap, ◌∙◌, append_assoc, append-nil}
use Rattle.std.specs.declared.option.Option.{Option}
use Rattle.std.specs.declared.cmp.Ordering.{Ordering}
use Rattle.std.specs.declared.cmp.Ordering.TheVariants.{Less, Equal, Greater}
use Rattle.std.specs.Ordering.{nat_cmp, eq_by_cmp, is_eq}
use Rattle.std.specs.Cmp.{eq_by_cmp_equiv}
use Rattle.std.specs.Cmp.Lexicographic.{slice_cmp}
use Rattle.std.specs.FinMap.{get, insert, remove, get-insert, get-remove, same_map, slice_cmp-IsAntisymmetric, nat_cmp-IsAntisymmetric}
use Rattle.std.proofs.lemmas.Cmp.{nat_list_cmp_total}
use Rattle.outside.specs.Files.{Folder, last_of, grown, appended, appended_to}

-- the test of two names
abbrev pub tied : List ℕ → List ℕ → Bool
tied = eq_by_cmp (slice_cmp nat_cmp)

is_Equal : (r : Ordering) → is_eq r ≡ true → r ≡ Equal
is_Equal Less e = cc
is_Equal Equal e = refl
is_Equal Greater e = cc

pub tied_names : (q k : List ℕ) → tied q k ≡ true → q ≡ k
tied_names q k e = slice_cmp-IsAntisymmetric nat_cmp-IsAntisymmetric q k (is_Equal _ e)

pub tied_same : (k : List ℕ) → tied k k ≡ true
tied_same k = (eq_by_cmp_equiv nat_list_cmp_total).refl k

tied_apart_by : (q k : List ℕ) (b : Bool) → tied q k ≡ b → q ≢ k → b ≡ false
tied_apart_by q k true e ne = absurd (ne (tied_names q k e))
tied_apart_by q k false e ne = refl

pub tied_apart : (q k : List ℕ) → q ≢ k → tied q k ≡ false
tied_apart q k ne = tied_apart_by q k _ refl ne

pub same_folder : (f g : Folder) → ((q : List ℕ) → get f q ≡ get g q) → f ≡ g
same_folder = same_map nat_list_cmp_total (slice_cmp-IsAntisymmetric nat_cmp-IsAntisymmetric)

pub get_put : (f : Folder) (k v q : List ℕ) → get (insert f k v) q ≡ cond (tied q k) (Some v) (get f q)
get_put f k v q = get-insert nat_list_cmp_total f k v q

pub get_cut : (f : Folder) (k q : List ℕ) → get (remove f k) q ≡ cond (tied q k) None (get f q)
get_cut f k q = get-remove nat_list_cmp_total f k q

pub get_same : (f : Folder) (k v : List ℕ) → get (insert f k v) k ≡ Some v
get_same f k v = get_put f k v k ∙ ap (λ b. cond b (Some v) (get f k)) (tied_same k)

pub gone_same : (f : Folder) (k : List ℕ) → get (remove f k) k ≡ None
gone_same f k = get_cut f k k ∙ ap (λ b. cond b None (get f k)) (tied_same k)

pub get_other : (f : Folder) (k v q : List ℕ) → q ≢ k → get (insert f k v) q ≡ get f q
get_other f k v q ne = get_put f k v q ∙ ap (λ b. cond b (Some v) (get f q)) (tied_apart q k ne)

pub gone_other : (f : Folder) (k q : List ℕ) → q ≢ k → get (remove f k) q ≡ get f q
gone_other f k q ne = get_cut f k q ∙ ap (λ b. cond b None (get f q)) (tied_apart q k ne)

-- to put what is there changes nothing
pub put_held : (f : Folder) (k v : List ℕ) → get f k ≡ Some v → insert f k v ≡ f
put_held f k v held = same_folder _ _ (λ q.
    elim (tied q k) as (λ b. tied q k ≡ b → get (insert f k v) q ≡ get f q) [
      | true ↦ λ e. let same = tied_names q k e in ap (get (insert f k v)) same ∙ get_same f k v ∙ sym held ∙ ap (get f) (sym same)
      | false ↦ λ e. get_put f k v q ∙ ap (λ b. cond b (Some v) (get f q)) e
    ] refl)

last_grown_from : (f : Folder) (name text bytes : List ℕ) → last_of (insert f name text) (grown name text bytes f) ≡ insert f name (text ++ bytes)
last_grown_from f name text [] = ap (insert f name) (sym (append-nil text))
last_grown_from f name text (b ∷ bytes) = last_grown_from f name (text ++ b ∷ []) bytes ∙ ap (insert f name) (append_assoc text (b ∷ []) bytes)

pub last_grown : (f : Folder) (name text bytes : List ℕ) → get f name ≡ Some text → last_of f (grown name text bytes f) ≡ insert f name (text ++ bytes)
last_grown f name text [] held = sym (put_held f name text held) ∙ ap (insert f name) (sym (append-nil text))
last_grown f name text (b ∷ bytes) held = last_grown_from f name (text ++ b ∷ []) bytes ∙ ap (insert f name) (append_assoc text (b ∷ []) bytes)

pub last_appended : (f : Folder) (name text bytes : List ℕ) → get f name ≡ Some text → last_of f (appended name bytes f) ≡ insert f name (text ++ bytes)
last_appended f name text bytes held = ap (λ o. last_of f (appended_to o name bytes f)) held ∙ last_grown f name text bytes held

pub last_appended_none : (f : Folder) (name bytes : List ℕ) → get f name ≡ None → last_of f (appended name bytes f) ≡ f
last_appended_none f name bytes none = ap (λ o. last_of f (appended_to o name bytes f)) none

cond_cond : (b : Bool) (x y z : Option (List ℕ)) → cond b x (cond b y z) ≡ cond b x z
cond_cond true x y z = refl
cond_cond false x y z = refl

pub put_put : (f : Folder) (k v w : List ℕ) → insert (insert f k v) k w ≡ insert f k w
put_put f k v w = same_folder _ _ (λ q. get_put _ k w q ∙ ap (cond (tied q k) (Some w)) (get_put f k v q) ∙ cond_cond (tied q k) _ _ _ ∙ sym (get_put f k w q))
