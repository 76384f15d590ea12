-- What a folder has at a name after a change, and how changes follow on one another.
use Rattle.std.proofs.Common.{◌≡◌, ◌≢◌, ℕ, List, [], ◌∷◌, ◌++◌, length, Bool, true, false, cond, Some, None, IsOk, Result, Err, refl, sym, ap, ◌∙◌, append_assoc, append-nil, is_some}
use Rattle.std.specs.declared.option.Option.{Option}
use Rattle.std.specs.declared.cmp.Ordering.{Ordering}
use Rattle.std.specs.declared.cmp.Ordering.TheVariants.{Less, Equal, Greater}
use Rattle.std.specs.Ordering.{nat_cmp, eq_by_cmp, is_eq}
use Rattle.std.specs.Cmp.{eq_by_cmp_equiv}
use Rattle.std.specs.Cmp.Lexicographic.{slice_cmp}
use Rattle.std.specs.FinMap.{get, insert, remove, empty, get-insert, get-remove, same_map, slice_cmp-IsAntisymmetric, nat_cmp-IsAntisymmetric}
use Rattle.std.proofs.lemmas.Cmp.{nat_list_cmp_total}
use Rattle.std.proofs.Math.Seq.{take-length}
use Rattle.outside.specs.Files.{Folder, FolderHistory, last_of, passed_through, grown, appended, appended_to, moved, renamed, deleted, Passes}
use Rattle.outside.specs.declared.files.FileFault.{FileFault}
use Rattle.outside.specs.declared.files.FileFault.TheVariants.{Memory}

-- the test of two names
abbrev pub tied : List ℕ → List ℕ → Bool
tied = eq_by_cmp (slice_cmp nat_cmp)

is_Equal : (r : Ordering) → is_eq r ≡ true → r ≡ Equal
is_Equal Less e = cc
is_Equal Equal e = refl
is_Equal Greater e = cc

pub tied_names : (q k : List ℕ) → tied q k ≡ true → q ≡ k
tied_names q k e = slice_cmp-IsAntisymmetric nat_cmp-IsAntisymmetric q k (is_Equal _ e)

pub tied_same : (k : List ℕ) → tied k k ≡ true
tied_same k = (eq_by_cmp_equiv nat_list_cmp_total).refl k

tied_apart_by : (q k : List ℕ) (b : Bool) → tied q k ≡ b → q ≢ k → b ≡ false
tied_apart_by q k true e ne = absurd (ne (tied_names q k e))
tied_apart_by q k false e ne = refl

pub tied_apart : (q k : List ℕ) → q ≢ k → tied q k ≡ false
tied_apart q k ne = tied_apart_by q k _ refl ne

pub tied_turned : (q k : List ℕ) → tied q k ≡ tied k q
tied_turned q k = elim (tied q k) as (λ b. tied q k ≡ b → b ≡ tied k q) [
  | true ↦ λ e. let same = tied_names q k e in sym (ap (tied k) same ∙ tied_same k)
  | false ↦ λ e. sym (tied_apart k q (λ same. let t : tied q k ≡ true = ap (tied q) same ∙ tied_same q in cc))
] refl

pub same_folder : (f g : Folder) → ((q : List ℕ) → get f q ≡ get g q) → f ≡ g
same_folder = same_map nat_list_cmp_total (slice_cmp-IsAntisymmetric nat_cmp-IsAntisymmetric)

pub get_put : (f : Folder) (k v q : List ℕ) → get (insert f k v) q ≡ cond (tied q k) (Some v) (get f q)
get_put f k v q = get-insert nat_list_cmp_total f k v q

pub get_cut : (f : Folder) (k q : List ℕ) → get (remove f k) q ≡ cond (tied q k) None (get f q)
get_cut f k q = get-remove nat_list_cmp_total f k q

pub get_same : (f : Folder) (k v : List ℕ) → get (insert f k v) k ≡ Some v
get_same f k v = get_put f k v k ∙ ap (λ b. cond b (Some v) (get f k)) (tied_same k)

pub get_other : (f : Folder) (k v q : List ℕ) → q ≢ k → get (insert f k v) q ≡ get f q
get_other f k v q ne = get_put f k v q ∙ ap (λ b. cond b (Some v) (get f q)) (tied_apart q k ne)

pub gone_other : (f : Folder) (k q : List ℕ) → q ≢ k → get (remove f k) q ≡ get f q
gone_other f k q ne = get_cut f k q ∙ ap (λ b. cond b None (get f q)) (tied_apart q k ne)

-- to put what is there changes nothing
pub put_held : (f : Folder) (k v : List ℕ) → get f k ≡ Some v → insert f k v ≡ f
put_held f k v held = same_folder _ _ (λ q.
    elim (tied q k) as (λ b. tied q k ≡ b → get (insert f k v) q ≡ get f q) [
      | true ↦ λ e. let same = tied_names q k e in ap (get (insert f k v)) same ∙ get_same f k v ∙ sym held ∙ ap (get f) (sym same)
      | false ↦ λ e. get_put f k v q ∙ ap (λ b. cond b (Some v) (get f q)) e
    ] refl)

cond_cond : {A : Type 0} (b : Bool) (x y z : A) → cond b x (cond b y z) ≡ cond b x z
cond_cond true x y z = refl
cond_cond false x y z = refl

pub put_put : (f : Folder) (k v w : List ℕ) → insert (insert f k v) k w ≡ insert f k w
put_put f k v w = same_folder _ _ (λ q. get_put _ k w q ∙ ap (cond (tied q k) (Some w)) (get_put f k v q) ∙ cond_cond (tied q k) _ _ _ ∙ sym (get_put f k w q))

-- to take away what is not there changes nothing
pub cut_none : (f : Folder) (k : List ℕ) → get f k ≡ None → remove f k ≡ f
cut_none f k none = same_folder _ _ (λ q.
    elim (tied q k) as (λ b. tied q k ≡ b → get (remove f k) q ≡ get f q) [
      | true ↦ λ e. get_cut f k q ∙ ap (λ b. cond b None (get f q)) e ∙ sym (ap (get f) (tied_names q k e) ∙ none)
      | false ↦ λ e. get_cut f k q ∙ ap (λ b. cond b None (get f q)) e
    ] refl)

pub put_cut : (f : Folder) (k v : List ℕ) → insert (remove f k) k v ≡ insert f k v
put_cut f k v = same_folder _ _ (λ q. get_put _ k v q ∙ ap (cond (tied q k) (Some v)) (get_cut f k q) ∙ cond_cond (tied q k) _ _ _ ∙ sym (get_put f k v q))

-- to put a file at one name, to take another name away, and to put a file at the first name again
pub put_cut_put : (f : Folder) (from to v w : List ℕ) → insert (remove (insert f to v) from) to w ≡ insert (remove f from) to w
put_cut_put f from to v w = same_folder _ _ (λ q. get_put _ to w q ∙ elim (tied q to) as (λ b. tied q to ≡ b → cond b (Some w) (get (remove (insert f to v) from) q) ≡ cond b (Some w) (get (remove f from) q)) [
  | true ↦ λ e. refl
  | false ↦ λ e. get_cut _ from q ∙ ap (cond (tied q from) None) (get_put f to v q ∙ ap (λ b. cond b (Some v) (get f q)) e) ∙ sym (get_cut f from q)
] refl ∙ sym (get_put _ to w q))

-- ---- the last content that a call leaves

last_grown_from : (f : Folder) (name text bytes : List ℕ) → last_of (insert f name text) (grown name text bytes f) ≡ insert f name (text ++ bytes)
last_grown_from f name text [] = ap (insert f name) (sym (append-nil text))
last_grown_from f name text (b ∷ bytes) = last_grown_from f name (text ++ b ∷ []) bytes ∙ ap (insert f name) (append_assoc text (b ∷ []) bytes)

pub last_grown : (f : Folder) (name text bytes : List ℕ) → get f name ≡ Some text → last_of f (grown name text bytes f) ≡ insert f name (text ++ bytes)
last_grown f name text [] held = sym (put_held f name text held) ∙ ap (insert f name) (sym (append-nil text))
last_grown f name text (b ∷ bytes) held = last_grown_from f name (text ++ b ∷ []) bytes ∙ ap (insert f name) (append_assoc text (b ∷ []) bytes)

pub last_appended : (f : Folder) (name text bytes : List ℕ) → get f name ≡ Some text → last_of f (appended name bytes f) ≡ insert f name (text ++ bytes)
last_appended f name text bytes held = ap (λ o. last_of f (appended_to o name bytes f)) held ∙ last_grown f name text bytes held

pub last_appended_none : (f : Folder) (name bytes : List ℕ) → get f name ≡ None → last_of f (appended name bytes f) ≡ f
last_appended_none f name bytes none = ap (λ o. last_of f (appended_to o name bytes f)) none

pub last_renamed : (f : Folder) (from to text : List ℕ) → get f from ≡ Some text → last_of f (renamed from to f) ≡ insert (remove f from) to text
last_renamed f from to text held = ap (λ o. last_of f (moved o from to f)) held

pub last_renamed_none : (f : Folder) (from to : List ℕ) → get f from ≡ None → last_of f (renamed from to f) ≡ f
last_renamed_none f from to none = ap (λ o. last_of f (moved o from to f)) none

-- a file under its own name
pub last_renamed_same : (f : Folder) (from to : List ℕ) → from ≡ to → last_of f (renamed from to f) ≡ f
last_renamed_same f from to same = by_text (get f from) refl where
  by_text : (o : Option (List ℕ)) → get f from ≡ o → last_of f (renamed from to f) ≡ f
  by_text None e = last_renamed_none f from to e
  by_text (Some text) e = last_renamed f from to text e ∙ ap (λ k. insert (remove f from) k text) (sym same) ∙ put_cut f from text ∙ put_held f from text e

pub last_deleted : (f : Folder) (name : List ℕ) → last_of f (deleted name f) ≡ remove f name
last_deleted f name = by_text (get f name) refl where
  by_text : (o : Option (List ℕ)) → get f name ≡ o → last_of f (deleted name f) ≡ remove f name
  by_text None e = ap (λ o. last_of f (cond (is_some o) (remove f name ∷ []) [])) e ∙ sym (cut_none f name e)
  by_text (Some text) e = ap (λ o. last_of f (cond (is_some o) (remove f name ∷ []) [])) e

-- ---- a call that passes through all its contents

pub passes_all : {T : Type 0} (contents : List Folder) (before : FolderHistory) (result : Result T FileFault) → (result ≡ Err Memory → ⊥) → Passes contents before (Some (passed_through contents before)) result
passes_all {T} contents before result never = record {
  count = length contents;
  after_is = ap (λ c. Some (passed_through c before)) (sym (take-length contents));
  whole = λ _. take-length contents;
  none = λ e. absurd (never e);
}

-- and one that passes through none
pub passes_none : {T : Type 0} (contents : List Folder) (before : FolderHistory) (result : Result T FileFault) → (IsOk result → contents ≡ []) → Passes contents before (Some before) result
passes_none {T} contents before result empty = record {
  count = 0;
  after_is = ap (λ l. Some record { held = before.held; images = l }) (sym (append-nil before.images));
  whole = λ ok. sym (empty ok);
  none = λ _. refl;
}
