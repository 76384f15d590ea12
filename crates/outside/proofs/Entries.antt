-- The folder that the entries of a map make.
use Rattle.std.proofs.Common.{◌≡◌, ◌≢◌, ℕ, List, [], ◌∷◌, true, false, cond, ◌||◌, Some, None, is_some, refl, sym, ap, subst, ◌∙◌}
use Rattle.std.specs.Ordering.{nat_cmp}
use Rattle.std.specs.Cmp.Lexicographic.{slice_cmp}
use Rattle.std.specs.FinMap.{get, insert, remove, get-empty}
use Rattle.std.specs.Map.{lookup, keys_of}
use Rattle.std.specs.List.{IsDistinct, list_any}
use Rattle.std.specs.List.Sorted.{IsStrictlySortedBy}
use Rattle.std.specs.Str.{bytes_eq}
use Rattle.std.proofs.lemmas.Map.Keys.{IsDistinct-from_sorted}
use Rattle.std.proofs.lemmas.Map.Text.{is_eq-slice_cmp}
use Rattle.outside.specs.Files.{IsListing}
use Rattle.outside.specs.Stored.{folder_of}
use Rattle.outside.proofs.Folders.{tied, tied_names, tied_same, tied_turned, same_folder, get_put, get_cut}

abbrev pub Stored : Type 0
Stored = List (List ℕ × List ℕ)

-- the folder has at a name what the entries have
pub get-folder_of : (es : Stored) (q : List ℕ) → get (folder_of es) q ≡ lookup (tied q) es
get-folder_of [] q = get-empty (slice_cmp nat_cmp) q
get-folder_of (e ∷ es) q = get_put (folder_of es) e.0 e.1 q ∙ ap (cond (tied q e.0) (Some e.1)) (get-folder_of es q)

any_key : (es : Stored) (q : List ℕ) → list_any (tied q) (keys_of es) ≡ is_some (lookup (tied q) es)
any_key [] q = refl
any_key (e ∷ es) q = elim (tied q e.0) as (λ b. (b || list_any (tied q) (keys_of es)) ≡ is_some (cond b (Some e.1) (lookup (tied q) es))) [ true ↦ refl | false ↦ any_key es q ]

-- two tests of names that agree
same_test : tied ≡ bytes_eq
same_test = λ i q k. is_eq-slice_cmp q k i

-- the names of entries in order are a listing of their folder
pub listing_of : (es : Stored) → IsStrictlySortedBy (slice_cmp nat_cmp) (keys_of es) → IsListing (keys_of es) (folder_of es)
listing_of es sorted = record {
  once = subst (λ test. IsDistinct test (keys_of es)) same_test (IsDistinct-from_sorted (slice_cmp nat_cmp) (keys_of es) sorted);
  held = λ q. ap (λ test. list_any (test q) (keys_of es)) (sym same_test) ∙ any_key es q ∙ ap is_some (sym (get-folder_of es q));
}

-- entries that differ at one name make folders that differ there
pub folder_put : (es es' : Stored) (k v : List ℕ) → ((q : List ℕ) → lookup (tied q) es' ≡ cond (tied k q) (Some v) (lookup (tied q) es)) → folder_of es' ≡ insert (folder_of es) k v
folder_put es es' k v has = same_folder _ _ (λ q. get-folder_of es' q ∙ has q ∙ (λ i. cond (tied_turned k q i) (Some v) (sym (get-folder_of es q) i)) ∙ sym (get_put (folder_of es) k v q))

pub folder_cut : (es es' : Stored) (k : List ℕ) → ((q : List ℕ) → lookup (tied q) es' ≡ cond (tied k q) None (lookup (tied q) es)) → folder_of es' ≡ remove (folder_of es) k
folder_cut es es' k has = same_folder _ _ (λ q. get-folder_of es' q ∙ has q ∙ (λ i. cond (tied_turned k q i) None (sym (get-folder_of es q) i)) ∙ sym (get_cut (folder_of es) k q))

pub same_names : (q k : List ℕ) → bytes_eq q k ≡ true → q ≡ k
same_names q k e = tied_names q k (is_eq-slice_cmp q k ∙ e)

pub apart_names : (q k : List ℕ) → bytes_eq q k ≡ false → q ≢ k
apart_names q k e same =
    let is : tied q k ≡ true = ap (tied q) (sym same) ∙ tied_same q in
    let isnt : tied q k ≡ false = is_eq-slice_cmp q k ∙ e in
    cc
