-- Sets of listed numbers, and keys of listed entries, by walks over the lists.
use Rattle.std.proofs.Common.{◌≡◌, ℕ, true, false, List, [], ◌∷◌, Option, Some, None, ap, sym, ◌∙◌, eqb, subst, inl, inr, ◌++◌}
use Rattle.std.specs.Prelude.{IsSome, is_some}
use Rattle.std.specs.List.{list_any}
use Rattle.std.specs.Ordering.{nat_cmp}
use Rattle.std.specs.FinMap.{get, find, from_entries, get-from_entries}
use Rattle.std.specs.FinSet.{contains, insert, from_list, contains-from_list_nat}
use Rattle.std.proofs.lemmas.Bool.{eqb-true}
use Rattle.std.proofs.lemmas.Cmp.{nat_cmp_total}
use Rattle.cache_key.specs.Key.{Key}
use Rattle.cache_key.specs.KeyOf.{KeyMap}
use Rattle.active_resources.specs.Actives.{Fits, IsActiveAt, without}
use Rattle.active_resources.specs.inside.Numbers.{left_of}
use Rattle.active_resources.proofs.Sets.{or_true, set-left, set-push}

-- what holds of each listed number
abbrev pub Each : (ℕ → Type 0) → List ℕ → Type 0
Each P [] = Unit {0}
Each P (x ∷ xs) = P x × Each P xs

each_of : (P : ℕ → Type 0) (xs : List ℕ) → Each P xs → (n : ℕ) → list_any (λ y. eqb y n) xs ≡ true → P n
each_of P [] all n is = absurd cc
each_of P (x ∷ xs) all n is = elim (or_true _ _ is) [
  | inl here ↦ subst P (eqb-true x n here) all.0
  | inr later ↦ each_of P xs all.1 n later
]

-- what is left where one number takes the place of another, or of none
pub leaves-listed : (numbers : List ℕ) (replaced : Option ℕ) (number : ℕ)
    → insert (without replaced (from_list {R = nat_cmp} numbers)) number ≡ from_list (left_of replaced numbers ++ number ∷ [])
leaves-listed numbers replaced number =
    ap (λ s. insert s number) (sym (set-left replaced numbers)) ∙ sym (set-push number (left_of replaced numbers))

-- the width of a key that is there
abbrev pub width_in : Option Key → ℕ
width_in None = 0
width_in (Some key) = key.width

module _ (entries : List (ℕ × Key)) where
  abbrev keys : KeyMap
  keys = from_entries entries

  -- the key that a number has
  pub key-listed : (number : ℕ) → get keys number ≡ find nat_cmp number entries
  key-listed number = get-from_entries nat_cmp_total entries number

  -- a listed number that has what is asked for
  pub holds-listed : (wanted : Option Key) (numbers : List ℕ) (number : ℕ) → list_any (λ y. eqb y number) numbers ≡ true → find nat_cmp number entries ≡ wanted
      → IsActiveAt keys wanted (from_list numbers) number
  holds-listed wanted numbers number in_list has = (contains-from_list_nat numbers number ∙ in_list, key-listed number ∙ has)

  -- a number that is not listed, or has another key
  pub lacks-unlisted : (wanted : Option Key) (numbers : List ℕ) (number : ℕ) → list_any (λ y. eqb y number) numbers ≡ false
      → ¬ (IsActiveAt keys wanted (from_list numbers) number)
  lacks-unlisted wanted numbers number not_in at = let out : contains (from_list {R = nat_cmp} numbers) number ≡ false = contains-from_list_nat numbers number ∙ not_in in cc

  pub lacks-other : (wanted : Option Key) (numbers : List ℕ) (number : ℕ) → ¬ (find nat_cmp number entries ≡ wanted)
      → ¬ (IsActiveAt keys wanted (from_list numbers) number)
  lacks-other wanted numbers number other at = other (sym (key-listed number) ∙ at.1)

  pub cannot-alike : (numbers : List ℕ) (a b : ℕ) → list_any (λ y. eqb y a) numbers ≡ true → list_any (λ y. eqb y b) numbers ≡ true
      → find nat_cmp a entries ≡ find nat_cmp b entries → ¬ (a ≡ b) → ¬ (Fits keys (from_list numbers))
  cannot-alike numbers a b in_a in_b alike apart fits =
      apart (fits.apart a b (contains-from_list_nat numbers a ∙ in_a) (contains-from_list_nat numbers b ∙ in_b) (key-listed a ∙ alike ∙ sym (key-listed b)))

  pub cannot-unknown : (numbers : List ℕ) (number : ℕ) → list_any (λ y. eqb y number) numbers ≡ true → ¬ (IsSome (find nat_cmp number entries))
      → ¬ (Fits keys (from_list numbers))
  cannot-unknown numbers number in_list unknown fits =
      unknown (ap (λ (x : Option Key). is_some x) (sym (key-listed number)) ∙ fits.known number (contains-from_list_nat numbers number ∙ in_list))

  pub can-listed : (numbers : List ℕ) → Each (λ n. IsSome (find nat_cmp n entries)) numbers
      → Each (λ a. Each (λ b. find nat_cmp a entries ≡ find nat_cmp b entries → a ≡ b) numbers) numbers → Fits keys (from_list numbers)
  can-listed numbers known apart = record {
    known = λ n has. ap is_some (key-listed n) ∙ each_of (λ n. IsSome (find nat_cmp n entries)) numbers known n (sym (contains-from_list_nat numbers n) ∙ has);
    apart = λ a b in_a in_b alike.
        each_of (λ b. find nat_cmp a entries ≡ find nat_cmp b entries → a ≡ b) numbers
        (each_of (λ a. Each (λ b. find nat_cmp a entries ≡ find nat_cmp b entries → a ≡ b) numbers) numbers apart a (sym (contains-from_list_nat numbers a) ∙ in_a))
        b (sym (contains-from_list_nat numbers b) ∙ in_b) (sym (key-listed a) ∙ alike ∙ key-listed b);
  }
