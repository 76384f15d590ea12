-- Keys by numbers in a list of entries, where the finite map that the list stands for has them.
use Rattle.std.proofs.Common.{◌≡◌, ℕ, ◌<◌, zero, suc, List, [], ◌∷◌, length, Option, Some, None, refl, ap, sym, subst, ◌∙◌, arith}
use Rattle.std.specs.Prelude.{IsSome, is_some, slice_get}
use Rattle.std.specs.Option.{option_map}
use Rattle.std.specs.Ordering.{nat_cmp}
use Rattle.std.specs.FinMap.{get, find, from_entries, get-from_entries}
use Rattle.std.proofs.lemmas.Cmp.{nat_cmp_total}
use Rattle.cache_key.specs.Key.{Key}
use Rattle.cache_key.specs.KeyOf.{KeyMap}

-- an entry of this number, if there is a key
abbrev entry : ℕ → Option Key → Option (ℕ × Key)
entry number key = option_map (λ k. (number, k)) key

some_entry : (number : ℕ) (key : Option Key) → is_some (entry number key) ≡ is_some key
some_entry number None = refl
some_entry number (Some key) = refl

the_key : (number : ℕ) (x : Option (ℕ × Key)) (key : Option Key) → x ≡ entry number key → IsSome key → (k : Key) × (x ≡ Some (number, k)) × (key ≡ Some k)
the_key number x None is some = cc
the_key number x (Some k) is some = (k, is, refl)

slice_get_some : (es : List (ℕ × Key)) (place : ℕ) → place < length es → IsSome (slice_get es place)
slice_get_some [] place within = absurd (omega (arith, within))
slice_get_some (e ∷ es) zero within = refl
slice_get_some (e ∷ es) (suc place) within = slice_get_some es place (omega (arith, within))

module _ (ds es : List (ℕ × Key)) (keys : KeyMap) (number place : ℕ) (same : ds ≡ es) (seen : from_entries es ≡ keys)
    (at : slice_get ds place ≡ option_map (λ key. (number, key)) (find nat_cmp number ds)) where
  here : slice_get es place ≡ entry number (get keys number)
  here = subst (λ l. slice_get l place ≡ entry number (find nat_cmp number l)) same at
      ∙ ap (entry number) (sym (get-from_entries nat_cmp_total es number) ∙ ap (λ m. get m number) seen)

  -- a number that has a key stands there with it
  pub stands : IsSome (get keys number) → (key : Key) × (slice_get es place ≡ Some (number, key)) × (get keys number ≡ Some key)
  stands some = the_key number (slice_get es place) (get keys number) here some

  -- and one that stands somewhere has a key
  pub known : place < length es → IsSome (get keys number)
  known within = sym (some_entry number (get keys number)) ∙ ap is_some (sym here) ∙ slice_get_some es place within
