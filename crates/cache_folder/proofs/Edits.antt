-- Open edits, by key and by number.
use Rattle.std.proofs.Common.{◌≡◌, ◌≢◌, ℕ, ◌<◌, ◌≤◌, Bool, true, false, cond, List, [], ◌∷◌, length, zero, suc, Some, None, refl, sym, ap, ◌∙◌, arith}
use Rattle.std.specs.Prelude.{set, slice_get, position, get_or, nat_lt, not, is_some}
use Rattle.std.specs.declared.option.Option.{Option}
use Rattle.std.specs.Option.{option_flatten}
use Rattle.std.specs.List.{position_or_len}
use Rattle.std.specs.Str.{bytes_eq}
use Rattle.std.proofs.lemmas.Bool.{ltb-false, lt-ltb}
use Rattle.std.proofs.lemmas.List.{get_or-set_same, get_or-set_other, length-set}
use Rattle.std.proofs.lemmas.List.Folds.{position_or_len-set}
use Rattle.std.proofs.lemmas.List.Quantifiers.{position-Some}
use Rattle.std.proofs.lemmas.List.Sums.{fails_before_first, position_or_len_is}
use Rattle.std.proofs.lemmas.Slice.Eq.{bytes_eq-Decides}
use Rattle.disk_table.specs.Table.{is_edit_of, edit_of, free_edit, key_of_edit}

abbrev pub Edits : Type 0
Edits = List (Option (List ℕ))

-- a place that is set to what tests alike
pub position_set : {X : Type 0} (p : X → Bool) (xs : List X) (n : ℕ) (y d : X) → p y ≡ p (get_or xs n d) → position p (set xs n y) ≡ position p xs
position_set p xs n y d same i = cond (nat_lt (position_or_len-set p xs n y d same i) (length-set xs n y i)) (Some (position_or_len-set p xs n y d same i)) None

-- where a test finds nothing, and then a place passes
pub found_set : {X : Type 0} (p : X → Bool) (xs : List X) (n : ℕ) (y d : X) → n < length xs → p y ≡ true → position p xs ≡ None → position p (set xs n y) ≡ Some n
found_set {X} p xs n y d lt passes none = (λ i. cond (nat_lt (at i) (length-set xs n y i)) (Some (at i)) None) ∙ ap (λ b. cond b (Some n) None) (lt-ltb n (length xs) lt) where
  past : (b : Bool) → nat_lt (position_or_len p xs) (length xs) ≡ b → length xs ≤ position_or_len p xs
  past true e = let found = none in cc
  past false e = omega (arith, ltb-false (position_or_len p xs) (length xs) e)

  at : position_or_len p (set xs n y) ≡ n
  at = position_or_len_is p (set xs n y) n d (omega (arith, lt, length-set xs n y))
      (λ k less. ap p (get_or-set_other xs n k y d (λ same. absurd (omega (arith, less, same)))) ∙ fails_before_first p xs k d (omega (arith, less, lt, past (nat_lt (position_or_len p xs) (length xs)) refl)))
      (λ within. ap p (get_or-set_same xs n y d lt) ∙ passes)

-- ---- edits

pub other_key : (key k : List ℕ) → k ≢ key → is_edit_of k (Some key) ≡ false
other_key key k ne = by (bytes_eq k key) refl where
  by : (b : Bool) → bytes_eq k key ≡ b → b ≡ false
  by true e = absurd (ne ((bytes_eq-Decides k key).0 e))
  by false e = refl

pub own_key : (key : List ℕ) → is_edit_of key (Some key) ≡ true
own_key key = (bytes_eq-Decides key key).1 refl

-- the edit at its number
edit_is : (key : List ℕ) (edit : Option (List ℕ)) → is_edit_of key edit ≡ true → edit ≡ Some key
edit_is key None h = cc
edit_is key (Some k) h = ap (λ x. Some x) (sym ((bytes_eq-Decides key k).0 h))

pub at_number : (key : List ℕ) (edits : Edits) (n : ℕ) → edit_of key edits ≡ Some n → (n < length edits) × (get_or edits n None ≡ Some key)
at_number key edits n is = let found = position-Some (is_edit_of key) edits n None is in (found.0, edit_is key (get_or edits n None) found.1)

slice_is : {X : Type 0} (xs : List X) (n : ℕ) (d : X) → n < length xs → slice_get xs n ≡ Some (get_or xs n d)
slice_is [] n d lt = absurd (omega (arith, lt))
slice_is (x ∷ xs) zero d lt = refl
slice_is (x ∷ xs) (suc n) d lt = slice_is xs n d (omega (arith, lt))

pub key_at_number : (key : List ℕ) (edits : Edits) (n : ℕ) → edit_of key edits ≡ Some n → key_of_edit n edits ≡ Some key
key_at_number key edits n is = let at = at_number key edits n is in ap option_flatten (slice_is edits n None at.0 ∙ ap (λ x. Some x) at.1)

pub free_number : (edits : Edits) (n : ℕ) → free_edit edits ≡ Some n → (n < length edits) × (get_or edits n None ≡ None)
free_number edits n is = let found = position-Some (λ edit. not (is_some edit)) edits n None is in (found.0, free (get_or edits n None) found.1) where
  free : (o : Option (List ℕ)) → not (is_some o) ≡ true → o ≡ None
  free None h = refl
  free (Some k) h = cc

-- ---- a place that is opened for a key, or closed

pub opened_other : (key k : List ℕ) (edits : Edits) (n : ℕ) → k ≢ key → free_edit edits ≡ Some n → edit_of k (set edits n (Some key)) ≡ edit_of k edits
opened_other key k edits n ne free = position_set (is_edit_of k) edits n (Some key) None (other_key key k ne ∙ sym (ap (is_edit_of k) (free_number edits n free).1))

pub opened_own : (key : List ℕ) (edits : Edits) (n : ℕ) → edit_of key edits ≡ None → free_edit edits ≡ Some n → edit_of key (set edits n (Some key)) ≡ Some n
opened_own key edits n none free = found_set (is_edit_of key) edits n (Some key) None (free_number edits n free).0 (own_key key) none

pub closed_other : (key k : List ℕ) (edits : Edits) (n : ℕ) → k ≢ key → edit_of key edits ≡ Some n → edit_of k (set edits n None) ≡ edit_of k edits
closed_other key k edits n ne is = position_set (is_edit_of k) edits n None None (sym (ap (is_edit_of k) (at_number key edits n is).1 ∙ other_key key k ne))

-- the numbers of two keys differ
pub numbers_differ : (key k : List ℕ) (edits : Edits) (n m : ℕ) → k ≢ key → edit_of key edits ≡ Some n → edit_of k edits ≡ Some m → m ≢ n
numbers_differ key k edits n m ne is is' same =
    let here = (at_number key edits n is).1 in
    let there = (at_number k edits m is').1 in
    ne (keys (sym there ∙ ap (λ i. get_or edits i None) same ∙ here)) where
      keys : Some k ≡ Some key → k ≡ key
      keys e = cc

pub free_differs : (k : List ℕ) (edits : Edits) (n m : ℕ) → free_edit edits ≡ Some n → edit_of k edits ≡ Some m → m ≢ n
free_differs k edits n m free is same =
    let none : Some k ≡ None = sym (at_number k edits m is).1 ∙ ap (λ i. get_or edits i None) same ∙ (free_number edits n free).1 in cc

-- a place that was free, opened and closed again
pub closed_again : (key : List ℕ) (edits : Edits) (n : ℕ) → free_edit edits ≡ Some n → set (set edits n (Some key)) n None ≡ edits
closed_again key edits n free = back edits n (free_number edits n free).1 where
  back : (edits : Edits) (n : ℕ) → get_or edits n None ≡ None → set (set edits n (Some key)) n None ≡ edits
  back [] n is = refl
  back (edit ∷ edits) zero is = ap (λ e. e ∷ edits) (sym is)
  back (edit ∷ edits) (suc n) is = ap (λ es. edit ∷ es) (back edits n is)
