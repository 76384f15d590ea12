-- Open edits, no two of which are of one key.
use Rattle.std.proofs.Common.{◌≡◌, ◌≢◌, ℕ, ◌<◌, Bool, true, false, List, [], ◌∷◌, length, zero, suc, Some, None, refl, sym, ap, ◌∙◌, arith}
use Rattle.std.specs.Prelude.{set, slice_get, position, get_or, nat_lt, not, is_some}
use Rattle.std.specs.declared.option.Option.{Option}
use Rattle.std.specs.List.{AllByRecursion, position_or_len}
use Rattle.std.specs.Str.{bytes_eq}
use Rattle.std.proofs.lemmas.Bool.{ltb-false}
use Rattle.std.proofs.lemmas.List.Quantifiers.{position-Some}
use Rattle.std.proofs.lemmas.List.Sums.{fails_before_first}
use Rattle.std.proofs.lemmas.Slice.Eq.{bytes_eq-Decides}
use Rattle.disk_table.specs.Table.{is_edit_of, edit_of, free_edit}
use Rattle.disk_table.proofs.Entries.{differs}
use Rattle.disk_table.specs.inside.Kept.{IsApartFrom, AreApart}

-- where a test finds nothing, it fails of each
all_at : {X : Type 0} (P : X → Type 0) (d : X) (xs : List X) → ((k : ℕ) → k < length xs → P (get_or xs k d)) → AllByRecursion P xs
all_at P d [] h = tt
all_at P d (x ∷ xs) h = (h 0 (omega arith), all_at P d xs (λ k lt. h (suc k) (omega (arith, lt))))

none_passes : {X : Type 0} (test : X → Bool) (d : X) (xs : List X) → position test xs ≡ None → AllByRecursion (λ x. test x ≡ false) xs
none_passes {X} test d xs none = all_at (λ x. test x ≡ false) d xs (λ k lt. fails_before_first test xs k d (before k lt)) where
  before : (k : ℕ) → k < length xs → k < position_or_len test xs
  before k lt = cases (nat_lt (position_or_len test xs) (length xs)) refl where
    cases : (b : Bool) → nat_lt (position_or_len test xs) (length xs) ≡ b → k < position_or_len test xs
    cases true e = let found = none in cc
    cases false e = omega (arith, lt, ltb-false (position_or_len test xs) (length xs) e)

-- an edit of another key, or none
not_of : (key : List ℕ) (edit : Option (List ℕ)) → is_edit_of key edit ≡ false → edit ≢ Some key
not_of key None h same = cc
not_of key (Some k) h same = let yes : bytes_eq key k ≡ true = (bytes_eq-Decides key k).1 (let is : k ≡ key = cc in sym is) in cc

weaken : {X : Type 0} (P Q : X → Type 0) → ((x : X) → P x → Q x) → (xs : List X) → AllByRecursion P xs → AllByRecursion Q xs
weaken P Q h [] a = tt
weaken P Q h (x ∷ xs) a = (h x a.0, weaken P Q h xs a.1)

pub none_of : (key : List ℕ) (edits : List (Option (List ℕ))) → edit_of key edits ≡ None → AllByRecursion (λ e. e ≢ Some key) edits
none_of key edits none = weaken (λ e. is_edit_of key e ≡ false) (λ e. e ≢ Some key) (not_of key) edits (none_passes (is_edit_of key) None edits none)

-- ---- a place that is set

pub all_set : {X : Type 0} (P : X → Type 0) (xs : List X) (n : ℕ) (v : X) → P v → AllByRecursion P xs → AllByRecursion P (set xs n v)
all_set P [] n v p h = tt
all_set P (x ∷ xs) zero v p h = (p, h.1)
all_set P (x ∷ xs) (suc n) v p h = (h.0, all_set P xs n v p h.1)

pub apart_none : (edits : List (Option (List ℕ))) (n : ℕ) → AreApart edits → AreApart (set edits n None)
apart_none [] n h = tt
apart_none (e ∷ edits) zero h = (weaken (IsApartFrom e) (IsApartFrom None) (λ x a key none some. let bad = none in cc) edits h.0, h.1)
apart_none (e ∷ edits) (suc n) h = (all_set (IsApartFrom e) edits n None (λ key here there. let bad = there in cc) h.0, apart_none edits n h.1)

pub apart_some : (key : List ℕ) (edits : List (Option (List ℕ))) (n : ℕ) → AllByRecursion (λ e. e ≢ Some key) edits → AreApart edits → AreApart (set edits n (Some key))
apart_some key [] n others h = tt
apart_some key (e ∷ edits) zero others h = (weaken (λ x. x ≢ Some key) (IsApartFrom (Some key)) (λ x ne k here there. ne (there ∙ sym here)) edits others.1, h.1)
apart_some key (e ∷ edits) (suc n) others h = (all_set (IsApartFrom e) edits n (Some key) (λ k here there. others.0 (here ∙ sym there)) h.0, apart_some key edits n others.1 h.1)

-- an edit that is closed leaves its key without one
pub closed_free : (key : List ℕ) (edits : List (Option (List ℕ))) (n : ℕ) → AreApart edits → slice_get edits n ≡ Some (Some key) → AllByRecursion (λ e. e ≢ Some key) (set edits n None)
closed_free key [] n h at = cc
closed_free key (e ∷ edits) zero h at =
    let is : e ≡ Some key = cc in
    ((λ some. let bad = some in cc), weaken (IsApartFrom e) (λ x. x ≢ Some key) (λ x a there. a key is there) edits h.0)
closed_free key (e ∷ edits) (suc n) h at = ((λ same. apart_at edits n h.0 same at), closed_free key edits n h.1 at) where
  apart_at : (es : List (Option (List ℕ))) (m : ℕ) → AllByRecursion (IsApartFrom e) es → e ≡ Some key → slice_get es m ≡ Some (Some key) → ⊥
  apart_at [] m a same found = cc
  apart_at (x ∷ es) zero a same found = a.0 key same (let is : x ≡ Some key = cc in is)
  apart_at (x ∷ es) (suc m) a same found = apart_at es m a.1 same found

-- the number of a free edit is a place
pub free_within : (edits : List (Option (List ℕ))) (n : ℕ) → free_edit edits ≡ Some n → n < length edits
free_within edits n free = (position-Some (λ edit. not (is_some edit)) edits n None free).0

-- where a test fails of each, it finds nothing
length_passed : {X : Type 0} (test : X → Bool) (xs : List X) → AllByRecursion (λ x. test x ≡ false) xs → position test xs ≡ None
length_passed {X} test xs h = cases (position test xs) refl where
  at : (ys : List X) (n : ℕ) (d : X) → AllByRecursion (λ x. test x ≡ false) ys → n < length ys → test (get_or ys n d) ≡ false
  at [] n d all lt = absurd (omega (arith, lt))
  at (y ∷ ys) zero d all lt = all.0
  at (y ∷ ys) (suc n) d all lt = at ys n d all.1 (omega (arith, lt))

  cases : (o : Option ℕ) → position test xs ≡ o → o ≡ None
  cases None e = refl
  cases (Some n) e = passes xs n e h where
    passes : (ys : List X) (m : ℕ) → position test ys ≡ Some m → AllByRecursion (λ x. test x ≡ false) ys → Some n ≡ None
    passes [] m found all = cc
    passes (y ∷ ys) m found all =
        let some = position-Some test (y ∷ ys) m y found in let fails = at (y ∷ ys) m y all some.0 in let holds = some.1 in cc

of_not : (key : List ℕ) (edit : Option (List ℕ)) → edit ≢ Some key → is_edit_of key edit ≡ false
of_not key None h = refl
of_not key (Some k) h = differs key k (λ same. h (ap (λ x. Some x) (sym same)))

pub none_found : (key : List ℕ) (edits : List (Option (List ℕ))) → AllByRecursion (λ e. e ≢ Some key) edits → edit_of key edits ≡ None
none_found key edits h = length_passed (is_edit_of key) edits (weaken (λ e. e ≢ Some key) (λ e. is_edit_of key e ≡ false) (of_not key) edits h)
