-- What always holds of the items that fit: they are a prefix within the limits, and the longest one. It is this
-- project's own.
use Rattle.std.specs.Prelude.{◌≡◌, ℕ, ◌+◌, ◌-◌, ◌<◌, ◌≤◌, ◌⊎◌, ◌↔◌, ◌&&◌, true, false, cond, ltb, leb, eqb, min, List, [], ◌∷◌, length, take, sum_by, zero, suc, refl}
use Rattle.std.proofs.Common.{◌≢◌, ap, ◌∙◌, inl, inr, arith}
use Rattle.std.proofs.lemmas.Bool.{eqb-true, eqb-false, ltb-true, leb-true, lt-ltb, le-leb, and_parts, and_from}
use Rattle.std.proofs.lemmas.List.Sums.{sum_by-cons}
use Rattle.fitting.specs.Fitting.{fitting}

-- Items are over where their sizes are more than the room, or they are more than the slots.
abbrev pub IsOver : {A : Type 0} → (A → ℕ) → (room slots : ℕ) → List A → Type 0
IsOver size room slots xs = (room < sum_by size xs) ⊎ (slots < length xs)

-- All fit exactly where they are within both limits.
abbrev pub AllFit : (A : Type 0) → Type 0
AllFit A = (size : A → ℕ) (room slots : ℕ) (xs : List A)
    → (fitting size room slots xs ≡ length xs) ↔ ((sum_by size xs ≤ room) × (length xs ≤ slots))

-- Of a prefix so many fit as it has, but no more than of the whole.
abbrev pub PrefixFits : (A : Type 0) → Type 0
PrefixFits A = (size : A → ℕ) (room slots k : ℕ) (xs : List A)
    → fitting size room slots (take k xs) ≡ min k (fitting size room slots xs)

module _ {A : Type 0} (size : A → ℕ) where
  pub fitting-take : (room slots k : ℕ) (xs : List A) → fitting size room slots (take k xs) ≡ min k (fitting size room slots xs)
  fitting-take room slots zero xs = omega arith
  fitting-take room slots (suc k) [] = omega arith
  fitting-take room slots (suc k) (x ∷ xs) = elim (ltb 0 slots && leb (size x) room) as (λ t. cond t (1 + fitting size (room - size x) (slots - 1) (take k xs)) 0 ≡ min (suc k) (cond t (1 + fitting size (room - size x) (slots - 1) xs) 0)) [
    | true ↦ let rest : fitting size (room - size x) (slots - 1) (take k xs) ≡ min k (fitting size (room - size x) (slots - 1) xs) = fitting-take (room - size x) (slots - 1) k xs in omega (arith, rest)
    | false ↦ omega arith
  ]

  pub fitting-le-length : (room slots : ℕ) (xs : List A) → fitting size room slots xs ≤ length xs
  fitting-le-length room slots [] = omega arith
  fitting-le-length room slots (x ∷ xs) = elim (ltb 0 slots && leb (size x) room) as (λ t. cond t (1 + fitting size (room - size x) (slots - 1) xs) 0 ≤ length (x ∷ xs)) [
    | true ↦ let rest : fitting size (room - size x) (slots - 1) xs ≤ length xs = fitting-le-length (room - size x) (slots - 1) xs in omega (arith, rest)
    | false ↦ omega arith
  ]

  -- where all fit, they are within the limits
  pub all_fit : (room slots : ℕ) (xs : List A) → fitting size room slots xs ≡ length xs → (sum_by size xs ≤ room) × (length xs ≤ slots)
  all_fit room slots [] e = (omega arith, omega arith)
  all_fit room slots (x ∷ xs) e = elim (ltb 0 slots && leb (size x) room) as (λ t. (ltb 0 slots && leb (size x) room) ≡ t → cond t (1 + fitting size (room - size x) (slots - 1) xs) 0 ≡ length (x ∷ xs) → (sum_by size (x ∷ xs) ≤ room) × (length (x ∷ xs) ≤ slots)) [
    | true ↦ λ is e.
        let some : 0 < slots = ltb-true _ _ (and_parts _ _ is).0 in
        let fits : size x ≤ room = leb-true _ _ (and_parts _ _ is).1 in
        let all : fitting size (room - size x) (slots - 1) xs ≡ length xs = omega (arith, e) in
        let rest : (sum_by size xs ≤ room - size x) × (length xs ≤ slots - 1) = all_fit (room - size x) (slots - 1) xs all in
        let sum : sum_by size (x ∷ xs) ≡ size x + sum_by size xs = sum_by-cons size x xs in
        (omega (arith, rest, sum, fits), omega (arith, rest, some))
    | false ↦ λ is e. absurd (omega (arith, e))
  ] refl e

  -- and where they are within the limits, all fit
  pub within_fits : (room slots : ℕ) (xs : List A) → sum_by size xs ≤ room → length xs ≤ slots → fitting size room slots xs ≡ length xs
  within_fits room slots [] fits few = refl
  within_fits room slots (x ∷ xs) fits few =
      let sum : sum_by size (x ∷ xs) ≡ size x + sum_by size xs = sum_by-cons size x xs in
      let passes : (ltb 0 slots && leb (size x) room) ≡ true = and_from _ _ (lt-ltb 0 slots (omega (arith, few))) (le-leb (size x) room (omega (arith, fits, sum))) in
      let rest : fitting size (room - size x) (slots - 1) xs ≡ length xs = within_fits (room - size x) (slots - 1) xs (omega (arith, fits, sum)) (omega (arith, few)) in
      ap (λ t. cond t (1 + fitting size (room - size x) (slots - 1) xs) 0) passes ∙ (omega (arith, rest))

  -- where they are over, the last does not fit
  pub last_goes : (room slots : ℕ) (xs : List A) → IsOver size room slots xs → fitting size room slots xs ≤ length xs - 1
  last_goes room slots xs over = elim (eqb (fitting size room slots xs) (length xs)) as (λ t. eqb (fitting size room slots xs) (length xs) ≡ t → fitting size room slots xs ≤ length xs - 1) [
    | true ↦ λ e. let within : (sum_by size xs ≤ room) × (length xs ≤ slots) = all_fit room slots xs (eqb-true _ _ e) in elim over [ inl big ↦ absurd (omega (arith, within, big)) | inr many ↦ absurd (omega (arith, within, many)) ]
    | false ↦ λ e. let some : fitting size room slots xs ≢ length xs = eqb-false _ _ e in let le : fitting size room slots xs ≤ length xs = fitting-le-length room slots xs in omega (arith, some, le)
  ] refl

  -- so many fit without the last as with it
  pub same_fitting : (room slots : ℕ) (xs : List A) → IsOver size room slots xs → fitting size room slots (take (length xs - 1) xs) ≡ fitting size room slots xs
  same_fitting room slots xs over =
      let most : fitting size room slots xs ≤ length xs - 1 = last_goes room slots xs over in
      let cut : fitting size room slots (take (length xs - 1) xs) ≡ min (length xs - 1) (fitting size room slots xs) = fitting-take room slots (length xs - 1) xs in
      omega (arith, most, cut)
