-- Eviction one by one ends in what fits, counted from the head.
use Rattle.std.proofs.Common.{◌≡◌, ◌≢◌, ℕ, ◌+◌, ◌-◌, ◌*◌, ◌<◌, ◌≤◌, true, false, cond, eqb, List, [], ◌∷◌, length, take, refl, ap, sym, ◌∙◌, inl, inr, arith}
use Rattle.std.specs.Prelude.{◌⊎◌, sum_by}
use Rattle.std.proofs.lemmas.Bool.{eqb-true, eqb-false, eq-eqb, ne_eqb}
use Rattle.std.proofs.lemmas.List.{length-take, take_all, take-take}
use Rattle.std.proofs.lemmas.List.Sums.{sum_by-cons}
use Rattle.fitting.specs.Fitting.{fitting}
use Rattle.fitting.specs.Prefixes.{all_fit, within_fits, last_goes, same_fitting}
use Rattle.bitmap_pool.specs.Pool.{Group, pool_size, pool_count, is_empty, pool_within}
use Rattle.bitmap_pool.specs.Evicting.{evict_one, IsPoolOver}

-- ---- groups, whose bitmaps have one size

pub sum_of_one : {A : Type 0} (s : ℕ) (xs : List A) → sum_by (λ _. s) xs ≡ s * length xs
sum_of_one s [] = omega arith
sum_of_one s (x ∷ xs) =
    let rest : sum_by (λ _. s) xs ≡ s * length xs = sum_of_one s xs in
    let sum : sum_by (λ _. s) (x ∷ xs) ≡ s + sum_by (λ _. s) xs = sum_by-cons (λ _. s) x xs in
    omega (arith, rest, sum)

one_fits : {A : Type 0} (s room slots : ℕ) (xs : List A) → s * length xs ≤ room → length xs ≤ slots → fitting (λ _. s) room slots xs ≡ length xs
one_fits s room slots xs fits few = within_fits (λ _. s) room slots xs (omega (arith, fits, sum_of_one s xs)) few

module _ {A : Type 0} where
  pub no_eviction : (room slots : ℕ) (gs : List (Group A)) → pool_size gs ≤ room → pool_count gs ≤ slots → pool_within room slots gs ≡ gs
  no_eviction room slots [] fits few = refl
  no_eviction room slots (g ∷ gs) fits few =
      let all : fitting (λ _. g.size) room slots g.items ≡ length g.items = one_fits g.size room slots g.items (omega (arith, fits)) (omega (arith, few)) in
      let rest : pool_within (room - g.size * length g.items) (slots - length g.items) gs ≡ gs = no_eviction (room - g.size * length g.items) (slots - length g.items) gs (omega (arith, fits)) (omega (arith, few)) in
      ap (λ t. cond t (g ∷ pool_within (room - g.size * length g.items) (slots - length g.items) gs) (record g { items = take (fitting (λ _. g.size) room slots g.items) g.items } ∷ [])) (eq-eqb _ _ all)
      ∙ ap (λ l. g ∷ l) rest

  pub evictions_end : (room slots : ℕ) (gs : List (Group A)) → IsPoolOver room slots gs → pool_within room slots (evict_one gs) ≡ pool_within room slots gs
  evictions_end room slots [] over = elim over [ inl big ↦ absurd (omega (arith, big)) | inr many ↦ absurd (omega (arith, many)) ]
  evictions_end room slots (g ∷ []) over =
      let len : ℕ = length g.items in
      let front : List A = take (len - 1) g.items in
      let n : ℕ = fitting (λ _. g.size) room slots g.items in
      let m : ℕ = fitting (λ _. g.size) room slots front in
      elim (is_empty g) as (λ t. is_empty g ≡ t → pool_within room slots (cond t [] (record g { items = front } ∷ [])) ≡ pool_within room slots (g ∷ [])) [
        | true ↦ λ e.
            let none : length g.items ≡ 0 = eqb-true _ _ e in
            let no_bytes : g.size * length g.items ≡ g.size * 0 = ap (λ k. g.size * k) none in
            elim over [ inl big ↦ absurd (omega (arith, big, no_bytes)) | inr many ↦ absurd (omega (arith, many, none)) ]
        | false ↦ λ e.
            let some : length g.items ≢ 0 = eqb-false _ _ e in
            let items_over : (room < sum_by (λ _. g.size) g.items) ⊎ (slots < length g.items) = elim over [
              | inl big ↦ inl (omega (arith, big, sum_of_one g.size g.items))
              | inr many ↦ inr (omega (arith, many))
            ] in
            let most : n ≤ len - 1 = last_goes (λ _. g.size) room slots g.items items_over in
            let same : m ≡ n = same_fitting (λ _. g.size) room slots g.items items_over in
            let long : length front ≡ len - 1 = length-take (len - 1) g.items ∙ (omega arith) in
            let cut : eqb n len ≡ false = ne_eqb n len (λ is. absurd (omega (arith, is, most, some))) in
            let right : pool_within room slots (g ∷ []) ≡ record g { items = take n g.items } ∷ [] = ap (λ t. cond t (g ∷ []) (record g { items = take n g.items } ∷ [])) cut in
            let shorter : take m front ≡ take n g.items = ap (λ k. take k front) same ∙ take-take n (len - 1) g.items most in
            elim (eqb m (length front)) as (λ t. eqb m (length front) ≡ t → cond t (record g { items = front } ∷ []) (record g { items = take m front } ∷ []) ≡ pool_within room slots (g ∷ [])) [
              | true ↦ λ all. let whole : front ≡ take m front = sym (take_all m front (omega (arith, eqb-true _ _ all))) in ap (λ (l : List A). record g { items = l } ∷ []) (whole ∙ shorter) ∙ sym right
              | false ↦ λ part. ap (λ (l : List A). record g { items = l } ∷ []) shorter ∙ sym right
            ] refl
      ] refl
  evictions_end room slots (g ∷ h ∷ gs) over =
      let n : ℕ = fitting (λ _. g.size) room slots g.items in
      let cut : List (Group A) = record g { items = take n g.items } ∷ [] in
      elim (eqb n (length g.items)) as (λ t. eqb n (length g.items) ≡ t
      → cond t (g ∷ pool_within (room - g.size * length g.items) (slots - length g.items) (evict_one (h ∷ gs))) cut ≡ cond t (g ∷ pool_within (room - g.size * length g.items) (slots - length g.items) (h ∷ gs)) cut) [
        | true ↦ λ e.
            let within : (sum_by (λ _. g.size) g.items ≤ room) × (length g.items ≤ slots) = all_fit (λ _. g.size) room slots g.items (eqb-true _ _ e) in
            let rest_over : IsPoolOver (room - g.size * length g.items) (slots - length g.items) (h ∷ gs) = elim over [
              | inl big ↦ inl (omega (arith, big, within, sum_of_one g.size g.items))
              | inr many ↦ inr (omega (arith, many, within))
            ] in
            ap (λ l. g ∷ l) (evictions_end (room - g.size * length g.items) (slots - length g.items) (h ∷ gs) rest_over)
        | false ↦ λ e. refl
      ] refl

  -- an eviction takes a bitmap or a group
  pub evict_less : (g : Group A) (gs : List (Group A)) → length (evict_one (g ∷ gs)) + pool_count (evict_one (g ∷ gs)) < length (g ∷ gs) + pool_count (g ∷ gs)
  evict_less g [] = elim (is_empty g) as (λ t. is_empty g ≡ t → length (cond t [] (record g { items = take (length g.items - 1) g.items } ∷ [])) + pool_count (cond t [] (record g { items = take (length g.items - 1) g.items } ∷ [])) < length (g ∷ []) + pool_count (g ∷ [])) [
    | true ↦ λ e. omega arith
    | false ↦ λ e.
        let some : length g.items ≢ 0 = eqb-false _ _ e in
        let long : length (take (length g.items - 1) g.items) ≡ length g.items - 1 = length-take (length g.items - 1) g.items ∙ (omega arith) in
        omega (arith, some, long)
  ] refl
  evict_less g (h ∷ gs) = let rest : length (evict_one (h ∷ gs)) + pool_count (evict_one (h ∷ gs)) < length (h ∷ gs) + pool_count (h ∷ gs) = evict_less h gs in omega (arith, rest)

  pub evictions_fall : (room slots : ℕ) (gs : List (Group A)) → IsPoolOver room slots gs → length (evict_one gs) + pool_count (evict_one gs) < length gs + pool_count gs
  evictions_fall room slots [] over = elim over [ inl big ↦ absurd (omega (arith, big)) | inr many ↦ absurd (omega (arith, many)) ]
  evictions_fall room slots (g ∷ gs) over = evict_less g gs
