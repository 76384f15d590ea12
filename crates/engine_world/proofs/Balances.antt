-- The totals add up.
use Rattle.std.proofs.Common.{◌≡◌, ◌≢◌, ℕ, ◌+◌, ◌<◌, ◌≤◌, Bool, true, false, cond, eqb, ltb, List, [], ◌∷◌, ◌++◌, length, refl, ap, ◌∙◌, inl, inr, arith}
use Rattle.std.specs.Prelude.{◌&&◌, not, flat_map, zero, suc}
use Rattle.std.specs.FinMap.{entries}
use Rattle.std.proofs.lemmas.List.{length-append, length-map}
use Rattle.std.proofs.lemmas.Bool.{eqb-true, eqb-false}
use Rattle.finite_maps.specs.Maps.{sum_over, total}
use Rattle.bitmap_pool.specs.Pool.{Group, pooled, pool_count}
use Rattle.load_table.specs.Loads.{holders}
use Rattle.engine_world.specs.World.{Job, Resource, World}
use Rattle.engine_world.specs.Places.{one_if, occurrences, lent_numbers, is_held, times_out, whereabouts, times_kept}
use Rattle.engine_world.specs.Moves.{without}
use Rattle.engine_world.specs.Balance.{out_count, held_count, totals, Balance}
use Rattle.engine_world.specs.Knowledge.{Knowledge}
use Rattle.engine_world.specs.Sound.{Sound}
use Rattle.engine_world.specs.OccurrenceLaws.{occurrences-append, without_same, without_other, one_if_same}
use Rattle.engine_world.specs.NumberLaws.{number_cases}
use Rattle.engine_world.proofs.Counting.{CountsAdd}
use Rattle.engine_world.proofs.KeySums.{stands_at, stands_once}

-- ---- numbers below another, none of them twice, are no more than it

without_count : (r : ℕ) (xs : List ℕ) → length xs ≡ length (without r xs) + occurrences r xs
without_count r [] = refl
without_count r (x ∷ xs) =
    let rest : length xs ≡ length (without r xs) + occurrences r xs = without_count r xs in
    elim (eqb x r) as (λ t. length (x ∷ xs) ≡ length (cond (not t) (x ∷ without r xs) (without r xs)) + (one_if t + occurrences r xs)) [ true ↦ omega (arith, rest) | false ↦ omega (arith, rest) ]

no_numbers : (xs : List ℕ) → ((b : ℕ) → occurrences b xs ≡ 0) → length xs ≡ 0
no_numbers [] none = refl
no_numbers (x ∷ xs) none = absurd (omega (arith, none x, one_if_same x))

pub at_most : (n : ℕ) (xs : List ℕ) → ((b : ℕ) → occurrences b xs ≤ 1) → ((b : ℕ) → 0 < occurrences b xs → b < n) → length xs ≤ n
at_most zero xs once below =
    let none : length xs ≡ 0 = no_numbers xs (λ b. elim (eqb (occurrences b xs) 0) as (λ t. eqb (occurrences b xs) 0 ≡ t → occurrences b xs ≡ 0) [
      | true ↦ λ e. eqb-true _ _ e
      | false ↦ λ e. let some : occurrences b xs ≢ 0 = eqb-false _ _ e in let less : b < 0 = below b (omega (arith, some)) in absurd (omega (arith, less))
    ] refl) in
    omega (arith, none)
at_most (suc n) xs once below =
    let left : List ℕ = without n xs in
    let rest : length left ≤ n = at_most n left
    (λ b. elim (number_cases b n) [
      | inl same ↦ omega (arith, ap (λ c. occurrences c left) same, without_same n xs)
      | inr ne ↦ omega (arith, without_other b n xs ne, once b)
    ])
    (λ b some. elim (number_cases b n) [
      | inl same ↦ absurd (omega (arith, some, ap (λ c. occurrences c left) same, without_same n xs))
      | inr ne ↦ let less : b < suc n = below b (omega (arith, some, without_other b n xs ne)) in omega (arith, less, ne)
    ]) in
    omega (arith, rest, without_count n xs, once n)

-- ---- the numbers that are out

out_list : List (ℕ × Job) → List ℕ
out_list es = flat_map (λ (e : ℕ × Job). lent_numbers e.1) es

out_stands : (b : ℕ) (es : List (ℕ × Job)) → occurrences b (out_list es) ≡ sum_over (λ j (job : Job). occurrences b (lent_numbers job)) es
unfolding out_list
out_stands b [] = refl
out_stands b (e ∷ es) = occurrences-append b (lent_numbers e.1) (out_list es) ∙ ap (λ n. occurrences b (lent_numbers e.1) + n) (out_stands b es)

out_length : (es : List (ℕ × Job)) → length (out_list es) ≡ sum_over (λ j (job : Job). length job.out) es
unfolding out_list
out_length [] = refl
out_length (e ∷ es) =
    let all : length (out_list (e ∷ es)) ≡ length (lent_numbers e.1) + length (out_list es) = length-append (lent_numbers e.1) (out_list es) in
    let here : length (lent_numbers e.1) ≡ length e.1.out = length-map e.1.out (λ l. l.number) in
    let rest : length (out_list es) ≡ sum_over (λ j (job : Job). length job.out) es = out_length es in
    omega (arith, all, here, rest)

-- ---- the numbers that are held

module _ (held : ℕ → Bool) where
  held_list : List (ℕ × Resource) → List ℕ
  held_list [] = []
  held_list (e ∷ es) = cond (held e.0) (e.0 ∷ held_list es) (held_list es)

  held_stands : (b : ℕ) (es : List (ℕ × Resource)) → occurrences b (held_list es) ≡ sum_over (stands_at held b) es
  unfolding held_list
  held_stands b [] = refl
  held_stands b (e ∷ es) = elim (held e.0) as (λ t. occurrences b (cond t (e.0 ∷ held_list es) (held_list es)) ≡ one_if (t && eqb e.0 b) + sum_over (stands_at held b) es) [
    | true ↦ ap (λ n. one_if (eqb e.0 b) + n) (held_stands b es)
    | false ↦ let rest : occurrences b (held_list es) ≡ sum_over (stands_at held b) es = held_stands b es in omega (arith, rest)
  ]

  held_length : (es : List (ℕ × Resource)) → length (held_list es) ≡ sum_over (λ k (resource : Resource). one_if (held k)) es
  unfolding held_list
  held_length [] = refl
  held_length (e ∷ es) =
      let rest : length (held_list es) ≡ sum_over (λ k (resource : Resource). one_if (held k)) es = held_length es in
      elim (held e.0) as (λ t. length (cond t (e.0 ∷ held_list es) (held_list es)) ≡ one_if t + sum_over (λ k (resource : Resource). one_if (held k)) es) [ true ↦ omega (arith, rest) | false ↦ omega (arith, rest) ]

-- ---- pooled

pooled_length : (gs : List (Group ℕ)) → length (pooled gs) ≡ pool_count gs
pooled_length [] = refl
pooled_length (g ∷ gs) = length-append g.items (pooled gs) ∙ ap (λ n. length g.items + n) (pooled_length gs)

-- ---- all

pub balance_law : (w : World) (known : ℕ → Knowledge) → Sound w known → CountsAdd w.counts w.next → Balance (totals w)
unfolding total
balance_law w known s sums =
    let held : ℕ → Bool = λ r. ltb 0 (holders r w.loads) in
    let outs : List ℕ = out_list (entries w.jobs) in
    let helds : List ℕ = held_list held (entries w.resources) in
    let all : List ℕ = outs ++ (helds ++ (w.cached ++ pooled w.pool)) in
    let stands : (b : ℕ) → occurrences b all ≡ times_kept (whereabouts w) b = λ b.
    let a1 : occurrences b all ≡ occurrences b outs + occurrences b (helds ++ (w.cached ++ pooled w.pool)) = occurrences-append b outs (helds ++ (w.cached ++ pooled w.pool)) in
    let a2 : occurrences b (helds ++ (w.cached ++ pooled w.pool)) ≡ occurrences b helds + occurrences b (w.cached ++ pooled w.pool) = occurrences-append b helds (w.cached ++ pooled w.pool) in
    let a3 : occurrences b (w.cached ++ pooled w.pool) ≡ occurrences b w.cached + occurrences b (pooled w.pool) = occurrences-append b w.cached (pooled w.pool) in
    let o : occurrences b outs ≡ times_out w.jobs b = out_stands b (entries w.jobs) in
    let h : occurrences b helds ≡ one_if (is_held w.loads w.resources b) = held_stands held b (entries w.resources) ∙ stands_once held b w.resources in
    omega (arith, a1, a2, a3, o, h) in
    let few : length all ≤ w.next = at_most w.next all (λ b. omega (arith, stands b, s.places.once b)) (λ b some. s.places.below b (omega (arith, some, stands b))) in
    let l1 : length all ≡ length outs + length (helds ++ (w.cached ++ pooled w.pool)) = length-append outs (helds ++ (w.cached ++ pooled w.pool)) in
    let l2 : length (helds ++ (w.cached ++ pooled w.pool)) ≡ length helds + length (w.cached ++ pooled w.pool) = length-append helds (w.cached ++ pooled w.pool) in
    let l3 : length (w.cached ++ pooled w.pool) ≡ length w.cached + length (pooled w.pool) = length-append w.cached (pooled w.pool) in
    let o : length outs ≡ out_count w = out_length (entries w.jobs) in
    let h : length helds ≡ held_count w = held_length held (entries w.resources) in
    let p : length (pooled w.pool) ≡ pool_count w.pool = pooled_length w.pool in
    record { loads = sums.loads; takes = sums.takes; made = omega (arith, few, l1, l2, l3, o, h, p) }
