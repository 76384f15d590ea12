-- Sums over keys, and over resources with distinct keys.
use Rattle.std.proofs.Common.{List, Some, [], ap, arith, cond, eqb, false, inl, inr, length, refl, sym, true, true≢false, ℕ, ◌*◌, ◌+◌, ◌<◌, ◌∙◌, ◌∷◌, ◌≡◌, ◌≢◌, ◌≤◌}
use Rattle.std.proofs.lemmas.List.Sums.{sum_by-cons}
use Rattle.std.specs.FinMap.{FinMap, get}
use Rattle.std.specs.Ordering.{nat_cmp}
use Rattle.std.specs.Prelude.{sum_by}
use Rattle.cache_key.specs.Key.{Key, same_key}
use Rattle.engine_world.specs.Moves.{allocation_of, size_of}
use Rattle.engine_world.specs.Places.{occurrences, one_if}
use Rattle.engine_world.specs.World.{Resource}
use Rattle.engine_world.specs.OccurrenceLaws.{one_if_same}
use Rattle.script_walk.specs.Marks.{KeyResults}
use Rattle.script_walk.specs.Starts.{total_size}
use Rattle.cache_key.specs.KeyLaws.{same_key-is, same_key-of}
use Rattle.fetch_bounds.specs.InMemory.{IsAmong}
use Rattle.script_walk.specs.Starts as walks

-- ---- keys without one

abbrev pub drop_key : Key → List Key → List Key
drop_key key [] = []
drop_key key (k ∷ ks) = cond (same_key k key) ks (k ∷ drop_key key ks)

among_left : (other key : Key) (ks : List Key) → other ≢ key → IsAmong other ks → IsAmong other (drop_key key ks)
among_left other key [] ne h = h
among_left other key (k ∷ ks) ne h = elim (same_key k key) as (λ t. same_key k key ≡ t → IsAmong other (cond t ks (k ∷ drop_key key ks))) [
  | true ↦ λ e. elim h [ inl is ↦ absurd (ne (is ∙ same_key-is k key e)) | inr is ↦ is ]
  | false ↦ λ e. elim h [ inl is ↦ inl is | inr is ↦ inr (among_left other key ks ne is) ]
] refl

module _ (content : KeyResults) where
  parts : (key : Key) (ks : List Key) → IsAmong key ks → (walks.size_of (content key) + total_size content (drop_key key ks) ≡ total_size content ks) × (1 + length (drop_key key ks) ≡ length ks)
  parts key [] h = absurd h
  parts key (k ∷ ks) h = elim (same_key k key) as (λ t. same_key k key ≡ t
      → (walks.size_of (content key) + total_size content (cond t ks (k ∷ drop_key key ks)) ≡ walks.size_of (content k) + total_size content ks) × (1 + length (cond t ks (k ∷ drop_key key ks)) ≡ length (k ∷ ks))) [
        | true ↦ λ e. (ap (λ q. walks.size_of (content q) + total_size content ks) (sym (same_key-is k key e)), omega arith)
        | false ↦ λ e. elim h [
          | inl is ↦ absurd (true≢false (sym (same_key-of k key (sym is)) ∙ e))
          | inr is ↦ let rest = parts key ks is in
              let size : walks.size_of (content key) + total_size content (drop_key key ks) ≡ total_size content ks = rest.0 in
              let count : 1 + length (drop_key key ks) ≡ length ks = rest.1 in
              (omega (arith, size), omega (arith, count))
        ]
      ] refl

  pub size_within : (key : Key) (ks : List Key) → IsAmong key ks → walks.size_of (content key) ≤ total_size content ks
  size_within key ks h = let p = parts key ks h in omega (arith, p.0)

  -- ---- resources with distinct keys

  -- These resources are there, their keys are among these, and each is at most 8 times as large as its key's picture.
  pub record AreOfKeys (resources : FinMap nat_cmp Resource) (ks : List Key) (rs : List ℕ) : Type 0 where
    pub each : (r : ℕ) → 0 < occurrences r rs → (a : Resource) × (get resources r ≡ Some a) × IsAmong a.key ks × (a.allocation ≤ 8 * walks.size_of (content a.key))
    pub apart : (p q : ℕ) (a b : Resource) → 0 < occurrences p rs → 0 < occurrences q rs → get resources p ≡ Some a → get resources q ≡ Some b → a.key ≡ b.key → p ≡ q
    pub once : (r : ℕ) → occurrences r rs ≤ 1

  pub record FitsKeys (resources : FinMap nat_cmp Resource) (ks : List Key) (rs : List ℕ) : Type 0 where
    pub size : sum_by (size_of resources) rs ≤ 8 * total_size content ks
    pub few : length rs ≤ length ks

  pub fit_keys : (resources : FinMap nat_cmp Resource) (rs : List ℕ) (ks : List Key) → AreOfKeys resources ks rs → FitsKeys resources ks rs
  fit_keys resources [] ks are = record { size = omega arith; few = omega arith }
  fit_keys resources (r ∷ rs) ks are =
      let here : one_if (eqb r r) ≡ 1 = one_if_same r in
      let first = are.each r (omega (arith, here)) in
      let alone : occurrences r rs ≡ 0 = omega (arith, are.once r, here) in
      let key = first.0.key in
      let rest : FitsKeys resources (drop_key key ks) rs = fit_keys resources rs (drop_key key ks) (record {
        each = λ q some.
            let old = are.each q (omega (arith, some)) in
            (old.0, old.1, among_left old.0.key key ks (λ same. absurd (omega (arith, some, alone, ap (λ n. occurrences n rs) (are.apart q r old.0 first.0 (omega (arith, some)) (omega (arith, here)) old.1 first.1 same)))) old.2, old.3);
        apart = λ p q a b p_in q_in. are.apart p q a b (omega (arith, p_in)) (omega (arith, q_in));
        once = λ q. omega (arith, are.once q);
      }) in
      let p = parts key ks first.2 in
      let all : sum_by (size_of resources) (r ∷ rs) ≡ size_of resources r + sum_by (size_of resources) rs = sum_by-cons (size_of resources) r rs in
      let mine : size_of resources r ≡ first.0.allocation = ap allocation_of first.1 in
      let size : walks.size_of (content key) + total_size content (drop_key key ks) ≡ total_size content ks = p.0 in
      let count : 1 + length (drop_key key ks) ≡ length ks = p.1 in
      let rest_size : sum_by (size_of resources) rs ≤ 8 * total_size content (drop_key key ks) = rest.size in
      let rest_few : length rs ≤ length (drop_key key ks) = rest.few in
      let most : first.0.allocation ≤ 8 * walks.size_of (content key) = first.3 in
      record { size = omega (arith, all, mine, size, rest_size, most); few = omega (arith, count, rest_few) }
