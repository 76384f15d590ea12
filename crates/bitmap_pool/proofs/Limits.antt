-- A pool that is within its limits stays within them.
use Rattle.std.proofs.Common.{◌≡◌, ℕ, ◌+◌, ◌-◌, ◌*◌, ◌<◌, ◌≤◌, Bool, true, false, cond, eqb, ltb, List, [], ◌∷◌, ◌++◌, length, take, refl, ap, sym, ◌∙◌, arith, length-append}
use Rattle.std.specs.Prelude.{not, ◌||◌, filter, sum_by}
use Rattle.std.specs.List.{list_any}
use Rattle.std.proofs.lemmas.Bool.{eqb-true, ltb-true, ltb-false}
use Rattle.std.proofs.lemmas.List.{length-take}
use Rattle.std.proofs.Math.Nat.{mul-le-mul_left}
use Rattle.bitmap_kind.specs.declared.bitmaps.Config.{Config}
use Rattle.fitting.specs.Fitting.{fitting}
use Rattle.fitting.specs.Prefixes.{fitting-take, fitting-le-length, all_fit}
use Rattle.bitmap_pool.specs.Pool.{Group, pool_size, pool_count, pooled, is_group, has_group, is_empty, items_of, others_of, pool_within, pool_trim, without_last, with_room, with_room_for, add_last, pool_put, pick_among, pick_at}
use Rattle.bitmap_pool.specs.Limits.{AreApart, IsPool}
use Rattle.bitmap_pool.proofs.Lasts.{or_left, or_right, length_without_last}
use Rattle.bitmap_pool.proofs.Evictions.{sum_of_one}
use Rattle.bitmap_pool.proofs.Stored.{key_is, key_turned}
use Rattle.bitmap_pool.proofs.Steps.{none_without, few_full}

module _ {A : Type 0} where
  -- ---- what stays within a size

  none_within : (s : ℕ) (c : Config) (room slots : ℕ) (gs : List (Group A)) → has_group s c gs ≡ false → has_group s c (pool_within room slots gs) ≡ false
  none_within s c room slots [] none = none
  none_within s c room slots (g ∷ gs) none =
      let n : ℕ = fitting (λ _. g.size) room slots g.items in
      let rest : List (Group A) = pool_within (room - g.size * length g.items) (slots - length g.items) gs in
      elim (eqb n (length g.items)) as (λ t. has_group s c (cond t (g ∷ rest) (record g { items = take n g.items } ∷ [])) ≡ false) [
        | true ↦ ap (λ b. b || has_group s c rest) (or_left _ _ none) ∙ none_within s c (room - g.size * length g.items) (slots - length g.items) gs (or_right _ _ none)
        | false ↦ ap (λ b. b || false) (or_left _ _ none)
      ]

  within_apart : (room slots : ℕ) (gs : List (Group A)) → AreApart gs → AreApart (pool_within room slots gs)
  within_apart room slots [] apart = tt
  within_apart room slots (g ∷ gs) apart =
      let n : ℕ = fitting (λ _. g.size) room slots g.items in
      let rest : List (Group A) = pool_within (room - g.size * length g.items) (slots - length g.items) gs in
      elim (eqb n (length g.items)) as (λ t. AreApart (cond t (g ∷ rest) (record g { items = take n g.items } ∷ []))) [
        | true ↦ (
          none_within g.size g.config (room - g.size * length g.items) (slots - length g.items) gs apart.0,
          within_apart (room - g.size * length g.items) (slots - length g.items) gs apart.1,
        )
        | false ↦ (refl, tt)
      ]

  within_few : (room slots : ℕ) (gs : List (Group A)) → length (pool_within room slots gs) ≤ length gs
  within_few room slots [] = omega arith
  within_few room slots (g ∷ gs) =
      let n : ℕ = fitting (λ _. g.size) room slots g.items in
      let rest : List (Group A) = pool_within (room - g.size * length g.items) (slots - length g.items) gs in
      let fewer : length rest ≤ length gs = within_few (room - g.size * length g.items) (slots - length g.items) gs in
      elim (eqb n (length g.items)) as (λ t. length (cond t (g ∷ rest) (record g { items = take n g.items } ∷ [])) ≤ length (g ∷ gs)) [
        | true ↦ omega (arith, fewer)
        | false ↦ omega arith
      ]

  within_fits : (room slots : ℕ) (gs : List (Group A)) → (pool_size (pool_within room slots gs) ≤ room) × (pool_count (pool_within room slots gs) ≤ slots)
  within_fits room slots [] = (omega arith, omega arith)
  within_fits room slots (g ∷ gs) =
      let n : ℕ = fitting (λ _. g.size) room slots g.items in
      let front : List A = take n g.items in
      let rest : List (Group A) = pool_within (room - g.size * length g.items) (slots - length g.items) gs in
      elim (eqb n (length g.items)) as (λ t. eqb n (length g.items) ≡ t
      → (pool_size (cond t (g ∷ rest) (record g { items = front } ∷ [])) ≤ room) × (pool_count (cond t (g ∷ rest) (record g { items = front } ∷ [])) ≤ slots)) [
        | true ↦ λ e.
            let within : (sum_by (λ _. g.size) g.items ≤ room) × (length g.items ≤ slots) = all_fit (λ _. g.size) room slots g.items (eqb-true _ _ e) in
            let more : (pool_size rest ≤ room - g.size * length g.items) × (pool_count rest ≤ slots - length g.items) = within_fits (room - g.size * length g.items) (slots - length g.items) gs in
            (omega (arith, within, more, sum_of_one g.size g.items), omega (arith, within, more))
        | false ↦ λ e.
            let most : n ≤ length g.items = fitting-le-length (λ _. g.size) room slots g.items in
            let long : length front ≡ n = length-take n g.items ∙ (omega (arith, most)) in
            let fits : fitting (λ _. g.size) room slots front ≡ length front = fitting-take (λ _. g.size) room slots n g.items ∙ (omega (arith, long)) in
            let within : (sum_by (λ _. g.size) front ≤ room) × (length front ≤ slots) = all_fit (λ _. g.size) room slots front fits in
            (omega (arith, within, sum_of_one g.size front), omega (arith, within))
      ] refl

  pub trim_is : (room : ℕ) (gs : List (Group A)) → AreApart gs → length gs ≤ 2048 → IsPool room (pool_trim room gs)
  trim_is room gs apart few =
      let fits : (pool_size (pool_within room 1024 gs) ≤ room) × (pool_count (pool_within room 1024 gs) ≤ 1024) = within_fits room 1024 gs in
      let fewer : length (pool_within room 1024 gs) ≤ length gs = within_few room 1024 gs in
      record { apart = within_apart room 1024 gs apart; size = fits.0; bitmaps = fits.1; few_groups = omega (arith, fewer, few) }

  -- ---- room for a group

  apart_without : (q : Group A → Bool) (gs : List (Group A)) → AreApart gs → AreApart (without_last q gs)
  apart_without q [] apart = tt
  apart_without q (g ∷ gs) apart = elim (list_any q gs) as (λ t. AreApart (cond t (g ∷ without_last q gs) (cond (q g) gs (g ∷ gs)))) [
    | true ↦ (none_without (is_group g.size g.config) q gs apart.0, apart_without q gs apart.1)
    | false ↦ elim (q g) as (λ t. AreApart (cond t gs (g ∷ gs))) [ true ↦ apart.1 | false ↦ apart ]
  ]

  less_without : (q : Group A → Bool) (gs : List (Group A)) → (pool_size (without_last q gs) ≤ pool_size gs) × (pool_count (without_last q gs) ≤ pool_count gs)
  less_without q [] = (omega arith, omega arith)
  less_without q (g ∷ gs) =
      let rest : (pool_size (without_last q gs) ≤ pool_size gs) × (pool_count (without_last q gs) ≤ pool_count gs) = less_without q gs in
      elim (list_any q gs) as (λ t. (pool_size (cond t (g ∷ without_last q gs) (cond (q g) gs (g ∷ gs))) ≤ pool_size (g ∷ gs))
      × (pool_count (cond t (g ∷ without_last q gs) (cond (q g) gs (g ∷ gs))) ≤ pool_count (g ∷ gs))) [
        | true ↦ (omega (arith, rest), omega (arith, rest))
        | false ↦ elim (q g) as (λ t. (pool_size (cond t gs (g ∷ gs)) ≤ pool_size (g ∷ gs)) × (pool_count (cond t gs (g ∷ gs)) ≤ pool_count (g ∷ gs))) [
          | true ↦ (omega arith, omega arith)
          | false ↦ (omega arith, omega arith)
        ]
      ]

  -- what room was made for a group leaves
  abbrev HasRoomFor : ℕ → ℕ → Config → List (Group A) → Type 0
  HasRoomFor maximum s c gs = AreApart gs × (pool_size gs ≤ maximum) × (pool_count gs ≤ 1024) × (length gs ≤ 2048) × (has_group s c gs ≡ false → length gs < 2048)

  room_made : (maximum : ℕ) (s : ℕ) (c : Config) (gs : List (Group A)) → IsPool maximum gs → length (with_room gs) < 2048 → HasRoomFor maximum s c (with_room gs)
  room_made maximum s c gs is less = elim (ltb (length gs) 2048) as (λ t. length (cond t gs (without_last is_empty gs)) < 2048 → HasRoomFor maximum s c (cond t gs (without_last is_empty gs))) [
    | true ↦ λ less. (is.apart, is.size, is.bitmaps, is.few_groups, λ none. less)
    | false ↦ λ less.
        let fewer : (pool_size (without_last is_empty gs) ≤ pool_size gs) × (pool_count (without_last is_empty gs) ≤ pool_count gs) = less_without is_empty gs in
        (apart_without is_empty gs is.apart, omega (arith, fewer, is.size), omega (arith, fewer, is.bitmaps), omega (arith, less), λ none. less)
  ] less

  -- where there are 2,048 groups, one of them is empty
  has_empty : (maximum : ℕ) (gs : List (Group A)) → IsPool maximum gs → 2048 ≤ length gs → list_any is_empty gs ≡ true
  has_empty maximum gs is many = elim (list_any is_empty gs) as (λ t. list_any is_empty gs ≡ t → t ≡ true) [
    | true ↦ λ e. refl
    | false ↦ λ e. let most : length gs ≤ pool_count gs = few_full gs e in absurd (omega (arith, most, many, is.bitmaps))
  ] refl

  less_groups : (maximum : ℕ) (gs : List (Group A)) → IsPool maximum gs → length (with_room gs) < 2048
  less_groups maximum gs is = elim (ltb (length gs) 2048) as (λ t. ltb (length gs) 2048 ≡ t → length (cond t gs (without_last is_empty gs)) < 2048) [
    | true ↦ λ e. ltb-true _ _ e
    | false ↦ λ e.
        let many : 2048 ≤ length gs = ltb-false _ _ e in
        let one_less : length (without_last is_empty gs) + 1 ≡ length gs = length_without_last is_empty gs (has_empty maximum gs is many) in
        omega (arith, one_less, is.few_groups)
  ] refl

  room_for : (maximum : ℕ) (s : ℕ) (c : Config) (gs : List (Group A)) → IsPool maximum gs → HasRoomFor maximum s c (with_room_for s c gs)
  room_for maximum s c gs is = elim (has_group s c gs) as (λ t. has_group s c gs ≡ t → HasRoomFor maximum s c (cond t gs (with_room gs))) [
    | true ↦ λ e. (is.apart, is.size, is.bitmaps, is.few_groups, λ none. absurd (let no : true ≡ false = sym e ∙ none in cc))
    | false ↦ λ e. room_made maximum s c gs is (less_groups maximum gs is)
  ] refl

  -- ---- a put

  turned : (s : ℕ) (c : Config) (g : Group A) → is_group s c g ≡ false → is_group {A = A} g.size g.config (record { size = s; config = c; items = [] }) ≡ false
  turned s c g other = key_turned s c (record { size = g.size; config = g.config }) other

  none_added : (s : ℕ) (c : Config) (size : ℕ) (config : Config) (x : A) (gs : List (Group A)) → is_group {A = A} s c (record { size = size; config = config; items = [] }) ≡ false
      → has_group s c gs ≡ false → has_group s c (add_last size config x gs) ≡ false
  none_added s c size config x [] other none = ap (λ b. b || false) other
  none_added s c size config x (g ∷ gs) other none =
      elim (is_group size config g) as (λ t. has_group s c (cond t (record g { items = g.items ++ x ∷ [] } ∷ gs) (g ∷ add_last size config x gs)) ≡ false) [
        | true ↦ none
        | false ↦ ap (λ b. b || has_group s c (add_last size config x gs)) (or_left _ _ none) ∙ none_added s c size config x gs other (or_right _ _ none)
      ]

  apart_added : (s : ℕ) (c : Config) (x : A) (gs : List (Group A)) → AreApart gs → AreApart (add_last s c x gs)
  apart_added s c x [] apart = (refl, tt)
  apart_added s c x (g ∷ gs) apart =
      elim (is_group s c g) as (λ t. is_group s c g ≡ t → AreApart (cond t (record g { items = g.items ++ x ∷ [] } ∷ gs) (g ∷ add_last s c x gs))) [
        | true ↦ λ e. apart
        | false ↦ λ e. (none_added g.size g.config s c x gs (turned s c g e) apart.0, apart_added s c x gs apart.1)
      ] refl

  long_added : (s : ℕ) (c : Config) (x : A) (gs : List (Group A)) → (length (add_last s c x gs) ≤ length gs + 1) × (has_group s c gs ≡ true → length (add_last s c x gs) ≡ length gs)
  long_added s c x [] = (omega arith, λ no. absurd (let e : false ≡ true = no in cc))
  long_added s c x (g ∷ gs) =
      let rest = long_added s c x gs in
      elim (is_group s c g) as (λ t. (length (cond t (record g { items = g.items ++ x ∷ [] } ∷ gs) (g ∷ add_last s c x gs)) ≤ length (g ∷ gs) + 1)
      × ((t || has_group s c gs) ≡ true → length (cond t (record g { items = g.items ++ x ∷ [] } ∷ gs) (g ∷ add_last s c x gs)) ≡ length (g ∷ gs))) [
        | true ↦ (omega arith, λ has. refl)
        | false ↦ (omega (arith, rest.0), λ has. let same : length (add_last s c x gs) ≡ length gs = rest.1 has in omega (arith, same))
      ]

  few_added : (s : ℕ) (c : Config) (x : A) (gs : List (Group A)) → length gs ≤ 2048 → (has_group s c gs ≡ false → length gs < 2048) → length (add_last s c x gs) ≤ 2048
  few_added s c x gs few room = elim (has_group s c gs) as (λ t. has_group s c gs ≡ t → length (add_last s c x gs) ≤ 2048) [
    | true ↦ λ e. let same : length (add_last s c x gs) ≡ length gs = (long_added s c x gs).1 e in omega (arith, same, few)
    | false ↦ λ e. let less : length gs < 2048 = room e in omega (arith, less, (long_added s c x gs).0)
  ] refl

  pub put_is : (maximum size : ℕ) (c : Config) (x : A) (gs : List (Group A)) → IsPool maximum gs → IsPool maximum (pool_put maximum size c x gs)
  put_is maximum size c x gs is =
      let made : HasRoomFor maximum size c (with_room_for size c gs) = room_for maximum size c gs is in
      elim (ltb maximum size) as (λ t. IsPool maximum (cond t gs (pool_trim maximum (add_last size c x (with_room_for size c gs))))) [
        | true ↦ is
        | false ↦ trim_is maximum (add_last size c x (with_room_for size c gs)) (apart_added size c x (with_room_for size c gs) made.0) (few_added size c x (with_room_for size c gs) made.3 made.4)
      ]

  -- ---- a look-up

  none_filtered : (s : ℕ) (c : Config) (q : Group A → Bool) (gs : List (Group A)) → has_group s c gs ≡ false → has_group s c (filter q gs) ≡ false
  none_filtered s c q [] none = none
  none_filtered s c q (g ∷ gs) none = elim (q g) as (λ t. has_group s c (cond t (g ∷ filter q gs) (filter q gs)) ≡ false) [
    | true ↦ ap (λ b. b || has_group s c (filter q gs)) (or_left _ _ none) ∙ none_filtered s c q gs (or_right _ _ none)
    | false ↦ none_filtered s c q gs (or_right _ _ none)
  ]

  apart_filtered : (q : Group A → Bool) (gs : List (Group A)) → AreApart gs → AreApart (filter q gs)
  apart_filtered q [] apart = tt
  apart_filtered q (g ∷ gs) apart = elim (q g) as (λ t. AreApart (cond t (g ∷ filter q gs) (filter q gs))) [
    | true ↦ (none_filtered g.size g.config q gs apart.0, apart_filtered q gs apart.1)
    | false ↦ apart_filtered q gs apart.1
  ]

  none_left : (s : ℕ) (c : Config) (gs : List (Group A)) → has_group s c (others_of s c gs) ≡ false
  none_left s c [] = refl
  none_left s c (g ∷ gs) = elim (is_group s c g) as (λ t. is_group s c g ≡ t → has_group s c (cond (not t) (g ∷ others_of s c gs) (others_of s c gs)) ≡ false) [
    | true ↦ λ e. none_left s c gs
    | false ↦ λ e. ap (λ b. b || has_group s c (others_of s c gs)) e ∙ none_left s c gs
  ] refl

  long_left : (s : ℕ) (c : Config) (gs : List (Group A)) → (length (others_of s c gs) ≤ length gs) × (has_group s c gs ≡ true → length (others_of s c gs) < length gs)
  long_left s c [] = (omega arith, λ no. absurd (let e : false ≡ true = no in cc))
  long_left s c (g ∷ gs) =
      let rest = long_left s c gs in
      elim (is_group s c g) as (λ t. (length (cond (not t) (g ∷ others_of s c gs) (others_of s c gs)) ≤ length (g ∷ gs))
      × ((t || has_group s c gs) ≡ true → length (cond (not t) (g ∷ others_of s c gs) (others_of s c gs)) < length (g ∷ gs))) [
        | true ↦ (omega (arith, rest.0), λ has. omega (arith, rest.0))
        | false ↦ (omega (arith, rest.0), λ has. let less : length (others_of s c gs) < length gs = rest.1 has in omega (arith, less))
      ]

  few_left : (s : ℕ) (c : Config) (gs : List (Group A)) → length gs ≤ 2048 → (has_group s c gs ≡ false → length gs < 2048) → length (others_of s c gs) < 2048
  few_left s c gs few room = elim (has_group s c gs) as (λ t. has_group s c gs ≡ t → length (others_of s c gs) < 2048) [
    | true ↦ λ e. let less : length (others_of s c gs) < length gs = (long_left s c gs).1 e in omega (arith, less, few)
    | false ↦ λ e. let less : length gs < 2048 = room e in omega (arith, less, (long_left s c gs).0)
  ] refl

  -- the bitmaps of one group and those of the others are all
  parts : (s : ℕ) (c : Config) (gs : List (Group A)) → (s * length (items_of s c gs) + pool_size (others_of s c gs) ≡ pool_size gs) × (length (items_of s c gs) + pool_count (others_of s c gs) ≡ pool_count gs)
  parts s c [] = (omega arith, omega arith)
  parts s c (g ∷ gs) =
      let rest : (s * length (items_of s c gs) + pool_size (others_of s c gs) ≡ pool_size gs) × (length (items_of s c gs) + pool_count (others_of s c gs) ≡ pool_count gs) = parts s c gs in
      elim (is_group s c g) as (λ t. is_group s c g ≡ t
      → (s * length (pooled (cond t (g ∷ filter (is_group s c) gs) (filter (is_group s c) gs))) + pool_size (cond (not t) (g ∷ others_of s c gs) (others_of s c gs)) ≡ pool_size (g ∷ gs))
      × (length (pooled (cond t (g ∷ filter (is_group s c) gs) (filter (is_group s c) gs))) + pool_count (cond (not t) (g ∷ others_of s c gs) (others_of s c gs)) ≡ pool_count (g ∷ gs))) [
        | true ↦ λ e.
            let is : g.size ≡ s = (key_is s c (record { size = g.size; config = g.config }) e).0 in
            let long : length (g.items ++ items_of s c gs) ≡ length g.items + length (items_of s c gs) = length-append g.items (items_of s c gs) in
            let bytes : s * length (g.items ++ items_of s c gs) ≡ s * (length g.items + length (items_of s c gs)) = ap (λ n. s * n) long in
            let same : g.size * length g.items ≡ s * length g.items = ap (λ n. n * length g.items) is in
            (omega (arith, rest, bytes, same), omega (arith, rest, long))
        | false ↦ λ e. (omega (arith, rest), omega (arith, rest))
      ] refl

  among_is : (maximum s : ℕ) (c : Config) (gs : List (Group A)) → HasRoomFor maximum s c gs → IsPool maximum (pick_among s c gs).groups
  among_is maximum s c gs made =
      let items : List A = items_of s c gs in
      let front : List A = take (length items - 1) items in
      let all : (s * length items + pool_size (others_of s c gs) ≡ pool_size gs) × (length items + pool_count (others_of s c gs) ≡ pool_count gs) = parts s c gs in
      let shorter : length front ≤ length items = omega (arith, length-take (length items - 1) items) in
      let bytes : s * length front ≤ s * length items = mul-le-mul_left s shorter in
      let few : length (others_of s c gs) < 2048 = few_left s c gs made.3 made.4 in
      record {
        apart = (none_left s c gs, apart_filtered (λ g. not (is_group s c g)) gs made.0);
        size = omega (arith, all, bytes, made.1);
        bitmaps = omega (arith, all, shorter, made.2);
        few_groups = omega (arith, few);
      }

  pub pick_is : (maximum s : ℕ) (c : Config) (gs : List (Group A)) → IsPool maximum gs → IsPool maximum (pick_at s c gs).groups
  pick_is maximum s c gs is = among_is maximum s c (with_room_for s c gs) (room_for maximum s c gs is)
