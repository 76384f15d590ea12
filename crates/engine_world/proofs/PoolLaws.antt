-- The bitmap pool stays within its limits, and gives out what was put in.
use Rattle.std.proofs.Common.{◌≡◌, ◌≢◌, ℕ, ◌+◌, ◌-◌, ◌*◌, ◌<◌, ◌≤◌, Bool, true, false, cond, eqb, ltb, leb, List, [], ◌∷◌, ◌++◌, length, take, Some, None, refl, ap, sym, ◌∙◌, arith}
use Rattle.std.specs.Prelude.{not, filter, slice_get, ◌&&◌, ◌||◌, unwrap_or}
use Rattle.std.specs.List.{list_any}
use Rattle.std.proofs.lemmas.List.{length-take, length-append, nil_from_length}
use Rattle.std.proofs.lemmas.Bool.{eqb-true, eqb-false, eq-eqb, ltb-true, ltb-false, leb-true, and_parts, or_parts, or_from}
use Rattle.bitmap_kind.specs.declared.bitmaps.Config.{Config}
use Rattle.bitmap_kind.specs.declared.bitmaps.Config.TheVariants.{Argb8888, Rgb565, Alpha8}
use Rattle.cache_key.specs.Key.{same_config}
use Rattle.fitting.specs.Fitting.{fitting}
use Rattle.fitting.specs.Prefixes.{fitting-le-length}
use Rattle.bitmap_pool.specs.Pool.{Group, pool_size, pool_count, pooled, is_group, has_group, is_empty, pool_within, pool_trim, without_last, with_room, with_room_for, add_last, pool_put, least_with, least_size, serving_size, items_of, others_of, pick_at}
use Rattle.engine_world.specs.Places.{one_if, occurrences}
use Rattle.engine_world.specs.Sound.{GroupsApart, PoolIs}
use Rattle.engine_world.specs.OccurrenceLaws.{occurrences-append}
use Rattle.finite_maps.specs.MapLaws.{not_Some, same_Some}
use Rattle.engine_world.proofs.Occurs.{occurrences-take, occurrences-last, found_at}

times-le : (s n m : ℕ) → n ≤ m → s * n ≤ s * m
times-le s n m h = grind arith

-- ---- what fits

-- So many of one size fit in the room, and in the slots.
pub fitting_room : (s room slots : ℕ) (xs : List ℕ) → s * fitting (λ _. s) room slots xs ≤ room
fitting_room s room slots [] = omega arith
fitting_room s room slots (x ∷ xs) = elim (ltb 0 slots && leb s room) as (λ b. (ltb 0 slots && leb s room) ≡ b → s * cond b (1 + fitting (λ _. s) (room - s) (slots - 1) xs) 0 ≤ room) [
  | true ↦ λ e.
      let fits : s ≤ room = leb-true s room (and_parts _ _ e).1 in
      let rest : s * fitting (λ _. s) (room - s) (slots - 1) xs ≤ room - s = fitting_room s (room - s) (slots - 1) xs in
      omega (arith, fits, rest)
  | false ↦ λ e. omega arith
] refl

pub fitting_slots : (s room slots : ℕ) (xs : List ℕ) → fitting (λ _. s) room slots xs ≤ slots
fitting_slots s room slots [] = omega arith
fitting_slots s room slots (x ∷ xs) = elim (ltb 0 slots && leb s room) as (λ b. (ltb 0 slots && leb s room) ≡ b → cond b (1 + fitting (λ _. s) (room - s) (slots - 1) xs) 0 ≤ slots) [
  | true ↦ λ e.
      let some : 0 < slots = ltb-true 0 slots (and_parts _ _ e).0 in
      let rest : fitting (λ _. s) (room - s) (slots - 1) xs ≤ slots - 1 = fitting_slots s (room - s) (slots - 1) xs in
      omega (arith, some, rest)
  | false ↦ λ e. omega arith
] refl

-- ---- eviction

-- What is kept of a group: all of it with what is kept of the groups behind it, or a part and none of those.
pub record IsKept (b room slots : ℕ) (gs kept : List (Group ℕ)) : Type 0 where
  pub size : pool_size kept ≤ room
  pub no_more : pool_size kept ≤ pool_size gs
  pub count : pool_count kept ≤ slots
  pub fewer : pool_count kept ≤ pool_count gs
  pub groups : length kept ≤ length gs
  pub number : occurrences b (pooled kept) ≤ occurrences b (pooled gs)

pub pool_within_keeps : (b room slots : ℕ) (gs : List (Group ℕ)) → IsKept b room slots gs (pool_within room slots gs)
pool_within_keeps b room slots [] = record { size = omega arith; no_more = omega arith; count = omega arith; fewer = omega arith; groups = omega arith; number = omega arith }
pool_within_keeps b room slots (g ∷ gs) =
    let n = fitting (λ _. g.size) room slots g.items in
    let fits_room : g.size * n ≤ room = fitting_room g.size room slots g.items in
    let fits_slots : n ≤ slots = fitting_slots g.size room slots g.items in
    let fits_length : n ≤ length g.items = fitting-le-length (λ _. g.size) room slots g.items in
    let here : occurrences b (pooled (g ∷ gs)) ≡ occurrences b g.items + occurrences b (pooled gs) = occurrences-append b g.items (pooled gs) in
    elim (eqb n (length g.items)) as (λ t. eqb n (length g.items) ≡ t
    → IsKept b room slots (g ∷ gs) (cond t (g ∷ pool_within (room - g.size * length g.items) (slots - length g.items) gs) (record g { items = take n g.items } ∷ []))) [
      | true ↦ λ e.
          let all : n ≡ length g.items = eqb-true n (length g.items) e in
          let bytes : g.size * n ≡ g.size * length g.items = ap (λ k. g.size * k) all in
          let kept = pool_within (room - g.size * length g.items) (slots - length g.items) gs in
          let rest : IsKept b (room - g.size * length g.items) (slots - length g.items) gs kept = pool_within_keeps b (room - g.size * length g.items) (slots - length g.items) gs in
          let there : occurrences b (pooled (g ∷ kept)) ≡ occurrences b g.items + occurrences b (pooled kept) = occurrences-append b g.items (pooled kept) in
          record {
            size = omega (arith, rest.size, fits_room, bytes);
            no_more = omega (arith, rest.no_more);
            count = omega (arith, rest.count, fits_slots, all);
            fewer = omega (arith, rest.fewer);
            groups = omega (arith, rest.groups);
            number = omega (arith, rest.number, here, there);
          }
      | false ↦ λ e.
          let some : length (take n g.items) ≡ n = length-take n g.items ∙ (omega (arith, fits_length)) in
          let bytes : g.size * length (take n g.items) ≡ g.size * n = ap (λ k. g.size * k) some in
          let less : g.size * n ≤ g.size * length g.items = times-le g.size n (length g.items) fits_length in
          let there : occurrences b (take n g.items ++ []) ≡ occurrences b (take n g.items) + 0 = occurrences-append b (take n g.items) [] in
          let fewer : occurrences b (take n g.items) ≤ occurrences b g.items = occurrences-take b n g.items in
          record {
            size = omega (arith, bytes, fits_room);
            no_more = omega (arith, bytes, less);
            count = omega (arith, some, fits_slots);
            fewer = omega (arith, some, fits_length);
            groups = omega arith;
            number = omega (arith, there, here, fewer);
          }
    ] refl

same_config_turned : (a b : Config) → same_config a b ≡ same_config b a
same_config_turned Argb8888 Argb8888 = refl
same_config_turned Argb8888 Rgb565 = refl
same_config_turned Argb8888 Alpha8 = refl
same_config_turned Rgb565 Argb8888 = refl
same_config_turned Rgb565 Rgb565 = refl
same_config_turned Rgb565 Alpha8 = refl
same_config_turned Alpha8 Argb8888 = refl
same_config_turned Alpha8 Rgb565 = refl
same_config_turned Alpha8 Alpha8 = refl

eqb_cases : (a b : ℕ) (t : Bool) → eqb a b ≡ t → eqb b a ≡ t
eqb_cases a b true e = eq-eqb b a (sym (eqb-true a b e))
eqb_cases a b false e = elim (eqb b a) as (λ u. eqb b a ≡ u → u ≡ false) [
  | true ↦ λ f. absurd (eqb-false a b e (sym (eqb-true b a f)))
  | false ↦ λ f. refl
] refl

eqb_turned : (a b : ℕ) → eqb a b ≡ eqb b a
eqb_turned a b = sym (eqb_cases a b _ refl)

-- two groups of one size and config, whichever is asked
group_turned : (g h : Group ℕ) → is_group g.size g.config h ≡ is_group h.size h.config g
group_turned g h = ap (λ t. t && same_config h.config g.config) (eqb_turned h.size g.size) ∙ ap (λ t. eqb g.size h.size && t) (same_config_turned h.config g.config)

-- ---- groups by their sizes and configs

module _ (s : ℕ) (c : Config) where
  has-within : (room slots : ℕ) (gs : List (Group ℕ)) → has_group s c gs ≡ false → has_group s c (pool_within room slots gs) ≡ false
  has-within room slots [] e = refl
  has-within room slots (g ∷ gs) e =
      elim (eqb (fitting (λ _. g.size) room slots g.items) (length g.items)) as (λ t. has_group s c (cond t (g ∷ pool_within (room - g.size * length g.items) (slots - length g.items) gs) (record g { items = take (fitting (λ _. g.size) room slots g.items) g.items } ∷ [])) ≡ false) [
        | true ↦ or_from _ _ (or_parts _ _ e).0 (has-within (room - g.size * length g.items) (slots - length g.items) gs (or_parts _ _ e).1)
        | false ↦ or_from (is_group s c g) false (or_parts _ _ e).0 refl
      ]

  has-without_empty : (gs : List (Group ℕ)) → has_group s c gs ≡ false → has_group s c (without_last is_empty gs) ≡ false
  has-without_empty [] e = refl
  has-without_empty (g ∷ gs) e =
      elim (list_any is_empty gs) as (λ t. has_group s c (cond t (g ∷ without_last is_empty gs) (cond (is_empty g) gs (g ∷ gs))) ≡ false) [
        | true ↦ or_from _ _ (or_parts _ _ e).0 (has-without_empty gs (or_parts _ _ e).1)
        | false ↦ elim (is_empty g) as (λ t. has_group s c (cond t gs (g ∷ gs)) ≡ false) [ true ↦ (or_parts _ _ e).1 | false ↦ e ]
      ]

  has-with_room : (gs : List (Group ℕ)) → has_group s c gs ≡ false → has_group s c (with_room gs) ≡ false
  has-with_room gs e = elim (ltb (length gs) 2048) as (λ t. has_group s c (cond t gs (without_last is_empty gs)) ≡ false) [ true ↦ e | false ↦ has-without_empty gs e ]

  has-filter : (p : Group ℕ → Bool) (gs : List (Group ℕ)) → has_group s c gs ≡ false → has_group s c (filter p gs) ≡ false
  has-filter p [] e = refl
  has-filter p (g ∷ gs) e = elim (p g) as (λ t. has_group s c (cond t (g ∷ filter p gs) (filter p gs)) ≡ false) [
    | true ↦ or_from _ _ (or_parts _ _ e).0 (has-filter p gs (or_parts _ _ e).1)
    | false ↦ has-filter p gs (or_parts _ _ e).1
  ]

  has-others : (gs : List (Group ℕ)) → has_group s c (others_of s c gs) ≡ false
  has-others [] = refl
  has-others (g ∷ gs) = elim (is_group s c g) as (λ t. is_group s c g ≡ t → has_group s c (cond (not t) (g ∷ others_of s c gs) (others_of s c gs)) ≡ false) [
    | true ↦ λ e. has-others gs
    | false ↦ λ e. or_from _ _ e (has-others gs)
  ] refl

apart-within : (room slots : ℕ) (gs : List (Group ℕ)) → GroupsApart gs → GroupsApart (pool_within room slots gs)
apart-within room slots [] h = tt
apart-within room slots (g ∷ gs) h =
    elim (eqb (fitting (λ _. g.size) room slots g.items) (length g.items)) as (λ t. GroupsApart (cond t (g ∷ pool_within (room - g.size * length g.items) (slots - length g.items) gs) (record g { items = take (fitting (λ _. g.size) room slots g.items) g.items } ∷ []))) [
      | true ↦ (has-within g.size g.config (room - g.size * length g.items) (slots - length g.items) gs h.0, apart-within (room - g.size * length g.items) (slots - length g.items) gs h.1)
      | false ↦ (refl, tt)
    ]

apart-without_empty : (gs : List (Group ℕ)) → GroupsApart gs → GroupsApart (without_last is_empty gs)
apart-without_empty [] h = tt
apart-without_empty (g ∷ gs) h =
    elim (list_any is_empty gs) as (λ t. GroupsApart (cond t (g ∷ without_last is_empty gs) (cond (is_empty g) gs (g ∷ gs)))) [
      | true ↦ (has-without_empty g.size g.config gs h.0, apart-without_empty gs h.1)
      | false ↦ elim (is_empty g) as (λ t. GroupsApart (cond t gs (g ∷ gs))) [ true ↦ h.1 | false ↦ h ]
    ]

apart-with_room_for : (s : ℕ) (c : Config) (gs : List (Group ℕ)) → GroupsApart gs → GroupsApart (with_room_for s c gs)
apart-with_room_for s c gs h = elim (has_group s c gs) as (λ t. GroupsApart (cond t gs (with_room gs))) [
  | true ↦ h
  | false ↦ elim (ltb (length gs) 2048) as (λ t. GroupsApart (cond t gs (without_last is_empty gs))) [ true ↦ h | false ↦ apart-without_empty gs h ]
]

apart-filter : (p : Group ℕ → Bool) (gs : List (Group ℕ)) → GroupsApart gs → GroupsApart (filter p gs)
apart-filter p [] h = tt
apart-filter p (g ∷ gs) h = elim (p g) as (λ t. GroupsApart (cond t (g ∷ filter p gs) (filter p gs))) [
  | true ↦ (has-filter g.size g.config p gs h.0, apart-filter p gs h.1)
  | false ↦ apart-filter p gs h.1
]

module _ (s : ℕ) (c : Config) (x : ℕ) where
  has-add_last : (t : ℕ) (d : Config) (gs : List (Group ℕ)) → (eqb s t && same_config c d) ≡ false → has_group t d gs ≡ false → has_group t d (add_last s c x gs) ≡ false
  has-add_last t d [] ne e = or_from _ _ ne refl
  has-add_last t d (g ∷ gs) ne e = elim (is_group s c g) as (λ u. has_group t d (cond u (record g { items = g.items ++ x ∷ [] } ∷ gs) (g ∷ add_last s c x gs)) ≡ false) [
    | true ↦ e
    | false ↦ or_from _ _ (or_parts _ _ e).0 (has-add_last t d gs ne (or_parts _ _ e).1)
  ]

  apart-add_last : (gs : List (Group ℕ)) → GroupsApart gs → GroupsApart (add_last s c x gs)
  apart-add_last [] h = (refl, tt)
  apart-add_last (g ∷ gs) h = elim (is_group s c g) as (λ u. is_group s c g ≡ u → GroupsApart (cond u (record g { items = g.items ++ x ∷ [] } ∷ gs) (g ∷ add_last s c x gs))) [
    | true ↦ λ e. h
    | false ↦ λ e. (has-add_last g.size g.config gs (sym (group_turned (record { size = s; config = c; items = [] }) g) ∙ e) h.0, apart-add_last gs h.1)
  ] refl

  number-add_last : (b : ℕ) (gs : List (Group ℕ)) → occurrences b (pooled (add_last s c x gs)) ≡ occurrences b (pooled gs) + one_if (eqb x b)
  number-add_last b [] = omega arith
  number-add_last b (g ∷ gs) = elim (is_group s c g) as (λ u. occurrences b (pooled (cond u (record g { items = g.items ++ x ∷ [] } ∷ gs) (g ∷ add_last s c x gs))) ≡ occurrences b (pooled (g ∷ gs)) + one_if (eqb x b)) [
    | true ↦
        let a1 : occurrences b (pooled (g ∷ gs)) ≡ occurrences b g.items + occurrences b (pooled gs) = occurrences-append b g.items (pooled gs) in
        let a2 : occurrences b ((g.items ++ x ∷ []) ++ pooled gs) ≡ occurrences b (g.items ++ x ∷ []) + occurrences b (pooled gs) = occurrences-append b (g.items ++ x ∷ []) (pooled gs) in
        let a3 : occurrences b (g.items ++ x ∷ []) ≡ occurrences b g.items + occurrences b (x ∷ []) = occurrences-append b g.items (x ∷ []) in
        omega (arith, a1, a2, a3)
    | false ↦
        let a1 : occurrences b (pooled (g ∷ gs)) ≡ occurrences b g.items + occurrences b (pooled gs) = occurrences-append b g.items (pooled gs) in
        let a2 : occurrences b (pooled (g ∷ add_last s c x gs)) ≡ occurrences b g.items + occurrences b (pooled (add_last s c x gs)) = occurrences-append b g.items (pooled (add_last s c x gs)) in
        let rest : occurrences b (pooled (add_last s c x gs)) ≡ occurrences b (pooled gs) + one_if (eqb x b) = number-add_last b gs in
        omega (arith, a1, a2, rest)
  ]

  length-add_last : (gs : List (Group ℕ)) → length (add_last s c x gs) ≤ length gs + one_if (not (has_group s c gs))
  length-add_last [] = omega arith
  length-add_last (g ∷ gs) = elim (is_group s c g) as (λ u. length (cond u (record g { items = g.items ++ x ∷ [] } ∷ gs) (g ∷ add_last s c x gs)) ≤ length (g ∷ gs) + one_if (not (u || has_group s c gs))) [
    | true ↦ omega arith
    | false ↦ let rest : length (add_last s c x gs) ≤ length gs + one_if (not (has_group s c gs)) = length-add_last gs in omega (arith, rest)
  ]

-- ---- room for a new group

none_empty : (gs : List (Group ℕ)) → list_any is_empty gs ≡ false → length gs ≤ pool_count gs
none_empty [] e = omega arith
none_empty (g ∷ gs) e =
    let some : length g.items ≢ 0 = eqb-false (length g.items) 0 (or_parts _ _ e).0 in
    let rest : length gs ≤ pool_count gs = none_empty gs (or_parts _ _ e).1 in
    omega (arith, some, rest)

shorter : (gs : List (Group ℕ)) → list_any is_empty gs ≡ true → length (without_last is_empty gs) + 1 ≡ length gs
shorter [] e = cc
shorter (g ∷ gs) e = elim (list_any is_empty gs) as (λ t. list_any is_empty gs ≡ t → length (cond t (g ∷ without_last is_empty gs) (cond (is_empty g) gs (g ∷ gs))) + 1 ≡ length (g ∷ gs)) [
  | true ↦ λ any. let rest : length (without_last is_empty gs) + 1 ≡ length gs = shorter gs any in omega (arith, rest)
  | false ↦ λ none. elim (is_empty g) as (λ u. (u || false) ≡ true → length (cond u gs (g ∷ gs)) + 1 ≡ length (g ∷ gs)) [
    | true ↦ λ _. omega arith
    | false ↦ λ f. cc
  ] (ap (λ t. is_empty g || t) (sym none) ∙ e)
] refl

-- with room for one more, where at most 1,024 bitmaps are there
pub with_room-length : (gs : List (Group ℕ)) → pool_count gs ≤ 1024 → length gs ≤ 2048 → length (with_room gs) < 2048
with_room-length gs few h = elim (ltb (length gs) 2048) as (λ t. ltb (length gs) 2048 ≡ t → length (cond t gs (without_last is_empty gs)) < 2048) [
  | true ↦ λ e. ltb-true _ _ e
  | false ↦ λ e. elim (list_any is_empty gs) as (λ t. list_any is_empty gs ≡ t → length (without_last is_empty gs) < 2048) [
    | true ↦ λ any. let one_less : length (without_last is_empty gs) + 1 ≡ length gs = shorter gs any in omega (arith, one_less)
    | false ↦ λ none. let many : length gs ≤ pool_count gs = none_empty gs none in let full : 2048 ≤ length gs = ltb-false _ _ e in absurd (omega (arith, many, full, few))
  ] refl
] refl

-- what goes to make room is empty
pub record SamePooled (gs hs : List (Group ℕ)) : Type 0 where
  pub size : pool_size hs ≡ pool_size gs
  pub count : pool_count hs ≡ pool_count gs
  pub bitmaps : pooled hs ≡ pooled gs

same_without_empty : (gs : List (Group ℕ)) → SamePooled gs (without_last is_empty gs)
same_without_empty [] = record { size = refl; count = refl; bitmaps = refl }
same_without_empty (g ∷ gs) =
    let rest = same_without_empty gs in
    elim (list_any is_empty gs) as (λ t. SamePooled (g ∷ gs) (cond t (g ∷ without_last is_empty gs) (cond (is_empty g) gs (g ∷ gs)))) [
      | true ↦ record { size = ap (λ n. g.size * length g.items + n) rest.size; count = ap (λ n. length g.items + n) rest.count; bitmaps = ap (λ l. g.items ++ l) rest.bitmaps }
      | false ↦ elim (is_empty g) as (λ t. is_empty g ≡ t → SamePooled (g ∷ gs) (cond t gs (g ∷ gs))) [
        | true ↦ λ e.
            let none : g.items ≡ [] = nil_from_length g.items (eqb-true _ _ e) in
            let zero_long : length g.items ≡ 0 = eqb-true _ _ e in
            let no_bytes : g.size * length g.items ≡ g.size * 0 = ap (λ n. g.size * n) zero_long in
            record { size = omega (arith, no_bytes); count = omega (arith, zero_long); bitmaps = sym (ap (λ l. l ++ pooled gs) none) }
        | false ↦ λ e. record { size = refl; count = refl; bitmaps = refl }
      ] refl
    ]

pub same_with_room_for : (s : ℕ) (c : Config) (gs : List (Group ℕ)) → SamePooled gs (with_room_for s c gs)
same_with_room_for s c gs = elim (has_group s c gs) as (λ t. SamePooled gs (cond t gs (with_room gs))) [
  | true ↦ record { size = refl; count = refl; bitmaps = refl }
  | false ↦ elim (ltb (length gs) 2048) as (λ t. SamePooled gs (cond t gs (without_last is_empty gs))) [ true ↦ record { size = refl; count = refl; bitmaps = refl } | false ↦ same_without_empty gs ]
]

-- one more group would be within the limit
pub room_for-length : (s : ℕ) (c : Config) (gs : List (Group ℕ)) → pool_count gs ≤ 1024 → length gs ≤ 2048 → length (with_room_for s c gs) + one_if (not (has_group s c (with_room_for s c gs))) ≤ 2048
room_for-length s c gs few h = elim (has_group s c gs) as (λ t. has_group s c gs ≡ t → length (cond t gs (with_room gs)) + one_if (not (has_group s c (cond t gs (with_room gs)))) ≤ 2048) [
  | true ↦ λ e. let is : one_if (not (has_group s c gs)) ≡ 0 = ap (λ t. one_if (not t)) e in omega (arith, is, h)
  | false ↦ λ e.
      let is : one_if (not (has_group s c (with_room gs))) ≡ 1 = ap (λ t. one_if (not t)) (has-with_room s c gs e) in
      let less : length (with_room gs) < 2048 = with_room-length gs few h in
      omega (arith, is, less)
] refl

-- ---- putting and trimming

pub pool_trim_is : (maximum room : ℕ) (gs : List (Group ℕ)) → PoolIs maximum gs → PoolIs maximum (pool_trim room gs)
pool_trim_is maximum room gs is =
    let kept : IsKept 0 room 1024 gs (pool_trim room gs) = pool_within_keeps 0 room 1024 gs in
    record {
      apart = apart-within room 1024 gs is.apart;
      size = omega (arith, kept.no_more, is.size);
      few = kept.count;
      groups = omega (arith, kept.groups, is.groups);
    }

pub pool_put_is : (maximum s : ℕ) (c : Config) (x : ℕ) (gs : List (Group ℕ)) → PoolIs maximum gs → PoolIs maximum (pool_put maximum s c x gs)
pool_put_is maximum s c x gs is = elim (ltb maximum s) as (λ t. PoolIs maximum (cond t gs (pool_trim maximum (add_last s c x (with_room_for s c gs))))) [
  | true ↦ is
  | false ↦
      let added = add_last s c x (with_room_for s c gs) in
      let kept : IsKept 0 maximum 1024 added (pool_trim maximum added) = pool_within_keeps 0 maximum 1024 added in
      let room : length (with_room_for s c gs) + one_if (not (has_group s c (with_room_for s c gs))) ≤ 2048 = room_for-length s c gs is.few is.groups in
      let long : length added ≤ length (with_room_for s c gs) + one_if (not (has_group s c (with_room_for s c gs))) = length-add_last s c x (with_room_for s c gs) in
      record {
        apart = apart-within maximum 1024 added (apart-add_last s c x _ (apart-with_room_for s c gs is.apart));
        size = kept.size;
        few = kept.count;
        groups = omega (arith, kept.groups, long, room);
      }
]

-- nothing is pooled that was not pooled or put
pub pool_put_number : (maximum s : ℕ) (c : Config) (x b : ℕ) (gs : List (Group ℕ)) → occurrences b (pooled (pool_put maximum s c x gs)) ≤ occurrences b (pooled gs) + one_if (eqb x b)
pool_put_number maximum s c x b gs = elim (ltb maximum s) as (λ t. occurrences b (pooled (cond t gs (pool_trim maximum (add_last s c x (with_room_for s c gs))))) ≤ occurrences b (pooled gs) + one_if (eqb x b)) [
  | true ↦ omega arith
  | false ↦
      let added = add_last s c x (with_room_for s c gs) in
      let kept : IsKept b maximum 1024 added (pool_trim maximum added) = pool_within_keeps b maximum 1024 added in
      let one_more : occurrences b (pooled added) ≡ occurrences b (pooled (with_room_for s c gs)) + one_if (eqb x b) = number-add_last s c x b (with_room_for s c gs) in
      let same : occurrences b (pooled (with_room_for s c gs)) ≡ occurrences b (pooled gs) = ap (occurrences b) (same_with_room_for s c gs).bitmaps in
      omega (arith, kept.number, one_more, same)
]

pub pool_trim_number : (room b : ℕ) (gs : List (Group ℕ)) → occurrences b (pooled (pool_trim room gs)) ≤ occurrences b (pooled gs)
pool_trim_number room b gs = (pool_within_keeps b room 1024 gs).number

-- ---- looking up

-- what has a size and config, and what has not, are all
record Parts (s b : ℕ) (gs mine others : List (Group ℕ)) (has : Bool) : Type 0 where
  size : pool_size gs ≡ s * length (pooled mine) + pool_size others
  count : pool_count gs ≡ length (pooled mine) + pool_count others
  number : occurrences b (pooled gs) ≡ occurrences b (pooled mine) + occurrences b (pooled others)
  groups : length others + one_if has ≤ length gs

split_sum : (s n m : ℕ) → s * (n + m) ≡ s * n + s * m
split_sum s n m = omega arith

parts : (s : ℕ) (c : Config) (b : ℕ) (gs : List (Group ℕ)) → Parts s b gs (filter (is_group s c) gs) (others_of s c gs) (has_group s c gs)
parts s c b [] = record { size = omega arith; count = omega arith; number = omega arith; groups = omega arith }
parts s c b (g ∷ gs) =
    let ps = filter (is_group s c) gs in
    let os = others_of s c gs in
    let rest : Parts s b gs ps os (has_group s c gs) = parts s c b gs in
    let here : occurrences b (pooled (g ∷ gs)) ≡ occurrences b g.items + occurrences b (pooled gs) = occurrences-append b g.items (pooled gs) in
    elim (is_group s c g) as (λ t. is_group s c g ≡ t → Parts s b (g ∷ gs) (cond t (g ∷ ps) ps) (cond (not t) (g ∷ os) os) (t || has_group s c gs)) [
      | true ↦ λ e.
          let same : g.size ≡ s = eqb-true g.size s (and_parts _ _ e).0 in
          let bytes : g.size * length g.items ≡ s * length g.items = ap (λ n. n * length g.items) same in
          let long : length (pooled (g ∷ ps)) ≡ length g.items + length (pooled ps) = length-append g.items (pooled ps) in
          let all_bytes : s * length (pooled (g ∷ ps)) ≡ s * length g.items + s * length (pooled ps) = ap (λ n. s * n) long ∙ split_sum s _ _ in
          let there : occurrences b (pooled (g ∷ ps)) ≡ occurrences b g.items + occurrences b (pooled ps) = occurrences-append b g.items (pooled ps) in
          record {
            size = omega (arith, rest.size, bytes, all_bytes);
            count = omega (arith, rest.count, long);
            number = omega (arith, rest.number, here, there);
            groups = omega (arith, rest.groups);
          }
      | false ↦ λ e.
          let there : occurrences b (pooled (g ∷ os)) ≡ occurrences b g.items + occurrences b (pooled os) = occurrences-append b g.items (pooled os) in
          record {
            size = omega (arith, rest.size);
            count = omega (arith, rest.count);
            number = omega (arith, rest.number, here, there);
            groups = omega (arith, rest.groups);
          }
    ] refl

pub pick_is : (maximum s : ℕ) (c : Config) (gs : List (Group ℕ)) → PoolIs maximum gs → PoolIs maximum (pick_at s c gs).groups
pick_is maximum s c gs is =
    let hs = with_room_for s c gs in
    let same : SamePooled gs hs = same_with_room_for s c gs in
    let split : Parts s 0 hs (filter (is_group s c) hs) (others_of s c hs) (has_group s c hs) = parts s c 0 hs in
    let room : length hs + one_if (not (has_group s c hs)) ≤ 2048 = room_for-length s c gs is.few is.groups in
    let one : one_if (has_group s c hs) + one_if (not (has_group s c hs)) ≡ 1 = elim (has_group s c hs) as (λ t. one_if t + one_if (not t) ≡ 1) [ true ↦ refl | false ↦ refl ] in
    let items = items_of s c hs in
    let few : length (take (length items - 1) items) ≤ length items = omega (arith, length-take (length items - 1) items) in
    let bytes : s * length (take (length items - 1) items) ≤ s * length items = times-le s _ _ few in
    record {
      apart = (has-others s c hs, apart-filter (λ g. not (is_group s c g)) hs (apart-with_room_for s c gs is.apart));
      size = omega (arith, split.size, same.size, is.size, bytes);
      few = omega (arith, split.count, same.count, is.few, few);
      groups = omega (arith, split.groups, room, one);
    }

-- what comes out, and what stays, is what was pooled
pub pick_number : (s : ℕ) (c : Config) (b : ℕ) (gs : List (Group ℕ)) → occurrences b (pooled gs) ≡ occurrences b (pooled (pick_at s c gs).groups) + found_at b (pick_at s c gs).found
pick_number s c b gs =
    let hs = with_room_for s c gs in
    let items = items_of s c hs in
    let split : Parts s b hs (filter (is_group s c) hs) (others_of s c hs) (has_group s c hs) = parts s c b hs in
    let same : occurrences b (pooled hs) ≡ occurrences b (pooled gs) = ap (occurrences b) (same_with_room_for s c gs).bitmaps in
    let last : occurrences b items ≡ occurrences b (take (length items - 1) items) + found_at b (slice_get items (length items - 1)) = occurrences-last b items in
    let kept : occurrences b (take (length items - 1) items ++ pooled (others_of s c hs)) ≡ occurrences b (take (length items - 1) items) + occurrences b (pooled (others_of s c hs)) = occurrences-append b (take (length items - 1) items) (pooled (others_of s c hs)) in
    omega (arith, split.number, same, last, kept)

least_size-within : (c : Config) (low high n : ℕ) (gs : List (Group ℕ)) → least_size c low high gs ≡ Some n → (low ≤ n) × (n ≤ high)
least_size-within c low high n [] e = absurd (not_Some e)
least_size-within c low high n (g ∷ gs) e =
    elim (same_config g.config c && not (is_empty g) && leb low g.size && leb g.size high) as (λ t. (same_config g.config c && not (is_empty g) && leb low g.size && leb g.size high) ≡ t
    → cond t (Some (least_with g.size (least_size c low high gs))) (least_size c low high gs) ≡ Some n → (low ≤ n) × (n ≤ high)) [
      | true ↦ λ is e.
          let above : low ≤ g.size = leb-true _ _ (and_parts _ _ (and_parts _ _ is).0).1 in
          let below : g.size ≤ high = leb-true _ _ (and_parts _ _ is).1 in
          let here : least_with g.size (least_size c low high gs) ≡ n = same_Some _ _ e in
          elim (least_size c low high gs) as (λ m. least_size c low high gs ≡ m → least_with g.size m ≡ n → (low ≤ n) × (n ≤ high)) [
            | None ↦ λ f at. (omega (arith, above, at), omega (arith, below, at))
            | Some m ↦ λ f at.
                let rest : (low ≤ m) × (m ≤ high) = least_size-within c low high m gs f in
                elim (ltb m g.size) as (λ t. cond t m g.size ≡ n → (low ≤ n) × (n ≤ high)) [
                  | true ↦ λ at. (omega (arith, rest, at), omega (arith, rest, at))
                  | false ↦ λ at. (omega (arith, above, at), omega (arith, below, at))
                ] at
          ] refl here
      | false ↦ λ is e. least_size-within c low high n gs e
    ] refl e

-- the size that serves is large enough, and at most 8 times as large
pub serving_size-within : (c : Config) (wanted : ℕ) (gs : List (Group ℕ)) → (wanted ≤ serving_size c wanted gs) × (serving_size c wanted gs ≤ 8 * wanted)
serving_size-within c wanted gs = elim (least_size c wanted (8 * wanted) gs) as (λ m. least_size c wanted (8 * wanted) gs ≡ m → (wanted ≤ unwrap_or m wanted) × (unwrap_or m wanted ≤ 8 * wanted)) [
  | None ↦ λ e. (omega arith, omega arith)
  | Some n ↦ λ e. least_size-within c wanted (8 * wanted) n gs e
] refl
