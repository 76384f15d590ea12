-- What eviction, a new group and a look-up do to the two vectors.
use Rattle.std.proofs.Common.{◌≡◌, ℕ, ◌+◌, ◌-◌, ◌*◌, ◌<◌, ◌≤◌, Bool, true, false, cond, eqb, List, [], ◌∷◌, ◌++◌, length, take, map, refl, ap, sym, subst, ◌∙◌, arith}
use Rattle.std.specs.Prelude.{◌||◌, ◌&&◌, not, filter, sum_by, slice_get}
use Rattle.std.specs.List.{list_any, remove}
use Rattle.std.proofs.lemmas.Bool.{ne_eqb}
use Rattle.std.proofs.lemmas.List.{append-nil}
use Rattle.std.proofs.lemmas.List.Sums.{sum_by-cons}
use Rattle.bitmap_kind.specs.declared.bitmaps.Config.{Config}
use Rattle.bitmap_kind.specs.Picture.{BitmapValue}
use Rattle.bitmap_pool.specs.Pool.{Group, pool_size, pool_count, pooled, is_group, is_empty, items_of, others_of, without_last, pick_among}
use Rattle.bitmap_pool.specs.Evicting.{evict_one}
use Rattle.bitmap_pool.specs.declared.groups.GroupKey.{GroupKey}
use Rattle.bitmap_pool.specs.inside.GroupsView.{is_key, has_key, is_of, is_bare, allocation_in, group_of, groups_of, KeysApart, ArePlaced}
use Rattle.bitmap_pool.proofs.Lasts.{or_left, or_right, filter_none, some_filter, filter_without_last, filter_other, without_last_of_map, filter_of_map}
use Rattle.bitmap_pool.proofs.Stored.{clash, key_is, not_of, has_key-same, filter-same, groups_of_others, groups_of_cons, none_of, key_turned}

-- ---- a group without a bitmap

any_length : {A : Type 0} (p : A → Bool) (xs : List A) → eqb (length (filter p xs)) 0 ≡ not (list_any p xs)
any_length {A = A} p xs = elim (list_any p xs) as (λ t. list_any p xs ≡ t → eqb (length (filter p xs)) 0 ≡ not t) [
  | true ↦ λ e. let some : 0 < length (filter p xs) = some_filter p xs e in ne_eqb _ _ (λ is. absurd (omega (arith, is, some)))
  | false ↦ λ e. ap (λ (l : List A). eqb (length l) 0) (filter_none p xs e)
] refl

pub bare_is : (bs : List BitmapValue) (k : GroupKey) → is_empty (group_of bs k) ≡ is_bare bs k
bare_is bs k = any_length (is_of k.size k.config) bs

same_last : {A : Type 0} (p q : A → Bool) → ((x : A) → p x ≡ q x) → (xs : List A) → (list_any p xs ≡ list_any q xs) × (without_last p xs ≡ without_last q xs)
same_last p q same [] = (refl, refl)
same_last p q same (x ∷ xs) =
    let rest = same_last p q same xs in (
      ap (λ t. t || list_any p xs) (same x) ∙ ap (λ t. q x || t) rest.0,
      ap (λ t. cond t (x ∷ without_last p xs) (cond (p x) xs (x ∷ xs))) rest.0
          ∙ ap (λ l. cond (list_any q xs) (x ∷ l) (cond (p x) xs (x ∷ xs))) rest.1
          ∙ ap (λ t. cond (list_any q xs) (x ∷ without_last q xs) (cond t xs (x ∷ xs))) (same x),
    )

-- the empty group nearest the tail goes
pub groups_without_bare : (ks : List GroupKey) (bs : List BitmapValue) → without_last is_empty (groups_of ks bs) ≡ groups_of (without_last (is_bare bs) ks) bs
groups_without_bare ks bs = without_last_of_map (group_of bs) is_empty ks ∙ ap (map (group_of bs)) ((same_last (λ k. is_empty (group_of bs k)) (is_bare bs) (bare_is bs) ks).1)

pub none_without : {A : Type 0} (p q : A → Bool) (xs : List A) → list_any p xs ≡ false → list_any p (without_last q xs) ≡ false
none_without p q [] none = refl
none_without p q (x ∷ xs) none = elim (list_any q xs) as (λ t. list_any p (cond t (x ∷ without_last q xs) (cond (q x) xs (x ∷ xs))) ≡ false) [
  | true ↦ ap (λ t. t || list_any p (without_last q xs)) (or_left _ _ none) ∙ none_without p q xs (or_right _ _ none)
  | false ↦ elim (q x) as (λ t. list_any p (cond t xs (x ∷ xs)) ≡ false) [ true ↦ or_right _ _ none | false ↦ none ]
]

some_without : {A : Type 0} (p q : A → Bool) → ((x : A) → q x ≡ true → p x ≡ false) → (xs : List A) → list_any p xs ≡ true → list_any p (without_last q xs) ≡ true
some_without p q apart [] some = cc
some_without p q apart (x ∷ xs) some = elim (list_any q xs) as (λ t. list_any p (cond t (x ∷ without_last q xs) (cond (q x) xs (x ∷ xs))) ≡ true) [
  | true ↦ elim (p x) as (λ t. (t || list_any p xs) ≡ true → (t || list_any p (without_last q xs)) ≡ true) [ true ↦ λ e. refl | false ↦ λ e. some_without p q apart xs e ] some
  | false ↦ elim (q x) as (λ t. q x ≡ t → list_any p (cond t xs (x ∷ xs)) ≡ true) [
    | true ↦ λ e. sym (ap (λ t. t || list_any p xs) (apart x e)) ∙ some
    | false ↦ λ e. some
  ] refl
]

pub apart_without : (q : GroupKey → Bool) (ks : List GroupKey) → KeysApart ks → KeysApart (without_last q ks)
apart_without q [] apart = tt
apart_without q (k ∷ ks) apart = elim (list_any q ks) as (λ t. KeysApart (cond t (k ∷ without_last q ks) (cond (q k) ks (k ∷ ks)))) [
  | true ↦ (none_without (is_key k.size k.config) q ks apart.0, apart_without q ks apart.1)
  | false ↦ elim (q k) as (λ t. KeysApart (cond t ks (k ∷ ks))) [ true ↦ apart.1 | false ↦ apart ]
]

-- no bitmap of these is of a group for which the test holds
placed_apart : (q : GroupKey → Bool) (ks : List GroupKey) (bs : List BitmapValue) → ((k : GroupKey) → q k ≡ true → list_any (is_of k.size k.config) bs ≡ false) → ArePlaced ks bs → ArePlaced (without_last q ks) bs
placed_apart q ks [] bare placed = tt
placed_apart q ks (b ∷ bs) bare placed = (
  some_without (is_key b.allocation b.picture.config) q (λ k e. or_left _ _ (bare k e)) ks placed.0,
  placed_apart q ks bs (λ k e. or_right _ _ (bare k e)) placed.1,
)

bare_none : (bs : List BitmapValue) (k : GroupKey) → is_bare bs k ≡ true → list_any (is_of k.size k.config) bs ≡ false
bare_none bs k e = elim (list_any (is_of k.size k.config) bs) as (λ t. not t ≡ true → t ≡ false) [ true ↦ λ e. sym e | false ↦ λ e. refl ] e

pub placed_without_bare : (ks : List GroupKey) (bs : List BitmapValue) → ArePlaced ks bs → ArePlaced (without_last (is_bare bs) ks) bs
placed_without_bare ks bs placed = placed_apart (is_bare bs) ks bs (bare_none bs) placed

-- ---- sums

size_cons : (b : BitmapValue) (ks : List GroupKey) (bs : List BitmapValue) → KeysApart ks → has_key b.allocation b.picture.config ks ≡ true
    → (pool_size (groups_of ks (b ∷ bs)) ≡ b.allocation + pool_size (groups_of ks bs)) × (pool_count (groups_of ks (b ∷ bs)) ≡ 1 + pool_count (groups_of ks bs))
size_cons b [] bs apart some = absurd (let no : false ≡ true = some in cc)
size_cons b (k ∷ ks) bs apart some =
    let s : ℕ = b.allocation in
    let c : Config = b.picture.config in
    let items : List BitmapValue = filter (is_of k.size k.config) bs in
    elim (is_key s c k) as (λ t. is_key s c k ≡ t → (k.size * length (cond t (b ∷ items) items) + pool_size (groups_of ks (b ∷ bs)) ≡ s + (k.size * length items + pool_size (groups_of ks bs))) × (length (cond t (b ∷ items) items) + pool_count (groups_of ks (b ∷ bs)) ≡ 1 + (length items + pool_count (groups_of ks bs)))) [
      | true ↦ λ e.
          let same : groups_of ks (b ∷ bs) ≡ groups_of ks bs = groups_of_cons b ks bs (sym (has_key-same s c k ks e) ∙ apart.0) in
          let sizes : pool_size (groups_of ks (b ∷ bs)) ≡ pool_size (groups_of ks bs) = ap pool_size same in
          let counts : pool_count (groups_of ks (b ∷ bs)) ≡ pool_count (groups_of ks bs) = ap pool_count same in
          let is : k.size ≡ s = (key_is s c k e).0 in
          (omega (arith, sizes, is), omega (arith, counts))
      | false ↦ λ e.
          let rest = size_cons b ks bs apart.1 (sym (ap (λ t. t || has_key s c ks) e) ∙ some) in
          let sizes : pool_size (groups_of ks (b ∷ bs)) ≡ s + pool_size (groups_of ks bs) = rest.0 in
          let counts : pool_count (groups_of ks (b ∷ bs)) ≡ 1 + pool_count (groups_of ks bs) = rest.1 in
          (omega (arith, sizes), omega (arith, counts))
    ] refl

size_none : (ks : List GroupKey) → (pool_size (groups_of ks []) ≡ 0) × (pool_count (groups_of ks []) ≡ 0)
size_none [] = (refl, refl)
size_none (k ∷ ks) = let rest = size_none ks in
    let sizes : pool_size (groups_of ks []) ≡ 0 = rest.0 in
    let counts : pool_count (groups_of ks []) ≡ 0 = rest.1 in
    (omega (arith, sizes), omega (arith, counts))

pub sums : (ks : List GroupKey) (bs : List BitmapValue) → KeysApart ks → ArePlaced ks bs → (pool_size (groups_of ks bs) ≡ sum_by allocation_in bs) × (pool_count (groups_of ks bs) ≡ length bs)
sums ks [] apart placed = size_none ks
sums ks (b ∷ bs) apart placed =
    let more = size_cons b ks bs apart placed.0 in
    let rest = sums ks bs apart placed.1 in
    let size : pool_size (groups_of ks (b ∷ bs)) ≡ b.allocation + pool_size (groups_of ks bs) = more.0 in
    let count : pool_count (groups_of ks (b ∷ bs)) ≡ 1 + pool_count (groups_of ks bs) = more.1 in
    let size_rest : pool_size (groups_of ks bs) ≡ sum_by allocation_in bs = rest.0 in
    let count_rest : pool_count (groups_of ks bs) ≡ length bs = rest.1 in
    let sum : sum_by allocation_in (b ∷ bs) ≡ b.allocation + sum_by allocation_in bs = sum_by-cons allocation_in b bs in
    (omega (arith, size, size_rest, sum), omega (arith, count, count_rest))

-- groups none of which is empty are no more than their bitmaps
pub few_full : {A : Type 0} (gs : List (Group A)) → list_any is_empty gs ≡ false → length gs ≤ pool_count gs
few_full [] none = omega arith
few_full {A = A} (g ∷ gs) none =
    let some : eqb (length g.items) 0 ≡ false = or_left _ _ none in
    let rest : length gs ≤ pool_count gs = few_full gs (or_right _ _ none) in
    let more : 0 < length g.items = elim g.items as (λ (l : List A). eqb (length l) 0 ≡ false → 0 < length l) [ [] ↦ λ e. absurd (let no : true ≡ false = e in cc) | x ∷ xs ↦ λ e. omega arith ] some in
    omega (arith, rest, more)

pub any_bare : (ks : List GroupKey) (bs : List BitmapValue) → list_any is_empty (groups_of ks bs) ≡ list_any (is_bare bs) ks
any_bare [] bs = refl
any_bare (k ∷ ks) bs = ap (λ t. t || list_any is_empty (groups_of ks bs)) (bare_is bs k) ∙ ap (λ t. is_bare bs k || t) (any_bare ks bs)

-- ---- eviction

-- the last of these groups
abbrev pub IsTail : GroupKey → List GroupKey → Type 0
IsTail t [] = ⊥
IsTail t (k ∷ []) = k ≡ t
IsTail t (k ∷ h ∷ ks) = IsTail t (h ∷ ks)

pub tail_is : (ks : List GroupKey) (d : GroupKey) → 0 < length ks → IsTail (Rattle.std.specs.Prelude.slice_index_or ks (length ks - 1) d) ks
tail_is [] d some = absurd (omega (arith, some))
tail_is (k ∷ []) d some = ap (λ n. Rattle.std.specs.Prelude.slice_index_or (k ∷ []) n d) (let z : 0 ≡ length (k ∷ []) - 1 = omega arith in z)
tail_is (k ∷ h ∷ ks) d some =
    let rest : IsTail (Rattle.std.specs.Prelude.slice_index_or (h ∷ ks) (length (h ∷ ks) - 1) d) (h ∷ ks) = tail_is (h ∷ ks) d (omega arith) in
    let long : Rattle.std.specs.Prelude.suc (length (h ∷ ks) - 1) ≡ length (k ∷ h ∷ ks) - 1 = omega arith in
    subst (λ n. IsTail (Rattle.std.specs.Prelude.slice_index_or (k ∷ h ∷ ks) n d) (h ∷ ks)) long rest

tail_there : (t : GroupKey) (s : ℕ) (c : Config) (ks : List GroupKey) → IsTail t ks → is_key s c t ≡ true → has_key s c ks ≡ true
tail_there t s c [] is e = absurd is
tail_there t s c (k ∷ []) is e = ap (λ x. is_key s c x || false) is ∙ ap (λ b. b || false) e
tail_there t s c (k ∷ h ∷ ks) is e = elim (is_key s c k) as (λ b. (b || has_key s c (h ∷ ks)) ≡ true) [ true ↦ refl | false ↦ tail_there t s c (h ∷ ks) is e ]

apart_tail : (t k : GroupKey) (ks : List GroupKey) → IsTail t ks → has_key k.size k.config ks ≡ false → is_key t.size t.config k ≡ false
apart_tail t k ks is none = elim (is_key k.size k.config t) as (λ b. is_key k.size k.config t ≡ b → is_key t.size t.config k ≡ false) [
  | true ↦ λ e. clash (has_key k.size k.config ks) (tail_there t k.size k.config ks is e) none
  | false ↦ λ e. key_turned k.size k.config t e
] refl

-- the tail group has a bitmap: its last goes
pub evict_some : (t : GroupKey) (ks : List GroupKey) (bs : List BitmapValue) → IsTail t ks → KeysApart ks → list_any (is_of t.size t.config) bs ≡ true
    → groups_of ks (without_last (is_of t.size t.config) bs) ≡ evict_one (groups_of ks bs)
evict_some t [] bs is apart some = absurd is
evict_some t (k ∷ []) bs is apart some =
    let there : list_any (is_of k.size k.config) bs ≡ true = ap (λ (x : GroupKey). list_any (is_of x.size x.config) bs) is ∙ some in
    let full : is_empty (group_of bs k) ≡ false = bare_is bs k ∙ ap not there in
    ap (λ (x : GroupKey). groups_of (k ∷ []) (without_last (is_of x.size x.config) bs)) (sym is)
    ∙ ap (λ (l : List BitmapValue). record { size = k.size; config = k.config; items = l } ∷ []) (filter_without_last (is_of k.size k.config) bs)
    ∙ sym (ap (λ b. cond b [] (record { size = k.size; config = k.config; items = take (length (filter (is_of k.size k.config) bs) - 1) (filter (is_of k.size k.config) bs) } ∷ [])) full)
evict_some t (k ∷ h ∷ ks) bs is apart some =
    ap (λ (l : List BitmapValue). record { size = k.size; config = k.config; items = l } ∷ groups_of (h ∷ ks) (without_last (is_of t.size t.config) bs))
    (filter_other (is_of t.size t.config) (is_of k.size k.config) (not_of t.size t.config k (apart_tail t k (h ∷ ks) is apart.0)) bs)
    ∙ ap (λ l. group_of bs k ∷ l) (evict_some t (h ∷ ks) bs is apart.1 some)

-- it has none: it goes
pub evict_none : (t : GroupKey) (ks : List GroupKey) (bs : List BitmapValue) → IsTail t ks → list_any (is_of t.size t.config) bs ≡ false
    → (without_last (is_bare bs) ks ≡ take (length ks - 1) ks) × (list_any (is_bare bs) ks ≡ true) × (groups_of (without_last (is_bare bs) ks) bs ≡ evict_one (groups_of ks bs))
evict_none t [] bs is none = absurd is
evict_none t (k ∷ []) bs is none =
    let bare : is_bare bs k ≡ true = ap not (ap (λ (x : GroupKey). list_any (is_of x.size x.config) bs) is ∙ none) in
    let empty : is_empty (group_of bs k) ≡ true = bare_is bs k ∙ bare in
    let gone : without_last (is_bare bs) (k ∷ []) ≡ [] = ap (λ b. cond b [] (k ∷ [])) bare in (
      gone ∙ ap (λ n. take n (k ∷ [])) (let z : 0 ≡ length (k ∷ []) - 1 = omega arith in z),
      ap (λ b. b || false) bare,
      ap (λ l. groups_of l bs) gone ∙ sym (ap (λ b. cond b [] (record { size = k.size; config = k.config; items = take (length (filter (is_of k.size k.config) bs) - 1) (filter (is_of k.size k.config) bs) } ∷ [])) empty),
    )
evict_none t (k ∷ h ∷ ks) bs is none =
    let rest = evict_none t (h ∷ ks) bs is none in
    let long : Rattle.std.specs.Prelude.suc (length (h ∷ ks) - 1) ≡ length (k ∷ h ∷ ks) - 1 = omega arith in
    let step : without_last (is_bare bs) (k ∷ h ∷ ks) ≡ k ∷ without_last (is_bare bs) (h ∷ ks) = ap (λ b. cond b (k ∷ without_last (is_bare bs) (h ∷ ks)) (cond (is_bare bs k) (h ∷ ks) (k ∷ h ∷ ks))) rest.1 in (
      step ∙ ap (λ l. k ∷ l) rest.0 ∙ ap (λ n. take n (k ∷ h ∷ ks)) long,
      elim (is_bare bs k) as (λ b. (b || list_any (is_bare bs) (h ∷ ks)) ≡ true) [ true ↦ refl | false ↦ rest.1 ],
      ap (λ l. groups_of l bs) step ∙ ap (λ l. group_of bs k ∷ l) rest.2,
    )

-- ---- a look-up

any_kept : (s : ℕ) (c : Config) (p : GroupKey → Bool) (ks : List GroupKey) → list_any p ks ≡ false → list_any p (filter (λ k. not (is_key s c k)) ks) ≡ false
any_kept s c p [] none = refl
any_kept s c p (k ∷ ks) none = elim (is_key s c k) as (λ t. list_any p (cond (not t) (k ∷ filter (λ k. not (is_key s c k)) ks) (filter (λ k. not (is_key s c k)) ks)) ≡ false) [
  | true ↦ any_kept s c p ks (or_right _ _ none)
  | false ↦ ap (λ t. t || list_any p (filter (λ k. not (is_key s c k)) ks)) (or_left _ _ none) ∙ any_kept s c p ks (or_right _ _ none)
]

others_apart : (s : ℕ) (c : Config) (ks : List GroupKey) → KeysApart ks → KeysApart (filter (λ k. not (is_key s c k)) ks)
others_apart s c [] apart = tt
others_apart s c (k ∷ ks) apart = elim (is_key s c k) as (λ t. KeysApart (cond (not t) (k ∷ filter (λ k. not (is_key s c k)) ks) (filter (λ k. not (is_key s c k)) ks))) [
  | true ↦ others_apart s c ks apart.1
  | false ↦ (any_kept s c (is_key k.size k.config) ks apart.0, others_apart s c ks apart.1)
]

pub none_kept : (s : ℕ) (c : Config) (ks : List GroupKey) → has_key s c (filter (λ k. not (is_key s c k)) ks) ≡ false
none_kept s c [] = refl
none_kept s c (k ∷ ks) = elim (is_key s c k) as (λ t. is_key s c k ≡ t → has_key s c (cond (not t) (k ∷ filter (λ k. not (is_key s c k)) ks) (filter (λ k. not (is_key s c k)) ks)) ≡ false) [
  | true ↦ λ e. none_kept s c ks
  | false ↦ λ e. ap (λ t. t || has_key s c (filter (λ k. not (is_key s c k)) ks)) e ∙ none_kept s c ks
] refl

pub apart_headed : (s : ℕ) (c : Config) (ks : List GroupKey) → KeysApart ks → KeysApart (record { size = s; config = c } ∷ filter (λ k. not (is_key s c k)) ks)
apart_headed s c ks apart = (none_kept s c ks, others_apart s c ks apart)

headed_there : (s : ℕ) (c : Config) (n : ℕ) (d : Config) (ks : List GroupKey) → has_key n d ks ≡ true → has_key n d (record { size = s; config = c } ∷ filter (λ k. not (is_key s c k)) ks) ≡ true
headed_there s c n d [] some = absurd (let no : false ≡ true = some in cc)
headed_there s c n d (k ∷ ks) some =
    let head : Bool = is_key n d (record { size = s; config = c }) in
    elim (is_key s c k) as (λ t. is_key s c k ≡ t → (head || has_key n d (cond (not t) (k ∷ filter (λ k. not (is_key s c k)) ks) (filter (λ k. not (is_key s c k)) ks))) ≡ true) [
      | true ↦ λ e. elim (is_key n d k) as (λ t. is_key n d k ≡ t → (head || has_key n d (filter (λ k. not (is_key s c k)) ks)) ≡ true) [
        | true ↦ λ f.
            let is : (k.size ≡ s) × (k.config ≡ c) = key_is s c k e in
            let here : head ≡ true = ap (λ x. eqb x n && Rattle.cache_key.specs.Key.same_config c d) (sym is.0) ∙ ap (λ x. eqb k.size n && Rattle.cache_key.specs.Key.same_config x d) (sym is.1) ∙ f in
            ap (λ t. t || has_key n d (filter (λ k. not (is_key s c k)) ks)) here
        | false ↦ λ f. headed_there s c n d ks (sym (ap (λ t. t || has_key n d ks) f) ∙ some)
      ] refl
      | false ↦ λ e. elim head as (λ t. head ≡ t → (t || (is_key n d k || has_key n d (filter (λ k. not (is_key s c k)) ks))) ≡ true) [
        | true ↦ λ f. refl
        | false ↦ λ f. elim (is_key n d k) as (λ t. (t || has_key n d ks) ≡ true → (t || has_key n d (filter (λ k. not (is_key s c k)) ks)) ≡ true) [
          | true ↦ λ g. refl
          | false ↦ λ g. sym (ap (λ t. t || has_key n d (filter (λ k. not (is_key s c k)) ks)) f) ∙ headed_there s c n d ks g
        ] some
      ] refl
    ] refl

pub placed_headed : (s : ℕ) (c : Config) (ks : List GroupKey) (bs : List BitmapValue) → ArePlaced ks bs → ArePlaced (record { size = s; config = c } ∷ filter (λ k. not (is_key s c k)) ks) bs
placed_headed s c ks [] placed = tt
placed_headed s c ks (b ∷ bs) placed = (headed_there s c b.allocation b.picture.config ks placed.0, placed_headed s c ks bs placed.1)

items_absent : (s : ℕ) (c : Config) (ks : List GroupKey) (bs : List BitmapValue) → has_key s c ks ≡ false → items_of s c (groups_of ks bs) ≡ []
items_absent s c [] bs none = refl
items_absent s c (k ∷ ks) bs none = ap (λ t. pooled (cond t (group_of bs k ∷ filter (is_group s c) (groups_of ks bs)) (filter (is_group s c) (groups_of ks bs)))) (or_left _ _ none) ∙ items_absent s c ks bs (or_right _ _ none)

items_there : (s : ℕ) (c : Config) (ks : List GroupKey) (bs : List BitmapValue) → KeysApart ks → has_key s c ks ≡ true → items_of s c (groups_of ks bs) ≡ filter (is_of s c) bs
items_there s c [] bs apart some = absurd (let no : false ≡ true = some in cc)
items_there s c (k ∷ ks) bs apart some = elim (is_key s c k) as (λ t. is_key s c k ≡ t → pooled (cond t (group_of bs k ∷ filter (is_group s c) (groups_of ks bs)) (filter (is_group s c) (groups_of ks bs))) ≡ filter (is_of s c) bs) [
  | true ↦ λ e.
      ap (λ l. filter (is_of k.size k.config) bs ++ l) (items_absent s c ks bs (sym (has_key-same s c k ks e) ∙ apart.0))
      ∙ append-nil (filter (is_of k.size k.config) bs) ∙ filter-same s c k bs e
  | false ↦ λ e. items_there s c ks bs apart.1 (sym (ap (λ t. t || has_key s c ks) e) ∙ some)
] refl

pub items_are : (s : ℕ) (c : Config) (ks : List GroupKey) (bs : List BitmapValue) → KeysApart ks → ArePlaced ks bs → items_of s c (groups_of ks bs) ≡ filter (is_of s c) bs
items_are s c ks bs apart placed = elim (has_key s c ks) as (λ t. has_key s c ks ≡ t → items_of s c (groups_of ks bs) ≡ filter (is_of s c) bs) [
  | true ↦ λ e. items_there s c ks bs apart e
  | false ↦ λ e. items_absent s c ks bs e ∙ sym (filter_none (is_of s c) bs (none_of s c ks bs placed e))
] refl

-- the group of this size and config at the head, without its last bitmap
pub headed_is : (s : ℕ) (c : Config) (ks : List GroupKey) (bs : List BitmapValue) → KeysApart ks → ArePlaced ks bs
    → groups_of (record { size = s; config = c } ∷ filter (λ k. not (is_key s c k)) ks) (without_last (is_of s c) bs) ≡ (pick_among s c (groups_of ks bs)).groups
headed_is s c ks bs apart placed =
    let items : items_of s c (groups_of ks bs) ≡ filter (is_of s c) bs = items_are s c ks bs apart placed in
    let left : filter (is_of s c) (without_last (is_of s c) bs) ≡ take (length (items_of s c (groups_of ks bs)) - 1) (items_of s c (groups_of ks bs)) =
    filter_without_last (is_of s c) bs ∙ sym (ap (λ (l : List BitmapValue). take (length l - 1) l) items) in
    let others : groups_of (filter (λ k. not (is_key s c k)) ks) (without_last (is_of s c) bs) ≡ others_of s c (groups_of ks bs) =
    groups_of_others s c (filter (λ k. not (is_key s c k)) ks) bs (none_kept s c ks) ∙ sym (filter_of_map (group_of bs) (λ g. not (is_group s c g)) ks) in
    λ i. record { size = s; config = c; items = left i } ∷ others i

pub found_is : (s : ℕ) (c : Config) (ks : List GroupKey) (bs : List BitmapValue) → KeysApart ks → ArePlaced ks bs
    → slice_get (filter (is_of s c) bs) (length (filter (is_of s c) bs) - 1) ≡ (pick_among s c (groups_of ks bs)).found
found_is s c ks bs apart placed = sym (ap (λ (l : List BitmapValue). slice_get l (length l - 1)) (items_are s c ks bs apart placed))
