-- The groups that the two vectors stand for, and what each change of a vector does to them.
use Rattle.std.proofs.Common.{◌≡◌, ℕ, Bool, true, false, cond, eqb, List, [], ◌∷◌, ◌++◌, refl, ap, sym, ◌∙◌}
use Rattle.std.specs.Prelude.{◌||◌, ◌&&◌, filter}
use Rattle.std.specs.List.{list_any}
use Rattle.std.proofs.lemmas.Bool.{eqb-true, eq-eqb, and_parts}
use Rattle.bitmap_kind.specs.declared.bitmaps.Config.{Config}
use Rattle.bitmap_kind.specs.Picture.{BitmapValue}
use Rattle.cache_key.specs.Key.{same_config}
use Rattle.cache_key.specs.ConfigLaws.{config_is, config_itself}
use Rattle.bitmap_pool.specs.Pool.{Group, has_group, without_last, add_last}
use Rattle.bitmap_pool.specs.declared.groups.GroupKey.{GroupKey}
use Rattle.bitmap_pool.specs.inside.GroupsView.{is_key, has_key, is_of, group_of, groups_of, KeysApart, ArePlaced}
use Rattle.bitmap_pool.proofs.Lasts.{or_left, or_right, filter_none, filter_other}

pub clash : {P : Type 0} (b : Bool) → b ≡ true → b ≡ false → P
clash b t f = let no : true ≡ false = sym t ∙ f in cc

pub same_itself : (s : ℕ) (c : Config) → (eqb s s && same_config c c) ≡ true
same_itself s c = ap (λ t. t && same_config c c) (eq-eqb s s refl) ∙ config_itself c

-- ---- sizes and configs

pub key_is : (s : ℕ) (c : Config) (k : GroupKey) → is_key s c k ≡ true → (k.size ≡ s) × (k.config ≡ c)
key_is s c k e = (eqb-true _ _ (and_parts _ _ e).0, config_is _ _ (and_parts _ _ e).1)

pub bitmap_is : (s : ℕ) (c : Config) (b : BitmapValue) → is_of s c b ≡ true → (s ≡ b.allocation) × (c ≡ b.picture.config)
bitmap_is s c b e = (eqb-true _ _ (and_parts _ _ e).0, config_is _ _ (and_parts _ _ e).1)

-- a bitmap of one group is of no other
pub not_of : (s : ℕ) (c : Config) (k : GroupKey) → is_key s c k ≡ false → (b : BitmapValue) → is_of s c b ≡ true → is_of k.size k.config b ≡ false
not_of s c k other b e =
    let is : (s ≡ b.allocation) × (c ≡ b.picture.config) = bitmap_is s c b e in
    ap (λ n. eqb k.size n && same_config k.config b.picture.config) (sym is.0) ∙ ap (λ d. eqb k.size s && same_config k.config d) (sym is.1) ∙ other

-- where k is of this size and config, what is asked of the one is asked of the other
pub has_key-same : (s : ℕ) (c : Config) (k : GroupKey) (ks : List GroupKey) → is_key s c k ≡ true → has_key k.size k.config ks ≡ has_key s c ks
has_key-same s c k ks e = let is : (k.size ≡ s) × (k.config ≡ c) = key_is s c k e in ap (λ n. has_key n k.config ks) is.0 ∙ ap (λ d. has_key s d ks) is.1

pub filter-same : (s : ℕ) (c : Config) (k : GroupKey) (bs : List BitmapValue) → is_key s c k ≡ true → filter (is_of k.size k.config) bs ≡ filter (is_of s c) bs
filter-same s c k bs e = let is : (k.size ≡ s) × (k.config ≡ c) = key_is s c k e in ap (λ n. filter (is_of n k.config) bs) is.0 ∙ ap (λ d. filter (is_of s d) bs) is.1

-- ---- bitmaps of another group

-- without the last bitmap of a group that is not there
pub groups_of_others : (s : ℕ) (c : Config) (ks : List GroupKey) (bs : List BitmapValue) → has_key s c ks ≡ false → groups_of ks (without_last (is_of s c) bs) ≡ groups_of ks bs
groups_of_others s c [] bs none = refl
groups_of_others s c (k ∷ ks) bs none =
    let here : filter (is_of k.size k.config) (without_last (is_of s c) bs) ≡ filter (is_of k.size k.config) bs = filter_other (is_of s c) (is_of k.size k.config) (not_of s c k (or_left _ _ none)) bs in
    ap (λ (l : List BitmapValue). record { size = k.size; config = k.config; items = l } ∷ groups_of ks (without_last (is_of s c) bs)) here
    ∙ ap (λ l. group_of bs k ∷ l) (groups_of_others s c ks bs (or_right _ _ none))

-- with a bitmap more of such a group, in front
pub groups_of_cons : (b : BitmapValue) (ks : List GroupKey) (bs : List BitmapValue) → has_key b.allocation b.picture.config ks ≡ false → groups_of ks (b ∷ bs) ≡ groups_of ks bs
groups_of_cons b [] bs none = refl
groups_of_cons b (k ∷ ks) bs none =
    ap (λ t. record { size = k.size; config = k.config; items = cond t (b ∷ filter (is_of k.size k.config) bs) (filter (is_of k.size k.config) bs) } ∷ groups_of ks (b ∷ bs)) (or_left _ _ none)
    ∙ ap (λ l. group_of bs k ∷ l) (groups_of_cons b ks bs (or_right _ _ none))

filter_push_no : (q : BitmapValue → Bool) (bs : List BitmapValue) (b : BitmapValue) → q b ≡ false → filter q (bs ++ b ∷ []) ≡ filter q bs
filter_push_no q [] b e = ap (λ t. cond t (b ∷ []) []) e
filter_push_no q (x ∷ bs) b e = ap (λ l. cond (q x) (x ∷ l) l) (filter_push_no q bs b e)

filter_push_yes : (q : BitmapValue → Bool) (bs : List BitmapValue) (b : BitmapValue) → q b ≡ true → filter q (bs ++ b ∷ []) ≡ filter q bs ++ b ∷ []
filter_push_yes q [] b e = ap (λ t. cond t (b ∷ []) []) e
filter_push_yes q (x ∷ bs) b e = ap (λ l. cond (q x) (x ∷ l) l) (filter_push_yes q bs b e) ∙ (elim (q x) as (λ t. cond t (x ∷ (filter q bs ++ b ∷ [])) (filter q bs ++ b ∷ []) ≡ cond t (x ∷ filter q bs) (filter q bs) ++ b ∷ []) [ true ↦ refl | false ↦ refl ])

-- and at the end
pub groups_of_push : (b : BitmapValue) (ks : List GroupKey) (bs : List BitmapValue) → has_key b.allocation b.picture.config ks ≡ false → groups_of ks (bs ++ b ∷ []) ≡ groups_of ks bs
groups_of_push b [] bs none = refl
groups_of_push b (k ∷ ks) bs none =
    ap (λ (l : List BitmapValue). record { size = k.size; config = k.config; items = l } ∷ groups_of ks (bs ++ b ∷ [])) (filter_push_no (is_of k.size k.config) bs b (or_left _ _ none))
    ∙ ap (λ l. group_of bs k ∷ l) (groups_of_push b ks bs (or_right _ _ none))

-- ---- adding

-- a bitmap whose group is there
pub add_there : (b : BitmapValue) (ks : List GroupKey) (bs : List BitmapValue) → KeysApart ks → has_key b.allocation b.picture.config ks ≡ true
    → groups_of ks (bs ++ b ∷ []) ≡ add_last b.allocation b.picture.config b (groups_of ks bs)
add_there b [] bs apart some = cc
add_there b (k ∷ ks) bs apart some =
    let s : ℕ = b.allocation in
    let c : Config = b.picture.config in
    elim (is_key s c k) as (λ t. is_key s c k ≡ t → groups_of (k ∷ ks) (bs ++ b ∷ []) ≡ cond t (record { size = k.size; config = k.config; items = filter (is_of k.size k.config) bs ++ b ∷ [] } ∷ groups_of ks bs) (group_of bs k ∷ add_last s c b (groups_of ks bs))) [
      | true ↦ λ e.
          ap (λ (l : List BitmapValue). record { size = k.size; config = k.config; items = l } ∷ groups_of ks (bs ++ b ∷ [])) (filter_push_yes (is_of k.size k.config) bs b e)
          ∙ ap (λ l. record { size = k.size; config = k.config; items = filter (is_of k.size k.config) bs ++ b ∷ [] } ∷ l) (groups_of_push b ks bs (sym (has_key-same s c k ks e) ∙ apart.0))
      | false ↦ λ e.
          ap (λ (l : List BitmapValue). record { size = k.size; config = k.config; items = l } ∷ groups_of ks (bs ++ b ∷ [])) (filter_push_no (is_of k.size k.config) bs b e)
          ∙ ap (λ l. group_of bs k ∷ l) (add_there b ks bs apart.1 (sym (ap (λ t. t || has_key s c ks) e) ∙ some))
    ] refl

-- an empty group at the tail that is not there is the new one
pub add_new : (s : ℕ) (c : Config) (b : BitmapValue) (gs : List (Group BitmapValue)) → has_group s c gs ≡ false
    → add_last s c b (gs ++ record { size = s; config = c; items = [] } ∷ []) ≡ add_last s c b gs
add_new s c b [] none = ap (λ t. cond t (record { size = s; config = c; items = b ∷ [] } ∷ []) (record { size = s; config = c; items = [] } ∷ record { size = s; config = c; items = b ∷ [] } ∷ [])) (same_itself s c)
add_new s c b (g ∷ gs) none =
    ap (λ t. cond t (record g { items = g.items ++ b ∷ [] } ∷ (gs ++ record { size = s; config = c; items = [] } ∷ [])) (g ∷ add_last s c b (gs ++ record { size = s; config = c; items = [] } ∷ []))) (or_left _ _ none)
    ∙ ap (λ l. g ∷ l) (add_new s c b gs (or_right _ _ none))
    ∙ sym (ap (λ t. cond t (record g { items = g.items ++ b ∷ [] } ∷ gs) (g ∷ add_last s c b gs)) (or_left _ _ none))

pub has_group_is : (s : ℕ) (c : Config) (ks : List GroupKey) (bs : List BitmapValue) → has_group s c (groups_of ks bs) ≡ has_key s c ks
has_group_is s c [] bs = refl
has_group_is s c (k ∷ ks) bs = ap (λ t. is_key s c k || t) (has_group_is s c ks bs)

-- no bitmap is of a group that is not there
pub none_of : (s : ℕ) (c : Config) (ks : List GroupKey) (bs : List BitmapValue) → ArePlaced ks bs → has_key s c ks ≡ false → list_any (is_of s c) bs ≡ false
none_of s c ks [] placed none = refl
none_of s c ks (b ∷ bs) placed none = elim (is_of s c b) as (λ t. is_of s c b ≡ t → (t || list_any (is_of s c) bs) ≡ false) [
  | true ↦ λ e.
      let is : (s ≡ b.allocation) × (c ≡ b.picture.config) = bitmap_is s c b e in
      clash (has_key s c ks) (ap (λ n. has_key n c ks) is.0 ∙ ap (λ d. has_key b.allocation d ks) is.1 ∙ placed.0) none
  | false ↦ λ e. none_of s c ks bs placed.1 none
] refl

groups_of_more : (ks : List GroupKey) (k : GroupKey) (bs : List BitmapValue) → groups_of (ks ++ k ∷ []) bs ≡ groups_of ks bs ++ group_of bs k ∷ []
groups_of_more [] k bs = refl
groups_of_more (h ∷ ks) k bs = ap (λ l. group_of bs h ∷ l) (groups_of_more ks k bs)

-- a new group at the tail has no bitmap
pub groups_of_new : (s : ℕ) (c : Config) (ks : List GroupKey) (bs : List BitmapValue) → ArePlaced ks bs → has_key s c ks ≡ false
    → groups_of (ks ++ record { size = s; config = c } ∷ []) bs ≡ groups_of ks bs ++ record { size = s; config = c; items = [] } ∷ []
groups_of_new s c ks bs placed none =
    groups_of_more ks (record { size = s; config = c }) bs
    ∙ ap (λ (l : List BitmapValue). groups_of ks bs ++ record { size = s; config = c; items = l } ∷ []) (filter_none (is_of s c) bs (none_of s c ks bs placed none))

any_push : (p : GroupKey → Bool) (ks : List GroupKey) (k : GroupKey) → p k ≡ true → list_any p (ks ++ k ∷ []) ≡ true
any_push p [] k e = ap (λ t. t || false) e
any_push p (h ∷ ks) k e = elim (p h) as (λ t. (t || list_any p (ks ++ k ∷ [])) ≡ true) [ true ↦ refl | false ↦ any_push p ks k e ]

-- the new group is there
pub has_new : (s : ℕ) (c : Config) (ks : List GroupKey) → has_key s c (ks ++ record { size = s; config = c } ∷ []) ≡ true
has_new s c ks = any_push (is_key s c) ks (record { size = s; config = c }) (same_itself s c)

any_more : (p : GroupKey → Bool) (ks : List GroupKey) (k : GroupKey) → list_any p ks ≡ true → list_any p (ks ++ k ∷ []) ≡ true
any_more p [] k e = cc
any_more p (h ∷ ks) k e = elim (p h) as (λ t. (t || list_any p ks) ≡ true → (t || list_any p (ks ++ k ∷ [])) ≡ true) [ true ↦ λ e. refl | false ↦ λ e. any_more p ks k e ] e

none_more : (p : GroupKey → Bool) (ks : List GroupKey) (k : GroupKey) → list_any p ks ≡ false → p k ≡ false → list_any p (ks ++ k ∷ []) ≡ false
none_more p [] k none e = ap (λ t. t || false) e
none_more p (h ∷ ks) k none e = ap (λ t. t || list_any p (ks ++ k ∷ [])) (or_left _ _ none) ∙ none_more p ks k (or_right _ _ none) e

pub key_turned : (s : ℕ) (c : Config) (k : GroupKey) → is_key s c k ≡ false → is_key k.size k.config (record { size = s; config = c }) ≡ false
key_turned s c k other = elim (is_key k.size k.config (record { size = s; config = c })) as (λ t. is_key k.size k.config (record { size = s; config = c }) ≡ t → t ≡ false) [
  | true ↦ λ e.
      let is : (s ≡ k.size) × (c ≡ k.config) = key_is k.size k.config (record { size = s; config = c }) e in
      clash (is_key s c k) (ap (λ n. eqb k.size n && same_config k.config c) is.0 ∙ ap (λ d. eqb k.size k.size && same_config k.config d) is.1 ∙ same_itself k.size k.config) other
  | false ↦ λ e. refl
] refl

pub apart_new : (s : ℕ) (c : Config) (ks : List GroupKey) → KeysApart ks → has_key s c ks ≡ false → KeysApart (ks ++ record { size = s; config = c } ∷ [])
apart_new s c [] apart none = (refl, tt)
apart_new s c (k ∷ ks) apart none = (none_more (is_key k.size k.config) ks (record { size = s; config = c }) apart.0 (key_turned s c k (or_left _ _ none)), apart_new s c ks apart.1 (or_right _ _ none))

pub placed_more : (ks : List GroupKey) (k : GroupKey) (bs : List BitmapValue) → ArePlaced ks bs → ArePlaced (ks ++ k ∷ []) bs
placed_more ks k [] placed = tt
placed_more ks k (b ∷ bs) placed = (any_more (is_key b.allocation b.picture.config) ks k placed.0, placed_more ks k bs placed.1)

pub placed_push : (ks : List GroupKey) (bs : List BitmapValue) (b : BitmapValue) → ArePlaced ks bs → has_key b.allocation b.picture.config ks ≡ true → ArePlaced ks (bs ++ b ∷ [])
placed_push ks [] b placed some = (some, tt)
placed_push ks (x ∷ bs) b placed some = (placed.0, placed_push ks bs b placed.1 some)

pub placed_without : (p : BitmapValue → Bool) (ks : List GroupKey) (bs : List BitmapValue) → ArePlaced ks bs → ArePlaced ks (without_last p bs)
placed_without p ks [] placed = tt
placed_without p ks (b ∷ bs) placed = elim (list_any p bs) as (λ t. ArePlaced ks (cond t (b ∷ without_last p bs) (cond (p b) bs (b ∷ bs)))) [
  | true ↦ (placed.0, placed_without p ks bs placed.1)
  | false ↦ elim (p b) as (λ t. ArePlaced ks (cond t bs (b ∷ bs))) [ true ↦ placed.1 | false ↦ placed ]
]
