-- The least size so far, and of those that are left.
use Rattle.std.proofs.Common.{◌≡◌, ℕ, ◌*◌, ◌<◌, ◌≤◌, true, false, cond, ltb, leb, List, ◌∷◌, Some, None, Option, refl, ap, sym, ◌∙◌, arith}
use Rattle.std.specs.Prelude.{min, not, ◌&&◌, IfSome}
use Rattle.std.proofs.lemmas.Bool.{ltb-true, ltb-false, leb-true, and_parts}
use Rattle.bitmap_kind.specs.declared.bitmaps.Config.{Config}
use Rattle.bitmap_kind.specs.Picture.{BitmapValue}
use Rattle.cache_key.specs.Key.{same_config}
use Rattle.bitmap_pool.specs.Pool.{least_with, least_size}
use Rattle.bitmap_pool.specs.declared.groups.GroupKey.{GroupKey}
use Rattle.bitmap_pool.specs.inside.GroupsView.{serves, groups_of}
use Rattle.bitmap_pool.proofs.Steps.{bare_is}

-- the lesser of two, where there are two
abbrev pub least_of : Option ℕ → Option ℕ → Option ℕ
least_of None rest = rest
least_of (Some n) rest = Some (least_with n rest)

least-min : (n m : ℕ) → least_with n (Some m) ≡ min n m
least-min n m = elim (ltb m n) as (λ t. ltb m n ≡ t → cond t m n ≡ min n m) [
  | true ↦ λ e. let less : m < n = ltb-true m n e in omega (arith, less)
  | false ↦ λ e. let le : n ≤ m = ltb-false m n e in omega (arith, le)
] refl

pub least_more : (s : ℕ) (least rest : Option ℕ) → least_of (Some (least_with s least)) rest ≡ least_of least (Some (least_with s rest))
least_more s None rest = refl
least_more s (Some n) None = ap Some (least-min s n ∙ (let turn : min s n ≡ min n s = omega arith in turn) ∙ sym (least-min n s))
least_more s (Some n) (Some m) = ap Some (
    least-min (least_with s (Some n)) m ∙ ap (λ k. min k m) (least-min s n)
    ∙ (let turn : min (min s n) m ≡ min n (min s m) = omega arith in turn)
    ∙ sym (least-min n (least_with s (Some m)) ∙ ap (min n) (least-min s m)))

-- the least of these groups: the first of them serves, or it does not
pub least_first : (c : Config) (w : ℕ) (k : GroupKey) (ks : List GroupKey) (bs : List BitmapValue)
    → least_size c w (8 * w) (groups_of (k ∷ ks) bs) ≡ cond (serves c w bs k) (Some (least_with k.size (least_size c w (8 * w) (groups_of ks bs)))) (least_size c w (8 * w) (groups_of ks bs))
least_first c w k ks bs =
    ap (λ t. cond (same_config k.config c && not t && leb w k.size && leb k.size (8 * w)) (Some (least_with k.size (least_size c w (8 * w) (groups_of ks bs)))) (least_size c w (8 * w) (groups_of ks bs))) (bare_is bs k)

abbrev pub IsWithin : ℕ → Option ℕ → Type 0
IsWithin w least = IfSome least (λ size. (w ≤ size) × (size ≤ 8 * w))

serves_within : (c : Config) (w : ℕ) (bs : List BitmapValue) (k : GroupKey) → serves c w bs k ≡ true → (w ≤ k.size) × (k.size ≤ 8 * w)
serves_within c w bs k e = let all = and_parts _ _ e in (leb-true _ _ (and_parts _ _ all.0).1, leb-true _ _ all.1)

lesser_within : (w s : ℕ) (least : Option ℕ) → (w ≤ s) × (s ≤ 8 * w) → IsWithin w least → IsWithin w (Some (least_with s least))
lesser_within w s None here there = here
lesser_within w s (Some n) here there = elim (ltb n s) as (λ t. (w ≤ cond t n s) × (cond t n s ≤ 8 * w)) [ true ↦ there | false ↦ here ]

-- one group more, which serves or does not
abbrev pub with_group : Config → ℕ → List BitmapValue → GroupKey → Option ℕ → Option ℕ
with_group c w bs k least = cond (serves c w bs k) (Some (least_with k.size least)) least

pub group_more : (c : Config) (w : ℕ) (k : GroupKey) (ks : List GroupKey) (bs : List BitmapValue) (least : Option ℕ)
    → least_of (with_group c w bs k least) (least_size c w (8 * w) (groups_of ks bs)) ≡ least_of least (least_size c w (8 * w) (groups_of (k ∷ ks) bs))
group_more c w k ks bs least =
    elim (serves c w bs k) as (λ t. least_of (cond t (Some (least_with k.size least)) least) (least_size c w (8 * w) (groups_of ks bs)) ≡ least_of least (cond t (Some (least_with k.size (least_size c w (8 * w) (groups_of ks bs)))) (least_size c w (8 * w) (groups_of ks bs)))) [
      | true ↦ least_more k.size least (least_size c w (8 * w) (groups_of ks bs))
      | false ↦ refl
    ] ∙ ap (least_of least) (sym (least_first c w k ks bs))

pub group_within : (c : Config) (w : ℕ) (bs : List BitmapValue) (k : GroupKey) (least : Option ℕ) → IsWithin w least → IsWithin w (with_group c w bs k least)
group_within c w bs k least there = elim (serves c w bs k) as (λ t. serves c w bs k ≡ t → IsWithin w (cond t (Some (least_with k.size least)) least)) [
  | true ↦ λ e. lesser_within w k.size least (serves_within c w bs k e) there
  | false ↦ λ e. there
] refl
