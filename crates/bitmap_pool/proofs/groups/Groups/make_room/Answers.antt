use Rattle.std.proofs.Common.{◌≡◌, ℕ, ◌+◌, ◌<◌, ◌≤◌, true, false, cond, List, length, drop, ap, sym, subst, ◌∙◌, arith}
use Rattle.std.specs.List.{list_any, HoldsAt}
use Rattle.bitmap_kind.specs.Picture.{BitmapValue}
use Rattle.bitmap_pool.specs.Pool.{Group, pool_size, pool_count, is_empty, without_last}
use Rattle.bitmap_pool.specs.declared.groups.GroupKey.{GroupKey}
use Rattle.bitmap_pool.specs.inside.GroupsView.{is_bare, group_of, groups_of, KeysApart, ArePlaced}
use Rattle.bitmap_pool.proofs.Lasts
use Rattle.bitmap_pool.proofs.Steps
use Rattle.std.proofs.lemmas.Bool.{le-ltb}
use Rattle.bitmap_pool.proofs.groups.Groups.make_room.Goals as goal

-- the place of the last that has no bitmap
abbrev IsLastBare : ℕ → List GroupKey → List BitmapValue → Type 0
IsLastBare i ks bs = (i < length ks) × HoldsAt (λ k. is_bare bs k ≡ true) ks i × (list_any (is_bare bs) (drop (i + 1) ks) ≡ false)

kept : (i : ℕ) (ks : List GroupKey) (bs : List BitmapValue) (d : GroupKey) → IsLastBare i ks bs → Rattle.std.specs.List.remove ks i ≡ without_last (is_bare bs) ks
kept i ks bs d last = Lasts.without_last_at (is_bare bs) ks i d last.0 (last.1 d) last.2

pub invariant_of-self : goal.invariant_of-self
invariant_of-self c =
    let ks : List GroupKey = c.self.inside.keys.items in
    let bs : List BitmapValue = c.self.inside.bitmaps.items in
    let i : ℕ = c.in-Some.place in
    let last : IsLastBare i ks bs = subst (IsLastBare i ks) c.deref-2.ensures.value (subst (λ l. IsLastBare i l c.deref-2.result.now) c.deref.ensures.value c.in-Some.ensures) in
    let less : c.remove.new.self.items ≡ without_last (is_bare bs) ks = c.remove.ensures.items ∙ kept i ks bs c.remove.result last in
    let some : list_any (is_bare bs) ks ≡ true = Lasts.any_at (is_bare bs) ks i c.remove.result last.0 (last.1 c.remove.result) in
    let long : length (without_last (is_bare bs) ks) + 1 ≡ length ks = Lasts.length_without_last (is_bare bs) ks some in
    record {
      apart = subst KeysApart (sym less) (Steps.apart_without (is_bare bs) ks c.self.invariant.apart);
      placed = subst (λ l. ArePlaced l bs) (sym less) (Steps.placed_without_bare ks bs c.self.invariant.placed);
      few_groups = omega (arith, ap length less, long, c.self.invariant.few_groups);
      few_bitmaps = c.self.invariant.few_bitmaps;
      group_room = omega (arith, c.remove.ensures.capacity, c.self.invariant.group_room);
      bitmap_room = c.self.invariant.bitmap_room;
    }

pub returns-in-Some-clause-groups : goal.returns-in-Some-clause-groups
returns-in-Some-clause-groups c =
    let ks : List GroupKey = c.self.inside.keys.items in
    let bs : List BitmapValue = c.self.inside.bitmaps.items in
    let i : ℕ = c.in-Some.place in
    let last : IsLastBare i ks bs = subst (IsLastBare i ks) c.deref-2.ensures.value (subst (λ l. IsLastBare i l c.deref-2.result.now) c.deref.ensures.value c.in-Some.ensures) in
    let less : c.remove.new.self.items ≡ without_last (is_bare bs) ks = c.remove.ensures.items ∙ kept i ks bs c.remove.result last in
    let long : length c.args.self.now ≡ length ks = ap length (sym c.self.view_is) ∙ Rattle.std.proofs.lemmas.List.length-map ks (group_of bs) in
    let full : 2048 ≤ length c.args.self.now = omega (arith, long, c.if-len-lt-MOST_GROUPS.false, c.len.ensures, c.self.inside.keys.ok) in
    ap (λ l. groups_of l bs) less ∙ sym (Steps.groups_without_bare ks bs) ∙ ap (without_last is_empty) c.self.view_is
    ∙ sym (ap (λ t. cond t c.args.self.now (without_last is_empty c.args.self.now)) (le-ltb _ _ full))

-- the same bitmaps, so the same sums
same_sums : (ks ms : List GroupKey) (bs : List BitmapValue) (old : List (Group BitmapValue)) → KeysApart ks → ArePlaced ks bs → groups_of ks bs ≡ old → ms ≡ without_last (is_bare bs) ks
    → (pool_size (groups_of ms bs) ≡ pool_size old) × (pool_count (groups_of ms bs) ≡ pool_count old)
same_sums ks ms bs old apart placed seen less =
    let now = Steps.sums (without_last (is_bare bs) ks) bs (Steps.apart_without (is_bare bs) ks apart) (Steps.placed_without_bare ks bs placed) in
    let before = Steps.sums ks bs apart placed in (
      ap (λ l. pool_size (groups_of l bs)) less ∙ now.0 ∙ sym before.0 ∙ ap pool_size seen,
      ap (λ l. pool_count (groups_of l bs)) less ∙ now.1 ∙ sym before.1 ∙ ap pool_count seen,
    )

pub returns-in-Some-clause-size : goal.returns-in-Some-clause-size
returns-in-Some-clause-size c =
    let ks : List GroupKey = c.self.inside.keys.items in
    let bs : List BitmapValue = c.self.inside.bitmaps.items in
    let i : ℕ = c.in-Some.place in
    let last : IsLastBare i ks bs = subst (IsLastBare i ks) c.deref-2.ensures.value (subst (λ l. IsLastBare i l c.deref-2.result.now) c.deref.ensures.value c.in-Some.ensures) in
    (same_sums ks c.remove.new.self.items bs c.args.self.now c.self.invariant.apart c.self.invariant.placed c.self.view_is (c.remove.ensures.items ∙ kept i ks bs c.remove.result last)).0

pub returns-in-Some-clause-count : goal.returns-in-Some-clause-count
returns-in-Some-clause-count c =
    let ks : List GroupKey = c.self.inside.keys.items in
    let bs : List BitmapValue = c.self.inside.bitmaps.items in
    let i : ℕ = c.in-Some.place in
    let last : IsLastBare i ks bs = subst (IsLastBare i ks) c.deref-2.ensures.value (subst (λ l. IsLastBare i l c.deref-2.result.now) c.deref.ensures.value c.in-Some.ensures) in
    (same_sums ks c.remove.new.self.items bs c.args.self.now c.self.invariant.apart c.self.invariant.placed c.self.view_is (c.remove.ensures.items ∙ kept i ks bs c.remove.result last)).1

-- there is an empty one, since there are fewer bitmaps than groups
never : {P : Type 0} (ks : List GroupKey) (bs : List BitmapValue) → KeysApart ks → ArePlaced ks bs → list_any (is_bare bs) ks ≡ false → 2048 ≤ length ks → length bs ≤ 1025 → P
never ks bs apart placed none many few =
    let full : list_any is_empty (groups_of ks bs) ≡ false = Steps.any_bare ks bs ∙ none in
    let most : length (groups_of ks bs) ≤ pool_count (groups_of ks bs) = Steps.few_full (groups_of ks bs) full in
    let count : pool_count (groups_of ks bs) ≡ length bs = (Steps.sums ks bs apart placed).1 in
    let long : length (groups_of ks bs) ≡ length ks = Rattle.std.proofs.lemmas.List.length-map ks (group_of bs) in
    absurd (omega (arith, most, count, long, many, few))

pub returns-in_default-clause-groups : goal.returns-in_default-clause-groups
returns-in_default-clause-groups c =
    let ks : List GroupKey = c.self.inside.keys.items in
    let bs : List BitmapValue = c.self.inside.bitmaps.items in
    never ks bs c.self.invariant.apart c.self.invariant.placed (ap (λ l. list_any (is_bare bs) l) (sym c.deref.ensures.value) ∙ ap (λ (l : List BitmapValue). list_any (is_bare l) c.deref.result.now) (sym c.deref-2.ensures.value) ∙ c.in_default.ensures) (omega (arith, c.if-len-lt-MOST_GROUPS.false, c.len.ensures, c.self.inside.keys.ok)) c.self.invariant.few_bitmaps

pub returns-in_default-clause-room : goal.returns-in_default-clause-room
returns-in_default-clause-room c =
    let ks : List GroupKey = c.self.inside.keys.items in
    let bs : List BitmapValue = c.self.inside.bitmaps.items in
    never ks bs c.self.invariant.apart c.self.invariant.placed (ap (λ l. list_any (is_bare bs) l) (sym c.deref.ensures.value) ∙ ap (λ (l : List BitmapValue). list_any (is_bare l) c.deref.result.now) (sym c.deref-2.ensures.value) ∙ c.in_default.ensures) (omega (arith, c.if-len-lt-MOST_GROUPS.false, c.len.ensures, c.self.inside.keys.ok)) c.self.invariant.few_bitmaps
