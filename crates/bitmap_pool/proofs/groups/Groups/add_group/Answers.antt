use Rattle.std.proofs.Common.{◌≡◌, ℕ, ◌+◌, ◌<◌, false, List, [], ◌∷◌, ◌++◌, length, ap, sym, subst, ◌∙◌, arith}
use Rattle.bitmap_kind.specs.declared.bitmaps.Config.{Config}
use Rattle.bitmap_kind.specs.Picture.{BitmapValue}
use Rattle.bitmap_pool.specs.Pool.{pool_count, has_group, add_last}
use Rattle.bitmap_pool.specs.declared.groups.GroupKey.{GroupKey}
use Rattle.bitmap_pool.specs.inside.GroupsView.{has_key, group_of, groups_of, KeysApart, ArePlaced}
use Rattle.bitmap_pool.proofs.Stored
use Rattle.bitmap_pool.proofs.Steps
use Rattle.bitmap_pool.proofs.groups.Groups.add_group.Goals as goal

pub invariant_of-self : goal.invariant_of-self
invariant_of-self c =
    let ks : List GroupKey = c.self.inside.keys.items in
    let bs : List BitmapValue = c.self.inside.bitmaps.items in
    let s : ℕ = c.args.size in
    let d : Config = c.args.config in
    let none : has_key s d ks ≡ false = ap (has_key s d) (sym c.deref.ensures.value) ∙ sym c.has_key.ensures ∙ c.if-not-has_key.true in
    let absent : has_group s d c.args.self.now ≡ false = ap (has_group s d) (sym c.self.view_is) ∙ Stored.has_group_is s d ks bs ∙ none in
    let long : length c.args.self.now ≡ length ks = ap length (sym c.self.view_is) ∙ Rattle.std.proofs.lemmas.List.length-map ks (group_of bs) in
    let few : length c.args.self.now < 2048 = c.requires absent in
    let more : c.push_reserved.new.self.items ≡ ks ++ record { size = s; config = d } ∷ [] = c.push_reserved.ensures.items in
    let longer : length (ks ++ record { size = s; config = d } ∷ []) ≡ length ks + 1 = Rattle.std.proofs.lemmas.List.length_push ks (record { size = s; config = d }) in
    record {
      apart = subst KeysApart (sym more) (Stored.apart_new s d ks c.self.invariant.apart none);
      placed = subst (λ l. ArePlaced l bs) (sym more) (Stored.placed_more ks (record { size = s; config = d }) bs c.self.invariant.placed);
      few_groups = omega (arith, ap length more, longer, long, few);
      few_bitmaps = c.self.invariant.few_bitmaps;
      group_room = omega (arith, c.push_reserved.ensures.capacity, c.self.invariant.group_room);
      bitmap_room = c.self.invariant.bitmap_room;
    }

pub returns-then-not-has_key-clause-groups : goal.returns-then-not-has_key-clause-groups
returns-then-not-has_key-clause-groups c = λ b.
    let ks : List GroupKey = c.self.inside.keys.items in
    let bs : List BitmapValue = c.self.inside.bitmaps.items in
    let s : ℕ = c.args.size in
    let d : Config = c.args.config in
    let none : has_key s d ks ≡ false = ap (has_key s d) (sym c.deref.ensures.value) ∙ sym c.has_key.ensures ∙ c.if-not-has_key.true in
    ap (λ l. add_last s d b (groups_of l bs)) c.push_reserved.ensures.items
    ∙ ap (add_last s d b) (Stored.groups_of_new s d ks bs c.self.invariant.placed none)
    ∙ Stored.add_new s d b (groups_of ks bs) (Stored.has_group_is s d ks bs ∙ none)
    ∙ ap (add_last s d b) c.self.view_is

pub returns-then-not-has_key-clause-count : goal.returns-then-not-has_key-clause-count
returns-then-not-has_key-clause-count c =
    let ks : List GroupKey = c.self.inside.keys.items in
    let bs : List BitmapValue = c.self.inside.bitmaps.items in
    let s : ℕ = c.args.size in
    let d : Config = c.args.config in
    let none : has_key s d ks ≡ false = ap (has_key s d) (sym c.deref.ensures.value) ∙ sym c.has_key.ensures ∙ c.if-not-has_key.true in
    ap (λ l. pool_count (groups_of l bs)) c.push_reserved.ensures.items
    ∙ (Steps.sums (ks ++ record { size = s; config = d } ∷ []) bs (Stored.apart_new s d ks c.self.invariant.apart none) (Stored.placed_more ks (record { size = s; config = d }) bs c.self.invariant.placed)).1
    ∙ sym (Steps.sums ks bs c.self.invariant.apart c.self.invariant.placed).1
    ∙ ap pool_count c.self.view_is

pub returns-else-not-has_key-clause-there : goal.returns-else-not-has_key-clause-there
returns-else-not-has_key-clause-there c =
    let ks : List GroupKey = c.self.inside.keys.items in
    let bs : List BitmapValue = c.self.inside.bitmaps.items in
    let s : ℕ = c.args.size in
    let d : Config = c.args.config in
    ap (has_group s d) (sym c.self.view_is) ∙ Stored.has_group_is s d ks bs ∙ ap (has_key s d) (sym c.deref.ensures.value) ∙ sym c.has_key.ensures ∙ c.if-not-has_key.false
