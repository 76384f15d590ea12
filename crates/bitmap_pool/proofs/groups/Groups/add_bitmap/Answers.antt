use Rattle.std.proofs.Common.{◌≡◌, ◌+◌, true, List, [], ◌∷◌, ◌++◌, length, ap, sym, subst, ◌∙◌, arith}
use Rattle.bitmap_kind.specs.Picture.{BitmapValue}
use Rattle.bitmap_pool.specs.Pool.{Group, pool_count, has_group, add_last}
use Rattle.bitmap_pool.specs.declared.groups.GroupKey.{GroupKey}
use Rattle.bitmap_pool.specs.inside.GroupsView.{has_key, groups_of, ArePlaced}
use Rattle.bitmap_pool.proofs.Stored
use Rattle.bitmap_pool.proofs.Steps
use Rattle.bitmap_pool.proofs.groups.Groups.add_bitmap.Goals as goal

pub push_reserved-requires : goal.push_reserved-requires
push_reserved-requires c =
    let count : pool_count c.args.self.now ≡ length c.self.inside.bitmaps.items = ap pool_count (sym c.self.view_is) ∙ (Steps.sums c.self.inside.keys.items c.self.inside.bitmaps.items c.self.invariant.apart c.self.invariant.placed).1 in
    omega (arith, count, c.self.invariant.bitmap_room, c.requires.room, c.self.inside.bitmaps.ok)

there : (s : List (Group BitmapValue)) (ks : List GroupKey) (bs : List BitmapValue) (b : BitmapValue) → groups_of ks bs ≡ s → has_group b.allocation b.picture.config s ≡ true → has_key b.allocation b.picture.config ks ≡ true
there s ks bs b seen has = sym (Stored.has_group_is b.allocation b.picture.config ks bs) ∙ ap (has_group b.allocation b.picture.config) seen ∙ has

pub invariant_of-self : goal.invariant_of-self
invariant_of-self c =
    let ks : List GroupKey = c.self.inside.keys.items in
    let bs : List BitmapValue = c.self.inside.bitmaps.items in
    let count : pool_count c.args.self.now ≡ length bs = ap pool_count (sym c.self.view_is) ∙ (Steps.sums ks bs c.self.invariant.apart c.self.invariant.placed).1 in
    let more : c.push_reserved.new.self.items ≡ bs ++ c.args.bitmap ∷ [] = c.push_reserved.ensures.items in
    let long : length (bs ++ c.args.bitmap ∷ []) ≡ length bs + 1 = Rattle.std.proofs.lemmas.List.length_push bs c.args.bitmap in
    let has : has_key c.args.bitmap.allocation c.args.bitmap.picture.config ks ≡ true = there c.args.self.now ks bs c.args.bitmap c.self.view_is c.requires.there in
    record {
      apart = c.self.invariant.apart;
      placed = subst (ArePlaced ks) (sym more) (Stored.placed_push ks bs c.args.bitmap c.self.invariant.placed has);
      few_groups = c.self.invariant.few_groups;
      few_bitmaps = omega (arith, ap length more, long, count, c.requires.room);
      group_room = c.self.invariant.group_room;
      bitmap_room = omega (arith, c.push_reserved.ensures.capacity, c.self.invariant.bitmap_room);
    }

pub returns : goal.returns
returns c =
    let ks : List GroupKey = c.self.inside.keys.items in
    let bs : List BitmapValue = c.self.inside.bitmaps.items in
    let has : has_key c.args.bitmap.allocation c.args.bitmap.picture.config ks ≡ true = there c.args.self.now ks bs c.args.bitmap c.self.view_is c.requires.there in
    ap (groups_of ks) c.push_reserved.ensures.items ∙ Stored.add_there c.args.bitmap ks bs c.self.invariant.apart has ∙ ap (add_last c.args.bitmap.allocation c.args.bitmap.picture.config c.args.bitmap) c.self.view_is
