use Rattle.std.proofs.Common.{◌≡◌, true, false, cond, List, ap, sym, ◌∙◌}
use Rattle.bitmap_kind.specs.Picture.{BitmapValue}
use Rattle.bitmap_pool.specs.Pool.{Group, has_group, with_room}
use Rattle.bitmap_pool.specs.inside.GroupsView.{has_key}
use Rattle.bitmap_pool.proofs.Stored
use Rattle.bitmap_pool.proofs.groups.Groups.make_room_for.Goals as goal

pub returns-then-not-has_key-clause-groups : goal.returns-then-not-has_key-clause-groups
returns-then-not-has_key-clause-groups c =
    let old : List (Group BitmapValue) = c.args.self.now in
    let none : has_group c.args.size c.args.config old ≡ false = ap (has_group c.args.size c.args.config) (sym c.self.view_is) ∙ Stored.has_group_is c.args.size c.args.config c.self.inside.keys.items c.self.inside.bitmaps.items ∙ ap (has_key c.args.size c.args.config) (sym c.deref.ensures.value) ∙ sym c.if-not-has_key.ensures in
    c.make_room.ensures.groups ∙ sym (ap (λ t. cond t old (with_room old)) none)

pub returns-else-not-has_key-clause-groups : goal.returns-else-not-has_key-clause-groups
returns-else-not-has_key-clause-groups c =
    let old : List (Group BitmapValue) = c.args.self.now in
    let some : has_group c.args.size c.args.config old ≡ true = ap (has_group c.args.size c.args.config) (sym c.self.view_is) ∙ Stored.has_group_is c.args.size c.args.config c.self.inside.keys.items c.self.inside.bitmaps.items ∙ ap (has_key c.args.size c.args.config) (sym c.deref.ensures.value) ∙ sym c.if-not-has_key.ensures in
    sym (ap (λ t. cond t old (with_room old)) some)

pub returns-else-not-has_key-clause-room : goal.returns-else-not-has_key-clause-room
returns-else-not-has_key-clause-room c = λ none.
    let old : List (Group BitmapValue) = c.args.self.now in
    let some : has_group c.args.size c.args.config old ≡ true = ap (has_group c.args.size c.args.config) (sym c.self.view_is) ∙ Stored.has_group_is c.args.size c.args.config c.self.inside.keys.items c.self.inside.bitmaps.items ∙ ap (has_key c.args.size c.args.config) (sym c.deref.ensures.value) ∙ sym c.if-not-has_key.ensures in
    Stored.clash (has_group c.args.size c.args.config old) some none
