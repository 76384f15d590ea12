use Rattle.std.proofs.Common.{◌≡◌, List, [], ◌∷◌, length, ap, sym, subst, ◌∙◌, arith}
use Rattle.std.specs.Prelude.{sum_by}
use Rattle.std.proofs.lemmas.List.{length-map}
use Rattle.bitmap_kind.specs.Picture.{BitmapValue}
use Rattle.bitmap_pool.specs.Pool.{pool_size}
use Rattle.bitmap_pool.specs.Limits.{AreApart}
use Rattle.bitmap_pool.specs.declared.groups.GroupKey.{GroupKey}
use Rattle.bitmap_pool.specs.inside.GroupsView.{allocation_in, group_of, groups_of, KeysApart}
use Rattle.bitmap_pool.proofs.Stored.{has_group_is}
use Rattle.bitmap_pool.proofs.Steps
use Rattle.bitmap_pool.proofs.groups.Groups.size.Goals as goal

pub returns-clause-size : goal.returns-clause-size
returns-clause-size c = c.total_of.ensures ∙ ap (sum_by allocation_in) c.deref.ensures.value ∙ sym (Steps.sums c.self.inside.keys.items c.self.inside.bitmaps.items c.self.invariant.apart c.self.invariant.placed).0 ∙ ap pool_size c.self.view_is

apart_seen : (ks : List GroupKey) (bs : List BitmapValue) → KeysApart ks → AreApart (groups_of ks bs)
apart_seen [] bs apart = tt
apart_seen (k ∷ ks) bs apart = (has_group_is k.size k.config ks bs ∙ apart.0, apart_seen ks bs apart.1)

pub returns-clause-apart : goal.returns-clause-apart
returns-clause-apart c = subst AreApart c.self.view_is (apart_seen c.self.inside.keys.items c.self.inside.bitmaps.items c.self.invariant.apart)

pub returns-clause-few : goal.returns-clause-few
returns-clause-few c =
    let long : length c.args.self.now ≡ length c.self.inside.keys.items = ap length (sym c.self.view_is) ∙ length-map c.self.inside.keys.items (group_of c.self.inside.bitmaps.items) in
    omega (arith, long, c.self.invariant.few_groups)
