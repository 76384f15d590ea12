use Rattle.std.proofs.Common.{◌≡◌, Bool, true, false, ap, sym, subst, ◌∙◌, arith}
use Rattle.std.specs.Prelude.{is_some}
use Rattle.std.specs.FinMap.{get, insert, len}
use Rattle.bitmap_kind.specs.Picture.{BitmapValue}
use Rattle.engine_resource.specs.Resource.{ResourceValue}
use Rattle.resource_table.specs.Resources as table
use Rattle.resource_table.specs.Resources.{keys_of}
use Rattle.active_resources.specs.Actives.{ActiveValue, Numbers, Fits, TellsIt}
use Rattle.engine_world.specs.World.{World}
use Rattle.engine_world.specs.Sound.{ActiveAre}
use Rattle.engine_world.specs.Steps.{activate}
use Rattle.engine_core.specs.Lending.{resource_by}
use Rattle.engine_world.specs.Rooms.{quota_sum}
use Rattle.engine_core.proofs.Lending.{as_many}
use Rattle.engine_core.proofs.Activating.{newer_key, fits_more, replaced_is, absent_in, new_resource, with_resource, joined_with, reactivated, added_is, activated_is}
use Rattle.engine_core.proofs.tables.Tables.add_resource.Goals as goal

pub add-requires-clause-room : goal.add-requires-clause-room
add-requires-clause-room c =
    let many = as_many c.self.inside.resources.resources in
    let seen = ap (λ (w : World). len w.resources) c.self.view_is in
    let quotas = ap (λ (w : World). quota_sum w.limits.quotas) c.self.view_is in
    omega (arith, many, seen, quotas, c.requires.resources, c.self.invariant.resources_room)

pub add-requires-clause-absent : goal.add-requires-clause-absent
add-requires-clause-absent c =
    ap (λ (x : ResourceValue). get c.self.inside.resources.resources x.bitmap.number) c.new.ensures
    ∙ absent_in c.self.inside c.args.self.now c.args.bitmap.number c.self.view_is c.requires.absent

pub activate-requires-clause-fits : goal.activate-requires-clause-fits
activate-requires-clause-fits c =
    let absent = absent_in c.self.inside c.args.self.now c.args.bitmap.number c.self.view_is c.requires.absent in
    let active = subst (λ (w : World). ActiveAre w.loads w.resources w.active) (sym c.self.view_is) c.requires.apart in
    subst (λ (t : table.ResourceTableValue). Fits (keys_of t.resources) c.self.inside.active.numbers)
    (sym (c.add.ensures ∙ ap (with_resource c.self.inside.resources) c.new.ensures))
    (fits_more c.self.inside.resources.resources c.args.bitmap.number (new_resource c.args.bitmap c.args.key c.args.cacheable) c.self.inside.loads.loads c.self.inside.active.numbers absent active)

pub activate-requires-clause-known : goal.activate-requires-clause-known
activate-requires-clause-known c =
    ap (λ (t : table.ResourceTableValue). is_some (get (keys_of t.resources) c.number-number.result)) (c.add.ensures ∙ ap (with_resource c.self.inside.resources) c.new.ensures)
    ∙ ap (λ n. is_some (get (keys_of (insert c.self.inside.resources.resources c.args.bitmap.number (new_resource c.args.bitmap c.args.key c.args.cacheable))) n)) c.number-number.ensures
    ∙ ap is_some (newer_key c.self.inside.resources.resources c.args.bitmap.number (new_resource c.args.bitmap c.args.key c.args.cacheable))

pub invariant_of-self : goal.invariant_of-self
invariant_of-self c =
    reactivated (record c.self.inside { resources = c.add.new.self }) c.activate.new.self (ap (λ (a : ActiveValue). a.room) c.activate.ensures.active)
    (joined_with c.self.inside c.args.self.now c.args.bitmap c.args.key c.args.cacheable c.add.new.self c.self.invariant c.self.view_is c.requires.uncached (c.add.ensures ∙ ap (with_resource c.self.inside.resources) c.new.ensures))

pub invariant_of-self-else-cacheable : goal.invariant_of-self-else-cacheable
invariant_of-self-else-cacheable c =
    joined_with c.self.inside c.args.self.now c.args.bitmap c.args.key c.args.cacheable c.add.new.self c.self.invariant c.self.view_is c.requires.uncached (c.add.ensures ∙ ap (with_resource c.self.inside.resources) c.new.ensures)

-- the world with this resource
abbrev with_it : World → BitmapValue → Rattle.cache_key.specs.Key.Key → Bool → World
with_it w bitmap key cacheable = record (activate cacheable bitmap.number (resource_by key cacheable bitmap) w) { resources = insert w.resources bitmap.number (resource_by key cacheable bitmap) }

pub returns-then-cacheable : goal.returns-then-cacheable
returns-then-cacheable c =
    let is : c.args.cacheable ≡ true = c.if-cacheable.true in
    let absent = absent_in c.self.inside c.args.self.now c.args.bitmap.number c.self.view_is c.requires.absent in
    let active = subst (λ (w : World). ActiveAre w.loads w.resources w.active) (sym c.self.view_is) c.requires.apart in
    let x : ResourceValue = new_resource c.args.bitmap c.args.key c.args.cacheable in
    let added : c.add.new.self ≡ with_resource c.self.inside.resources x = c.add.ensures ∙ ap (with_resource c.self.inside.resources) c.new.ensures in
    let numbered : c.number-number.result ≡ c.args.bitmap.number = c.number-number.ensures in
    let tells : TellsIt (keys_of (insert c.self.inside.resources.resources c.args.bitmap.number x)) (get (keys_of (insert c.self.inside.resources.resources c.args.bitmap.number x)) c.args.bitmap.number) c.self.inside.active.numbers c.activate.result =
    subst (λ n. TellsIt (keys_of (insert c.self.inside.resources.resources c.args.bitmap.number x)) (get (keys_of (insert c.self.inside.resources.resources c.args.bitmap.number x)) n) c.self.inside.active.numbers c.activate.result) numbered
    (subst (λ (t : table.ResourceTableValue). TellsIt (keys_of t.resources) (get (keys_of t.resources) c.number-number.result) c.self.inside.active.numbers c.activate.result) added c.activate.ensures.it) in
    let replaced = replaced_is c.self.inside.resources.resources c.args.bitmap.number x c.self.inside.loads.loads c.self.inside.active.numbers c.activate.result c.lookups_find_the_only_one.ensures.active c.same_key_is_equality.ensures absent active tells in
    activated_is c.self.inside c.args.bitmap c.args.key c.add.new.self c.activate.new.self c.activate.result
    (added ∙ ap (λ b. with_resource c.self.inside.resources (new_resource c.args.bitmap c.args.key b)) is)
    (c.activate.ensures.active ∙ ap (λ n. Rattle.active_resources.specs.Actives.activated c.activate.result n c.self.inside.active) numbered) replaced
    ∙ ap (λ (w : World). with_it w c.args.bitmap c.args.key true) c.self.view_is
    ∙ ap (λ b. with_it c.args.self.now c.args.bitmap c.args.key b) (sym is)

pub returns-else-cacheable : goal.returns-else-cacheable
returns-else-cacheable c =
    let is : c.args.cacheable ≡ false = c.if-cacheable.false in
    let added : c.add.new.self ≡ with_resource c.self.inside.resources (new_resource c.args.bitmap c.args.key c.args.cacheable) = c.add.ensures ∙ ap (with_resource c.self.inside.resources) c.new.ensures in
    added_is c.self.inside c.args.bitmap c.args.key c.add.new.self (added ∙ ap (λ b. with_resource c.self.inside.resources (new_resource c.args.bitmap c.args.key b)) is)
    ∙ ap (λ (w : World). with_it w c.args.bitmap c.args.key false) c.self.view_is
    ∙ ap (λ b. with_it c.args.self.now c.args.bitmap c.args.key b) (sym is)
