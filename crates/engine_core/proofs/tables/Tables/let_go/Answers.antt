use Rattle.std.proofs.Common.{◌≡◌, ℕ, Bool, true, false, cond, Some, ap, sym, ◌∙◌}
use Rattle.std.specs.Prelude.{is_some}
use Rattle.std.specs.FinMap.{get}
use Rattle.std.specs.FinSet as set
use Rattle.active_resources.specs.Actives.{ActiveValue}
use Rattle.engine_world.specs.World.{Resource, World}
use Rattle.engine_world.specs.Moves.{to_pool, to_cache, retire}
use Rattle.engine_core.specs.declared.tables.Tables.TheInside.{Inside}
use Rattle.engine_core.specs.TablesView.{world_of}
use Rattle.engine_core.proofs.Joins.{there}
use Rattle.engine_core.proofs.Caching.{same_resource}
use Rattle.engine_core.proofs.tables.Tables.let_go.Goals as goal

-- a resource is active no longer
inactive : (s : Inside) (w : World) (number : ℕ) (active : ActiveValue) → world_of s ≡ w → active ≡ record s.active { numbers = set.remove s.active.numbers number }
    → world_of (record s { active = active }) ≡ record w { active = set.remove w.active number }
inactive s w number active seen is =
    ap (λ (v : ActiveValue). world_of (record s { active = v })) is ∙ ap (λ (v : World). record v { active = set.remove v.active number }) seen

-- where it goes then
retires : (w v : World) (number : ℕ) (resource : Resource) (b : Bool) → get w.resources number ≡ Some resource → resource.cacheable ≡ b
    → retire number (get w.resources number) v ≡ cond b (to_cache number resource v) (to_pool number v)
retires w v number resource b at is = ap (λ o. retire number o v) at ∙ ap (λ b. cond b (to_cache number resource v) (to_pool number v)) is

pub get-requires : goal.get-requires
get-requires c = there c.self.inside c.args.self.now c.args.number c.self.view_is (ap is_some c.requires.there)

pub returns-then-cacheable : goal.returns-then-cacheable
returns-then-cacheable c =
    let w : World = c.args.self.now in
    let v : World = record w { active = set.remove w.active c.args.number } in
    let same = same_resource c.self.inside w c.args.number c.get.result.now c.requires.resource c.self.view_is c.get.ensures.resource c.requires.there in
    let is : c.requires.resource.cacheable ≡ true = sym (ap (λ (r : Resource). r.cacheable) same) ∙ sym c.cacheable.ensures ∙ c.if-cacheable.true in
    c.to_cache.ensures c.requires.resource (ap (λ (u : World). get u.resources c.args.number) c.self.view_is ∙ c.requires.there)
    ∙ ap (to_cache c.args.number c.requires.resource) (inactive c.self.inside w c.args.number c.deactivate_same.new.self c.self.view_is c.deactivate_same.ensures.left)
    ∙ sym (retires w v c.args.number c.requires.resource true c.requires.there is)

pub returns-else-cacheable : goal.returns-else-cacheable
returns-else-cacheable c =
    let w : World = c.args.self.now in
    let v : World = record w { active = set.remove w.active c.args.number } in
    let same = same_resource c.self.inside w c.args.number c.get.result.now c.requires.resource c.self.view_is c.get.ensures.resource c.requires.there in
    let is : c.requires.resource.cacheable ≡ false = sym (ap (λ (r : Resource). r.cacheable) same) ∙ sym c.cacheable.ensures ∙ c.if-cacheable.false in
    c.to_pool.ensures ∙ ap (to_pool c.args.number) (inactive c.self.inside w c.args.number c.deactivate_same.new.self c.self.view_is c.deactivate_same.ensures.left)
    ∙ sym (retires w v c.args.number c.requires.resource false c.requires.there is)
