use Rattle.finite_maps.specs.MapLaws.{get-modify}
use Rattle.finite_maps.proofs.one_value_is_changed.Goals as goal

pub returns : goal.returns
returns g c R o same m k q f = get-modify o same m k q f
