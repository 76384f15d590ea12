use Rattle.finite_maps.specs.MapLaws.{first_key-least, least-first_key, first_key-none_passes, none-first_key}
use Rattle.finite_maps.proofs.first_key_is_least.Goals as goal

pub returns-clause-least : goal.returns-clause-least
returns-clause-least g c R o same p m k = (first_key-least o same p m k, least-first_key o same p m k)

pub returns-clause-none : goal.returns-clause-none
returns-clause-none g c R o same p m = (λ none k. first_key-none_passes o same p m k none, none-first_key o same p m)
