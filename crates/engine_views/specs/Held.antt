-- The views of a script, and beside each of them the load that it holds of the engine. This project's own; in Glide a target
-- holds its resource.
use Rattle.std.specs.Prelude.{List, [], ◌∷◌, ◌++◌}
use Rattle.std.specs.declared.option.Option.{Option}
use Rattle.std.specs.Option.{option_to_list}
use Rattle.load_cause.specs.declared.causes.Cause.{Cause}
use Rattle.request_tracker.specs.Moves.{Tracked, no_views}
use Rattle.engine_shared.specs.Tokens.{HoldValue}

-- the load that each view holds, by place, or none
abbrev pub Holds : Type 0
Holds = List (Option HoldValue)

-- the tracker's views, and what they hold
pub record Held : Type 0 where
  pub tracked : Tracked Cause
  pub holds : Holds

abbrev pub no_held_views : Held
no_held_views = record { tracked = no_views; holds = [] }

-- the loads that are held, in order
abbrev pub loads_in : Holds → List HoldValue
loads_in [] = []
loads_in (hold ∷ holds) = option_to_list hold ++ loads_in holds
