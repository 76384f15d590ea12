-- The laws of pictures that stay in memory.
use Rattle.std.proofs.Common.{ap, subst, sym, ◌∙◌}
use Rattle.engine_world.specs.Laws.{KeepsOpening}
use Rattle.engine_world.specs.World.{Limits, World, opening}
use Rattle.engine_world.specs.declared.events.Event.{Event}
use Rattle.load_cause.specs.Ends.{end_in}
use Rattle.fetch_bounds.proofs.Keyed.{keyed_law}
use Rattle.fetch_bounds.proofs.Remaining.{there_law}
use Rattle.fetch_bounds.specs.InMemory.{AllFit}
use Rattle.fetch_bounds.specs.Laws.{KeepsAllRemembered, KeepsPictures}

pub keeps_all_remembered : ((event : Event) → KeepsOpening event) → (event : Event) → KeepsAllRemembered event
keeps_all_remembered opening event keys w z who reply among step all =
    let fixed = opening event w z who reply step in
    record {
      content = all.content;
      told = ap (λ (v : World). v.content) fixed ∙ all.told;
      among = keyed_law keys w all.among z who event reply among step;
      fit = subst (λ (l : Limits). AllFit (end_in all.content) l.memory keys) (sym (ap (λ (v : World). v.limits) fixed)) all.fit;
    }

pub keeps_pictures : (event : Event) → KeepsPictures event
keeps_pictures event key keys w z known who reply s permits no_trim step all findable there =
    there_law key keys all.content w known s findable all.among all.told all.fit z who event reply permits no_trim step there
