use Rattle.std.proofs.Common.{ap, sym, subst}
use Rattle.std.specs.FinSet.{from_list}
use Rattle.active_resources.specs.Actives.{Fits}
use Rattle.active_resources.proofs.Sets.{fits-empty}
use Rattle.active_resources.proofs.actives.Active.new.Goals as goal

pub returns-clause-fits : goal.returns-clause-fits
returns-clause-fits c = λ keys. subst (Fits keys) (sym (ap from_list c.in_ok-with_capacity.ensures.items)) (fits-empty keys)
