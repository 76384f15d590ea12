use Rattle.load_table.specs.LoadOrder.{load_total, load_same}
use Rattle.load_table.proofs.laws.names_are_ordered.Goals as goal

pub returns-clause-total : goal.returns-clause-total
returns-clause-total c = load_total

pub returns-clause-apart : goal.returns-clause-apart
returns-clause-apart c = load_same
