use Rattle.bmp_read.proofs.FirstBroken.{fault_first, header_first}
use Rattle.bmp_read.proofs.rules.fault_is_the_first_broken_rule.Goals as goal

pub returns-clause-text : goal.returns-clause-text
returns-clause-text c = fault_first

pub returns-clause-header : goal.returns-clause-header
returns-clause-header c = header_first
