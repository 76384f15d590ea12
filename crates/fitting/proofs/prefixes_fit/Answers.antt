use Rattle.fitting.specs.Prefixes.{all_fit, within_fits, fitting-take}
use Rattle.fitting.proofs.prefixes_fit.Goals as goal

pub returns-clause-all : goal.returns-clause-all
returns-clause-all g c size room slots xs = (all_fit size room slots xs, λ within. within_fits size room slots xs within.0 within.1)

pub returns-clause-prefix : goal.returns-clause-prefix
returns-clause-prefix g c size room slots k xs = fitting-take size room slots k xs
