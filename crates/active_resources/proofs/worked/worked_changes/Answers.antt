use Rattle.std.proofs.Common.{[], ◌∷◌, Some, None, ap}
use Rattle.active_resources.specs.Actives.{Numbers}
use Rattle.active_resources.proofs.Listed.{leaves-listed}
use Rattle.active_resources.proofs.worked.worked_changes.Goals as goal

pub returns-clause-replaced : goal.returns-clause-replaced
returns-clause-replaced c = ap (λ (s : Numbers). record { room = 3; numbers = s }) (leaves-listed (1 ∷ 2 ∷ []) (Some 1) 3)

pub returns-clause-beside : goal.returns-clause-beside
returns-clause-beside c = ap (λ (s : Numbers). record { room = 3; numbers = s }) (leaves-listed (2 ∷ []) None 3)
