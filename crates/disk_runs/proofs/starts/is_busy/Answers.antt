use Rattle.std.proofs.Common.{ap, sym, ◌∙◌}
use Rattle.disk_lru.specs.Faults.{begin_acts}
use Rattle.disk_runs.proofs.starts.is_busy.Goals as goal

pub returns-in-Err : goal.returns-in-Err
returns-in-Err c = c.begin.ensures.idle (ap begin_acts ((c.begin.ensures.busy c.args.number).1 c.requires))

-- the key is under edit, so no edit is begun
pub returns-in-Ok : goal.returns-in-Ok
returns-in-Ok c = let busy = sym c.in-Ok.is ∙ (c.begin.ensures.busy c.args.number).1 c.requires in cc
