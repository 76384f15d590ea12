use Rattle.engine_runs.proofs.guarded.Guarded.end.Given as goal

abbrev pub decreases-loop-hold : goal.decreases-loop-hold
decreases-loop-hold g l = goal.left-loop-hold g l
