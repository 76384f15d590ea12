use Rattle.decode_job.proofs.pictures.take_bitmap.Goals as goal

pub returns-then-is_cancelled-clause-runs : goal.returns-then-is_cancelled-clause-runs
returns-then-is_cancelled-clause-runs g c = c.calls_go_on.ensures.asking _ _ _ _ _ c.is_cancelled.ensures.entry c.is_cancelled.ensures.job c.is_cancelled.ensures.pass

pub returns-in-Ok-clause-runs : goal.returns-in-Ok-clause-runs
returns-in-Ok-clause-runs g c = c.calls_go_on.ensures.taking _ _ _ _ _ _ _ _ _ c.in-Ok.bitmap c.if-is_cancelled.ensures.entry c.if-is_cancelled.ensures.pass c.in-Ok.ensures.entry c.in-Ok.ensures.job c.in-Ok.ensures.pass

pub returns-in-Err-clause-runs : goal.returns-in-Err-clause-runs
returns-in-Err-clause-runs g c = c.calls_go_on.ensures.wanting _ _ _ _ _ _ _ _ _ c.if-is_cancelled.ensures.entry c.if-is_cancelled.ensures.pass c.in-Err.ensures.entry c.in-Err.ensures.job c.in-Err.ensures.none
