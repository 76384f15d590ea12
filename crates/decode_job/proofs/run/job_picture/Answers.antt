use Rattle.decode_job.proofs.run.job_picture.Goals as goal

pub returns-then-is_cancelled-clause-runs : goal.returns-then-is_cancelled-clause-runs
returns-then-is_cancelled-clause-runs g c = c.calls_go_on.ensures.asking _ _ _ _ _ c.is_cancelled.ensures.entry c.is_cancelled.ensures.job c.is_cancelled.ensures.pass

pub returns-in-Ok-clause-runs : goal.returns-in-Ok-clause-runs
returns-in-Ok-clause-runs g c = c.calls_go_on.ensures.join _ _ _ _ _ _ (c.calls_go_on.ensures.asking _ _ _ _ _ c.is_cancelled.ensures.entry c.is_cancelled.ensures.job c.is_cancelled.ensures.pass) c.text_picture.ensures.runs
