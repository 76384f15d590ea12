use Rattle.decode_job.proofs.pictures.transformed.Goals as goal

pub returns-in-Ok-clause-runs : goal.returns-in-Ok-clause-runs
returns-in-Ok-clause-runs g c = c.calls_go_on.ensures.join _ _ _ _ _ _ c.take_bitmap.ensures.runs (c.calls_go_on.ensures.giving _ _ _ _ c.args.decoded c.give_back.ensures.entry c.give_back.ensures.job c.give_back.ensures.pass)

pub returns-in-Err-clause-runs : goal.returns-in-Err-clause-runs
returns-in-Err-clause-runs g c = c.calls_go_on.ensures.join _ _ _ _ _ _ c.take_bitmap.ensures.runs c.give_up.ensures.runs
