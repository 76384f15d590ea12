use Rattle.decode_job.proofs.pictures.decode.Goals as goal

pub returns-in-Err-clause-runs : goal.returns-in-Err-clause-runs
returns-in-Err-clause-runs g c = c.calls_go_on.ensures.join _ _ _ _ _ _ c.take_bitmap.ensures.runs c.give_up.ensures.runs
