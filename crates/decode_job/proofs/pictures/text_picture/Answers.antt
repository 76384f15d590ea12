use Rattle.decode_job.proofs.pictures.text_picture.Goals as goal

pub returns-clause-runs : goal.returns-clause-runs
returns-clause-runs g c = c.calls_go_on.ensures.join _ _ _ _ _ _ c.decode.ensures.runs c.transformed.ensures.runs
