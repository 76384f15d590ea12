use Rattle.std.proofs.Common.{Ok, Err, Result, OnErr, ◌∙◌}
use Rattle.outside.proofs.Entries.{get-folder_of, folder_put}
use Rattle.outside.proofs.stored.put.Goals as goal

pub returns-clause-ok : goal.returns-clause-ok
returns-clause-ok c = folder_put _ _ c.args.name.now c.args.bytes (λ q. c.in_ok-insert.ensures.updates.0 q)

at_error : {T E P : Type 0} (r : Result T E) → P → OnErr r P
at_error (Ok x) p = tt
at_error (Err e) p = p

pub returns-in_err-insert-clause-absent : goal.returns-in_err-insert-clause-absent
returns-in_err-insert-clause-absent c = at_error c.from_residual.result (get-folder_of c.args.files.now.entries c.args.name.now ∙ (c.in_err-insert.ensures).absent)
