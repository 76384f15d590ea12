use Rattle.std.proofs.Common.{refl}
use Rattle.cache_folder.specs.Starts.{OffersSame}
use Rattle.cache_folder.proofs.Runs.{run_none}
use Rattle.cache_folder.proofs.Opening.{ready_open, not_due}
use Rattle.cache_folder.proofs.start.renew_journal.Goals as goal

pub returns-then-not-due-clause-moments : goal.returns-then-not-due-clause-moments
returns-then-not-due-clause-moments g c = λ h e. run_none (OffersSame h.held) h _ e refl

pub new_journal-requires : goal.new_journal-requires
new_journal-requires g c = record { ready = λ h e. ready_open h.held c.args.table.now (c.requires.opened h e); free = c.requires.free }

pub returns-clause-settled : goal.returns-clause-settled
returns-clause-settled g c = λ ok. not_due c.args.table.now.table c.new_journal.new.table.table c.new_journal.ensures.entries (c.new_journal.ensures.lines ok)
