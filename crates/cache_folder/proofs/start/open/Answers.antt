use Rattle.std.proofs.Common.{refl}
use Rattle.cache_folder.proofs.Runs.{known_more}
use Rattle.cache_folder.proofs.Settling.{same_on}
use Rattle.cache_folder.proofs.start.open.Goals as goal

pub settle-requires : goal.settle-requires
settle-requires g c = record { read = c.in_ok-found.ensures.read; free = c.in_ok-found.ensures.free }

pub renew_journal-requires : goal.renew_journal-requires
renew_journal-requires g c = record { opened = c.in_ok-settle.ensures.opened refl; free = c.in_ok-settle.ensures.free }

pub returns-in_err-settle-clause-moments : goal.returns-in_err-settle-clause-moments
returns-in_err-settle-clause-moments g c = λ h e. same_on h _ _ (c.in_ok-found.ensures.moments h e) c.in_err-settle.ensures.moments

pub returns-in_err-settle-clause-known : goal.returns-in_err-settle-clause-known
returns-in_err-settle-clause-known g c = known_more _ _ _ c.in_ok-found.ensures.known c.in_err-settle.ensures.known

pub returns-in_err-renew_journal-clause-moments : goal.returns-in_err-renew_journal-clause-moments
returns-in_err-renew_journal-clause-moments g c = λ h e.
    same_on h _ _ (same_on h _ _ (c.in_ok-found.ensures.moments h e) c.in_ok-settle.ensures.moments) c.in_err-renew_journal.ensures.moments

pub returns-in_err-renew_journal-clause-known : goal.returns-in_err-renew_journal-clause-known
returns-in_err-renew_journal-clause-known g c = known_more _ _ _ (known_more _ _ _ c.in_ok-found.ensures.known c.in_ok-settle.ensures.known) c.in_err-renew_journal.ensures.known

pub returns-clause-moments : goal.returns-clause-moments
returns-clause-moments g c = λ h e.
    same_on h _ _ (same_on h _ _ (c.in_ok-found.ensures.moments h e) c.in_ok-settle.ensures.moments) c.in_ok-renew_journal.ensures.moments

pub returns-clause-known : goal.returns-clause-known
returns-clause-known g c = known_more _ _ _ (known_more _ _ _ c.in_ok-found.ensures.known c.in_ok-settle.ensures.known) c.in_ok-renew_journal.ensures.known

pub returns-clause-opened : goal.returns-clause-opened
returns-clause-opened g c = c.in_ok-renew_journal.ensures.opened refl
