use Rattle.std.proofs.Common.{◌∙◌}
use Rattle.outside.specs.Files.{FolderHistory, passed_through}
use Rattle.cache_folder.specs.Starts.{OffersSame}
use Rattle.cache_folder.proofs.Runs.{run_weaken, known_more}
use Rattle.cache_folder.proofs.Settling.{run_on}
use Rattle.cache_folder.proofs.Opening.{ready_of, open_of}
use Rattle.cache_folder.proofs.start.settle.Goals as goal

pub new_journal-requires : goal.new_journal-requires
new_journal-requires g c = record {
  ready = λ h e. ready_of h.held c.tidy.new.table c.in_ok-sound.sound c.tidy.ensures.free (c.in_ok-sound.ensures.swept h e) c.keys-once.ensures.once c.keys-once.ensures.few;
  free = c.tidy.ensures.free;
}

pub returns-then-sound-clause-opened : goal.returns-then-sound-clause-opened
returns-then-sound-clause-opened g c = λ ok k e.
    let swept = c.in_ok-sound.ensures.swept k e in
    open_of k.held c.tidy.new.table c.tidy.ensures.free (ready_of k.held c.tidy.new.table c.in_ok-sound.sound c.tidy.ensures.free swept c.keys-once.ensures.once c.keys-once.ensures.few) (swept.says c.if-sound.true)

pub returns-clause-moments : goal.returns-clause-moments
returns-clause-moments g c = λ h e.
    let first = c.in_ok-sound.ensures.moments h e in
    let m : FolderHistory = passed_through first.contents h in
    run_on (OffersSame h.held) h _ _ first (run_weaken (OffersSame m.held) (OffersSame h.held) m _ (λ d s. s ∙ first.here) (c.new_journal.ensures.moments m first.after_is))

pub returns-clause-known : goal.returns-clause-known
returns-clause-known g c = known_more _ _ _ c.in_ok-sound.ensures.known c.new_journal.ensures.known
