use Rattle.std.proofs.Common.{refl, ◌∙◌}
use Rattle.outside.specs.Files.{FolderHistory, passed_through}
use Rattle.cache_folder.specs.Starts.{OffersSame}
use Rattle.cache_folder.proofs.Runs.{run_weaken, known_more}
use Rattle.cache_folder.proofs.Settling.{run_on}
use Rattle.cache_folder.proofs.start.find_table.Goals as goal

pub read_table-requires : goal.read_table-requires
read_table-requires g c = c.in_ok-settle_journals.ensures.alone refl

pub returns-clause-moments : goal.returns-clause-moments
returns-clause-moments g c = λ h e.
    let first = c.in_ok-settle_journals.ensures.moments h e in
    let m : FolderHistory = passed_through first.contents h in
    run_on (OffersSame h.held) h _ _ first (run_weaken (OffersSame m.held) (OffersSame h.held) m _ (λ d s. s ∙ first.here) (c.read_table.ensures.moments m first.after_is))

pub returns-clause-known : goal.returns-clause-known
returns-clause-known g c = known_more _ _ _ c.in_ok-settle_journals.ensures.known c.read_table.ensures.known
