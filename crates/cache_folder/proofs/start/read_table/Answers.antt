use Rattle.std.proofs.Common.{refl, Err, sym, ap, subst, ◌∙◌}
use Rattle.cache_folder.specs.Starts.{OffersSame}
use Rattle.cache_folder.specs.inside.Loading.{IsRead}
use Rattle.cache_folder.proofs.Runs.{run_none}
use Rattle.cache_folder.proofs.Loading.{bad_offers, read_is}
use Rattle.cache_folder.proofs.start.read_table.Goals as goal

pub without_journal-requires : goal.without_journal-requires
without_journal-requires g c = record {
  alone = λ h e. c.requires h (sym c.in-Err-Bad.ensures.same ∙ e);
  bad = λ h e.
      let was = sym c.in-Err-Bad.ensures.same ∙ e in
      bad_offers h.held (c.requires h was) (c.in-Err-Bad.ensures.bad (ap (λ x. Err x) c.in-Err-Bad.field-0-is) h was);
}

pub returns-in-Ok-clause-moments : goal.returns-in-Ok-clause-moments
returns-in-Ok-clause-moments g c = λ h e. run_none (OffersSame h.held) h _ (c.in-Ok.ensures.same ∙ e) refl

pub returns-in-Ok-clause-read : goal.returns-in-Ok-clause-read
returns-in-Ok-clause-read g c = λ k e.
    let was = sym c.in-Ok.ensures.same ∙ e in
    subst (λ b. IsRead k.held c.in-Ok.table.table b) (sym c.is_whole.ensures)
    (read_is c.text_is_its_lines.ensures.spelling c.text_is_its_lines.ensures.whole k.held c.in-Ok.table.table c.in-Ok.rest (c.requires k was) (c.in-Ok.ensures.read k was))

pub returns-in-Ok-clause-known : goal.returns-in-Ok-clause-known
returns-in-Ok-clause-known g c = λ k e. (k, sym c.in-Ok.ensures.same ∙ e)

pub returns-in_err-without_journal-in-Err-Bad-clause-known : goal.returns-in_err-without_journal-in-Err-Bad-clause-known
returns-in_err-without_journal-in-Err-Bad-clause-known g c = λ k e. let m = c.without_journal.ensures.known k e in (m.0, sym c.in-Err-Bad.ensures.same ∙ m.1)

pub returns-in_ok-without_journal-in-Err-Bad-clause-known : goal.returns-in_ok-without_journal-in-Err-Bad-clause-known
returns-in_ok-without_journal-in-Err-Bad-clause-known g c = λ k e. let m = c.without_journal.ensures.known k e in (m.0, sym c.in-Err-Bad.ensures.same ∙ m.1)

pub returns-in-Err-Refused-clause-known : goal.returns-in-Err-Refused-clause-known
returns-in-Err-Refused-clause-known g c = λ k e. (k, sym c.in-Err-Refused.ensures.same ∙ e)
