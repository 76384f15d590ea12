use Rattle.std.proofs.Common.{Ok, refl, sym, ap, subst, ◌∙◌}
use Rattle.cache_folder.specs.Starts.{OffersSame}
use Rattle.cache_folder.specs.Tables.{CacheTableValue}
use Rattle.cache_folder.specs.inside.Leaving.{Sweeps}
use Rattle.cache_folder.specs.inside.Loading.{IsSwept}
use Rattle.cache_folder.proofs.Runs.{run_none, run_weaken, run_has}
use Rattle.cache_folder.proofs.Opening.{stay_clean, stay_known, swept_is}
use Rattle.cache_folder.proofs.start.tidy.Goals as goal

pub returns-in_err-dropped-clause-moments : goal.returns-in_err-dropped-clause-moments
returns-in_err-dropped-clause-moments g c = λ h e. run_none (OffersSame h.held) h _ (c.in_err-dropped.ensures.same ∙ e) refl

pub returns-in_err-dropped-clause-known : goal.returns-in_err-dropped-clause-known
returns-in_err-dropped-clause-known g c = λ k e. (k, sym c.in_err-dropped.ensures.same ∙ e)

pub sweep-requires : goal.sweep-requires
sweep-requires g c = record {
  clean = λ h e.
      let was = sym c.in_ok-dropped.ensures.same ∙ e in
      stay_clean h.held c.args.table.now.table c.discard_stale.new.table.table c.args.whole (c.requires.read h was) (c.in_ok-dropped.ensures.entries refl h was);
  alone = λ h e. (c.requires.read h (sym c.in_ok-dropped.ensures.same ∙ e)).alone;
  offers = λ h e.
      let was = sym c.in_ok-dropped.ensures.same ∙ e in
      stay_known h.held c.args.table.now.table c.discard_stale.new.table.table c.args.whole (c.requires.read h was) (c.in_ok-dropped.ensures.entries refl h was);
}

pub returns-in_err-sweep-clause-moments : goal.returns-in_err-sweep-clause-moments
returns-in_err-sweep-clause-moments g c = λ h e.
    run_weaken (Sweeps c.discard_stale.new.table.table.entries h.held) (OffersSame h.held) h _ (λ d s. s.offers) (c.in_err-sweep.ensures.moments h (c.in_ok-dropped.ensures.same ∙ e))

pub returns-in_err-sweep-clause-known : goal.returns-in_err-sweep-clause-known
returns-in_err-sweep-clause-known g c = λ k e. let m = c.in_err-sweep.ensures.known k e in (m.0, sym c.in_ok-dropped.ensures.same ∙ m.1)

pub returns-clause-moments : goal.returns-clause-moments
returns-clause-moments g c = λ h e.
    run_weaken (Sweeps c.discard_stale.new.table.table.entries h.held) (OffersSame h.held) h _ (λ d s. s.offers) (c.in_ok-sweep.ensures.moments h (c.in_ok-dropped.ensures.same ∙ e))

pub returns-clause-known : goal.returns-clause-known
returns-clause-known g c = λ k e. let m = c.in_ok-sweep.ensures.known k e in (m.0, sym c.in_ok-dropped.ensures.same ∙ m.1)

pub returns-clause-swept : goal.returns-clause-swept
returns-clause-swept g c = λ k e.
    let m = c.in_ok-sweep.ensures.known k e in
    let was = sym c.in_ok-dropped.ensures.same ∙ m.1 in
    let t = c.args.table.now.table in
    let u = c.discard_stale.new.table.table in
    subst (λ b. IsSwept k.held u b) (sym c.is_sound.ensures)
    (swept_is m.0.held t u c.args.whole (c.requires.read m.0 was) (c.in_ok-dropped.ensures.entries refl m.0 was) k.held
    (run_has (Sweeps u.entries m.0.held) m.0 k _ (c.in_ok-sweep.ensures.moments m.0 m.1) e) (c.in_ok-sweep.ensures.tidy refl k e) c.in_ok-dropped.dropped
    (λ none. ap (λ (w : CacheTableValue). w.table) (c.discard_stale.ensures.none (c.in_ok-dropped.was ∙ ap (λ b. Ok b) none))))
