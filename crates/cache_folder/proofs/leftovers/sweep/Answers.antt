use Rattle.std.proofs.Common.{refl, sym, ap, subst, ◌∙◌, inr, arith, IsSome}
use Rattle.std.specs.FinMap.{get}
use Rattle.std.specs.List.{list_any}
use Rattle.std.specs.Str.{bytes_eq}
use Rattle.outside.specs.Files.{FolderHistory, passed_through}
use Rattle.cache_folder.specs.Starts.{Belongs}
use Rattle.cache_folder.specs.inside.Leaving.{AreKnown, Sweeps}
use Rattle.cache_folder.proofs.Runs.{run_none, run_has, run_weaken, known_more}
use Rattle.cache_folder.proofs.Settling.{run_on}
use Rattle.cache_folder.proofs.Sweeping.{sweeps_none, sweeps_more, held_next, held_last}
use Rattle.cache_folder.proofs.leftovers.sweep.Goals as goal

pub loop-name-init : goal.loop-name-init
loop-name-init g c = record {
  known = λ k e. (k, sym c.in_ok-found.ensures.same ∙ e);
  later = c.in_ok-found.ensures.cause.later;
  moments = λ h e. run_none (Sweeps c.args.table.now.table.entries h.held) h _ (c.in_ok-found.ensures.same ∙ e) (sweeps_none c.args.table.now.table.entries h.held (c.requires.alone h e));
  tidy = λ k e name there. inr (ap (list_any (bytes_eq name)) c.deref-name-items.ensures.value ∙ (c.in_ok-found.ensures.names k (sym c.in_ok-found.ensures.same ∙ e)).held name ∙ there);
}

pub sweep_file-requires : goal.sweep_file-requires
sweep_file-requires g c = record {
  clean = λ k e. let h = c.loop-name.invariant.known k e in c.requires.clean h.0 h.1;
  alone = λ k e. let h = c.loop-name.invariant.known k e in (run_has _ h.0 k _ (c.loop-name.invariant.moments h.0 h.1) e).alone;
  offers = λ k e.
      let h = c.loop-name.invariant.known k e in
      subst (λ ps. AreKnown ps c.args.table.now.table.entries) (sym (run_has _ h.0 k _ (c.loop-name.invariant.moments h.0 h.1) e).offers) (c.requires.offers h.0 h.1);
}

-- the moments so far, and those of one file more
pub loop-name-preserved : goal.loop-name-preserved
loop-name-preserved g c = record {
  known = known_more _ _ _ c.loop-name.invariant.known c.in_ok-sweep_file.ensures.known;
  later = omega (arith, c.loop-name.invariant.later, c.in_ok-sweep_file.ensures.cause.later);
  moments = λ h e.
      let es = c.args.table.now.table.entries in
      let first = c.loop-name.invariant.moments h e in
      let m : FolderHistory = passed_through first.contents h in
      run_on (Sweeps es h.held) h _ _ first (run_weaken (Sweeps es m.held) (Sweeps es h.held) m _ (λ d s. sweeps_more es h.held m.held d first.here s) (c.in_ok-sweep_file.ensures.moments m first.after_is));
  tidy = λ k e name there.
      let m = c.in_ok-sweep_file.ensures.known k e in
      let swept = run_has _ m.0 k _ (c.in_ok-sweep_file.ensures.moments m.0 m.1) e in
      held_next c.deref-name-items.result.now c.loop-name.name-index c.name-item.result name (Belongs name c.args.table.now.table.entries) c.loop-name-test.true c.name-item.is
      (λ same. subst (λ n. Belongs n c.args.table.now.table.entries) (sym same) (c.in_ok-sweep_file.ensures.gone refl k e (subst (λ n. IsSome (get k.held n)) same there)))
      (c.loop-name.invariant.tidy m.0 m.1 name (swept.fewer name there));
}

pub returns-in_err-found-clause-known : goal.returns-in_err-found-clause-known
returns-in_err-found-clause-known g c = λ k e. (k, sym c.in_err-found.ensures.same ∙ e)

pub returns-in_err-found-clause-moments : goal.returns-in_err-found-clause-moments
returns-in_err-found-clause-moments g c = λ h e. run_none (Sweeps c.args.table.now.table.entries h.held) h _ (c.in_err-found.ensures.same ∙ e) (sweeps_none c.args.table.now.table.entries h.held (c.requires.alone h e))

pub returns-in_err-sweep_file-clause-known : goal.returns-in_err-sweep_file-clause-known
returns-in_err-sweep_file-clause-known g c = known_more _ _ _ c.loop-name.invariant.known c.in_err-sweep_file.ensures.known

pub returns-in_err-sweep_file-clause-moments : goal.returns-in_err-sweep_file-clause-moments
returns-in_err-sweep_file-clause-moments g c = λ h e.
    let es = c.args.table.now.table.entries in
    let first = c.loop-name.invariant.moments h e in
    let m : FolderHistory = passed_through first.contents h in
    run_on (Sweeps es h.held) h _ _ first (run_weaken (Sweeps es m.held) (Sweeps es h.held) m _ (λ d s. sweeps_more es h.held m.held d first.here s) (c.in_err-sweep_file.ensures.moments m first.after_is))

pub returns-clause-tidy : goal.returns-clause-tidy
returns-clause-tidy g c = λ ok k e name there.
    held_last c.deref-name-items.result.now c.loop-name.name-index name (Belongs name c.args.table.now.table.entries) c.loop-name-test.false (c.loop-name.invariant.tidy k e name there)
