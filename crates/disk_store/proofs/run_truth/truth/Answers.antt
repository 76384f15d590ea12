use Rattle.std.proofs.Common.{Option, sym, ap, subst, ◌∙◌}
use Rattle.outside.specs.Content.{Contents}
use Rattle.store_world.specs.Right.{IsTruthOf}
use Rattle.store_world.specs.Truth.{truth_of}
use Rattle.disk_store.proofs.run_truth.truth.Goals as goal

pub returns-clause-truth : goal.returns-clause-truth
returns-clause-truth g c =
    let files = g.F.Files.history c.args.files.now in
    subst (IsTruthOf c.args.told files)
    (sym (c.shown_by.ensures ∙ c.update_snapshot.ensures ∙ ap (λ (told : Option Contents). truth_of told files) c.of-shown.ensures))
    (c.rightness_is_decided.ensures.truth c.args.told files)
