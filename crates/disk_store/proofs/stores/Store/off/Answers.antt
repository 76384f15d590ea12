use Rattle.std.proofs.Common.{sym, subst, ◌∙◌}
use Rattle.store_world.specs.World.{World}
use Rattle.store_world.specs.StoreMachine.{IsOpening}
use Rattle.disk_store.specs.StoreView.{off_world}
use Rattle.disk_store.proofs.Opening.{offers_same, known_same, opens_off}
use Rattle.disk_store.proofs.stores.Store.off.Goals as goal

pub fresh-requires-clause-opens : goal.fresh-requires-clause-opens
fresh-requires-clause-opens g c =
    let files = g.F.Files.history c.args.files in
    let w : World = off_world files (g.F.Files.faults c.args.files) c.args.told in
    let here : IsOpening c.args.told files w = opens_off files files (g.F.Files.faults c.args.files) c.args.told (known_same files) (offers_same files) in
    subst (λ (v : World). IsOpening v.content (g.F.Files.history c.of-before.result.value) v) (sym {b = w} (c.off.ensures ∙ c.new.ensures))
    (subst (λ f. IsOpening c.args.told (g.F.Files.history f) w) (sym c.of-before.ensures) here)
