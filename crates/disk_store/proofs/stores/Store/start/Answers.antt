use Rattle.std.proofs.Common.{[], false, sym, subst, ◌∙◌}
use Rattle.disk_lru.specs.Started.{IsStarted}
use Rattle.store_world.specs.World.{World}
use Rattle.store_world.specs.StoreMachine.{IsOpening}
use Rattle.disk_store.specs.StoreView.{off_world}
use Rattle.disk_store.proofs.Opening.{offers_same, opens_off, opens_disk}
use Rattle.disk_store.proofs.stores.Store.start.Goals as goal

pub returns-in_default-clause-refused : goal.returns-in_default-clause-refused
returns-in_default-clause-refused g c = offers_same (g.F.Files.history c.args.files)

pub fresh-requires-clause-opens : goal.fresh-requires-clause-opens
fresh-requires-clause-opens g c =
    let files = g.F.Files.history c.args.files in
    let w : World = record { off = false; disk = c.in-Ok-start.disk; content = c.args.told; requests = [] } in
    let here : IsOpening c.args.told files w = opens_disk files c.in-Ok-start.disk c.args.told c.in-Ok-start.ensures.past c.promise.ensures.promise c.promise.ensures.once c.in-Ok-start.ensures.free in
    subst (λ (v : World). IsOpening v.content (g.F.Files.history c.of-before.result.value) v) (sym c.with_disk.ensures)
    (subst (λ f. IsOpening c.args.told (g.F.Files.history f) w) (sym c.of-before.ensures) here)

pub fresh-requires-in-Failed-clause-opens : goal.fresh-requires-in-Failed-clause-opens
fresh-requires-in-Failed-clause-opens g c =
    let files = g.F.Files.history c.args.files in
    let left = g.F.Files.history c.in-Err.refused.files in
    let w : World = off_world left (g.F.Files.faults c.in-Err.refused.files) c.args.told in
    let here : IsOpening c.args.told files w = opens_off files left (g.F.Files.faults c.in-Err.refused.files) c.args.told c.in-Err.ensures.known c.in-Err.ensures.refused in
    subst (λ (v : World). IsOpening v.content (g.F.Files.history c.of-before.result.value) v) (sym (c.off-off.ensures ∙ c.new-in-Failed.ensures))
    (subst (λ f. IsOpening c.args.told (g.F.Files.history f) w) (sym c.of-before.ensures) here)

pub returns-in-Ok-start-clause-started : goal.returns-in-Ok-start-clause-started
returns-in-Ok-start-clause-started g c = λ serves h is.
    subst (λ (v : World). IsStarted c.args.maximum h v.disk) (sym (c.fresh.ensures.world_is ∙ c.with_disk.ensures)) (c.in-Ok-start.ensures.started h is)
