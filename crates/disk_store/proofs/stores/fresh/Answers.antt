use Rattle.std.proofs.Common.{ℕ, List, sym, subst}
use Rattle.state_machine.specs.declared.entry.Entry.{Entry}
use Rattle.store_world.specs.declared.events.Note.{Note}
use Rattle.store_world.specs.World.{World}
use Rattle.disk_store.specs.Kept.{IsStore}
use Rattle.disk_store.proofs.Stepping.{opens_store}
use Rattle.disk_store.proofs.stores.fresh.Goals as goal

pub invariant_of-result : goal.invariant_of-result
invariant_of-result g c =
    let before = g.F.Files.history c.args.before.value in
    let w : World = c.args.state in
    subst (λ (opening : World). IsStore before opening w c.no_history.result.value) (sym c.of-opening.ensures)
    (subst (λ (past : List (Entry Note)). IsStore before w w past) (sym c.no_history.ensures)
    (opens_store ℕ before w c.openings_are_sound.ensures c.each_history_offers_what_is_right.ensures c.requires.opens c.requires.right))
