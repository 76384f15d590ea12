use Rattle.store_shared.specs.Seated.{Waited}
use Rattle.store_shared.proofs.shared.SeatedStoreStoreSteps.lock.Given as goal

abbrev pub invariant-loop : goal.invariant-loop
invariant-loop g l = record {
  next : (goal.iterator-loop g).can_next l.iterator';
  finite : (goal.iterator-loop g).is_finite l.iterator';
  waited : Waited l.initial.self l.self;
}
