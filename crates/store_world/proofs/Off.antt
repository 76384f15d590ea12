-- A store that is off changes nothing.
use Rattle.std.proofs.Common.{◌≡◌, ℕ, [], sym, ap, subst, ◌∙◌}
use Rattle.std.specs.Prelude.{IsSomeAnd}
use Rattle.store_world.specs.declared.events.StoreEvent.{StoreEvent}
use Rattle.store_world.specs.declared.events.StoreEvent.TheVariants as events
use Rattle.store_world.specs.World.{Request, World, request_of, without_seat}
use Rattle.store_world.specs.Steps.{IsOutcome, with_requests, Fetch, want, is_too_large, WithRequest}
use Rattle.store_world.specs.Laws.{KeepsOff}

-- where no seat wants a lock, no event of a seat that wants one is made
no_request : (does : Request → Type 0) (w : World) (who : ℕ) → w.requests ≡ [] → WithRequest w who does → ⊥
no_request does w who empty h = subst (λ o. IsSomeAnd o does) (ap (request_of who) empty) h

pub off_law : (event : StoreEvent) → KeepsOff event
off_law (events.Fetch key) w z known who reply s off does = (subst (λ b. Fetch b w key reply z) off does).1
off_law (events.Want key length payload) w z known who reply s off does =
    (subst (λ b. IsOutcome reply z (want b (is_too_large w.disk.cache.maximum length payload) w who key)) off does).1
off_law events.Granted w z known who reply s off does = absurd (no_request _ w who (s.off off) does)
off_law events.Begin w z known who reply s off does = absurd (no_request _ w who (s.off off) does)
off_law (events.Write bytes) w z known who reply s off does = absurd (no_request _ w who (s.off off) does)
off_law events.Commit w z known who reply s off does = absurd (no_request _ w who (s.off off) does)
off_law events.GiveUp w z known who reply s off does = absurd (no_request _ w who (s.off off) does)
off_law events.Done w z known who reply s off does =
    let empty = s.off off in
    does.1 ∙ ap (λ rs. with_requests (without_seat who rs) w) empty ∙ ap (λ rs. with_requests rs w) (sym empty)
