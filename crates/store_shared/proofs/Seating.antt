-- A call of a turn is a step of its seat's caller.
use Rattle.std.proofs.Common.{◌≡◌, List, [], ◌∷◌, ◌++◌, true, false, refl, ap, sym, subst, ◌∙◌}
use Rattle.std.proofs.lemmas.List.{append-nil}
use Rattle.state_machine.specs.declared.entry.Entry.{Entry}
use Rattle.state_machine.specs.Histories.{entry, own}
use Rattle.state_machine.specs.Legal as histories
use Rattle.state_machine.specs.Laws.{OwnEntriesAppend, HistoriesBegin}
use Rattle.turn_lock.specs.Turns.{TurnState, SeatState, GoesOn, CanHave}
use Rattle.store_world.specs.declared.events.StoreEvent.{StoreEvent}
use Rattle.store_world.specs.declared.events.StoreEvent.TheVariants as events
use Rattle.store_world.specs.declared.events.StoreReply.{StoreReply}
use Rattle.store_world.specs.declared.events.StoreReply.TheVariants as replies
use Rattle.store_world.specs.declared.events.Note.{Note}
use Rattle.store_world.specs.World.{World}
use Rattle.store_world.specs.Steps.{Transition}
use Rattle.store_world.specs.Knowledge.{updated, learned, knowledge_in}
use Rattle.store_world.specs.StoreMachine.{noted}
use Rattle.store_world.specs.Histories.{OwnEntriesTell, HistoriesStaySound}
use Rattle.disk_store.specs.Kept.{StoreValue}
use Rattle.store_shared.specs.Caller.{Caller, store, IsMoment, IsStep, MadeSteps}
use Rattle.store_shared.specs.Answers.{Waits, granted, not_yet}
use Rattle.store_shared.specs.Seated.{caller_at, IsSeated, AreRefusals, Waited}
use Rattle.store_shared.proofs.Chained.{one_step, joined}

module _ (begin : HistoriesBegin store) (owns : OwnEntriesAppend Note) (learns : OwnEntriesTell) (stays : HistoriesStaySound StoreValue) where
  moment_at : (turn : TurnState StoreValue) (seat : SeatState StoreValue Note) (past : List (Entry Note)) (w : World) → IsSeated turn seat → histories.IsLegal store turn.start.opening past w → IsMoment turn.start.opening past w
  moment_at turn seat past w seated legal =
      let both = stays (λ s. s.opening) (λ s. s.world) (λ s. s.history) turn.start.opening w past seated.sound legal in
      record { legal = legal; sound = both.0; settings = both.1 }

  pub seat_step : (turn : TurnState StoreValue) (old new : SeatState StoreValue Note) (event : StoreEvent) (reply : StoreReply) → IsSeated turn old → new.number ≡ old.number
      → GoesOn old (entry old.number (noted event reply)) new → CanHave store turn.start.opening new.seen → IsStep (caller_at turn old) (noted event reply) (caller_at turn new)
  seat_step turn old new event reply seated same goes can =
      let note : Note = noted event reply in
      let past = old.seen ++ goes.between in
      let legal = subst (λ h. histories.IsLegal store turn.start.opening h can.0) goes.seen_is can.1 in
      let parts = begin turn.start.opening can.0 past (entry old.number note ∷ []) legal in
      let known : knowledge_in past old.number ≡ knowledge_in old.seen old.number = ap learned (owns old.number old.seen goes.between ∙ ap (λ l. own old.number old.seen ++ l) goes.none_missed ∙ append-nil (own old.number old.seen)) in
      record {
        others = goes.between;
        who = same;
        turn = refl;
        opening = refl;
        seen = goes.seen_is;
        none_own = goes.none_missed;
        before = parts.0;
        after = can.0;
        from = moment_at turn old past parts.0 seated parts.1;
        step = subst (λ z. Transition parts.0 old.number event reply z) parts.2.2 parts.2.1;
        to = moment_at turn old new.seen can.0 seated can.1;
        known = known;
        knowledge = ap (λ n. knowledge_in new.seen n) same ∙ ap (λ h. knowledge_in h old.number) goes.seen_is ∙ learns past old.number note ∙ ap (updated event reply) known;
      }

-- ---- waiting

pub no_wait : (c : Caller) → Waited c c
no_wait c = record { notes = []; refused = tt; steps = refl; same = refl }

refused_more : (notes : List Note) → AreRefusals notes → AreRefusals (notes ++ noted events.Granted (replies.Front false) ∷ [])
refused_more [] are = (refl, tt)
refused_more (note ∷ notes) are = (are.0, refused_more notes are.1)

-- and once more
pub waited_more : (a b c : Caller) → Waited a b → IsStep b (noted events.Granted (replies.Front false)) c → Waited a c
waited_more a b c waited step = record {
  notes = waited.notes ++ noted events.Granted (replies.Front false) ∷ [];
  refused = refused_more waited.notes waited.refused;
  steps = joined a b c waited.notes _ waited.steps (one_step b c _ step);
  same = step.knowledge ∙ waited.same;
}

ends_wait : (notes : List Note) → AreRefusals notes → Waits (notes ++ noted events.Granted (replies.Front true) ∷ [])
ends_wait [] are = granted
ends_wait (note ∷ notes) are = subst (λ n. Waits (n ∷ notes ++ noted events.Granted (replies.Front true) ∷ [])) (sym are.0) (not_yet _ (ends_wait notes are.1))

pub waited_enough : (a b c : Caller) → Waited a b → IsStep b (noted events.Granted (replies.Front true)) c → MadeSteps Waits a c
waited_enough a b c waited step = (
  waited.notes ++ noted events.Granted (replies.Front true) ∷ [],
  ends_wait waited.notes waited.refused,
  joined a b c waited.notes _ waited.steps (one_step b c _ step),
)
