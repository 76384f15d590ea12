-- A step of a store is a step of its owner.
use Rattle.std.proofs.Common.{◌≡◌, ◌≢◌, ℕ, zero, suc, Bool, true, false, cond, eqb, List, [], ◌∷◌, ◌++◌, Some, None, refl, ap, sym, subst, ◌∙◌, arith}
use Rattle.std.specs.Prelude.{◌&&◌, IsSomeAnd}
use Rattle.std.specs.declared.option.Option.{Option}
use Rattle.std.specs.Str.{bytes_eq}
use Rattle.std.proofs.lemmas.Bool.{eqb-true, eq-eqb, false_from_ne_true}
use Rattle.std.proofs.lemmas.List.{append-nil}
use Rattle.state_machine.specs.declared.entry.Entry.{Entry}
use Rattle.state_machine.specs.Histories.{entry, own}
use Rattle.state_machine.specs.Legal as histories
use Rattle.state_machine.specs.Laws.{OwnEntriesAppend, HistoriesGrow}
use Rattle.store_world.specs.declared.events.StoreEvent.{StoreEvent}
use Rattle.store_world.specs.declared.events.StoreEvent.TheVariants as events
use Rattle.store_world.specs.declared.events.StoreReply.{StoreReply}
use Rattle.store_world.specs.declared.events.StoreReply.TheVariants as replies
use Rattle.store_world.specs.declared.events.Note.{Note}
use Rattle.store_world.specs.World.{Request, Requests, World, request_of, queue_of, is_first, has_lock}
use Rattle.store_world.specs.Steps.{IsOutcome, ask_granted, Transition}
use Rattle.store_world.specs.Knowledge.{learned, knowledge_in}
use Rattle.store_world.specs.Permits.{Permits}
use Rattle.store_world.specs.Sound.{Sound}
use Rattle.store_world.specs.StoreMachine.{noted}
use Rattle.store_world.specs.Laws.{SameSettings}
use Rattle.store_world.specs.Histories.{OwnEntriesTell}
use Rattle.disk_store.specs.Kept.{StoreValue}
use Rattle.store_shared.specs.Caller.{Caller, store, IsMoment, IsStep, MadeSteps}
use Rattle.store_shared.specs.Answers.{Waits, granted}
use Rattle.store_shared.specs.Owned.{owner_of, IsOwned}
use Rattle.store_shared.proofs.Chained.{one_step}

-- ---- other seats

-- other seats have still made none
others_none : OwnEntriesAppend Note → (history : List (Entry Note)) (note : Note) (who : ℕ) → who ≢ 0 → own who history ≡ [] → own who (history ++ entry 0 note ∷ []) ≡ []
others_none owns history note who other none =
    let not : eqb 0 who ≡ false = false_from_ne_true (eqb 0 who) (λ is. other (sym (eqb-true 0 who is))) in
    owns who history (entry 0 note ∷ []) ∙ ap (λ b. own who history ++ cond b (entry 0 note ∷ []) []) not ∙ append-nil (own who history) ∙ none

-- ---- steps

module _ (owns : OwnEntriesAppend Note) (learns : OwnEntriesTell) (grow : HistoriesGrow store) (old new : StoreValue) (event : StoreEvent) (reply : StoreReply) where
  abbrev note : Note
  note = noted event reply

  abbrev grown : List (Entry Note)
  grown = old.history ++ entry 0 note ∷ []

  moment_after : IsOwned old → Permits old.opening.content (knowledge_in old.history 0) event → Transition old.world 0 event reply new.world → new.history ≡ grown → new.opening ≡ old.opening
      → Sound new.world (knowledge_in new.history) → SameSettings new.opening new.world → IsMoment new.opening new.history new.world
  moment_after owned permits step history opening sound settings =
      let may : histories.MayFollow store old.opening old.history (entry 0 note) = record { seat = omega arith; asked = permits } in
      let legal = grow old.opening old.world new.world old.history (entry 0 note) owned.moment.legal may step in
      record {
        legal = subst (λ o. histories.IsLegal store o new.history new.world) (sym opening) (subst (λ h. histories.IsLegal store old.opening h new.world) (sym history) legal);
        sound = sound;
        settings = settings;
      }

  pub owner_step : IsOwned old → Permits old.opening.content (knowledge_in old.history 0) event → Transition old.world 0 event reply new.world → new.history ≡ grown → new.opening ≡ old.opening
      → Sound new.world (knowledge_in new.history) → SameSettings new.opening new.world → IsStep (owner_of old) note (owner_of new)
  owner_step owned permits step history opening sound settings = record {
    others = [];
    who = refl;
    turn = refl;
    opening = opening;
    seen = history ∙ ap (λ l. l ++ entry 0 note ∷ []) (sym (append-nil old.history));
    none_own = refl;
    before = old.world;
    after = new.world;
    from = subst (λ h. IsMoment old.opening h old.world) (sym (append-nil old.history)) owned.moment;
    step = step;
    to = moment_after owned permits step history opening sound settings;
    known = ap (λ h. knowledge_in h 0) (append-nil old.history);
    knowledge = ap (λ h. knowledge_in h 0) history ∙ learns old.history 0 note;
  }

  pub stays_owned : IsOwned old → Permits old.opening.content (knowledge_in old.history 0) event → Transition old.world 0 event reply new.world → new.history ≡ grown → new.opening ≡ old.opening
      → Sound new.world (knowledge_in new.history) → SameSettings new.opening new.world → IsOwned new
  stays_owned owned permits step history opening sound settings = record {
    moment = moment_after owned permits step history opening sound settings;
    alone = λ who other. ap (own who) history ∙ others_none owns old.history note who other (owned.alone who other);
  }

-- ---- the lock

same_bytes : (xs : List ℕ) → bytes_eq xs xs ≡ true
same_bytes [] = refl
same_bytes (x ∷ xs) = ap (λ b. b && bytes_eq xs xs) (eq-eqb x x refl) ∙ same_bytes xs

-- where no other seat has a request, the only one has its lock
first_alone : (requests : Requests) (request : Request) → ((who : ℕ) → who ≢ 0 → request_of who requests ≡ None) → request_of 0 requests ≡ Some request → has_lock 0 requests ≡ true
first_alone [] request others is = let bad : None ≡ Some request = is in cc
first_alone ((zero, r) ∷ requests) request others is = ap (λ b. is_first 0 (cond b (0 ∷ queue_of r.key requests) (queue_of r.key requests))) (same_bytes r.key)
first_alone ((suc k, r) ∷ requests) request others is =
    let here : request_of (suc k) ((suc k, r) ∷ requests) ≡ Some r = ap (λ b. cond b (Some r) (request_of (suc k) requests)) (eq-eqb (suc k) (suc k) refl) in
    let none : request_of (suc k) ((suc k, r) ∷ requests) ≡ None = others (suc k) (λ e. absurd (omega (arith, e))) in
    let bad : Some r ≡ None = sym here ∙ none in
    cc

granted_true : (w z : World) (reply : StoreReply) (o : Option Request) (has : Bool) → has ≡ true → IsSomeAnd o (λ request. IsOutcome reply z (ask_granted w 0 has request)) → reply ≡ replies.Front true
granted_true w z reply None has is told = absurd told
granted_true w z reply (Some request) has is told = told.0 ∙ ap replies.Front is

pub lock_of_owner : (old : StoreValue) (z : World) (reply : StoreReply) → IsOwned old → (request : Request) → knowledge_in old.history 0 ≡ Some request → Transition old.world 0 events.Granted reply z → reply ≡ replies.Front true
lock_of_owner old z reply owned request is step =
    let sound = owned.moment.sound in
    let others : (who : ℕ) → who ≢ 0 → request_of who old.world.requests ≡ None = λ who other. sym (sound.known_is who) ∙ ap learned (owned.alone who other) in
    granted_true old.world z reply (request_of 0 old.world.requests) (has_lock 0 old.world.requests) (first_alone old.world.requests request others (sym (sound.known_is 0) ∙ is)) step

pub waits_alone : (a b : Caller) (reply : StoreReply) → reply ≡ replies.Front true → IsStep a (noted events.Granted reply) b → MadeSteps Waits a b
waits_alone a b reply is step = (noted events.Granted (replies.Front true) ∷ [], granted, one_step a b _ (subst (λ r. IsStep a (noted events.Granted r) b) is step))

-- ---- a store that has made no step

pub opened_owned : ((w : World) → histories.IsLegal store w [] w) → (s : StoreValue) → s.history ≡ [] → s.world ≡ s.opening → Sound s.world (knowledge_in s.history) → SameSettings s.opening s.world → IsOwned s
opened_owned legal s none opened sound settings = record {
  moment = record {
    legal = subst (λ h. histories.IsLegal store s.opening h s.world) (sym none) (subst (λ w. histories.IsLegal store s.opening [] w) (sym opened) (legal s.opening));
    sound = sound;
    settings = settings;
  };
  alone = λ who other. ap (own who) none;
}
