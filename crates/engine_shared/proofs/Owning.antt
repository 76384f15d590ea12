-- A step of a core is a call of its owner.
use Rattle.std.proofs.Common.{◌≡◌, ℕ, ◌+◌, ◌<◌, true, false, Ok, Err, [], ◌∷◌, ◌++◌, length, Some, None, Option, refl, ap, sym, subst, ◌∙◌}
use Rattle.std.proofs.lemmas.List.{append-nil}
use Rattle.cache_key.specs.declared.load_spec.LoadSpec.{LoadSpec}
use Rattle.state_machine.specs.declared.entry.Entry.{Entry}
use Rattle.state_machine.specs.Histories.{entry}
use Rattle.engine_world.specs.declared.events.Event.{Event}
use Rattle.engine_world.specs.declared.events.Event.TheVariants as events
use Rattle.engine_world.specs.declared.events.NotedReply.{NotedReply}
use Rattle.engine_world.specs.declared.events.NotedReply.TheVariants as replies
use Rattle.engine_world.specs.declared.events.Note.{Note}
use Rattle.engine_world.specs.Steps.{Transition}
use Rattle.engine_world.specs.Knowledge.{Knowledge}
use Rattle.engine_world.specs.Permits.{Permits}
use Rattle.engine_world.specs.EngineMachine.{opening_of}
use Rattle.engine_core.specs.CoreView.{CoreValue}
use Rattle.engine_shared.specs.Caller.{knowledge_of, content_of, noted, IsPast, IsLegal, IsCall}
use Rattle.engine_shared.specs.CallLaws.{StepsAreCalls}
use Rattle.engine_shared.specs.declared.answers.Full.{Full}
use Rattle.engine_shared.specs.Answers.{IsLoaded}
use Rattle.engine_shared.specs.Kinds.{IsNoLoad}
use Rattle.engine_shared.specs.Owned.{owner_of, IsOwned}
use Rattle.engine_shared.proofs.Steps.{some_in}
use Rattle.engine_shared.proofs.Counting.{begun_stays, counts_load, counts_none}

-- a core that has made no step
pub opened_legal : (core : CoreValue) → core.history ≡ [] → core.world ≡ opening_of core.world → 0 < length core.world.limits.quotas → IsOwned core 0
opened_legal core fresh opened seat = record {
  legal = record {
    past = subst (IsPast core.world) (sym fresh) (record { leads = sym opened; asked = λ xs ys e is. absurd (some_in xs ys e (sym is)) });
    seat = seat;
  };
  count = ap (λ h. (knowledge_of (record { who = 0; seen = h; world = core.world })).begun) (sym fresh);
}

-- where no step of others comes before it
pub core_call : StepsAreCalls → (core next : CoreValue) (event : Event) (reply : NotedReply) → IsLegal (owner_of core) → Permits (content_of (owner_of core)) (knowledge_of (owner_of core)) event
    → Transition core.world 0 event reply next.world → next.history ≡ core.history ++ entry 0 (noted event reply) ∷ [] → IsCall (owner_of core) event reply (owner_of next)
core_call calls core next event reply legal permits step history =
    let e : Entry Note = entry 0 (noted event reply) in
    subst (λ h. IsCall (owner_of core) event reply (record { who = 0; seen = h; world = next.world })) (ap (λ l. l ++ e ∷ []) (append-nil core.history) ∙ sym history)
    (calls (owner_of core) event reply [] core.world next.world legal refl refl (subst (IsPast core.world) (sym (append-nil core.history)) legal.past) permits step)

-- such an event leaves the engine its owner's
pub stays_owned : (core next : CoreValue) (begun : ℕ) (event : Event) (reply : NotedReply) → IsOwned core begun → IsNoLoad event → IsCall (owner_of core) event reply (owner_of next) → IsOwned next begun
stays_owned core next begun event reply owned other call = record {
  legal = call.legal;
  count = owned.count ∙ sym (begun_stays (knowledge_of (owner_of core)) event reply other) ∙ ap (λ (k : Knowledge). k.begun) (sym call.knowledge);
}

-- ---- a load

-- one that is not refused is counted, and leaves the engine its owner's
pub loads_owned : (core next : CoreValue) (begun : ℕ) (spec : LoadSpec) (reply : NotedReply) (made : Unit {0}) → IsOwned core begun → IsLoaded (Ok made) reply → IsCall (owner_of core) (events.Load spec) reply (owner_of next) → IsOwned next (begun + 1)
loads_owned core next begun spec reply made owned is call = record {
  legal = call.legal;
  count = ap (λ n. n + 1) owned.count ∙ sym (counts_load spec (knowledge_of (owner_of core)) made reply is) ∙ ap (λ (k : Knowledge). k.begun) (sym call.knowledge);
}

-- and so does one that is refused
pub full_owned : (core next : CoreValue) (begun : ℕ) (spec : LoadSpec) (reply : NotedReply) (full : Full) → IsOwned core begun → IsLoaded {A = Unit {0}} (Err full) reply → IsCall (owner_of core) (events.Load spec) reply (owner_of next) → IsOwned next begun
full_owned core next begun spec reply full owned is call = record {
  legal = call.legal;
  count = owned.count ∙ sym (counts_none spec (knowledge_of (owner_of core)) full reply is) ∙ ap (λ (k : Knowledge). k.begun) (sym call.knowledge);
}
