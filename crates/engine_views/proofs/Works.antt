-- What the engine's only caller leaves as it is while it runs jobs.
use Rattle.std.proofs.Common.{◌≡◌, ℕ, Bool, List, [], ◌∷◌, ◌++◌, refl, ap, sym, subst, ◌∙◌, append_assoc, append-nil}
use Rattle.std.specs.FinMap.{get}
use Rattle.state_machine.specs.declared.entry.Entry.{Entry}
use Rattle.state_machine.specs.Histories.{own}
use Rattle.engine_world.specs.declared.events.Event.{Event}
use Rattle.engine_world.specs.declared.events.Event.TheVariants as events
use Rattle.engine_world.specs.declared.events.NotedReply.{NotedReply}
use Rattle.engine_world.specs.declared.events.Note.{Note}
use Rattle.engine_world.specs.Knowledge.{Knowledge, updated}
use Rattle.engine_world.specs.Permits.{IsOwnReady}
use Rattle.engine_world.specs.World.{World}
use Rattle.engine_world.specs.EngineMachine.{opening_of}
use Rattle.engine_world.specs.Laws.{KeepsOpening, IsRelease}
use Rattle.engine_shared.specs.Caller.{Leads, Caller, knowledge_of, content_of, picture_held, entry_of, IsCall}
use Rattle.fetch_bounds.specs.Follows.{IsWork, AllWork}
use Rattle.decode_job.specs.JobCalls.{IsOfJob, tells_not_cancelled, AreOfJob, MakesCalls}
use Rattle.engine_views.proofs.StaysOpen.{LeavesOpen, stays_open}
use Rattle.engine_views.proofs.Owners.{AllFirst, own_are_all, IsStep, opening_along}

-- The caller made some calls that were work. Its loads are as they were, and show what they showed.
pub record Works (old new : Caller) : Type 0 where
  pub begun : (knowledge_of new).begun ≡ (knowledge_of old).begun
  pub loads : (knowledge_of new).loads ≡ (knowledge_of old).loads
  pub pictures : (n : ℕ) → IsOwnReady (knowledge_of old) n → picture_held new n ≡ picture_held old n
  pub content : content_of new ≡ content_of old
  pub later : List (Entry Note)
  pub seen : new.seen ≡ old.seen ++ later
  pub work : AllWork later
  pub opening : opening_of new.world ≡ opening_of old.world

pub AllWork-append : (xs ys : List (Entry Note)) → AllWork xs → AllWork ys → AllWork (xs ++ ys)
AllWork-append [] ys first second = second
AllWork-append (e ∷ xs) ys first second = (first.0, AllWork-append xs ys first.1 second)

pub works_not : (c : Caller) → Works c c
works_not c = record {
  begun = refl;
  loads = refl;
  pictures = λ n own. refl;
  content = refl;
  later = [];
  seen = sym (append-nil c.seen);
  work = tt;
  opening = refl;
}

pub works_on : (a b c : Caller) → Works a b → Works b c → Works a c
works_on a b c first second = record {
  begun = second.begun ∙ first.begun;
  loads = second.loads ∙ first.loads;
  pictures = λ n own. second.pictures n (own.0, ap (λ m. get m n) first.loads ∙ own.1, own.2) ∙ first.pictures n own;
  content = second.content ∙ first.content;
  later = first.later ++ second.later;
  seen = second.seen ∙ ap (λ l. l ++ second.later) first.seen ∙ append_assoc a.seen first.later second.later;
  work = AllWork-append first.later second.later first.work second.work;
  opening = second.opening ∙ first.opening;
}

-- One call, of an event that is work and leaves the caller's loads.
pub record LeavesLoads (event : Event) (reply : NotedReply) (known : Knowledge) : Type 0 where
  pub begun : (updated event reply known).begun ≡ known.begun
  pub loads : (updated event reply known).loads ≡ known.loads

pub works_once : (old new : Caller) (event : Event) (reply : NotedReply) → IsWork event → LeavesLoads event reply (knowledge_of old)
    → ((n : ℕ) → IsRelease (old.who, n) old.who event → ⊥) → IsCall old event reply new → IsStep old event reply new → Works old new
works_once old new event reply work leaves not call is = record {
  begun = ap (λ (k : Knowledge). k.begun) call.knowledge ∙ leaves.begun;
  loads = ap (λ (k : Knowledge). k.loads) call.knowledge ∙ leaves.loads;
  pictures = λ n own. call.pictures n own (not n);
  content = call.content;
  later = entry_of old event reply ∷ [];
  seen = is.seen;
  work = (work, tt);
  opening = is.opening;
}

-- The calls that it makes for a job.
of_job-work : (j : ℕ) (told : Bool) (event : Event) → IsOfJob j told event → IsWork event
of_job-work j told (events.IsCancelled i) is = tt
of_job-work j told (events.Take i width height config) is = tt
of_job-work j told (events.GiveBack i bitmap) is = tt
of_job-work j told event is = absurd is

pub of_job-all_work : (j : ℕ) (told : Bool) (es : List (Entry Note)) → AreOfJob j told es → AllWork es
of_job-all_work j told [] all = tt
of_job-all_work j told (e ∷ es) all =
    (of_job-work j told e.note.event all.0, of_job-all_work j (tells_not_cancelled e.note.event e.note.reply) es all.1)

-- They do not close the engine.
of_job-open : (j : ℕ) (told : Bool) (event : Event) → IsOfJob j told event → LeavesOpen event
of_job-open j told (events.IsCancelled i) is = tt
of_job-open j told (events.Take i width height config) is = tt
of_job-open j told (events.GiveBack i bitmap) is = tt
of_job-open j told event is = absurd is

pub calls_stay_open : (es : List (Entry Note)) (j : ℕ) (told : Bool) (w z : World) → AreOfJob j told es → Leads w es z → z.closed ≡ w.closed
calls_stay_open [] j told w z all leads = ap (λ (v : World). v.closed) (sym leads)
calls_stay_open (e ∷ es) j told w z all leads =
    calls_stay_open es j (tells_not_cancelled e.note.event e.note.reply) leads.0 z all.1 leads.2
    ∙ stays_open w leads.0 e.by e.note.event e.note.reply (of_job-open j told e.note.event all.0) leads.1

-- those of the only caller are all that there are
pub all_of_job : (told : Bool) (old new : Caller) (j : ℕ) → old.who ≡ 0 → (calls : MakesCalls told old j new) → AllFirst calls.later → AreOfJob j told calls.later
all_of_job told old new j first calls all =
    subst (AreOfJob j told) (ap (λ who. own who calls.later) first ∙ own_are_all calls.later all) calls.mine

pub works_for : ((event : Event) → KeepsOpening event) → (told : Bool) (old new : Caller) (j : ℕ) → (calls : MakesCalls told old j new) → AreOfJob j told calls.later → Works old new
works_for opens told old new j calls all = record {
  begun = calls.begun;
  loads = calls.loads;
  pictures = calls.pictures;
  content = calls.content;
  later = calls.later;
  seen = calls.seen;
  work = of_job-all_work j told calls.later all;
  opening = opening_along opens old.world new.world calls.later calls.led;
}
