-- The engine's only caller runs its jobs, one after the other, until none is queued.
use Rattle.std.proofs.Common.{◌≡◌, ℕ, ◌+◌, ◌<◌, Bool, true, false, cond, eqb, List, [], ◌∷◌, ◌++◌, length, Some, None, Option, refl, ap, sym, subst, ◌∙◌, arith, append_assoc, append-nil}
use Rattle.std.specs.Prelude.{not}
use Rattle.std.specs.FinMap.{get}
use Rattle.std.proofs.lemmas.Bool.{eqb-true}
use Rattle.outside.specs.declared.sources.Source as sources
use Rattle.cache_key.specs.declared.load_spec.LoadSpec.{LoadSpec}
use Rattle.load_cause.specs.declared.causes.Cause.TheVariants as causes
use Rattle.finite_maps.specs.MapLaws.{not_Some, same_Some}
use Rattle.load_table.specs.declared.loads.LoadState.TheVariants.{Waiting}
use Rattle.state_machine.specs.declared.entry.Entry.{Entry}
use Rattle.state_machine.specs.Histories.{own}
use Rattle.script_walk.specs.Starts.{one_if}
use Rattle.engine_world.specs.declared.events.Event.{Event}
use Rattle.engine_world.specs.declared.events.Event.TheVariants as events
use Rattle.engine_world.specs.declared.events.NotedReply.{NotedReply}
use Rattle.engine_world.specs.declared.events.NotedReply.TheVariants as replies
use Rattle.engine_world.specs.declared.events.Note.{Note}
use Rattle.engine_world.specs.World.{LoadState, Job, World}
use Rattle.engine_world.specs.Moves.{next_queued}
use Rattle.engine_world.specs.Knowledge.{OwnLoad, OwnJob, Knowledge, knowledge_in, knowledge_with, learned}
use Rattle.engine_world.specs.Sound.{RefersTo, LoadsAgree, Sound}
use Rattle.engine_world.specs.EngineMachine.{opening_of}
use Rattle.engine_world.specs.Laws.{KeepsOpening, HistoriesAreSound, IsRelease}
use Rattle.engine_core.specs.declared.replies.Reply.{Reply}
use Rattle.engine_core.specs.CoreView.{CoreValue, note_of}
use Rattle.engine_shared.specs.Caller.{Caller, knowledge_of, IsPast, IsLegal, entry_of, IsCall}
use Rattle.engine_shared.specs.declared.answers.Next.{Next}
use Rattle.engine_shared.specs.declared.answers.Next.TheVariants as nexts
use Rattle.engine_shared.specs.Answers.{OfReply, IsNext}
use Rattle.fetch_bounds.specs.Follows.{IsWork}
use Rattle.fetch_bounds.specs.Costs.{source_run, source_runs}
use Rattle.fetch_bounds.specs.Failures.{failed_job, fails_by, fails_from, fails_in}
use Rattle.fetch_bounds.specs.FailureLaws.{FailuresGoOn, FailuresByEntry, SourceRunsAddUp}
use Rattle.decode_job.specs.declared.ends.JobEnd.{JobEnd}
use Rattle.decode_job.specs.declared.ends.JobEnd.TheVariants as ends
use Rattle.decode_job.specs.JobCalls.{IsOfJob, tells_not_cancelled, AreOfJob}
use Rattle.decode_job.specs.Sources.{view_of, UsesSource}
use Rattle.decode_job.specs.Ends.{HasItsCause, IsLastCall, RunsToEnd}
use Rattle.engine_views.specs.Owner.{IsOwner}
use Rattle.engine_views.specs.JobRuns.{RunsNoJob, Worker, worker, RunsJobs}
use Rattle.engine_views.specs.inside.Running.{live_jobs, NoneWaits, HasRun}
use Rattle.engine_views.proofs.StaysOpen.{LeavesOpen}
use Rattle.engine_views.proofs.Owners.{AllFirst, all_first, IsStep, opening_along, one_step, still_owner, owner_stays}
use Rattle.engine_views.proofs.LiveJobs.{EndsJobOf, next_job-count, calls-count, ended-count, none_queued, idle_where, never_closed}
use Rattle.engine_views.proofs.Works.{Works, works_not, works_on, LeavesLoads, works_once, calls_stay_open, all_of_job, works_for}
use Rattle.engine_views.proofs.Excused.{failed_by, runs_none, runs_one, runs_on}

-- the laws below that are handed in by calls
pub record Laws : Type 0 where
  pub opens : (event : Event) → KeepsOpening event
  pub sound : HistoriesAreSound CoreValue Reply
  pub longer : FailuresGoOn
  pub by_entry : FailuresByEntry
  pub runs : SourceRunsAddUp

pub laws_of : ((event : Event) → KeepsOpening event) → HistoriesAreSound CoreValue Reply → FailuresGoOn → FailuresByEntry → SourceRunsAddUp → Laws
laws_of opens sound longer by_entry runs = record { opens = opens; sound = sound; longer = longer; by_entry = by_entry; runs = runs }

-- ---- what entries add

-- An event that runs no job and fails none.
pub record AddsNone (event : Event) (reply : NotedReply) (known : Knowledge) : Type 0 where
  pub runs : source_run event reply ≡ 0
  pub fails : fails_by known event ≡ []

of_job-adds : (j : ℕ) (told : Bool) (event : Event) (reply : NotedReply) (known : Knowledge) → IsOfJob j told event → AddsNone event reply known
of_job-adds j told (events.IsCancelled i) reply known is = record { runs = refl; fails = refl }
of_job-adds j told (events.Take i width height config) reply known is = record { runs = refl; fails = refl }
of_job-adds j told (events.GiveBack i bitmap) reply known is = record { runs = refl; fails = refl }
of_job-adds j told event reply known is = absurd is

of_job-runs : (j : ℕ) (told : Bool) (es : List (Entry Note)) → AreOfJob j told es → source_runs es ≡ 0
of_job-runs j told [] all = refl
of_job-runs j told (e ∷ es) all =
    let here : AddsNone e.note.event e.note.reply (knowledge_in [] 0) = of_job-adds j told e.note.event e.note.reply (knowledge_in [] 0) all.0 in
    let rest : source_runs es ≡ 0 = of_job-runs j (tells_not_cancelled e.note.event e.note.reply) es all.1 in
    omega (arith, here.runs, rest)

of_job-fails : (j : ℕ) (told : Bool) (known : ℕ → Knowledge) (es : List (Entry Note)) → AreOfJob j told es → fails_from known es ≡ []
of_job-fails j told known [] all = refl
of_job-fails j told known (e ∷ es) all =
    let here : AddsNone e.note.event e.note.reply (known e.by) = of_job-adds j told e.note.event e.note.reply (known e.by) all.0 in
    let next : ℕ → Knowledge = knowledge_with known e.by e.note.event e.note.reply in
    ap (λ l. l ++ fails_from next es) here.fails ∙ of_job-fails j (tells_not_cancelled e.note.event e.note.reply) next es all.1

module _ (laws : Laws) where
  -- one entry more
  one_more-runs : (past seen : List (Entry Note)) (e : Entry Note) → seen ≡ past ++ e ∷ [] → source_runs seen ≡ source_runs past + source_run e.note.event e.note.reply
  one_more-runs past seen e is =
      let all : source_runs (past ++ e ∷ []) ≡ source_runs past + source_runs (e ∷ []) = laws.runs past (e ∷ []) in
      omega (arith, ap source_runs is, all)

  one_more-fails : (past seen : List (Entry Note)) (e : Entry Note) → seen ≡ past ++ e ∷ [] → fails_in seen ≡ fails_in past ++ fails_by (knowledge_in past e.by) e.note.event
  one_more-fails past seen e is = ap fails_in is ∙ laws.by_entry past e

  runs_no_job : (old new : Caller) (event : Event) (reply : NotedReply) → AddsNone event reply (knowledge_of old) → IsStep old event reply new → RunsNoJob old new
  runs_no_job old new event reply adds is =
      let runs : source_runs new.seen ≡ source_runs old.seen + source_run event reply = one_more-runs old.seen new.seen (entry_of old event reply) is.seen in
      record {
        runs = omega (arith, runs, adds.runs);
        fails = one_more-fails old.seen new.seen (entry_of old event reply) is.seen ∙ ap (λ l. fails_in old.seen ++ l) adds.fails ∙ append-nil (fails_in old.seen);
      }

  -- ---- the end of a job

  -- The last call of a job.
  record Last (old : Caller) (now : OwnJob) (end : JobEnd) (new : Caller) : Type 0 where
    pub event : Event
    pub reply : NotedReply
    pub call : IsCall old event reply new
    pub ends_it : EndsJobOf now.number event
    pub leaves_open : LeavesOpen event
    pub work : IsWork event
    pub leaves : (known : Knowledge) → LeavesLoads event reply known
    pub not_release : (n : ℕ) → IsRelease (old.who, n) old.who event → ⊥
    pub runs : source_run event reply ≡ 0
    pub fails : (known : Knowledge) → known.job ≡ Some now → fails_by known event ≡ failed_by now.spec end

  last_of : (old : Caller) (now : OwnJob) (end : JobEnd) (new : Caller) → IsLastCall old now end new → Last old now end new
  last_of old now ends.Finished new last = record {
    event = events.Finish now.number last.0;
    reply = replies.Done;
    call = last.1;
    ends_it = refl;
    leaves_open = tt;
    work = tt;
    leaves = λ known. record { begun = refl; loads = refl };
    not_release = λ n is. is;
    runs = refl;
    fails = λ known is. refl;
  }
  last_of old now ends.Discarded new last = record {
    event = events.Finish now.number last.0;
    reply = replies.Discarded;
    call = last.1;
    ends_it = refl;
    leaves_open = tt;
    work = tt;
    leaves = λ known. record { begun = refl; loads = refl };
    not_release = λ n is. is;
    runs = refl;
    fails = λ known is. refl;
  }
  last_of old now ends.Quit new last = record {
    event = events.Quit now.number;
    reply = replies.Done;
    call = last.1;
    ends_it = refl;
    leaves_open = tt;
    work = tt;
    leaves = λ known. record { begun = refl; loads = refl };
    not_release = λ n is. is;
    runs = refl;
    fails = λ known is. refl;
  }
  last_of old now (ends.Failed cause) new last = record {
    event = events.Fail now.number cause;
    reply = replies.Done;
    call = last;
    ends_it = refl;
    leaves_open = tt;
    work = tt;
    leaves = λ known. record { begun = refl; loads = refl };
    not_release = λ n is. is;
    runs = refl;
    fails = λ known is. ap (λ o. failed_job o cause) is;
  }

  sound_in : (w : World) (past : List (Entry Note)) → IsPast w past → Sound w (knowledge_in past)
  sound_in w past is = laws.sound (λ core. core.world) (λ core. core.history) note_of w.limits w.content past w is

  -- ---- a job, from its start to its end

  -- What a job that the only caller ran, once it was given to it, leaves.
  record Ran (old : Caller) (spec : LoadSpec) (end : JobEnd) (new : Caller) : Type 0 where
    pub owner : IsOwner new
    pub works : Works old new
    pub runs : source_runs new.seen ≡ source_runs old.seen
    pub fails : fails_in new.seen ≡ fails_in old.seen ++ failed_by spec end
    pub fewer : live_jobs old.world ≡ 1 + live_jobs new.world

  ran : (old : Caller) (job : OwnJob) (end : JobEnd) (new : Caller) → IsOwner old → RunsToEnd old job end new → Ran old job.spec end new
  ran old job end new owner run =
      let between : Caller = run.between in
      let later : List (Entry Note) = run.calls.later in
      let first : between.who ≡ 0 = run.calls.who ∙ owner.who in
      let opened : opening_of between.world ≡ opening_of old.world = opening_along laws.opens old.world between.world later run.calls.led in
      let one : length between.world.limits.quotas ≡ 1 = ap (λ (w : World). length w.limits.quotas) opened ∙ owner.seats in
      let last : Last between run.now end new = last_of between run.now end new run.last in
      let is : IsStep between last.event last.reply new = one_step laws.opens between new last.event last.reply first one last.call in
      let e : Entry Note = entry_of between last.event last.reply in
      let one_now : length new.world.limits.quotas ≡ 1 = ap (λ (w : World). length w.limits.quotas) is.opening ∙ one in
      let all : AllFirst later = all_first new last.call.legal one_now old.seen later (e ∷ []) (is.seen ∙ ap (λ l. l ++ e ∷ []) run.calls.seen ∙ append_assoc old.seen later (e ∷ [])) in
      let of_job : AreOfJob job.number false later = all_of_job false old between job.number owner.who run.calls all in
      let calls : Works old between = works_for laws.opens false old between job.number run.calls of_job in
      let legal : IsLegal between = record { past = is.past; seat = omega (arith, first, one) } in
      let middle : IsOwner between = still_owner old between owner legal run.calls.who opened (calls_stay_open later job.number false old.world between.world of_job run.calls.led) in
      let live = (sound_in between.world between.seen is.past).known_is between.who in
      let there = live.runs run.now run.runs in
      let same : live_jobs between.world ≡ live_jobs old.world = calls-count later job.number false old.world between.world of_job run.calls.led in
      let gone : live_jobs between.world ≡ 1 + live_jobs new.world = ended-count between.world new.world between.who last.event last.reply run.now.number there.0 last.ends_it there.1 is.step in
      let before : source_runs between.seen ≡ source_runs old.seen + source_runs later = ap source_runs run.calls.seen ∙ laws.runs old.seen later in
      let none : source_runs later ≡ 0 = of_job-runs job.number false later of_job in
      let after : source_runs new.seen ≡ source_runs between.seen + source_run last.event last.reply = one_more-runs between.seen new.seen e is.seen in
      record {
        owner = owner_stays laws.opens between new last.event last.reply last.leaves_open middle last.call;
        works = works_on old between new calls (works_once between new last.event last.reply last.work (last.leaves (knowledge_of between)) last.not_release last.call is);
        runs = omega (arith, before, none, after, last.runs);
        fails = one_more-fails between.seen new.seen e is.seen
            ∙ ap (λ l. l ++ fails_by (knowledge_of between) last.event) (ap fails_in run.calls.seen ∙ laws.longer old.seen later ∙ ap (λ l. fails_in old.seen ++ l) (of_job-fails job.number false (knowledge_in old.seen) later of_job) ∙ append-nil (fails_in old.seen))
            ∙ ap (λ l. fails_in old.seen ++ l) (last.fails (knowledge_of between) run.runs ∙ ap (λ spec. failed_by spec end) run.spec);
        fewer = omega (arith, same, gone);
      }

-- ---- what NextJob is answered

is_job : (pass : OwnJob) (reply : NotedReply) → IsNext (nexts.Job pass) reply → reply ≡ replies.Job pass.number pass.spec
is_job pass (replies.Job j spec) is = ap (λ n. replies.Job n spec) is.0 ∙ ap (replies.Job pass.number) is.1
is_job pass reply is = absurd is

is_idle : (room : LoadSpec) (reply : NotedReply) → IsNext (nexts.Idle room) reply → reply ≡ replies.Idle
is_idle room replies.Idle is = refl
is_idle room reply is = absurd is

is_closed : (room : LoadSpec) (reply : NotedReply) → IsNext (nexts.Closed room) reply → reply ≡ replies.Closed
is_closed room replies.Closed is = refl
is_closed room reply is = absurd is

-- a call of NextJob, whose answer this fits
abbrev pub AsksNext : LoadSpec → Next → Caller → Caller → Type 0
AsksNext room answer old new = OfReply (IsNext answer) (λ reply. IsCall old (events.NextJob room) reply new)

pub asks_next : (room : LoadSpec) (given answer : Next) (old new : Caller) → given ≡ answer → AsksNext room given old new → AsksNext room answer old new
asks_next room given answer old new is asks = subst (λ next. AsksNext room next old new) is asks

-- ---- no load waits

-- what waits on a job waits on a live one
waited_for : (w : World) (own : Option OwnLoad) (state : Option LoadState) (j : ℕ) → LoadsAgree w.jobs w.resources own state
    → state ≡ Some (Waiting j) → (job : Job) × (get w.jobs j ≡ Some job)
waited_for w None None j agrees is = absurd (not_Some is)
waited_for w None (Some state) j agrees is = absurd agrees
waited_for w (Some load) None j agrees is = absurd agrees
waited_for w (Some load) (Some state) j agrees is =
    let refers : RefersTo w.jobs w.resources load (Waiting j) = subst (RefersTo w.jobs w.resources load) (same_Some state (Waiting j) is) agrees.refers in
    (refers.0, refers.1)

own_of_other : (k : ℕ) (es : List (Entry Note)) → AllFirst es → eqb 0 k ≡ false → own k es ≡ []
own_of_other k [] all other = refl
own_of_other k (e ∷ es) all other =
    ap (λ by. cond (eqb by k) (e ∷ own k es) (own k es)) all.0
    ∙ ap (λ b. cond b (e ∷ own k es) (own k es)) other
    ∙ own_of_other k es all.1 other

-- where seat 0 made all entries and runs no job, no seat runs one
no_job : (es : List (Entry Note)) (k : ℕ) → AllFirst es → (knowledge_in es 0).job ≡ None → (knowledge_in es k).job ≡ None
no_job es k all idle = elim (eqb 0 k) as (λ t. eqb 0 k ≡ t → (knowledge_in es k).job ≡ None) [
  | true ↦ λ e. ap (λ who. (knowledge_in es who).job) (sym (eqb-true 0 k e)) ∙ idle
  | false ↦ λ e. ap (λ own. (learned own).job) (own_of_other k es all e)
] refl

-- ---- the loop

module _ {S : Type 0} (source : sources.Ghosts S) where
  -- So far the only caller has run some of its jobs.
  pub record SoFar (wanting : Bool) (old new : Worker S) : Type 0 where
    pub owner : IsOwner new.caller
    pub idle : (knowledge_of new.caller).job ≡ None
    pub works : Works old.caller new.caller
    pub jobs : RunsJobs source wanting old new

  pub none_yet : (c : Caller) (s : S) → IsOwner c → (knowledge_of c).job ≡ None → SoFar false (worker c s) (worker c s)
  none_yet c s owner idle = record {
    owner = owner;
    idle = idle;
    works = works_not c;
    jobs = runs_none source false c c s (record { runs = refl; fails = refl });
  }

module _ (laws : Laws) where
  none_waits : (c : Caller) → IsOwner c → (knowledge_of c).job ≡ None → next_queued c.world.jobs ≡ None → NoneWaits c
  none_waits c owner idle none n j waits =
      let sound : Sound c.world (knowledge_in c.seen) = sound_in laws c.world c.seen owner.legal.past in
      let on = waited_for c.world (get (knowledge_of c).loads n) (get c.world.loads (c.who, n)) j ((sound.known_is c.who).each n) waits in
      let all : AllFirst c.seen = all_first c owner.legal owner.seats [] c.seen [] (sym (append-nil c.seen)) in
      let alone : (knowledge_in c.seen 0).job ≡ None = ap (λ who. (knowledge_in c.seen who).job) (sym owner.who) ∙ idle in
      elim on.0.seat as (λ o. on.0.seat ≡ o → ⊥) [
        | None ↦ λ free. none_queued c.world.jobs j on.0 none on.1 free
        | Some k ↦ λ is.
            let runs = (sound.known_is k).knows j on.0 on.1 is in
            not_Some (sym (no_job c.seen k all alone) ∙ runs.1)
      ] refl

  module _ {S : Type 0} (source : sources.Ghosts S) where
    -- A job more was run, and one less is live.
    pub record IsOneMore (wanting : Bool) (old : Worker S) (c new : Caller) (t : S) : Type 0 where
      pub so_far : SoFar source wanting old (worker new t)
      pub fewer : live_jobs new.world < live_jobs c.world

    pub one_more : (before after : Bool) (old : Worker S) (c d new : Caller) (s t : S) (room : LoadSpec) (job : OwnJob) (end : JobEnd)
        → SoFar source before old (worker c s) → AsksNext room (nexts.Job job) c d → RunsToEnd d job end new → (knowledge_of new).job ≡ None
        → UsesSource job.spec.cached job.spec.key (view_of source s) (view_of source t)
        → HasItsCause job.spec (view_of source s) (view_of source t) end
        → (before ≡ true → after ≡ true) → (end ≡ ends.Failed causes.Memory → after ≡ true) → IsOneMore after old c new t
    one_more before after old c d new s t room job end so next run over uses cause early late =
        let given : NotedReply = replies.Job job.number job.spec in
        let call : IsCall c (events.NextJob room) given d = subst (λ reply. IsCall c (events.NextJob room) reply d) (is_job job next.0 next.1) next.2 in
        let is : IsStep c (events.NextJob room) given d = one_step laws.opens c d (events.NextJob room) given so.owner.who so.owner.seats call in
        let started : IsOwner d = owner_stays laws.opens c d (events.NextJob room) given tt so.owner call in
        let starts : Works c d = works_once c d (events.NextJob room) given tt (record { begun = refl; loads = refl }) (λ n is. is) call is in
        let ran_it : Ran laws d job.spec end new = ran laws d job end new started run in
        let asked : source_runs d.seen ≡ source_runs c.seen + one_if (not job.spec.cached) = one_more-runs laws c.seen d.seen (entry_of c (events.NextJob room) given) is.seen in
        let runs : source_runs new.seen ≡ source_runs c.seen + one_if (not job.spec.cached) = omega (arith, asked, ran_it.runs) in
        let quiet : fails_in d.seen ≡ fails_in c.seen = one_more-fails laws c.seen d.seen (entry_of c (events.NextJob room) given) is.seen ∙ append-nil (fails_in c.seen) in
        let one : RunsJobs source after (worker c s) (worker new t) =
        runs_one source after job.spec end (worker c s) (worker new t) late uses cause runs (ran_it.fails ∙ ap (λ l. l ++ failed_by job.spec end) quiet) in
        let same : live_jobs d.world ≡ live_jobs c.world = next_job-count c.world d.world c.who room given is.step in
        record {
          so_far = record {
            owner = ran_it.owner;
            idle = over;
            works = works_on old.caller c new so.works (works_on c d new starts ran_it.works);
            jobs = runs_on source before after after old (worker c s) (worker new t) early (λ told. told) so.jobs one;
          };
          fewer = omega (arith, same, ran_it.fewer);
        }

    pub all_run : (wanting : Bool) (old : Worker S) (c d : Caller) (s : S) (room back : LoadSpec) → SoFar source wanting old (worker c s)
        → AsksNext room (nexts.Idle back) c d → HasRun source wanting old (worker d s)
    all_run wanting old c d s room back so next =
        let call : IsCall c (events.NextJob room) replies.Idle d = subst (λ reply. IsCall c (events.NextJob room) reply d) (is_idle back next.0 next.1) next.2 in
        let is : IsStep c (events.NextJob room) replies.Idle d = one_step laws.opens c d (events.NextJob room) replies.Idle so.owner.who so.owner.seats call in
        let owner : IsOwner d = owner_stays laws.opens c d (events.NextJob room) replies.Idle tt so.owner call in
        let works : Works old.caller d = works_on old.caller c d so.works (works_once c d (events.NextJob room) replies.Idle tt (record { begun = refl; loads = refl }) (λ n is. is) call is) in
        let left = idle_where c.world d.world c.who room so.owner.is_open is.step in
        let none : next_queued d.world.jobs ≡ None = ap (λ (w : World). next_queued w.jobs) left.0 ∙ left.1 in
        let idle : (knowledge_of d).job ≡ None = ap (λ (k : Knowledge). k.job) call.knowledge ∙ so.idle in
        let no : RunsNoJob c d = runs_no_job laws c d (events.NextJob room) replies.Idle (record { runs = refl; fails = refl }) is in
        record {
          owner = owner;
          idle = idle;
          begun = works.begun;
          loads = works.loads;
          pictures = works.pictures;
          content = works.content;
          later = works.later;
          seen = works.seen;
          work = works.work;
          opening = works.opening;
          none_waits = none_waits d owner idle none;
          jobs = runs_on source wanting wanting wanting old (worker c s) (worker d s) (λ told. told) (λ told. told) so.jobs (runs_none source wanting c d s no);
        }

    -- The engine is open, so there are none of the other answers.
    pub never_stops : (wanting : Bool) (old : Worker S) (c d : Caller) (s : S) (room back : LoadSpec) → SoFar source wanting old (worker c s)
        → AsksNext room (nexts.Closed back) c d → ⊥
    never_stops wanting old c d s room back so next =
        let call : IsCall c (events.NextJob room) replies.Closed d = subst (λ reply. IsCall c (events.NextJob room) reply d) (is_closed back next.0 next.1) next.2 in
        let is : IsStep c (events.NextJob room) replies.Closed d = one_step laws.opens c d (events.NextJob room) replies.Closed so.owner.who so.owner.seats call in
        never_closed c.world d.world c.who room so.owner.is_open is.step
