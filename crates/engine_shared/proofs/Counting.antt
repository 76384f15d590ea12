-- What a caller knows after a call of how many loads it made, and of its job.
use Rattle.std.proofs.Common.{◌≡◌, ℕ, ◌+◌, ◌≤◌, true, false, Ok, Err, Some, None, Option, refl, ap, sym, subst, ◌∙◌, arith}
use Rattle.std.specs.FinMap.{get}
use Rattle.cache_key.specs.declared.load_spec.LoadSpec.{LoadSpec}
use Rattle.engine_world.specs.declared.events.Event.{Event}
use Rattle.engine_world.specs.declared.events.Event.TheVariants as events
use Rattle.engine_world.specs.declared.events.NotedReply.{NotedReply}
use Rattle.engine_world.specs.declared.events.NotedReply.TheVariants as replies
use Rattle.engine_world.specs.Knowledge.{OwnLoad, OwnJob, Knowledge, updated, after_load, with_ready, after_collect, after_next_job, after_take, after_is_cancelled}
use Rattle.engine_shared.specs.declared.answers.Full.{Full}
use Rattle.engine_shared.specs.Caller.{Caller, knowledge_of}
use Rattle.engine_shared.specs.Answers.{IsLoaded}
use Rattle.engine_shared.specs.Kinds.{IsNoLoad, IsOfNoJob, EndsJob}
use Rattle.engine_shared.specs.CallLaws.{LoadsAreCounted, OthersCountNone, JobsStay, JobsEnd}

-- ---- how many loads it made

module _ (k : Knowledge) where
  readies : (n : ℕ) (o : Option OwnLoad) → (with_ready n o k).begun ≡ k.begun
  readies n None = refl
  readies n (Some load) = refl

  collects : (n : ℕ) (reply : NotedReply) → (after_collect n reply k).begun ≡ k.begun
  collects n replies.Ready = readies n (get k.loads n)
  collects n reply = refl

  gets_job : (reply : NotedReply) → (after_next_job reply k).begun ≡ k.begun
  gets_job (replies.Job j given) = refl
  gets_job reply = refl

  takes : (reply : NotedReply) → (after_take reply k).begun ≡ k.begun
  takes (replies.Taken lent) = refl
  takes reply = refl

  asks : (reply : NotedReply) → (after_is_cancelled reply k).begun ≡ k.begun
  asks (replies.Cancelled true) = refl
  asks (replies.Cancelled false) = refl
  asks reply = refl

  pub begun_stays : (event : Event) (reply : NotedReply) → IsNoLoad event → (updated event reply k).begun ≡ k.begun
  begun_stays (events.Load spec) reply other = absurd other
  begun_stays (events.Collect n) reply other = collects n reply
  begun_stays (events.Look n) reply other = refl
  begun_stays (events.Read n at) reply other = refl
  begun_stays (events.Release n) reply other = refl
  begun_stays (events.NextJob room) reply other = gets_job reply
  begun_stays (events.Take j width height config) reply other = takes reply
  begun_stays (events.GiveBack j bitmap) reply other = refl
  begun_stays (events.Finish j bitmap) reply other = refl
  begun_stays (events.Fail j cause) reply other = refl
  begun_stays (events.Quit j) reply other = refl
  begun_stays (events.IsCancelled j) reply other = asks reply
  begun_stays (events.Trim level) reply other = refl
  begun_stays events.Close reply other = refl
  begun_stays events.Totals reply other = refl

-- ---- a load

module _ (spec : LoadSpec) (k : Knowledge) where
  pub counts_load : (made : Unit {0}) (reply : NotedReply) → IsLoaded (Ok made) reply → (after_load spec reply k).begun ≡ k.begun + 1
  counts_load made replies.Ready is = refl
  counts_load made (replies.Joined j) is = refl
  counts_load made (replies.Started j) is = refl
  counts_load made reply is = absurd is

  pub counts_none : (full : Full) (reply : NotedReply) → IsLoaded {A = Unit {0}} (Err full) reply → (after_load spec reply k).begun ≡ k.begun
  counts_none full replies.Full is = refl
  counts_none full reply is = absurd is

pub loads_are_counted : LoadsAreCounted
loads_are_counted old new spec replies.Full call = let e = ap (λ (k : Knowledge). k.begun) call.knowledge in omega (arith, e)
loads_are_counted old new spec replies.Ready call = let e = ap (λ (k : Knowledge). k.begun) call.knowledge in omega (arith, e)
loads_are_counted old new spec reply call = let e = ap (λ (k : Knowledge). k.begun) call.knowledge in omega (arith, e)

pub others_count_none : OthersCountNone
others_count_none old new event reply other call = ap (λ (k : Knowledge). k.begun) call.knowledge ∙ begun_stays (knowledge_of old) event reply other

-- ---- its job

module _ (k : Knowledge) where
  loads_job : (spec : LoadSpec) (reply : NotedReply) → (after_load spec reply k).job ≡ k.job
  loads_job spec replies.Full = refl
  loads_job spec replies.Ready = refl
  loads_job spec reply = refl

  ready_job : (n : ℕ) (o : Option OwnLoad) → (with_ready n o k).job ≡ k.job
  ready_job n None = refl
  ready_job n (Some load) = refl

  collects_job : (n : ℕ) (reply : NotedReply) → (after_collect n reply k).job ≡ k.job
  collects_job n replies.Ready = ready_job n (get k.loads n)
  collects_job n reply = refl

  job_stays : (event : Event) (reply : NotedReply) → IsOfNoJob event → (updated event reply k).job ≡ k.job
  job_stays (events.Load spec) reply none = loads_job spec reply
  job_stays (events.Collect n) reply none = collects_job n reply
  job_stays (events.Look n) reply none = refl
  job_stays (events.Read n at) reply none = refl
  job_stays (events.Release n) reply none = refl
  job_stays (events.NextJob room) reply none = absurd none
  job_stays (events.Take j width height config) reply none = absurd none
  job_stays (events.GiveBack j bitmap) reply none = absurd none
  job_stays (events.Finish j bitmap) reply none = absurd none
  job_stays (events.Fail j cause) reply none = absurd none
  job_stays (events.Quit j) reply none = absurd none
  job_stays (events.IsCancelled j) reply none = absurd none
  job_stays (events.Trim level) reply none = refl
  job_stays events.Close reply none = refl
  job_stays events.Totals reply none = refl

  job_ends : (event : Event) (reply : NotedReply) → EndsJob event → (updated event reply k).job ≡ None
  job_ends (events.Finish j bitmap) reply ends = refl
  job_ends (events.Fail j cause) reply ends = refl
  job_ends (events.Quit j) reply ends = refl
  job_ends event reply ends = absurd ends

pub jobs_stay : JobsStay
jobs_stay old new event reply none call = ap (λ (k : Knowledge). k.job) call.knowledge ∙ job_stays (knowledge_of old) event reply none

pub jobs_end : JobsEnd
jobs_end old new event reply ends call = ap (λ (k : Knowledge). k.job) call.knowledge ∙ job_ends (knowledge_of old) event reply ends
