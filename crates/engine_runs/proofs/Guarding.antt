-- What an engine's only caller has, after each of its calls.
use Rattle.std.proofs.Common.{◌≡◌, ◌≢◌, ℕ, List, [], ◌∷◌, ◌++◌, length, zero, suc, Some, None, Option, set, slice_get, unwrap_or, refl, ap, sym, subst, ◌∙◌, arith, length-append}
use Rattle.std.specs.Prelude.{Err, IfSome}
use Rattle.cache_key.specs.declared.load_spec.LoadSpec.{LoadSpec}
use Rattle.engine_world.specs.declared.events.Event.{Event}
use Rattle.engine_world.specs.declared.events.Event.TheVariants as events
use Rattle.engine_world.specs.declared.events.NotedReply.{NotedReply}
use Rattle.engine_world.specs.declared.events.NotedReply.TheVariants as replies
use Rattle.engine_world.specs.Knowledge.{Knowledge, OwnJob}
use Rattle.engine_world.specs.Laws.{IsRelease}
use Rattle.engine_shared.specs.Tokens.{HoldValue}
use Rattle.engine_shared.specs.declared.answers.Full.{Full}
use Rattle.engine_shared.specs.declared.answers.Next.TheVariants as nexts
use Rattle.engine_shared.specs.Caller.{Caller, knowledge_of, content_of, IsCall, HasLoad}
use Rattle.engine_shared.specs.Answers.{OfReply, IsLoaded, IsNext}
use Rattle.engine_shared.specs.Kinds.{IsNoLoad, IsOfNoJob}
use Rattle.engine_shared.specs.CallLaws.{LoadsStay, LoadsAreCounted, OthersCountNone, JobsStay}
use Rattle.decode_job.specs.declared.ends.JobEnd.{JobEnd}
use Rattle.decode_job.specs.declared.ends.JobEnd.TheVariants as ends
use Rattle.decode_job.specs.Ends.{IsLastCall, RunsToEnd}
use Rattle.decode_job.specs.Laws.{JobsLeaveLoads}
use Rattle.engine_runs.specs.Guarded.{IsNumbered, HasLoads, IsUnused, IsGuarded}

same_Some : {A : Type 0} (x y : A) → Some x ≡ Some y → x ≡ y
same_Some x y e = ap (λ o. unwrap_or o x) e

abbrev Holds : Type 0
Holds = List (Option HoldValue)

-- ---- places of a list

-- what holds of each item at its place holds so after one more, where it holds of that one
each_more : {A : Type 0} (P : ℕ → A → Type 0) (xs : List A) (x : A) → ((n : ℕ) (y : A) → slice_get xs n ≡ Some y → P n y) → P (length xs) x → (n : ℕ) (y : A) → slice_get (xs ++ x ∷ []) n ≡ Some y → P n y
each_more P [] x each last zero y at = subst (P 0) (same_Some x y at) last
each_more P [] x each last (suc n) y at = cc
each_more P (h ∷ hs) x each last zero y at = each zero y at
each_more P (h ∷ hs) x each last (suc n) y at = each_more (λ k. P (suc k)) hs x (λ k z is. each (suc k) z is) last n y at

-- and of what stands at each place but one, where that one is empty by now
each_other : {A : Type 0} (P : ℕ → A → Type 0) (xs : List (Option A)) (n : ℕ) → ((k : ℕ) (y : A) → k ≢ n → slice_get xs k ≡ Some (Some y) → P k y) → (k : ℕ) (y : A) → slice_get (set xs n None) k ≡ Some (Some y) → P k y
each_other P [] n each k y at = cc
each_other P (h ∷ hs) zero each zero y at = cc
each_other P (h ∷ hs) zero each (suc k) y at = each (suc k) y (λ e. omega (arith, e)) at
each_other P (h ∷ hs) (suc n) each zero y at = each zero y (λ e. omega (arith, e)) at
each_other P (h ∷ hs) (suc n) each (suc k) y at = each_other (λ i. P (suc i)) hs n (λ i z other is. each (suc i) z (λ e. other (omega (arith, e))) is) k y at

length_set : {A : Type 0} (xs : List A) (n : ℕ) (x : A) → length (set xs n x) ≡ length xs
length_set [] n x = refl
length_set (h ∷ hs) zero x = refl
length_set (h ∷ hs) (suc n) x = ap suc (length_set hs n x)

-- ---- calls

-- one that is neither a load nor a release leaves the loads
pub loads_stay : LoadsStay → OthersCountNone → (old new : Caller) (event : Event) (reply : NotedReply) (holds : Holds) → IsCall old event reply new → HasLoads old holds → IsNoLoad event → ((n : ℕ) → IsRelease (old.who, n) old.who event → ⊥) → HasLoads new holds
loads_stay stay counts old new event reply holds call has other none =
    record {
      begun = counts old new event reply other call ∙ has.begun;
      each = λ n hold at.
          let was = has.each n hold at in
          record { load = stay old new event reply hold was.load call (none hold.number); is = was.is };
      untold = call.content ∙ has.untold;
    }

-- and one that besides is of no job leaves all
pub guarded_stays : LoadsStay → OthersCountNone → JobsStay → (old new : Caller) (event : Event) (reply : NotedReply) (holds : Holds) (job : Option OwnJob) → IsCall old event reply new → IsGuarded old holds job → IsNoLoad event → ((n : ℕ) → IsRelease (old.who, n) old.who event → ⊥) → IsOfNoJob event → IsGuarded new holds job
guarded_stays stay counts jobs old new event reply holds job call was other none free =
    record {
      loads = loads_stay stay counts old new event reply holds call was.loads other none;
      is = jobs old new event reply free call ∙ was.is;
      unused = was.unused;
    }

-- ---- jobs

-- a caller that runs just this job, which took no bitmap
pub is_running : (c : Caller) (holds : Holds) (job : OwnJob) (now : Option OwnJob) → now ≡ Some job → (knowledge_of c).job ≡ Some job → job.takes ≡ 0 → job.out ≡ [] → HasLoads c holds → IsGuarded c holds now
is_running c holds job now same runs takes out has =
    record {
      loads = has;
      is = runs ∙ sym same;
      unused = subst (λ o. IfSome o IsUnused) (sym same) (record { takes = takes; out = out });
    }

-- one that runs none
pub is_free : (c : Caller) (holds : Holds) (now : Option OwnJob) → now ≡ None → (knowledge_of c).job ≡ None → HasLoads c holds → IsGuarded c holds now
is_free c holds now same none has =
    record {
      loads = has;
      is = none ∙ sym same;
      unused = subst (λ o. IfSome o IsUnused) (sym same) tt;
    }

-- and one that runs what it ran
pub runs_the_same : (old new : Caller) (holds : Holds) (job : Option OwnJob) → (knowledge_of new).job ≡ (knowledge_of old).job → HasLoads new holds → IsGuarded old holds job → IsGuarded new holds job
runs_the_same old new holds job same has was = record { loads = has; is = same ∙ was.is; unused = was.unused }

-- ---- loads

-- a place that is empty by now
pub emptied : (c : Caller) (n : ℕ) (holds : Holds) (job : Option OwnJob) → IsGuarded c holds job → IsGuarded c (set holds n None) job
emptied c n holds job was =
    record {
      loads = record {
        begun = was.loads.begun ∙ sym (length_set holds n None);
        each = each_other (IsNumbered c) holds n (λ k hold apart at. was.loads.each k hold at);
        untold = was.loads.untold;
      };
      is = was.is;
      unused = was.unused;
    }

-- a load that is refused
pub refused : LoadsStay → (old new : Caller) (spec : LoadSpec) (holds : Holds) (job : Option OwnJob) (full : Full) → OfReply (IsLoaded {A = HoldValue} (Err full)) (λ reply. IsCall old (events.Load spec) reply new) → IsGuarded old holds job → IsGuarded new holds job
refused stay old new spec holds job full (replies.Full, fits, call) was =
    record {
      loads = record {
        begun = ap (λ (k : Knowledge). k.begun) call.knowledge ∙ was.loads.begun;
        each = λ n hold at.
            let one = was.loads.each n hold at in
            record { load = stay old new (events.Load spec) replies.Full hold one.load call (λ none. none); is = one.is };
        untold = call.content ∙ was.loads.untold;
      };
      is = ap (λ (k : Knowledge). k.job) call.knowledge ∙ was.is;
      unused = was.unused;
    }
refused stay old new spec holds job full (reply, fits, call) was = absurd fits

-- and one that is not
pub loaded : LoadsStay → LoadsAreCounted → JobsStay → (old new : Caller) (spec : LoadSpec) (reply : NotedReply) (holds : Holds) (job : Option OwnJob) (hold : HoldValue) → IsCall old (events.Load spec) reply new → HasLoad new hold → hold.number ≡ (knowledge_of old).begun → IsGuarded old holds job → IsGuarded new (holds ++ Some hold ∷ []) job
loaded stay counted jobs old new spec reply holds job hold call has number was =
    let at_most = counted old new spec reply call in
    let below = has.below in
    let begun = was.loads.begun in
    record {
      loads = record {
        begun = omega (arith, length-append holds (Some hold ∷ []), at_most, below, begun, number);
        each = λ place item there. each_more (λ n (o : Option HoldValue). (h : HoldValue) → o ≡ Some h → IsNumbered new n h) holds (Some hold)
            (λ n o at h is.
            let one = was.loads.each n h (at ∙ ap Some is) in
            record { load = stay old new (events.Load spec) reply h one.load call (λ none. none); is = one.is })
            (λ h is. subst (IsNumbered new (length holds)) (same_Some hold h is) (record { load = has; is = number ∙ begun }))
            place (Some item) there item refl;
        untold = call.content ∙ was.loads.untold;
      };
      is = jobs old new (events.Load spec) reply tt call ∙ was.is;
      unused = was.unused;
    }

-- a release
pub released : LoadsStay → OthersCountNone → JobsStay → (old new : Caller) (n : ℕ) (hold : HoldValue) (holds : Holds) (job : Option OwnJob) → slice_get holds n ≡ Some (Some hold) → IsCall old (events.Release hold.number) replies.Done new → IsGuarded old holds job → IsGuarded new (set holds n None) job
released stay counts jobs old new n hold holds job there call was =
    let event = events.Release hold.number in
    record {
      loads = record {
        begun = counts old new event replies.Done tt call ∙ was.loads.begun ∙ sym (length_set holds n None);
        each = each_other (IsNumbered new) holds n (λ k other apart at.
            let one = was.loads.each k other at in
            record {
              load = stay old new event replies.Done other one.load call (λ same. apart (sym one.is ∙ ap (λ (p : ℕ × ℕ). p.1) same ∙ (was.loads.each n hold there).is));
              is = one.is;
            });
        untold = call.content ∙ was.loads.untold;
      };
      is = jobs old new event replies.Done tt call ∙ was.is;
      unused = was.unused;
    }

-- a caller that is given no job has the one that it had
pub idle : (old new : Caller) (room back : LoadSpec) → OfReply (IsNext (nexts.Idle back)) (λ reply. IsCall old (events.NextJob room) reply new) → (knowledge_of new).job ≡ (knowledge_of old).job
idle old new room back (replies.Idle, fits, call) = ap (λ (k : Knowledge). k.job) call.knowledge
idle old new room back (reply, fits, call) = absurd fits

pub closed : (old new : Caller) (room back : LoadSpec) → OfReply (IsNext (nexts.Closed back)) (λ reply. IsCall old (events.NextJob room) reply new) → (knowledge_of new).job ≡ (knowledge_of old).job
closed old new room back (replies.Closed, fits, call) = ap (λ (k : Knowledge). k.job) call.knowledge
closed old new room back (reply, fits, call) = absurd fits

-- ---- a job that is run to its end

last_counts : OthersCountNone → (old new : Caller) (job : OwnJob) (end : JobEnd) → IsLastCall old job end new → (knowledge_of new).begun ≡ (knowledge_of old).begun
last_counts counts old new job ends.Finished last = counts old new (events.Finish job.number last.0) replies.Done tt last.1
last_counts counts old new job ends.Discarded last = counts old new (events.Finish job.number last.0) replies.Discarded tt last.1
last_counts counts old new job ends.Quit last = counts old new (events.Quit job.number) replies.Done tt last.1
last_counts counts old new job (ends.Failed cause) last = counts old new (events.Fail job.number cause) replies.Done tt last

last_content : (old new : Caller) (job : OwnJob) (end : JobEnd) → IsLastCall old job end new → content_of new ≡ content_of old
last_content old new job ends.Finished last = last.1.content
last_content old new job ends.Discarded last = last.1.content
last_content old new job ends.Quit last = last.1.content
last_content old new job (ends.Failed cause) last = last.content

pub ran : OthersCountNone → JobsLeaveLoads → (old new : Caller) (job : OwnJob) (end : JobEnd) (holds : Holds) → RunsToEnd old job end new → HasLoads old holds → HasLoads new holds
ran counts leave old new job end holds runs has =
    record {
      begun = last_counts counts runs.between new runs.now end runs.last ∙ runs.calls.begun ∙ has.begun;
      each = λ n hold at.
          let was = has.each n hold at in
          record { load = leave old new job end hold runs was.load; is = was.is };
      untold = last_content runs.between new runs.now end runs.last ∙ runs.calls.content ∙ has.untold;
    }
