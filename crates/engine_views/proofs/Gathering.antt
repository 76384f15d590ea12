-- The end of one view's load after another, in the engine and in the program, beside the gather of a walk.
use Rattle.std.proofs.Common.{◌≡◌, ℕ, ◌<◌, List, [], ◌∷◌, ◌++◌, length, zero, suc, Some, None, Ok, Err, Option, Result, IfSome, inr, slice_get, set, refl, ap, sym, subst, ◌∙◌, arith, append_assoc, append-nil}
use Rattle.std.specs.Option.{option_to_list}
use Rattle.std.specs.Result.{result_err}
use Rattle.std.specs.FinMap.{get}
use Rattle.bitmap_kind.specs.Picture.{Picture}
use Rattle.finite_maps.specs.MapLaws.{same_Some}
use Rattle.load_cause.specs.declared.causes.Cause.{Cause}
use Rattle.load_table.specs.declared.loads.LoadState.TheVariants.{Waiting, Ready, Failed as HasFailed}
use Rattle.request_tracker.specs.declared.views.ViewState.{ViewState}
use Rattle.request_tracker.specs.declared.views.ViewState.TheVariants.{Cleared, Waiting as Waits, Running, Complete, Failed, Paused}
use Rattle.request_tracker.specs.Table as table
use Rattle.request_tracker.specs.Moves.{Tracked, state_at, collected_at}
use Rattle.engine_world.specs.declared.events.Event.{Event}
use Rattle.engine_world.specs.declared.events.Event.TheVariants as events
use Rattle.engine_world.specs.declared.events.NotedReply.{NotedReply}
use Rattle.engine_world.specs.declared.events.NotedReply.TheVariants as replies
use Rattle.engine_world.specs.World.{LoadState, World}
use Rattle.engine_world.specs.Steps as steps
use Rattle.engine_world.specs.Permits.{IsPicture}
use Rattle.engine_world.specs.Laws.{KeepsOpening}
use Rattle.engine_shared.specs.Tokens.{HoldValue}
use Rattle.engine_shared.specs.Caller.{Caller, knowledge_of, content_of, picture_held, shown_by, IsCall, HasLoad, HasReadyLoad, entry_of}
use Rattle.engine_shared.specs.Answers.{collected}
use Rattle.engine_shared.specs.CallLaws.{LoadsStay, ReadyLoadsStay, JobsStay, OthersCountNone}
use Rattle.engine_shared.specs.declared.answers.Outcome as answers
use Rattle.engine_shared.specs.declared.answers.Outcome.TheVariants as answer
use Rattle.script_walk.specs.Walk.{Begin, WalkView, Outcome, Stage, TraceEvent, running, running_in, gathered_view, end_events, view_ends}
use Rattle.script_walk.specs.Tracked.{tracked}
use Rattle.script_walk.specs.Laws.{EachEnd}
use Rattle.fetch_bounds.specs.Follows as followed
use Rattle.fetch_bounds.specs.Parts.{TracesJoin, begins_after}
use Rattle.fetch_bounds.specs.FailureLaws.{FailuresByEntry, SourceRunsAddUp}
use Rattle.engine_views.specs.Held.{Held, Holds, loads_in}
use Rattle.engine_views.specs.Owner.{AllLoads, HasJust, Adds}
use Rattle.engine_views.specs.Following.{IsBeginsLoad, Shows, IsHoldAt, AreHolds, IsLastBegin, AreLastBegins, Standing, standing}
use Rattle.engine_views.specs.JobRuns.{RunsNoJob}
use Rattle.engine_views.specs.Gathers.{IsRight}
use Rattle.engine_views.specs.inside.Orders.{Released, LetsGo}
use Rattle.engine_views.specs.inside.Running.{NoneWaits}
use Rattle.engine_views.specs.inside.Collects.{ended_at, AnswerIsTaken, IsAsked, Collects, result_by, result_in, outcome_now, gathered_to, events_to, IsLeftOf, AreGatheredTo}
use Rattle.engine_views.proofs.Owners.{IsStep, one_step}
use Rattle.engine_views.proofs.Calls.{no_job}
use Rattle.engine_views.proofs.Holding.{has_at, just_collected, left_collected, left_released, StayReady, ready_collected, ready_released, same_result}
use Rattle.engine_views.proofs.Showing.{hold_of_view, as_many, item_at, state_of_view}
use Rattle.engine_views.proofs.Collecting.{came_to, view_at_place, length-gathered_to, idle_views, more_events, more_tracked, ended_state, none_begin, last_at, each_append, set_same}

-- the laws that a gather stands on, as they are handed in by calls
pub record GatherLaws : Type 0 where
  pub stay : LoadsStay
  pub ready : ReadyLoadsStay
  pub jobs : JobsStay
  pub counts : OthersCountNone
  pub opening : (event : Event) → KeepsOpening event
  pub join : TracesJoin
  pub fails : FailuresByEntry
  pub runs : SourceRunsAddUp

-- ---- holds

-- a load that is still ready shows what it showed
shows_still : (old new : Caller) (load : HoldValue) (result : Result Picture Cause) → StayReady old new → HasLoad new load → Shows old load result → Shows new load result
shows_still old new load result stay has shows =
    let now = stay load has shows.ready in
    let picture : now.0.picture ≡ shows.ready.picture = same_Some _ _ (sym now.0.shows ∙ now.1 ∙ shows.ready.shows) in
    record { ready = now.0; is = shows.is ∙ ap Ok (sym picture) }

hold_stays : (old new : Caller) (outcome : Outcome) (state : ViewState Cause) (last : Option Begin) (hold : Option HoldValue) (rest : List HoldValue) → StayReady old new → AllLoads new (option_to_list hold ++ rest)
    → IsHoldAt old outcome state last hold → IsHoldAt new outcome state last hold
hold_stays old new outcome Cleared last hold rest stay has is = is
hold_stays old new outcome Waits last hold rest stay has is = is
hold_stays old new outcome Paused last hold rest stay has is = is
hold_stays old new outcome (Failed cause) last hold rest stay has is = is
hold_stays old new outcome Running None hold rest stay has is = absurd is
hold_stays old new outcome Running (Some begin) None rest stay has is = absurd is
hold_stays old new outcome Running (Some begin) (Some load) rest stay has is = (is.0, has.0)
hold_stays old new outcome Complete None hold rest stay has is = absurd is
hold_stays old new outcome Complete (Some begin) None rest stay has is = absurd is
hold_stays old new outcome Complete (Some begin) (Some load) rest stay has is = (is.0, shows_still old new load (outcome begin) stay has.0 is.1)

rest_of : (c : Caller) (hold : Option HoldValue) (rest : List HoldValue) → AllLoads c (option_to_list hold ++ rest) → AllLoads c rest
rest_of c None rest all = all
rest_of c (Some load) rest all = all.1

holds_stay : (old new : Caller) (outcome : Outcome) (vs : List WalkView) (holds : Holds) → StayReady old new → AllLoads new (loads_in holds) → AreHolds old outcome vs holds → AreHolds new outcome vs holds
holds_stay old new outcome [] [] stay has is = tt
holds_stay old new outcome [] (hold ∷ holds) stay has is = absurd is
holds_stay old new outcome (v ∷ vs) [] stay has is = absurd is
holds_stay old new outcome (v ∷ vs) (hold ∷ holds) stay has is =
    (hold_stays old new outcome v.view.state v.last hold (loads_in holds) stay has is.0, holds_stay old new outcome vs holds stay (rest_of new hold (loads_in holds) has) is.1)

-- the holds, where that of the next view is what its end leaves
more_holds : (old new : Caller) (next : Outcome) (place : ℕ) (vs : List WalkView) (holds : Holds) (v : WalkView) (hold : Option HoldValue) → StayReady old new → AllLoads new (loads_in (set holds place hold))
    → AreHolds old next (gathered_to place next vs) holds → slice_get vs place ≡ Some v → IsHoldAt new next (gathered_view next v).view.state v.last hold
    → AreHolds new next (gathered_to (suc place) next vs) (set holds place hold)
more_holds old new next place [] holds v hold stay has is at here = cc
more_holds old new next zero (w ∷ vs) [] v hold stay has is at here = absurd is
more_holds old new next zero (w ∷ vs) (h ∷ holds) v hold stay has is at here =
    let same : v ≡ w = cc in
    (subst (λ (x : WalkView). IsHoldAt new next (gathered_view next x).view.state x.last hold) same here, holds_stay old new next vs holds stay (rest_of new hold (loads_in holds) has) is.1)
more_holds old new next (suc place) (w ∷ vs) [] v hold stay has is at here = absurd is
more_holds old new next (suc place) (w ∷ vs) (h ∷ holds) v hold stay has is at here = (
  hold_stays old new next (gathered_view next w).view.state w.last h (loads_in (set holds place hold)) stay has is.0,
  more_holds old new next place vs holds v hold stay (rest_of new h (loads_in (set holds place hold)) has) is.1 at here,
)

-- ---- what the engine answers

is_ready : (o : Option LoadState) → replies.Ready ≡ steps.collected o → (r : ℕ) × (o ≡ Some (Ready r))
is_ready None e = cc
is_ready (Some (Waiting j)) e = cc
is_ready (Some (Ready r)) e = (r, refl)
is_ready (Some (HasFailed cause)) e = cc

has_failed : (o : Option LoadState) (cause : Cause) → replies.Failed cause ≡ steps.collected o → o ≡ Some (HasFailed cause)
has_failed None cause e = cc
has_failed (Some (Waiting j)) cause e = cc
has_failed (Some (Ready r)) cause e = cc
has_failed (Some (HasFailed other)) cause e = cc

is_waiting : (o : Option LoadState) (j : ℕ) → replies.NotYet j ≡ steps.collected o → o ≡ Some (Waiting j)
is_waiting None j e = cc
is_waiting (Some (Waiting k)) j e = cc
is_waiting (Some (Ready r)) j e = cc
is_waiting (Some (HasFailed cause)) j e = cc

-- ---- entries

adds_one : (old new : Caller) (event : Event) (reply : NotedReply) (begun : List Begin) (trace : List TraceEvent) → IsStep old event reply new → followed.Follows begun trace (entry_of old event reply ∷ []) → Adds old new begun trace
adds_one old new event reply begun trace mine follows = record { later = entry_of old event reply ∷ []; seen = mine.seen; follows = follows; opening = mine.opening }

pub adds_join : TracesJoin → (old between new : Caller) (begun : List Begin) (first second : List TraceEvent) → begins_after begun first ≡ begun → Adds old between begun first → Adds between new begun second → Adds old new begun (first ++ second)
adds_join join old between new begun first second none p q = record {
  later = p.later ++ q.later;
  seen = q.seen ∙ ap (λ l. l ++ q.later) p.seen ∙ append_assoc old.seen p.later q.later;
  follows = join begun first second p.later q.later p.follows (subst (λ l. followed.Follows l second q.later) (sym none) q.follows);
  opening = q.opening ∙ p.opening;
}

no_job_then : (old between new : Caller) → RunsNoJob old between → RunsNoJob between new → RunsNoJob old new
no_job_then old between new p q = record { runs = q.runs ∙ p.runs; fails = q.fails ∙ p.fails }

module _ (laws : GatherLaws) (first : Caller) (none_waits : NoneWaits first) (outcome : Outcome) (s : Stage) (begins : AreLastBegins s.gathers s.views) where
  abbrev pub next : Outcome
  next = outcome_now s.gathers first outcome

  -- What the end of the load of one view leaves, which came to this.
  record HasEnded (place : ℕ) (begin : Begin) (result : Result Picture Cause) (hold : Option HoldValue) (old new : Standing) : Type 0 where
    came : next begin ≡ result
    just : HasJust new.caller (loads_in new.held.holds)
    begun : (knowledge_of new.caller).begun ≡ (knowledge_of old.caller).begun
    tracked_is : new.held.tracked ≡ collected_at place (result_err result) old.held.tracked
    holds_are : new.held.holds ≡ set old.held.holds place hold
    stay : StayReady old.caller new.caller
    hold_is : IsHoldAt new.caller next (table.collected (result_err result) Running) (Some begin) hold
    left : IsLeftOf first new.caller
    adds : (others : List Begin) → Adds old.caller new.caller others (end_events begin result)
    right : EachEnd (IsRight (content_of first)) (end_events begin result)
    no_job : RunsNoJob old.caller new.caller

  -- one view more is gathered, whose load came to its end
  more_ended : (place : ℕ) (old new : Standing) (v : WalkView) (begin : Begin) (result : Result Picture Cause) (hold : Option HoldValue) → slice_get s.views place ≡ Some v → v.view.state ≡ Running → v.last ≡ Some begin
      → AreGatheredTo place next s first old → HasEnded place begin result hold old new → AreGatheredTo (suc place) next s first new
  more_ended place old new v begin result hold at runs last was now =
      let vs = s.views in
      let on : running v ≡ Some begin = λ i. running_in (runs i) (last i) in
      let ends : view_ends next (running v) ≡ end_events begin result = ap (view_ends next) on ∙ ap (end_events begin) now.came in
      let trace : events_to (suc place) next vs ≡ events_to place next vs ++ end_events begin result = more_events next place vs v at ∙ ap (λ l. events_to place next vs ++ l) ends in
      let has : AllLoads new.caller (loads_in (set old.held.holds place hold)) = subst (λ l. AllLoads new.caller (loads_in l)) now.holds_are now.just.each in
      let here : IsHoldAt new.caller next (gathered_view next v).view.state v.last hold = subst (λ t. IsHoldAt new.caller next t v.last hold) (sym (ended_state next v begin result runs last now.came))
      (subst (λ l. IsHoldAt new.caller next (table.collected (result_err result) Running) l hold) (sym last) now.hold_is) in
      let views = more_tracked next place vs v begin (result_err result) at on (ap result_err (sym now.came)) in
      record {
        just = now.just;
        begun = now.begun ∙ was.begun;
        tracked_is = now.tracked_is ∙ ap (collected_at place (result_err result)) was.tracked_is ∙ (λ i. let t : Tracked Cause = record { views = views i; paused = s.paused } in t);
        holds = subst (AreHolds new.caller next (gathered_to (suc place) next vs)) (sym now.holds_are) (more_holds old.caller new.caller next place vs old.held.holds v hold now.stay has was.holds at here);
        left = now.left;
        adds = λ others. subst (Adds first new.caller others) (sym trace)
            (adds_join laws.join first old.caller new.caller others (events_to place next vs) (end_events begin result) (none_begin next others place vs) (was.adds others) (now.adds others));
        right = subst (EachEnd (IsRight (content_of first))) (sym trace) (each_append (IsRight (content_of first)) (events_to place next vs) (end_events begin result) was.right now.right);
        no_job = no_job_then first old.caller new.caller was.no_job now.no_job;
      }

  -- one that does not run
  more_idle : (place : ℕ) (old new : Standing) (v : WalkView) → slice_get s.views place ≡ Some v → running v ≡ None → new ≡ old → AreGatheredTo place next s first old → AreGatheredTo (suc place) next s first new
  more_idle place old new v at none same was =
      let vs = s.views in
      let views : gathered_to place next vs ≡ gathered_to (suc place) next vs = sym (idle_views next place vs v at none) in
      let trace : events_to place next vs ≡ events_to (suc place) next vs = sym (more_events next place vs v at ∙ ap (λ o. events_to place next vs ++ view_ends next o) none ∙ append-nil (events_to place next vs)) in
      let here : AreGatheredTo (suc place) next s first old = record {
        just = was.just;
        begun = was.begun;
        tracked_is = was.tracked_is ∙ ap (λ l. tracked (record s { views = l })) views;
        holds = subst (λ l. AreHolds old.caller next l old.held.holds) views was.holds;
        left = was.left;
        adds = λ others. subst (Adds first old.caller others) trace (was.adds others);
        right = subst (EachEnd (IsRight (content_of first))) trace was.right;
        no_job = was.no_job;
      } in
      subst (AreGatheredTo (suc place) next s first) (sym same) here

  -- ---- the answers

  -- what a view's begin came to
  came : (c : Caller) (begin : Begin) (load : HoldValue) → begin.gathers ≡ s.gathers → IsBeginsLoad begin load → HasLoad c load → IsLeftOf first c → next begin ≡ result_in c load.number
  came c begin load gathers is has left = came_to s.gathers first outcome begin load.number gathers is.number ∙ same_result first c load.number left (has.load, has.is)

  -- it is ready
  ended_ready : (place : ℕ) (old : Standing) (between : Caller) (begin : Begin) (load : HoldValue) → slice_get old.held.holds place ≡ Some (Some load) → begin.gathers ≡ s.gathers → IsBeginsLoad begin load
      → AreGatheredTo place next s first old → IsCall old.caller (events.Collect load.number) replies.Ready between → (ready : HasReadyLoad between load)
      → HasEnded place begin (Ok ready.picture) (Some load) old (standing between (ended_at place None old.held))
  ended_ready place old between begin load at gathers is was call ready =
      let n = load.number in
      let has : HasLoad old.caller load = has_at old.caller old.held.holds place load was.just.each at in
      let mine = one_step laws.opening old.caller between (events.Collect n) replies.Ready was.just.owner.who was.just.owner.seats call in
      let state = is_ready (get old.caller.world.loads (old.caller.who, n)) mine.step.0 in
      let picture : picture_held old.caller n ≡ Some ready.picture = (λ i. shown_by (sym mine.step.1 i) (get (sym mine.step.1 i).loads (sym call.who i, n))) ∙ ready.shows in
      let result : next begin ≡ Ok ready.picture = came old.caller begin load gathers is has was.left ∙ (λ i. result_by (state.1 i) (picture i)) in
      let content : content_of between ≡ content_of first = ap (λ (w : World). w.content) (mine.opening ∙ (was.adds []).opening) in
      let right : (picture : Picture) → ◌≡◌ {A = Result Picture Cause} (Ok ready.picture) (Ok picture) → IsPicture (content_of first) begin.spec.key picture = λ picture e.
      let same : ready.picture ≡ picture = cc in
      subst (IsPicture (content_of first) begin.spec.key) same (subst (λ k. IsPicture (content_of first) k ready.picture) is.key (subst (λ t. IsPicture t load.key ready.picture) content ready.right)) in
      record {
        came = result;
        just = just_collected laws.stay laws.jobs laws.opening old.caller between n replies.Ready (loads_in old.held.holds) was.just call;
        begun = laws.counts old.caller between (events.Collect n) replies.Ready tt call;
        tracked_is = refl;
        holds_are = sym (set_same old.held.holds place (Some load) at);
        stay = λ other still. ready_collected laws.ready old.caller between n replies.Ready call other;
        hold_is = (is, record { ready = ready; is = result });
        left = left_collected first old.caller between n replies.Ready was.left call mine;
        adds = λ others. adds_one old.caller between (events.Collect n) replies.Ready others (end_events begin (Ok ready.picture)) mine (inr (was.just.owner.who, (n, is.number, refl, refl), tt));
        right = (right, tt);
        no_job = no_job laws.runs laws.fails old.caller between (events.Collect n) replies.Ready mine refl (λ known. refl);
      }

  -- it has failed, and is released
  ended_failed : (place : ℕ) (old new : Standing) (between : Caller) (begin : Begin) (load : HoldValue) (cause : Cause) → slice_get old.held.holds place ≡ Some (Some load) → begin.gathers ≡ s.gathers → IsBeginsLoad begin load
      → AreGatheredTo place next s first old → IsCall old.caller (events.Collect load.number) (replies.Failed cause) between → IsCall between (events.Release load.number) replies.Done new.caller
      → new.held.holds ≡ set old.held.holds place None → new.held.tracked ≡ collected_at place (Some cause) old.held.tracked → HasJust new.caller (loads_in new.held.holds)
      → HasEnded place begin (Err cause) None old new
  ended_failed place old new between begin load cause at gathers is was call release holds_are tracked_is just =
      let n = load.number in
      let has : HasLoad old.caller load = has_at old.caller old.held.holds place load was.just.each at in
      let mine = one_step laws.opening old.caller between (events.Collect n) (replies.Failed cause) was.just.owner.who was.just.owner.seats call in
      let then = just_collected laws.stay laws.jobs laws.opening old.caller between n (replies.Failed cause) (loads_in old.held.holds) was.just call in
      let second = one_step laws.opening between new.caller (events.Release n) replies.Done then.owner.who then.owner.seats release in
      let state = has_failed (get old.caller.world.loads (old.caller.who, n)) cause mine.step.0 in
      let result : next begin ≡ Err cause = came old.caller begin load gathers is has was.left ∙ ap (λ o. result_by o (picture_held old.caller n)) state in
      let failed : get between.world.loads (between.who, n) ≡ Some (HasFailed cause) = (λ i. get (mine.step.1 i).loads (call.who i, n)) ∙ state in
      let by : between.who ≡ 0 = then.owner.who in
      record {
        came = result;
        just = just;
        begun = laws.counts between new.caller (events.Release n) replies.Done tt release ∙ laws.counts old.caller between (events.Collect n) (replies.Failed cause) tt call;
        tracked_is = tracked_is;
        holds_are = holds_are;
        stay = λ other still ready.
            let now = ready_collected laws.ready old.caller between n (replies.Failed cause) call other ready in
            let after = ready_released laws.ready between new.caller n release other still now.0 in
            (after.0, after.1 ∙ now.1);
        hold_is = refl;
        left = left_released first between new.caller n cause (left_collected first old.caller between n (replies.Failed cause) was.left call mine) release second failed;
        adds = λ others. record {
          later = entry_of old.caller (events.Collect n) (replies.Failed cause) ∷ entry_of between (events.Release n) replies.Done ∷ [];
          seen = second.seen ∙ ap (λ l. l ++ entry_of between (events.Release n) replies.Done ∷ []) mine.seen ∙ append_assoc old.caller.seen (entry_of old.caller (events.Collect n) (replies.Failed cause) ∷ []) (entry_of between (events.Release n) replies.Done ∷ []);
          follows = inr (was.just.owner.who, (n, is.number, refl, refl), inr (by, (n, is.number, refl), tt));
          opening = second.opening ∙ mine.opening;
        };
        right = (λ picture e. cc, tt);
        no_job = no_job_then old.caller between new.caller (no_job laws.runs laws.fails old.caller between (events.Collect n) (replies.Failed cause) mine refl (λ known. refl))
            (no_job laws.runs laws.fails between new.caller (events.Release n) replies.Done second refl (λ known. refl));
      }

  -- it does not wait
  none_waits_now : (place : ℕ) (old : Standing) (between : Caller) (load : HoldValue) (j : ℕ) → slice_get old.held.holds place ≡ Some (Some load) → AreGatheredTo place next s first old
      → IsCall old.caller (events.Collect load.number) (replies.NotYet j) between → ⊥
  none_waits_now place old between load j at was call =
      let n = load.number in
      let has : HasLoad old.caller load = has_at old.caller old.held.holds place load was.just.each at in
      let mine = one_step laws.opening old.caller between (events.Collect n) (replies.NotYet j) was.just.owner.who was.just.owner.seats call in
      let state = is_waiting (get old.caller.world.loads (old.caller.who, n)) j mine.step.0 in
      none_waits n j (sym (was.left.loads n (has.load, has.is)) ∙ state)

  -- ---- one view

  released_now : (hold : Option HoldValue) (load : HoldValue) (old new : Caller) → hold ≡ Some load → Released hold old new → IsCall old (events.Release load.number) replies.Done new
  released_now None load old new is released = cc
  released_now (Some l) load old new is released = let same : l ≡ load = cc in subst (λ (x : HoldValue). IsCall old (events.Release x.number) replies.Done new) same released

  module _ (place : ℕ) (old new : Standing) (v : WalkView) (at : slice_get s.views place ≡ Some v) (was : AreGatheredTo place next s first old) (just : HasJust new.caller (loads_in new.held.holds)) where
    by_answer : (begin : Begin) (load : HoldValue) (answer_is : answers.Outcome) (between : Caller) → v.view.state ≡ Running → v.last ≡ Some begin → slice_get old.held.holds place ≡ Some (Some load) → IsBeginsLoad begin load
        → begin.gathers ≡ s.gathers → IsCall old.caller (events.Collect load.number) (collected answer_is) between → (answer_is ≡ answer.Ready → HasReadyLoad between load) → AnswerIsTaken place answer_is between old.held new
        → AreGatheredTo (suc place) next s first new
    by_answer begin load answer.Ready between runs last held is gathers call ready taken =
        let now = ended_ready place old between begin load held gathers is was call (ready refl) in
        subst (AreGatheredTo (suc place) next s first) (sym taken) (more_ended place old (standing between (ended_at place None old.held)) v begin (Ok (ready refl).picture) (Some load) at runs last was now)
    by_answer begin load (answer.Failed cause) between runs last held is gathers call ready taken =
        let go = taken.0 in
        let hold : go.hold ≡ Some load = same_Some go.hold (Some load) (sym go.was ∙ held) in
        let release = released_now go.hold load between new.caller hold go.released in
        more_ended place old new v begin (Err cause) None at runs last was (ended_failed place old new between begin load cause held gathers is was call release go.holds_are taken.1 just)
    by_answer begin load (answer.NotYet j) between runs last held is gathers call ready taken = absurd (none_waits_now place old between load j held was call)

    -- by the view's state, its last begin and what it holds
    by_state : (state : ViewState Cause) (last : Option Begin) (hold : Option HoldValue) → v.view.state ≡ state → v.last ≡ last → slice_get old.held.holds place ≡ Some hold → state_at place old.held.tracked.views ≡ Some state
        → IsHoldAt old.caller next state last hold → IfSome last (IsLastBegin s.gathers v) → Collects place old new → AreGatheredTo (suc place) next s first new
    by_state Running None hold state_is last_is held told is begin_is collects = absurd is
    by_state Running (Some begin) None state_is last_is held told is begin_is collects = absurd is
    by_state Running (Some begin) (Some load) state_is last_is held told is begin_is collects =
        let asked = collects.ends told load held in
        by_answer begin load asked.answer asked.between state_is last_is held is.0 (begin_is.running state_is) asked.call asked.ready asked.taken
    by_state Cleared last hold state_is last_is held told is begin_is collects = more_idle place old new v at (ap (λ t. running_in t v.last) state_is) (collects.stays (λ e. let bad : Some Cleared ≡ Some Running = sym told ∙ e in cc)) was
    by_state Waits last hold state_is last_is held told is begin_is collects = more_idle place old new v at (ap (λ t. running_in t v.last) state_is) (collects.stays (λ e. let bad : Some Waits ≡ Some Running = sym told ∙ e in cc)) was
    by_state Complete last hold state_is last_is held told is begin_is collects = more_idle place old new v at (ap (λ t. running_in t v.last) state_is) (collects.stays (λ e. let bad : Some Complete ≡ Some Running = sym told ∙ e in cc)) was
    by_state (Failed cause) last hold state_is last_is held told is begin_is collects = more_idle place old new v at (ap (λ t. running_in t v.last) state_is) (collects.stays (λ e. let bad : Some (Failed cause) ≡ Some Running = sym told ∙ e in cc)) was
    by_state Paused last hold state_is last_is held told is begin_is collects = more_idle place old new v at (ap (λ t. running_in t v.last) state_is) (collects.stays (λ e. let bad : Some Paused ≡ Some Running = sym told ∙ e in cc)) was

  pub one_more : (place : ℕ) (old new : Standing) → place < length s.views → AreGatheredTo place next s first old → Collects place old new → HasJust new.caller (loads_in new.held.holds) → AreGatheredTo (suc place) next s first new
  one_more place old new less was collects just =
      let vs = s.views in
      let view = item_at vs place less in
      let v = view.0 in
      let there : slice_get (gathered_to place next vs) place ≡ Some v = view_at_place next place vs ∙ view.1 in
      let held = item_at old.held.holds place (omega (arith, less, as_many old.caller next (gathered_to place next vs) old.held.holds was.holds, length-gathered_to next place vs)) in
      let is : IsHoldAt old.caller next v.view.state v.last held.0 = hold_of_view old.caller next place (gathered_to place next vs) old.held.holds v held.0 was.holds there held.1 in
      let told : state_at place old.held.tracked.views ≡ Some v.view.state = ap (λ (t : Tracked Cause). state_at place t.views) was.tracked_is ∙ state_of_view place (gathered_to place next vs) v there in
      by_state place old new v view.1 was just v.view.state v.last held.0 refl refl held.1 told is (last_at s.gathers place vs v begins view.1) collects

-- ---- one view, as the program asks for it

asked_same : (place : ℕ) (load other : HoldValue) (old new : Standing) → load ≡ other → IsAsked place load old new → IsAsked place other old new
asked_same place load other old new same is = subst (λ (x : HoldValue). IsAsked place x old new) same is

-- the load of a view that runs was asked for
collects_so : (place : ℕ) (old new : Standing) (load : HoldValue) → state_at place old.held.tracked.views ≡ Some Running → slice_get old.held.holds place ≡ Some (Some load) → IsAsked place load old new → Collects place old new
collects_so place old new load state at is = record {
  stays = λ none. absurd (none state);
  ends = λ runs other at_other. asked_same place load other old new (same_Some load other (same_Some (Some load) (Some other) (sym at ∙ at_other))) is;
}

pub collects_ready : (place : ℕ) (old between : Caller) (held after : Held) (load : HoldValue) → state_at place held.tracked.views ≡ Some Running → slice_get held.holds place ≡ Some (Some load) → IsCall old (events.Collect load.number) replies.Ready between
    → HasReadyLoad between load → after.tracked ≡ collected_at place None held.tracked → after.holds ≡ held.holds → Collects place (standing old held) (standing between after)
collects_ready place old between held after load state at call ready tracked_is holds_is = collects_so place (standing old held) (standing between after) load state at (record {
  answer = answer.Ready;
  between = between;
  call = call;
  ready = λ e. ready;
  taken = λ i. standing between (record { tracked = tracked_is i; holds = holds_is i });
})

pub collects_failed : (place : ℕ) (old between : Caller) (held middle : Held) (new : Standing) (load : HoldValue) (cause : Cause) → state_at place held.tracked.views ≡ Some Running → slice_get held.holds place ≡ Some (Some load)
    → IsCall old (events.Collect load.number) (replies.Failed cause) between → middle.tracked ≡ collected_at place (Some cause) held.tracked → middle.holds ≡ held.holds → LetsGo place (standing between middle) new → new.held.tracked ≡ middle.tracked
    → Collects place (standing old held) new
collects_failed place old between held middle new load cause state at call tracked_is holds_is lets_go stays = collects_so place (standing old held) new load state at (record {
  answer = answer.Failed cause;
  between = between;
  call = call;
  ready = λ e. cc;
  taken = (subst (λ (h : Held). LetsGo place (standing between h) new) (λ i. let h : Held = record { tracked = tracked_is i; holds = holds_is i } in h) lets_go, stays ∙ tracked_is);
})

pub collects_none : (place : ℕ) (old between : Caller) (held : Held) (load : HoldValue) (j : ℕ) → state_at place held.tracked.views ≡ Some Running → slice_get held.holds place ≡ Some (Some load) → IsCall old (events.Collect load.number) (replies.NotYet j) between
    → Collects place (standing old held) (standing between held)
collects_none place old between held load j state at call = collects_so place (standing old held) (standing between held) load state at (record {
  answer = answer.NotYet j;
  between = between;
  call = call;
  ready = λ e. cc;
  taken = refl;
})
