-- Each begin of a walk that came to its end without a picture, or is marked, has a failed job of its key, kind and cause.
use Rattle.std.proofs.Common.{Bool, List, Option, Result, Some, [], ap, append_assoc, false, inl, inr, length, refl, subst, sym, true, true≢false, ℕ, ◌++◌, ◌+◌, ◌<◌, ◌∙◌, ◌∷◌, ◌≡◌, ◌≤◌}
use Rattle.std.specs.FinMap.{get}
use Rattle.std.specs.Prelude.{slice_index_or}
use Rattle.bitmap_kind.specs.Picture.{Picture}
use Rattle.engine_world.specs.EngineMachine.{engine_machine}
use Rattle.engine_world.specs.Knowledge.{Knowledge, OwnLoad, knowledge_in}
use Rattle.engine_world.specs.Laws.{HistoriesAreSound}
use Rattle.engine_world.specs.Sound.{Sound}
use Rattle.engine_world.specs.Steps.{Transition, collected}
use Rattle.engine_world.specs.World.{Limits, LoadState, World, opening}
use Rattle.engine_world.specs.declared.events.Event.{Event}
use Rattle.engine_world.specs.declared.events.Note.{Note}
use Rattle.engine_world.specs.declared.events.NotedReply.{NotedReply}
use Rattle.finite_maps.specs.MapLaws.{same_Some}
use Rattle.load_cause.specs.declared.causes.Cause.{Cause}
use Rattle.load_table.specs.declared.loads.LoadState.TheVariants.{Failed}
use Rattle.outside.specs.Content.{Contents}
use Rattle.script_walk.specs.Laws.{EachEnd, TracesAreOrderly}
use Rattle.script_walk.specs.Marks.{begins_in, cause_of}
use Rattle.script_walk.specs.Orderly.{AllIn, In, IsOrderly, without_begin}
use Rattle.script_walk.specs.Walk.{Begin, Begun, Dropped, Ended, Printed, TraceEvent, Trimmed}
use Rattle.state_machine.specs.Legal.{IsLegal, Leads}
use Rattle.state_machine.specs.declared.entry.Entry.{Entry}
use Rattle.fetch_bounds.proofs.Bounds.{opening_sound}
use Rattle.fetch_bounds.proofs.Failures.{AllFailed, failed_loads_were_failed, failed_next, failures_go_on, has_left, has_same, known_from, known_in, opening_failed}
use Rattle.fetch_bounds.proofs.Following.{IsStep, Passes, all_work_law, known_after, next_law, prints_law}
use Rattle.fetch_bounds.proofs.Histories.{Goes, Grounds, legal_goes}
use Rattle.fetch_bounds.proofs.Licence.{Nothing, later_numbers, load_number, numbers_apart}
use Rattle.fetch_bounds.proofs.Seats.{there_known}
use Rattle.fetch_bounds.proofs.Standing.{Stands, begin_stands, drop_stands, in_without, load_known, opening_stands, trim_stands, work_stands}
use Rattle.fetch_bounds.specs.FailureLaws.{EndsHaveFailures, Execution, HasItsFailure, IsExecution, MarkedBeginsFailed}
use Rattle.fetch_bounds.specs.Failures.{FailedJob, HasFailed, fails_by, fails_from, fails_in}
use Rattle.fetch_bounds.specs.Follows.{Follows, IsEndOf, IsLoadBy, IsLoadOf, IsReleaseOf, IsTrimTo, IsWork, reply_of}
use Rattle.fetch_bounds.specs.Laws.{events_of, start_of}
use Rattle.load_cause.specs.declared.causes.Cause.TheVariants as causes
use Rattle.engine_world.specs.declared.events.Event.TheVariants as events
use Rattle.engine_world.specs.declared.events.NotedReply.TheVariants as replies

abbrev says_failed : NotedReply → Bool
says_failed (replies.Failed cause) = true
says_failed reply = false

abbrev cause_told : NotedReply → Cause
cause_told (replies.Failed cause) = cause
cause_told reply = causes.Missing

collected_failed : (o : Option LoadState) (cause : Cause) → collected o ≡ replies.Failed cause → o ≡ Some (Failed cause)
collected_failed (Some (Failed told)) cause e = ap (λ reply. Some (Failed (cause_told reply))) e
collected_failed o cause e = absurd (true≢false (sym (ap says_failed e)))

module _ (every : List Begin) where
  -- The load of this number is that of one of these begins, and asks for the same.
  abbrev IsOfBegin : ℕ → OwnLoad → Type 0
  IsOfBegin n own = (b : Begin) × In b every × IsLoadOf b n × (own.key ≡ b.spec.key) × (own.cached ≡ b.spec.cached)

  abbrev OfBegins : Knowledge → Type 0
  OfBegins known = (n : ℕ) (own : OwnLoad) → get known.loads n ≡ Some own → IsOfBegin n own

  -- So are all loads that seat 0 knows, before each of these entries and after the last.
  abbrev AlwaysOfBegins : (ℕ → Knowledge) → List (Entry Note) → Type 0
  AlwaysOfBegins known [] = OfBegins (known 0)
  AlwaysOfBegins known (e ∷ es) = OfBegins (known 0) × AlwaysOfBegins (known_after known e) es

  of_begins_at : (xs ys : List (Entry Note)) (known : ℕ → Knowledge) → AlwaysOfBegins known (xs ++ ys) → OfBegins (known_from known xs 0)
  of_begins_at [] [] known always = always
  of_begins_at [] (y ∷ ys) known always = always.0
  of_begins_at (x ∷ xs) ys known always = of_begins_at xs ys (known_after known x) always.1

  -- What is known of loads, and why ends failed, where the loads that have failed have failed jobs among those before.
  record Accounted (events : List TraceEvent) (w : World) (known : ℕ → Knowledge) (es : List (Entry Note)) : Type 0 where
    of_begins : AlwaysOfBegins known es
    ends : (jobs : List FailedJob) → AllFailed w known jobs → EachEnd (HasItsFailure (jobs ++ fails_from known es)) events

  module _ (g : Grounds) (limits : Limits) (content : Option Contents) (room : 4096 ≤ slice_index_or limits.quotas 0 0) (z : World) where
    -- where the walk and the engine stand, and that the live begins are among all
    record Lives (begun : ℕ) (live : List Begin) (w : World) (known : ℕ → Knowledge) : Type 0 where
      stands : Stands limits content begun live w known
      in_every : AllIn live every

    known_of_begins : (begun : ℕ) (live : List Begin) (w : World) (known : ℕ → Knowledge) → Lives begun live w known → OfBegins (known 0)
    known_of_begins begun live w known at n own own_at =
        let b = at.stands.known_are n own own_at in
        let l = load_known (known 0) b.0 n b.2 (at.stands.live_are b.0 b.1) in
        let same : own ≡ l.0 = same_Some own l.0 (sym own_at ∙ l.1) in
        (b.0, at.in_every b.0 b.1, b.2, ap (λ (o : OwnLoad). o.key) same ∙ l.2, ap (λ (o : OwnLoad). o.cached) same ∙ l.3)

    module _ (begun : ℕ) (live : List Begin) (w m : World) (known : ℕ → Knowledge) (at : Lives begun live w known) (e : Entry Note) (s : IsStep Nothing w known e m) where
      entry_adds : (events : List TraceEvent) (es : List (Entry Note)) → Accounted events m (known_after known e) es → Accounted events w known (e ∷ es)
      entry_adds events es rest =
          let first : List FailedJob = fails_by (known e.by) e.note.event in
          record {
            of_begins = (known_of_begins begun live w known at, rest.of_begins);
            ends = λ jobs all. subst (λ l. EachEnd (HasItsFailure l) events) (append_assoc jobs first (fails_from (known_after known e) es))
                (rest.ends (jobs ++ first) (failed_next w m known e at.stands.sound s.permits s.step jobs all));
          }

      work_lives : IsWork e.note.event → Lives begun live m (known_after known e)
      work_lives is = record { stands = work_stands g Nothing limits content begun live w m known at.stands e s is; in_every = at.in_every }

      module _ (mine : e.by ≡ 0) where
        trim_lives : (level : ℕ) → IsTrimTo level e → Lives begun live m (known_after known e)
        trim_lives level is = record { stands = trim_stands g Nothing limits content begun live w m known at.stands e s mine level is; in_every = at.in_every }

        drop_lives : (b : Begin) → IsReleaseOf b e → In b live → length (without_begin b.number live) + 1 ≡ length live → Lives begun (without_begin b.number live) m (known_after known e)
        drop_lives b is b_in fewer = record {
          stands = drop_stands g Nothing limits content begun live w m known at.stands e s mine b is b_in fewer;
          in_every = λ o o_in. at.in_every o (in_without b.number o live o_in).0;
        }

        begin_lives : (b : Begin) → In b every → IsLoadBy b e → b.number ≡ begun + 1 → length live < 4096 → Lives (begun + 1) (b ∷ live) m (known_after known e)
        begin_lives b b_in is number few = record {
          stands = begin_stands g Nothing limits content begun live w m known at.stands e s mine b is number few room;
          in_every = λ o o_in. elim o_in [ inl same ↦ subst (λ q. In q every) (sym same) b_in | inr old ↦ at.in_every o old ];
        }

        -- a begin came to its end without a picture
        end_failed : (b : Begin) (result : Result Picture Cause) (es : List (Entry Note)) → In b live → IsEndOf b result e → (jobs : List FailedJob) → AllFailed w known jobs → HasItsFailure (jobs ++ fails_from known (e ∷ es)) b result
        end_failed b result es b_in is jobs all cause result_is =
            let n : ℕ = is.0 in
            let step : Transition w e.by (events.Collect n) e.note.reply m = subst (λ event. Transition w e.by event e.note.reply m) is.2 s.step in
            let l = load_known (known 0) b n is.1 (at.stands.live_are b b_in) in
            let told : collected (get w.loads (0, n)) ≡ replies.Failed cause = ap (λ q. collected (get w.loads (q, n))) (sym mine) ∙ sym step.0 ∙ is.3 ∙ ap reply_of result_is in
            let failed : get w.loads (0, n) ≡ Some (Failed cause) = collected_failed (get w.loads (0, n)) cause told in
            has_left b.spec.key b.spec.cached cause jobs (fails_from known (e ∷ es)) (has_same l.0.key b.spec.key l.0.cached b.spec.cached cause jobs l.2 l.3 (all 0 n l.0 cause l.1 failed))

    passes : (events : List TraceEvent) (begun : ℕ) (live : List Begin) → Passes Nothing (Lives begun live) (Accounted events)
    passes events begun live = record {
      keeps = λ w m known e at s is. work_lives begun live w m known at e s is;
      adds = λ w m known e es at s is rest. entry_adds begun live w m known at e s events es rest;
    }

    account : (events : List TraceEvent) (begun : ℕ) (live seen : List Begin) → IsOrderly begun live events → AllIn (begins_in events) every
        → (w : World) (known : ℕ → Knowledge) (es : List (Entry Note)) → Lives begun live w known → Follows seen events es → Goes Nothing w known es z → Accounted events w known es
    account [] begun live seen order all = all_work_law Nothing (Lives begun live) (Accounted []) (passes [] begun live) z
        (λ w known at said same. record { of_begins = known_of_begins begun live w known at; ends = λ jobs failed. tt })
    account (Printed line ∷ events) begun live seen order all =
        prints_law Nothing (Lives begun live) (Accounted (Printed line ∷ events)) (passes (Printed line ∷ events) begun live) z seen line (Follows seen events)
        (λ w known es at follows goes. let rest = account events begun live seen order all w known es at follows goes in record { of_begins = rest.of_begins; ends = rest.ends })
    account (Dropped b ∷ events) begun live seen order all =
        next_law Nothing (Lives begun live) (Accounted (Dropped b ∷ events)) (passes (Dropped b ∷ events) begun live) z (IsReleaseOf b) (Follows seen events)
        (λ w m known e es at s mine is follows goes.
        let rest = account events begun (without_begin b.number live) seen order.2 all m (known_after known e) es (drop_lives begun live w m known at e s mine b is order.0 order.1) follows goes in
        let more = entry_adds begun live w m known at e s events es rest in record { of_begins = more.of_begins; ends = more.ends })
    account (Begun b others ∷ events) begun live seen order all =
        next_law Nothing (Lives begun live) (Accounted (Begun b others ∷ events)) (passes (Begun b others ∷ events) begun live) z (IsLoadBy b) (Follows (b ∷ seen) events)
        (λ w m known e es at s mine is follows goes.
        let rest = account events (begun + 1) (b ∷ live) (b ∷ seen) order.3 (λ o o_in. all o (inr o_in)) m (known_after known e) es (begin_lives begun live w m known at e s mine b (all b (inl refl)) is order.0 order.2) follows goes in
        let more = entry_adds begun live w m known at e s events es rest in record { of_begins = more.of_begins; ends = more.ends })
    account (Trimmed level ∷ events) begun live seen order all =
        next_law Nothing (Lives begun live) (Accounted (Trimmed level ∷ events)) (passes (Trimmed level ∷ events) begun live) z (IsTrimTo level) (Follows seen events)
        (λ w m known e es at s mine is follows goes.
        let rest = account events begun live seen order all m (known_after known e) es (trim_lives begun live w m known at e s mine level is) follows goes in
        let more = entry_adds begun live w m known at e s events es rest in record { of_begins = more.of_begins; ends = more.ends })
    account (Ended b result ∷ events) begun live seen order all =
        next_law Nothing (Lives begun live) (Accounted (Ended b result ∷ events)) (passes (Ended b result ∷ events) begun live) z (IsEndOf b result) (Follows seen events)
        (λ w m known e es at s mine is follows goes.
        let rest = account events begun live seen order.1 all m (known_after known e) es (work_lives begun live w m known at e s (subst IsWork (sym is.2) tt)) follows goes in
        let more = entry_adds begun live w m known at e s events es rest in
        record { of_begins = more.of_begins; ends = λ jobs failed. (end_failed begun live w m known at e s mine b result es order.0 is jobs failed, more.ends jobs failed) })

-- ---- the laws

module _ {M Reply : Type 0} (g : Grounds) (always : HistoriesAreSound M Reply) (world : M → World) (history : M → List (Entry Note)) (note : Event → Reply → Note) where
  accounted : (x : Execution) → IsExecution world history note x → Accounted (begins_in x.events) x.events (opening x.limits x.content) (knowledge_in []) x.history
  accounted x is =
      let start : World = opening x.limits x.content in
      let every : List Begin = begins_in x.events in
      let sound : Sound start (knowledge_in []) = opening_sound g world history note (always world history note) x.limits x.content in
      let goes : Goes Nothing start (knowledge_in []) x.history x.world = legal_goes world history note g x.limits x.content Nothing x.history x.world sound is.legal (λ xs ys v parts leads. tt) in
      account every g x.limits x.content is.room x.world x.events 0 [] [] is.orderly (λ b b_in. b_in) start (knowledge_in []) x.history
      (record { stands = opening_stands x.limits x.content sound; in_every = λ b b_in. absurd b_in }) is.follows goes

  -- what leads to a legal history is legal
  earlier_legal : (start w z : World) (before after past : List (Entry Note)) → past ≡ before ++ after → IsLegal (engine_machine world history note) start past z → Leads (engine_machine world history note) start before w
      → IsLegal (engine_machine world history note) start before w
  earlier_legal start w z before after past parts legal leads = record {
    leads = leads;
    asked = λ xs ys e is. legal.asked xs (ys ++ after) e (parts ∙ ap (λ l. l ++ after) is ∙ append_assoc xs (e ∷ ys) after);
  }

pub ends_have_failures : {M Reply : Type 0} → Grounds → HistoriesAreSound M Reply → EndsHaveFailures M Reply
ends_have_failures g always world history note x is = (accounted g always world history note x is).ends [] (opening_failed x.limits x.content [])

pub marked_begins_failed : {M Reply : Type 0} → Grounds → HistoriesAreSound M Reply → TracesAreOrderly → MarkedBeginsFailed M Reply
marked_begins_failed g always orderly world history note run is marks_are begin mark b_in mark_is =
    let events = events_of run in
    let every : List Begin = begins_in events in
    let order : IsOrderly 0 [] events = orderly run.outcome run.commands in
    let x : Execution = record { limits = run.limits; content = Some run.content; events = events; history = run.history; world = run.world } in
    let all = accounted g always world history note x (record { legal = is.legal; follows = is.follows; orderly = order; room = is.room }) in
    let number = load_number begin (later_numbers events 0 [] order begin b_in) in
    let n : ℕ = number.0 in
    let failed = marks_are n mark (ap run.marks (sym number.1) ∙ mark_is) in
    let w : World = failed.0 in
    let before = failed.1.before in
    let after = failed.1.after in
    let legal = earlier_legal g always world history note (start_of run) w run.world before after run.history failed.1.parts is.legal failed.1.leads in
    let sound : Sound w (knowledge_in before) = always world history note run.limits (Some run.content) before w legal in
    let own = there_known w.jobs w.resources (get (knowledge_in before 0).loads n) (get w.loads (0, n)) (Failed (cause_of mark)) failed.2 ((sound.known_is 0).each n) in
    let at_before : OfBegins every (known_from (knowledge_in []) before 0) = of_begins_at every before after (knowledge_in []) (subst (AlwaysOfBegins every (knowledge_in [])) failed.1.parts all.of_begins) in
    let of_begin : IsOfBegin every n own.0 = subst (λ known. OfBegins every (known 0)) (known_in before) at_before n own.0 own.1 in
    let same : of_begin.0 ≡ begin = numbers_apart events 0 [] order of_begin.0 begin of_begin.1 b_in (of_begin.2 ∙ sym number.1) in
    let key_is : own.0.key ≡ begin.spec.key = of_begin.3 ∙ ap (λ (b : Begin). b.spec.key) same in
    let kind_is : own.0.cached ≡ begin.spec.cached = of_begin.4 ∙ ap (λ (b : Begin). b.spec.cached) same in
    let had : HasFailed own.0.key own.0.cached (cause_of mark) (fails_in before) = failed_loads_were_failed g always world history note run.limits (Some run.content) before w legal 0 n own.0 (cause_of mark) own.1 failed.2 in
    let here : HasFailed begin.spec.key begin.spec.cached (cause_of mark) (fails_in before) = has_same own.0.key begin.spec.key own.0.cached begin.spec.cached (cause_of mark) (fails_in before) key_is kind_is had in
    subst (HasFailed begin.spec.key begin.spec.cached (cause_of mark)) (sym (failures_go_on before after) ∙ ap fails_in (sym failed.1.parts))
    (has_left begin.spec.key begin.spec.cached (cause_of mark) (fails_in before) (fails_from (knowledge_in before) after) here)
