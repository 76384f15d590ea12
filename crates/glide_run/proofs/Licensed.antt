-- What a run's engine promises of it: who is to blame for what failed, how many fetches there were, and what licenses its marks.
use Rattle.std.proofs.Common.{◌≡◌, ◌≢◌, ℕ, ◌+◌, ◌≤◌, Bool, true, false, List, [], ◌∷◌, ◌++◌, length, Some, None, Option, Ok, Err, Result, refl, ap, sym, subst, ◌∙◌, inl, inr, arith, count_by}
use Rattle.std.specs.Prelude.{⊤, ◌⊎◌, OnSome, slice_index_or}
use Rattle.std.specs.FinMap.{len}
use Rattle.std.specs.List.{list_any}
use Rattle.bitmap_kind.specs.Picture.{Picture}
use Rattle.cache_key.specs.Key.{Key}
use Rattle.load_cause.specs.declared.causes.Cause.{Cause}
use Rattle.load_cause.specs.declared.causes.Cause.TheVariants as causes
use Rattle.load_cause.specs.Ends.{end_in}
use Rattle.outside.specs.Causes.{Rose}
use Rattle.outside.specs.Content.{Address, Contents}
use Rattle.outside.specs.declared.inputs.Input as inputs
use Rattle.outside.specs.declared.sinks.Sink as sinks
use Rattle.outside.specs.declared.sources.Source as sources
use Rattle.request_tracker.specs.Limits.{views_limit}
use Rattle.script_lines.specs.Script.{Numbered}
use Rattle.printed_lines.specs.Printed.{says_failed_source}
use Rattle.state_machine.specs.Legal as histories
use Rattle.engine_world.specs.World.{World, opening}
use Rattle.engine_world.specs.Balance.{Balance, totals, out_count, held_count}
use Rattle.engine_world.specs.Knowledge.{knowledge_in}
use Rattle.engine_world.specs.Sound.{Sound}
use Rattle.engine_core.specs.CoreView.{CoreValue, note_of}
use Rattle.engine_shared.specs.Caller.{Caller, engine}
use Rattle.script_walk.specs.Walk.{Begin, Outcome, TraceEvent, Dropped, Begun, Ended, Trimmed, Printed, Step, opening as opening_stage, closing, walk, trace, every}
use Rattle.script_walk.specs.Ends.{lines_in}
use Rattle.script_walk.specs.Marks.{Marks, Mark, Source, Memory, Uncached, FileKey, no_marks, cause_of, outcome_of, begins_in, same_address, failed_fetches, IsMarked, IsLicensed}
use Rattle.script_walk.specs.Orderly.{In}
use Rattle.script_walk.specs.Laws.{EachEnd, source_failures, IsEndBetween}
use Rattle.script_walk.specs.Starts.{starts}
use Rattle.fetch_bounds.specs.Costs.{source_runs, cached_begins}
use Rattle.fetch_bounds.specs.Failures.{FailedJob, fails_in, HasFailed}
use Rattle.fetch_bounds.specs.FailureLaws.{Execution, IsExecution}
use Rattle.fetch_bounds.specs.Laws.{Run, IsRun, IsBounded}
use Rattle.fetch_bounds.specs.OwnMarks.{IsMarkedBy}
use Rattle.engine_views.specs.Gathers.{IsRight}
use Rattle.engine_views.specs.JobRuns.{IsExcused, AreExcused}
use Rattle.glide_run.specs.Handed.{Meanings}
use Rattle.glide_run.specs.Promise.{limits_of, Done, events_of, IsEngineOf, IsLicensedRun}
use Rattle.glide_run.specs.inside.Obeys.{unprinted}
use Rattle.glide_run.specs.inside.RunLaws.{Laws}
use Rattle.glide_run.specs.inside.Running.{core_in}
use Rattle.glide_run.specs.declared.settings.Settings.{Settings}
use Rattle.glide_run.proofs.Events.{Says, each_append, each_map, each_none, ends_left, moves_end}
use Rattle.glide_run.proofs.Unprinted.{ends_as, begins_as, cached_as, starts_as}
use Rattle.glide_run.proofs.Engines.{none_owned, none_out, none_decoding, none_kept, all_begun, all_released, all_idle}
use Rattle.glide_run.proofs.Ran.{Ran}
use Rattle.request_tracker.specs.declared.views.Act.TheVariants as acts
use Rattle.request_tracker.specs.Moves.{act_move}

-- ---- excuses

-- Where the source failed none that came to its end there is no fetch that failed.
pub rose_from : (R : Type 0) (es : List TraceEvent) → EachEnd (λ b r. r ≡ Err causes.Source → R) es → source_failures es ≢ [] → R
rose_from R [] h some = absurd (some refl)
rose_from R (Ended b (Ok picture) ∷ es) h some = rose_from R es h.1 some
rose_from R (Ended b (Err causes.Missing) ∷ es) h some = rose_from R es h.1 some
rose_from R (Ended b (Err (causes.Refused refusal)) ∷ es) h some = rose_from R es h.1 some
rose_from R (Ended b (Err causes.Source) ∷ es) h some = h.0 refl
rose_from R (Ended b (Err causes.Memory) ∷ es) h some = rose_from R es h.1 some
rose_from R (Ended b (Err causes.Uncached) ∷ es) h some = rose_from R es h.1 some
rose_from R (Dropped b ∷ es) h some = rose_from R es h some
rose_from R (Begun b others ∷ es) h some = rose_from R es h some
rose_from R (Trimmed level ∷ es) h some = rose_from R es h some
rose_from R (Printed line ∷ es) h some = rose_from R es h some

pub marked_in : (marks : Marks) (begins : List Begin) (begin : Begin) (mark : Mark) → IsMarked marks begins begin mark → In begin begins × (marks begin.number ≡ Some mark)
marked_in marks [] begin mark is = absurd is
marked_in marks (b ∷ bs) begin mark (inl is) = (inl (sym is.0), ap (λ (x : Begin). marks x.number) (sym is.0) ∙ is.1)
marked_in marks (b ∷ bs) begin mark (inr is) = let rest = marked_in marks bs begin mark is in (inr rest.0, rest.1)

at_some : (content : Option Contents) (known : Contents) (P : Type 0) → content ≡ Some known → OnSome content P → P
at_some None known P is p = cc
at_some (Some content) known P is p = p

module _ {S : Type 0} (source : sources.Ghosts S) (wanting : Bool) (old new : S) where
  -- A failed job of this kind and cause has an excuse.
  pub record HasExcuse (cached : Bool) (cause : Cause) : Type 0 where
    pub job : FailedJob
    pub kind : job.spec.cached ≡ cached
    pub excused : IsExcused source wanting old new job cause

  pub has_excuse : (key : Key) (cached : Bool) (cause : Cause) (jobs : List FailedJob) → HasFailed key cached cause jobs → AreExcused source wanting old new jobs → HasExcuse cached cause
  has_excuse key cached cause [] failed excused = absurd failed
  has_excuse key cached cause (job ∷ jobs) (inl is) excused = record { job = job; kind = is.1; excused = subst (IsExcused source wanting old new job) is.2 excused.0 }
  has_excuse key cached cause (job ∷ jobs) (inr is) excused = has_excuse key cached cause jobs is excused.1

module _ {S : Type 0} (source : sources.Ghosts S) (laws : Laws) (settings : Settings) (outcome : Outcome) (work : List Numbered) (wanting : Bool) (old new : S) (c : Caller)
    (r : Ran source settings (trace outcome work) wanting old new c) where
  -- ---- the engine at the end

  sound : Sound c.world (knowledge_in c.seen)
  sound = laws.sound (λ (core : CoreValue). core.world) (λ (core : CoreValue). core.history) note_of (limits_of settings) (source.content old) c.seen c.world r.legal

  released : (who : ℕ) → len (knowledge_in c.seen who).loads ≡ 0
  released = all_released (limits_of settings) (source.content old) c.seen c.world refl r.legal r.released

  idle : (who : ℕ) → (knowledge_in c.seen who).job ≡ None
  idle = all_idle (limits_of settings) (source.content old) c.seen c.world refl r.legal r.idle

  pub engine_is : IsEngineOf settings (source.content old) (trace outcome work) (core_in c)
  engine_is = record {
    legal = r.legal;
    orders = laws.orders (trace outcome work) c.seen r.follows;
    ends = laws.ends (trace outcome work) c.seen r.follows;
    lines = laws.lines (trace outcome work) c.seen r.follows;
    no_load = none_owned c.world (knowledge_in c.seen) sound released idle;
    no_bitmap = none_out c.world (knowledge_in c.seen) sound released idle;
  }

  pub balance : Balance (totals c.world)
  balance = laws.balanced (λ (core : CoreValue). core.world) (λ (core : CoreValue). core.history) note_of (limits_of settings) (source.content old) c.seen c.world r.legal

  pub nothing_out : out_count c.world ≡ 0
  nothing_out = none_decoding c.world (knowledge_in c.seen) sound released idle

  pub nothing_held : held_count c.world ≡ 0
  nothing_held = none_kept c.world (knowledge_in c.seen) sound released idle

  pub loads_are : c.world.counts.loads ≡ length (begins_in (trace outcome work))
  loads_are =
      all_begun c.world (knowledge_in c.seen) sound released idle
      (laws.limits (λ (core : CoreValue). core.world) (λ (core : CoreValue). core.history) note_of (limits_of settings) (source.content old) c.seen c.world r.legal) (ap (λ limits. length limits.quotas) r.limits)
      ∙ r.begun

  -- ---- fetches and blames

  pub fetches_are : source.fetched new ≤ source.fetched old + length (begins_in (trace outcome work))
  fetches_are = omega (arith, r.fetched, laws.begun (λ (core : CoreValue). core.world) (λ (core : CoreValue). core.history) note_of (limits_of settings) (source.content old) c.seen c.world r.legal (trace outcome work) r.follows)

  -- Each begin that came to its end without a picture has an excuse.
  abbrev pub IsExcusedEnd : Says
  IsExcusedEnd b result = (cause : Cause) → result ≡ Err cause → HasExcuse source wanting old new b.spec.cached cause

  pub ends_excused : EachEnd IsExcusedEnd (trace outcome work)
  ends_excused =
      let execution : Execution = record { limits = limits_of settings; content = source.content old; events = trace outcome work; history = c.seen; world = c.world } in
      let is_execution : IsExecution (λ (core : CoreValue). core.world) (λ (core : CoreValue). core.history) note_of execution = record {
        legal = r.legal;
        follows = r.follows;
        orderly = laws.orderly outcome work;
        room = omega arith;
      } in
      each_map _ IsExcusedEnd (λ b result failed cause is. has_excuse source wanting old new b.spec.key b.spec.cached cause (fails_in c.seen) (failed cause is) r.excused)
      (trace outcome work) (laws.failures (λ (core : CoreValue). core.world) (λ (core : CoreValue). core.history) note_of execution is_execution)

  -- ---- where the content is known

  module _ (content : Contents) (is : source.content old ≡ Some content) (right : EachEnd (IsRight (source.content old)) (trace outcome work)) where
    abbrev run : Marks → Run
    run marks = record { limits = limits_of settings; content = content; commands = work; outcome = outcome; marks = marks; history = c.seen; world = c.world }

    is_run : (marks : Marks) → IsRun (λ (core : CoreValue). core.world) (λ (core : CoreValue). core.history) note_of (run marks)
    is_run marks = record {
      legal = subst (λ known. histories.IsLegal engine (opening (limits_of settings) known) c.seen c.world) is r.legal;
      follows = r.follows;
      room = omega arith;
    }

    pub own_marks : (marks : Marks) × IsMarkedBy (λ (core : CoreValue). core.world) (λ (core : CoreValue). core.history) note_of (run no_marks) marks
    own_marks = laws.marks (λ (core : CoreValue). core.world) (λ (core : CoreValue). core.history) note_of (run no_marks) (is_run no_marks) (subst (λ known. EachEnd (IsRight known) (trace outcome work)) is right)

    abbrev pub marks : Marks
    marks = own_marks.0

    abbrev pub given : Outcome
    given = outcome_of (end_in content) marks

    bounded : IsBounded (run marks)
    bounded = laws.bounded (λ (core : CoreValue). core.world) (λ (core : CoreValue). core.history) note_of (run marks) (is_run marks) own_marks.1.failures

    -- Each begin with a mark has an excuse.
    marked_excuse : (begin : Begin) (mark : Mark) → In begin (begins_in (trace outcome work)) → marks begin.number ≡ Some mark → HasExcuse source wanting old new begin.spec.cached (cause_of mark)
    marked_excuse begin mark among at =
        has_excuse source wanting old new begin.spec.key begin.spec.cached (cause_of mark) (fails_in c.seen)
        (laws.marked (λ (core : CoreValue). core.world) (λ (core : CoreValue). core.history) note_of (run marks) (is_run marks) own_marks.1.failed begin mark among at) r.excused

    ends_between : (n : ℕ) → EachEnd (IsEndBetween given 0 n) (walk given opening_stage work).events → EachEnd (λ b result. given b ≡ result) (trace given work)
    ends_between n ends =
        let w = walk given opening_stage work in
        each_append (λ b result. given b ≡ result) w.events (closing w.stage)
        (each_map (IsEndBetween given 0 n) (λ b result. given b ≡ result) (λ b result end. end.2) w.events ends)
        (each_none (λ b result. given b ≡ result) (closing w.stage) (moves_end (every (act_move acts.ClearAll)) w.stage.begun w.stage.gathers [] w.stage.views))

    -- Each begin came to what the content gives it under these marks.
    pub ends_given : EachEnd (λ b result. given b ≡ result) (trace outcome work)
    ends_given = subst (EachEnd (λ b result. given b ≡ result)) (sym own_marks.1.walk_is) (ends_between _ (laws.gather given opening_stage work tt).ends)

    -- ---- commands that do the same work

    module _ (done : List Numbered) (same : unprinted (trace outcome work) ≡ unprinted (trace outcome done)) where
      pub given_same : trace given done ≡ trace outcome done
      given_same =
          let w = walk outcome opening_stage done in
          ap (λ (x : Step). x.events ++ closing x.stage)
          (laws.decide given outcome done (ends_left (λ b result. given b ≡ result) w.events (closing w.stage)
          (ends_as (trace outcome work) (trace outcome done) same (λ b result. given b ≡ result) ends_given)))

      same_given : unprinted (trace outcome work) ≡ unprinted (trace given done)
      same_given = same ∙ ap unprinted (sym given_same)

      module _ {I W : Type 0} (input : inputs.Ghosts I) (sink : sinks.Ghosts W) (left : List Numbered) (ending : List ℕ) (status : ℕ) (told : status ≤ 3 → wanting ≡ true → ⊥) where
        abbrev all : Done
        all = record { commands = done; left = left; outcome = given; ending = ending }

        at_begins : (begin : Begin) (mark : Mark) → IsMarked marks (begins_in (trace given done)) begin mark → HasExcuse source wanting old new begin.spec.cached (cause_of mark)
        at_begins begin mark marked =
            let there = marked_in marks (begins_in (trace given done)) begin mark marked in
            marked_excuse begin mark (subst (In begin) (sym (begins_as (trace outcome work) (trace given done) same_given)) there.0) there.1

        source_asked : (begin : Begin) → HasExcuse source wanting old new begin.spec.cached causes.Source → begin.spec.cached ≡ false
        source_asked begin excuse = sym excuse.kind ∙ excuse.excused.0

        licence : IsLicensed (record { failed = r.failed; status = status }) (begins_in (trace given done)) marks
        licence = record {
          source_asked = λ begin marked. source_asked begin (at_begins begin Source marked);
          source = λ address. omega (
            arith,
            ap (λ begins. failed_fetches marks begins address) (begins_as (trace outcome work) (trace given done) same_given),
            laws.suffice (λ (core : CoreValue). core.world) (λ (core : CoreValue). core.history) note_of (run marks) (is_run marks) (λ n at. own_marks.1.failed n Source at) address,
            at_some (source.content old) content _ is r.owed address,
          );
          memory = λ le begin marked. told le (at_begins begin Memory marked).excused;
          uncached = λ begin file marked. let excuse = at_begins begin (Uncached file) marked in sym excuse.kind ∙ excuse.excused;
        }

        pub licensed_is : IsLicensedRun (record { input = input; sink = sink; source = source }) settings content all status (Some (core_in c)) old new
        licensed_is = record {
          marks = marks;
          outcome_is = refl;
          failed = r.failed;
          failed_is = at_some (source.content old) content _ is r.recorded;
          caused = r.caused;
          licensed = licence;
          fetches = omega (arith, r.fetched, bounded.source_runs, starts_as (trace outcome work) (trace given done) same_given (end_in content) marks settings.memory);
          started = omega (
            arith,
            bounded.started,
            starts_as (trace outcome work) (trace given done) same_given (end_in content) marks settings.memory,
            cached_as (trace outcome work) (trace given done) same_given,
          );
        }
