-- The promise of a whole run.
use Rattle.std.proofs.Common.{◌≡◌, ◌≢◌, ℕ, ◌+◌, ◌-◌, ◌<◌, ◌≤◌, Bool, true, false, cond, List, [], ◌∷◌, ◌++◌, length, Some, None, Option, Ok, Err, Result, refl, ap, sym, subst, ◌∙◌, inl, inr, append-nil, arith, filter, true≢false}
use Rattle.std.specs.Prelude.{⊤, ◌⊎◌, ◌&&◌, ◌||◌, not, IfSome, IfOk, IsOk, IsSomeAnd}
use Rattle.std.specs.List.{list_any}
use Rattle.std.specs.Io.KnownBytes.{Appends}
use Rattle.bitmap_kind.specs.Picture.{Picture}
use Rattle.load_cause.specs.declared.causes.Cause.{Cause}
use Rattle.load_cause.specs.declared.causes.Cause.TheVariants as causes
use Rattle.load_cause.specs.Ends.{end_in}
use Rattle.outside.specs.Causes.{Rose}
use Rattle.outside.specs.Content.{Contents}
use Rattle.script_lines.specs.declared.commands.Command.{Command}
use Rattle.script_lines.specs.declared.commands.Command.TheVariants.{Load, Layout, Clear, ClearAll, Pause, PauseAll, Resume, Trim, Wait, Show, Dump}
use Rattle.script_lines.specs.Script.{Numbered, Script, script_of}
use Rattle.printed_lines.specs.Printed.{PrintedLine, lines_text, says_failed, says_failed_source}
use Rattle.script_walk.specs.Walk.{Begin, Outcome, TraceEvent, Dropped, Begun, Ended, Trimmed, Printed, Step, opening, closing, walk, trace}
use Rattle.script_walk.specs.Ends.{lines_in, bad_line, status_of, exit_status}
use Rattle.script_walk.specs.Marks.{Marks, Mark, Source, Memory, Uncached, no_marks, cause_of, outcome_of, begins_in}
use Rattle.script_walk.specs.Orderly.{In, IsOrderly, without_begin}
use Rattle.script_walk.specs.Laws.{EachEnd, says_cached}
use Rattle.engine_world.specs.declared.events.Totals.{Totals}
use Rattle.engine_world.specs.World.{World, opening as opening_world}
use Rattle.engine_world.specs.Balance.{Balance}
use Rattle.engine_shared.specs.Caller.{Caller}
use Rattle.engine_views.specs.Held.{no_held_views}
use Rattle.engine_views.specs.Gathers.{IsRight}
use Rattle.glide_run.specs.Built.{is_automatic, is_built, built}
use Rattle.glide_run.specs.Handed.{Handed, handed, Meanings, IsWritten, IsStill}
use Rattle.glide_run.specs.Promise.{IsOrStops, limits_of, Done, events_of, answer, ReachesEnd, StopsShort, IsRun, IsLicensedRun, IsWhole, IsAnswer, IsComplete, IsEngineOf}
use Rattle.glide_run.specs.Stats.{ending_text}
use Rattle.glide_run.specs.inside.Stops.{bad_status, ended_status}
use Rattle.glide_run.specs.inside.Prints.{failing_in}
use Rattle.glide_run.specs.inside.Obeys.{moment, unprinted}
use Rattle.glide_run.specs.inside.Running.{AreBuilt, IsFresh, Progress, IsProgress, HasRun, IsClosed, core_in}
use Rattle.glide_run.specs.declared.run.Ended as code
use Rattle.glide_run.specs.declared.run.Stop.{Stop}
use Rattle.glide_run.specs.declared.settings.Settings.{Settings}
use Rattle.glide_run.specs.declared.stats.Stats.{Stats}
use Rattle.glide_run.proofs.Events.{Says, each_map, ends_left}
use Rattle.glide_run.proofs.Scripts.{both_false, not_false}
use Rattle.glide_run.proofs.Sinks.{wrote_all, wrote_more, wrote_less, wrote_as}
use Rattle.glide_run.proofs.Unprinted.{ends_as, begins_as}
use Rattle.glide_run.proofs.Ran.{Ran, ran}
use Rattle.glide_run.specs.inside.RunLaws.{Laws}
use Rattle.glide_run.proofs.Licensed.{HasExcuse, IsExcusedEnd, rose_from, ends_excused, engine_is, fetches_are, balance, nothing_out, nothing_held, loads_are, given, given_same, ends_given, licensed_is}

-- ---- the status

status_at : (bad : Option ℕ) (failing : Bool) (lines : List PrintedLine) → failing ≡ list_any says_failed lines → bad_status bad failing ≡ status_of lines bad
status_at None failing lines e = ap (λ b. cond b 1 0) e
status_at (Some number) failing lines e = refl

most : (bad : Option ℕ) (failing : Bool) → bad_status bad failing ≤ 3
most None true = omega arith
most None false = omega arith
most (Some number) failing = omega arith

wanted_is : (wanted status : ℕ) → IsOrStops wanted status → status ≤ 3 → status ≡ wanted
wanted_is wanted status (inl e) le = e
wanted_is wanted status (inr (inl e)) le = absurd (omega arith)
wanted_is wanted status (inr (inr e)) le = absurd (omega arith)

past : (status : ℕ) → 3 < status → status ≤ 3 → ⊥
past status lt le = absurd (omega arith)

-- ---- loads that are built do not say `cached`

last_false : (a b : Bool) → (a && not b) ≡ true → b ≡ false
last_false true true e = cc
last_false true false e = refl
last_false false b e = cc

uncached : (command : Command) → is_built command ≡ true → says_cached command ≡ false
uncached (Load view spec sized) e = last_false (is_automatic spec.strategy) spec.cached e
uncached (Layout view width height) e = refl
uncached (Clear view) e = refl
uncached ClearAll e = refl
uncached Pause e = refl
uncached PauseAll e = refl
uncached Resume e = refl
uncached (Trim level) e = refl
uncached Wait e = refl
uncached Show e = refl
uncached (Dump view) e = refl

none_cached : (commands : List Numbered) → AreBuilt commands → list_any (λ (first : Numbered). says_cached first.command) commands ≡ false
none_cached [] are = refl
none_cached (first ∷ others) are =
    let parts = both_false (not (is_built first.command)) (list_any (λ (x : Numbered). not (is_built x.command)) others) are in
    let here = uncached first.command (not_false (is_built first.command) parts.0) in
    let rest = none_cached others parts.1 in
    (λ i. here i || rest i)

-- ---- what comes to its end was begun

among_left : (p : Begin → Bool) (b : Begin) (bs : List Begin) → In b (filter p bs) → In b bs
among_left p b [] among = among
among_left p b (x ∷ bs) among = elim (p x) as (λ t. In b (cond t (x ∷ filter p bs) (filter p bs)) → In b (x ∷ bs)) [
  | true ↦ λ among. elim among as (λ a. In b (x ∷ bs)) [ inl e ↦ inl e | inr rest ↦ inr (among_left p b bs rest) ]
  | false ↦ λ among. inr (among_left p b bs among)
] among

-- What holds of each begin of an orderly trace holds of each that comes to its end.
ended_begins : (P : Begin → Type 0) (begun : ℕ) (live : List Begin) (es : List TraceEvent) → IsOrderly begun live es → ((b : Begin) → In b live → P b) → ((b : Begin) → In b (begins_in es) → P b) → EachEnd (λ b result. P b) es
ended_begins P begun live [] orderly lives begins = tt
ended_begins P begun live (Dropped b ∷ es) orderly lives begins =
    ended_begins P begun (without_begin b.number live) es orderly.2 (λ x among. lives x (among_left _ x live among)) begins
ended_begins P begun live (Begun b others ∷ es) orderly lives begins =
    ended_begins P (begun + 1) (b ∷ live) es orderly.3 (λ x among. elim among as (λ a. P x) [ inl e ↦ subst P (sym e) (begins b (inl refl)) | inr rest ↦ lives x rest ]) (λ x among. begins x (inr among))
ended_begins P begun live (Ended b result ∷ es) orderly lives begins = (lives b orderly.0, ended_begins P begun live es orderly.1 lives begins)
ended_begins P begun live (Trimmed level ∷ es) orderly lives begins = ended_begins P begun live es orderly lives begins
ended_begins P begun live (Printed line ∷ es) orderly lives begins = ended_begins P begun live es orderly lives begins

each_both : (P Q : Says) (es : List TraceEvent) → EachEnd P es → EachEnd Q es → EachEnd (λ b result. P b result × Q b result) es
each_both P Q [] hp hq = tt
each_both P Q (Ended b result ∷ es) hp hq = ((hp.0, hq.0), each_both P Q es hp.1 hq.1)
each_both P Q (Dropped b ∷ es) hp hq = each_both P Q es hp hq
each_both P Q (Begun b others ∷ es) hp hq = each_both P Q es hp hq
each_both P Q (Trimmed level ∷ es) hp hq = each_both P Q es hp hq
each_both P Q (Printed line ∷ es) hp hq = each_both P Q es hp hq

module _ {I W S : Type 0} (m : Meanings I W S) (laws : Laws) (settings : Settings) (old new : Handed I W S) (result : Result code.Ended Stop) (p : Progress) (is : IsProgress (m.input.left old.input) (m.source.content old.source) result p)
    (wanting : Bool) (c : Caller) (r : Ran m.source settings (trace p.outcome p.work) wanting old.source new.source c) (status : ℕ) (ending : List ℕ) where
  -- the events of what was obeyed
  abbrev all : List TraceEvent
  all = trace p.outcome p.done

  abbrev done_with : Outcome → Done
  done_with o = record { commands = p.done; left = p.left; outcome = o; ending = ending }

  -- what was written by the end, and the status
  pub record Finished : Type 0 where
    pub end : (o : Outcome) → trace o p.done ≡ all → ReachesEnd m settings p.script (done_with o) (Some (core_in c)) old.source new.source ⊎ StopsShort m (done_with o) status
    pub written : IsWritten m.sink old.out new.out (lines_text (lines_in all) ++ ending) (status ≤ 3)
    pub status_is : status ≤ 3 → status ≡ status_of (lines_in all) (bad_line p.script)
    pub ends : status ≤ 3 → IsOk result
    pub told : status ≤ 3 → wanting ≡ true → ⊥

  module _ (f : Finished) where
    no_left : status ≤ 3 → p.script.commands ≡ p.done
    no_left le = is.parts ∙ ap (λ l. p.done ++ l) (is.none_left (f.ends le)) ∙ append-nil p.done

    work_is : status ≤ 3 → trace p.outcome p.work ≡ all
    work_is le = is.all_work (f.ends le)

    -- ---- the promise, for any outcome of the same trace

    module _ (o : Outcome) (e : trace o p.done ≡ all) where
      status_at_end : status ≤ 3 → status ≡ exit_status o p.script
      status_at_end le = f.status_is le ∙ ap (λ t. status_of (lines_in t) (bad_line p.script)) (sym e ∙ ap (trace o) (sym (no_left le)))

      excused : EachEnd (IsExcusedEnd m.source laws settings p.outcome p.work wanting old.source new.source c r) all
      excused = ends_as (trace p.outcome p.work) all is.same_work _ (ends_excused m.source laws settings p.outcome p.work wanting old.source new.source c r)

      blames : list_any says_failed_source (lines_in (trace o p.done)) ≡ true → Rose (m.source.faults old.source) (m.source.faults new.source)
      blames blamed = rose_from (Rose (m.source.faults old.source) (m.source.faults new.source)) all
          (each_map _ _ (λ b result excuse failed. (excuse causes.Source failed).excused.1) all excused)
          (laws.blames p.outcome p.done (ap (λ t. list_any says_failed_source (lines_in t)) (sym e) ∙ blamed))

      run_with : IfSome (m.source.content old.source) (λ content. IsLicensedRun m settings content (done_with o) status (Some (core_in c)) old.source new.source)
          → IsRun m settings status (Some (core_in c)) old new
      run_with licensed = record {
        script = p.script;
        script_is = is.script_is;
        done = done_with o;
        parts = is.parts;
        end = f.end o e;
        written = wrote_as m.sink old.out new.out (lines_text (lines_in all) ++ ending) (lines_text (lines_in (trace o p.done)) ++ ending) (status ≤ 3) (ap (λ t. lines_text (lines_in t) ++ ending) (sym e)) f.written;
        status_is = status_at_end;
        fetches = omega (
          arith,
          fetches_are m.source laws settings p.outcome p.work wanting old.source new.source c r,
          ap length (begins_as (trace p.outcome p.work) all is.same_work),
          ap (λ t. length (begins_in t)) e,
        );
        blames = blames;
        engine = λ le. subst (λ t. IsEngineOf settings (m.source.content old.source) t (core_in c)) (work_is le ∙ sym e) (engine_is m.source laws settings p.outcome p.work wanting old.source new.source c r);
        licensed = licensed;
      }

    right : EachEnd (IsRight (m.source.content old.source)) (trace p.outcome p.work)
    right = ends_as all (trace p.outcome p.work) (sym is.same_work) _ is.right

    run_at : (content : Option Contents) → m.source.content old.source ≡ content → IsRun m settings status (Some (core_in c)) old new
    run_at None known = run_with p.outcome refl (subst (λ k. IfSome k (λ content. IsLicensedRun m settings content (done_with p.outcome) status (Some (core_in c)) old.source new.source)) (sym known) tt)
    run_at (Some content) known =
        let o = given m.source laws settings p.outcome p.work wanting old.source new.source c r content known right in
        run_with o (given_same m.source laws settings p.outcome p.work wanting old.source new.source c r content known right p.done is.same_work)
        (subst (λ k. IfSome k (λ content. IsLicensedRun m settings content (done_with o) status (Some (core_in c)) old.source new.source)) (sym known)
        (licensed_is m.source laws settings p.outcome p.work wanting old.source new.source c r content known right p.done is.same_work m.input m.sink p.left ending status f.told))

    pub run_is : IsRun m settings status (Some (core_in c)) old new
    run_is = run_at (m.source.content old.source) refl

    -- ---- where nothing failed

    module _ (content : Contents) (known : m.source.content old.source ≡ Some content) (still : Rose (m.source.faults old.source) (m.source.faults new.source) → ⊥) (le : status ≤ 3) where
      -- an end without an excuse is the content's
      end_given : (b : Begin) (result : Result Picture Cause) (mark : Option Mark) → outcome_of (end_in content) (λ n. mark) b ≡ result
          → IsExcusedEnd m.source laws settings p.outcome p.work wanting old.source new.source c r b result → b.spec.cached ≡ false → answer content b ≡ result
      end_given b result None came excuse not_cached = came
      end_given b result (Some Source) came excuse not_cached = absurd (still (excuse causes.Source (sym came)).excused.1)
      end_given b result (Some Memory) came excuse not_cached = absurd (f.told le (excuse causes.Memory (sym came)).excused)
      end_given b result (Some (Uncached file)) came excuse not_cached =
          let why = excuse causes.Uncached (sym came) in absurd (true≢false (sym why.excused ∙ why.kind ∙ not_cached))

      not_cached : EachEnd (λ b result. b.spec.cached ≡ false) all
      not_cached = ended_begins (λ b. b.spec.cached ≡ false) 0 [] all (laws.orderly p.outcome p.done) (λ b among. absurd among)
          (laws.cached p.outcome p.done (none_cached p.done (subst AreBuilt (no_left le) is.all_built)))

      answered : trace (answer content) p.done ≡ all
      answered =
          let w = walk p.outcome opening p.done in
          let o = given m.source laws settings p.outcome p.work wanting old.source new.source c r content known right in
          let came : EachEnd (λ b result. o b ≡ result) all = ends_as (trace p.outcome p.work) all is.same_work _ (ends_given m.source laws settings p.outcome p.work wanting old.source new.source c r content known right) in
          let ends : EachEnd (λ b result. answer content b ≡ result) all =
          each_map _ (λ b result. answer content b ≡ result) (λ b result at. end_given b result _ at.0 at.1.0 at.1.1) all
          (each_both _ _ all came (each_both _ _ all (excused p.outcome refl) not_cached)) in
          ap (λ (x : Step). x.events ++ closing x.stage)
          (laws.decide (answer content) p.outcome p.done (ends_left (λ b result. answer content b ≡ result) w.events (closing w.stage) ends))

      answer_here : (stats : Stats) → ending ≡ ending_text settings (bad_line p.script) stats → IsAnswer m settings content p.script status old.out new.out
      answer_here stats last =
          let same : trace (answer content) p.script.commands ≡ all = ap (trace (answer content)) (no_left le) ∙ answered in
          inr (record {
            stats = stats;
            written = subst (Appends (m.sink.written old.out) (m.sink.written new.out)) (λ i. lines_text (lines_in (sym same i)) ++ last i) (wrote_all m.sink old.out new.out (lines_text (lines_in all) ++ ending) (status ≤ 3) f.written le);
            status_is = f.status_is le ∙ ap (λ t. status_of (lines_in t) (bad_line p.script)) (sym same);
          })

      pub answer_is : IsAnswer m settings content p.script status old.out new.out
      answer_is = elim (f.end p.outcome refl) as (λ e. IsAnswer m settings content p.script status old.out new.out) [
        | inl reaches ↦ answer_here reaches.stats reaches.ending_is
        | inr stops ↦ absurd (past status stops.status_is le)
      ]

    -- A run that no fault disturbs is the answer.
    pub complete_is : (IsStill m old new → (status ≤ 3) ⊎ (status ≡ 4)) → IsComplete m settings status old new
    complete_is ends still = elim (m.input.left old.input) as (λ l. m.input.left old.input ≡ l → IfSome l (λ text. IfSome (m.source.content old.source) (λ content. IsAnswer m settings content (built (script_of text)) status old.out new.out))) [
      | None ↦ λ e. tt
      | Some text ↦ λ read. elim (m.source.content old.source) as (λ k. m.source.content old.source ≡ k → IfSome k (λ content. IsAnswer m settings content (built (script_of text)) status old.out new.out)) [
        | None ↦ λ e. tt
        | Some content ↦ λ known. elim (ends still) as (λ w. IsAnswer m settings content (built (script_of text)) status old.out new.out) [
          | inl le ↦ subst (λ s. IsAnswer m settings content s status old.out new.out) (subst (λ l. IfSome l (λ text. p.script ≡ built (script_of text))) read is.script_is) (answer_is content known still.source le)
          | inr four ↦ inl four
        ]
      ] refl
    ] refl

-- how a run may end that no fault disturbs
still_ends : (wanted status : ℕ) → wanted ≤ 3 → IsOrStops wanted status → (status ≡ 6 → ⊥) → (status ≤ 3) ⊎ (status ≡ 4)
still_ends wanted status le (inl e) not_six = inl (omega (arith, e, le))
still_ends wanted status le (inr (inl e)) not_six = inr e
still_ends wanted status le (inr (inr e)) not_six = absurd (not_six e)

-- ---- the two ends

module _ {I W S : Type 0} (m : Meanings I W S) (laws : Laws) (settings : Settings) (i0 : I) (w0 : W) (s0 : S) (c0 : Caller) (fresh : IsFresh c0) (opens : c0.world ≡ opening_world (limits_of settings) (m.source.content s0))
    (result : Result code.Ended Stop) (i1 : I) (w1 : W) (s1 : S) (c1 : Caller) (run : HasRun m.sink m.source (m.input.left i0) result (moment w0 c0 s0 no_held_views) (moment w1 c1 s1 no_held_views))
    (sums : Totals) (c : Caller) (closed : IsClosed sums c1 c) where
  abbrev p : Progress
  p = run.progress

  pub engine_ran : Ran m.source settings (trace p.outcome p.work) run.wanting s0 s1 c
  engine_ran = ran m.source m.sink laws.join settings (m.input.left i0) result (moment w0 c0 s0 no_held_views) (moment w1 c1 s1 no_held_views) sums c fresh opens run closed

  pub progress_is : IsProgress (m.input.left i0) (m.source.content s0) result p
  progress_is = subst (λ content. IsProgress (m.input.left i0) content result p) (ap (λ (w : World). w.content) opens) run.is

  abbrev Ends : W → ℕ → List ℕ → Type 0
  Ends w2 status ending = Finished m laws settings (handed i0 w0 s0) (handed i1 w2 s1) result p progress_is run.wanting c engine_ran status ending

  stopped : (status : ℕ) → 3 < status → Ends w1 status []
  stopped status lt = record {
    end = λ o e. inr (record { status_is = lt; no_ending = refl });
    written = wrote_less m.sink w0 w1 (lines_text (lines_in (trace p.outcome p.done))) [] (IsOk result) (status ≤ 3) run.written (λ le. absurd (past status lt le));
    status_is = λ le. absurd (past status lt le);
    ends = λ le. absurd (past status lt le);
    told = λ le. absurd (past status lt le);
  }

  pub stop_is : (status : ℕ) → 3 < status → IsRun m settings status (Some (core_in c)) (handed i0 w0 s0) (handed i1 w1 s1)
  stop_is status lt = run_is m laws settings (handed i0 w0 s0) (handed i1 w1 s1) result p progress_is run.wanting c engine_ran status [] (stopped status lt)

  module _ (ended : code.Ended) (ok : result ≡ Ok ended) (fetches : ℕ) (counted : fetches ≡ m.source.fetched s1 - m.source.fetched s0) (w2 : W) (status : ℕ) (stops : IsOrStops (ended_status ended) status)
      (memory : ended.troubles.wanting ≡ true → status ≡ 4) (last : IsWritten m.sink w1 w2 (ending_text settings ended.bad (record { totals = sums; fetches = fetches })) (status ≤ 3)) where
    abbrev stats : Stats
    stats = record { totals = sums; fetches = fetches }

    is_ok : IsOk result
    is_ok = subst IsOk (sym ok) refl

    bad_is : ended.bad ≡ bad_line p.script
    bad_is = subst (λ r. IfOk r (λ ended. ended.bad ≡ bad_line p.script)) ok progress_is.bad

    failing_is : ended.troubles.failing ≡ failing_in (trace p.outcome p.done)
    failing_is = subst (λ r. IfOk r (λ ended. ended.troubles.failing ≡ failing_in (trace p.outcome p.done))) ok progress_is.failing

    wanting_is : ended.troubles.wanting ≡ run.wanting
    wanting_is = subst (λ r. IfOk r (λ ended. ended.troubles.wanting ≡ run.wanting)) ok run.wanting_is

    reaches : (o : Outcome) → trace o p.done ≡ trace p.outcome p.done
        → ReachesEnd m settings p.script (record { commands = p.done; left = p.left; outcome = o; ending = ending_text settings (bad_line p.script) stats }) (Some (core_in c)) s0 s1
    reaches o e = record {
      none_left = progress_is.none_left is_ok;
      stats = stats;
      ending_is = refl;
      balance = subst Balance (sym closed.sums_are) (balance m.source laws settings p.outcome p.work run.wanting s0 s1 c engine_ran);
      loads = ap (λ (t : Totals). t.loads) closed.sums_are ∙ loads_are m.source laws settings p.outcome p.work run.wanting s0 s1 c engine_ran
          ∙ ap length (begins_as (trace p.outcome p.work) (trace p.outcome p.done) progress_is.same_work) ∙ ap (λ t. length (begins_in t)) (sym e);
      none_decoding = ap (λ (t : Totals). t.decoding) closed.sums_are ∙ nothing_out m.source laws settings p.outcome p.work run.wanting s0 s1 c engine_ran;
      none_held = ap (λ (t : Totals). t.held) closed.sums_are ∙ nothing_held m.source laws settings p.outcome p.work run.wanting s0 s1 c engine_ran;
      fetches = counted;
      engine = closed.sums_are;
    }

    reached : Ends w2 status (ending_text settings (bad_line p.script) stats)
    reached = record {
      end = λ o e. inl (reaches o e);
      written =
          let lines = lines_text (lines_in (trace p.outcome p.done)) in
          wrote_as m.sink w0 w2 (lines ++ ending_text settings ended.bad stats) (lines ++ ending_text settings (bad_line p.script) stats) (status ≤ 3) (ap (λ bad. lines ++ ending_text settings bad stats) bad_is)
          (wrote_more m.sink w0 w1 w2 lines (ending_text settings ended.bad stats) (status ≤ 3) (wrote_all m.sink w0 w1 lines (IsOk result) run.written is_ok) last);
      status_is = λ le. wanted_is (ended_status ended) status stops le ∙ status_at ended.bad ended.troubles.failing (lines_in (trace p.outcome p.done)) failing_is ∙ ap (status_of (lines_in (trace p.outcome p.done))) bad_is;
      ends = λ le. is_ok;
      told = λ le want. absurd (omega (arith, le, memory (wanting_is ∙ want)));
    }

    pub reach_is : IsRun m settings status (Some (core_in c)) (handed i0 w0 s0) (handed i1 w2 s1)
    reach_is = run_is m laws settings (handed i0 w0 s0) (handed i1 w2 s1) result p progress_is run.wanting c engine_ran status (ending_text settings (bad_line p.script) stats) reached

    pub reach_whole : (IsStill m (handed i0 w0 s0) (handed i1 w2 s1) → status ≡ 6 → ⊥) → IsComplete m settings status (handed i0 w0 s0) (handed i1 w2 s1)
    reach_whole not_six =
        complete_is m laws settings (handed i0 w0 s0) (handed i1 w2 s1) result p progress_is run.wanting c engine_ran status (ending_text settings (bad_line p.script) stats) reached
        (λ still. still_ends (ended_status ended) status (most ended.bad ended.troubles.failing) stops (not_six still))
