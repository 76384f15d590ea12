-- What a run comes to, by the commands that were obeyed.
use Rattle.std.proofs.Common.{◌≡◌, ℕ, ◌+◌, ◌<◌, ◌≤◌, Bool, true, false, cond, List, [], ◌∷◌, ◌++◌, Some, None, Option, Ok, Err, Result, refl, ap, sym, subst, ◌∙◌, inl, inr, append-nil, arith}
use Rattle.std.specs.Prelude.{⊤, ◌||◌, ◌⊎◌, IfSome, IfOk, IsOk}
use Rattle.std.specs.List.{list_any}
use Rattle.std.specs.Option.{option_map, option_or}
use Rattle.outside.specs.declared.sinks.Sink as sinks
use Rattle.outside.specs.declared.sources.Source as sources
use Rattle.request_tracker.specs.declared.views.Act.TheVariants as acts
use Rattle.request_tracker.specs.Moves.{act_move}
use Rattle.script_lines.specs.declared.commands.Command.TheVariants.{Wait}
use Rattle.script_lines.specs.Script.{Numbered, Script, with_first, script_of}
use Rattle.script_lines.specs.Reading.{IsNext}
use Rattle.printed_lines.specs.Printed.{lines_text, says_failed}
use Rattle.engine_shared.specs.Caller.{Caller, content_of}
use Rattle.script_walk.specs.Walk.{Begin, Outcome, TraceEvent, Dropped, Begun, Ended, Trimmed, Printed, Stage, Step, opening, names_of, names_in, can_obey, gather_events, gathered, print_events, Digest, step, every, closing, stay, then_step, walk, trace}
use Rattle.script_walk.specs.Ends.{lines_in, names_after, bad_command_from, bad_command, bad_line}
use Rattle.script_walk.specs.Laws.{EachEnd}
use Rattle.fetch_bounds.specs.Parts.{begins_after}
use Rattle.engine_views.specs.Held.{Held}
use Rattle.engine_views.specs.Owner.{Adds}
use Rattle.engine_views.specs.Following.{standing, Follows}
use Rattle.engine_views.specs.Gathers.{IsRight, gathered_stage}
use Rattle.glide_run.specs.Built.{is_built, built}
use Rattle.glide_run.specs.Handed.{IsWritten}
use Rattle.glide_run.specs.inside.Prints.{failing_in}
use Rattle.glide_run.specs.inside.Obeys.{Moment, moment, standing_at, worker_at, unprinted, can_obey_at, IsUntouched, IsTorn, IsStopped}
use Rattle.glide_run.specs.inside.Running.{with_all, IsSplit, AreBuilt, HasObeyed, Progress, IsProgress, HasWorked}
use Rattle.glide_run.specs.declared.run.Ended as code
use Rattle.glide_run.specs.declared.run.Stop.{Stop}
use Rattle.glide_run.specs.declared.run.Troubles.{Troubles}
use Rattle.glide_run.proofs.Events.{Says, each_append, each_none, lines-append, text-append, moves_end, moves_lines, prints_none}
use Rattle.glide_run.proofs.Commands.{unprinted-append, prints_gone}
use Rattle.glide_run.proofs.Jobs.{runs_then}
use Rattle.glide_run.proofs.Histories.{adds_then, adds_as}
use Rattle.glide_run.proofs.Sinks.{wrote_just, wrote_more, wrote_less, wrote_as}
use Rattle.glide_run.proofs.Scripts.{IsWhole, rest_of, built_append, built_one, are_built, built_first, unbuilt_first, script_is, split_left, split_is, split_next, split_more}
use Rattle.glide_run.proofs.Steps.{Laws, walked, more_walk, more_good, can_as, more_text, more_right, right_as}

-- ---- the end of a trace

closing_ends : (P : Says) (s : Stage) → EachEnd P (closing s)
closing_ends P s = each_none P (closing s) (moves_end (every (act_move acts.ClearAll)) s.begun s.gathers [] s.views)

closing_lines : (s : Stage) → lines_in (closing s) ≡ []
closing_lines s = moves_lines (every (act_move acts.ClearAll)) s.begun s.gathers [] s.views

pub trace_ends : (P : Says) (o : Outcome) (commands : List Numbered) → EachEnd P (walked o commands).events → EachEnd P (trace o commands)
trace_ends P o commands h = let w = walked o commands in each_append P w.events (closing w.stage) h (closing_ends P w.stage)

pub trace_lines : (o : Outcome) (commands : List Numbered) → lines_in (trace o commands) ≡ lines_in (walked o commands).events
trace_lines o commands = let w = walked o commands in lines-append w.events (closing w.stage) ∙ ap (λ l. lines_in w.events ++ l) (closing_lines w.stage) ∙ append-nil (lines_in w.events)

-- ---- ends do not depend on lines

pub ends_printed : (P : Says) (es : List TraceEvent) → EachEnd P (unprinted es) → EachEnd P es
ends_printed P [] h = tt
ends_printed P (Ended b result ∷ es) h = (h.0, ends_printed P es h.1)
ends_printed P (Dropped b ∷ es) h = ends_printed P es h
ends_printed P (Begun b others ∷ es) h = ends_printed P es h
ends_printed P (Trimmed level ∷ es) h = ends_printed P es h
ends_printed P (Printed line ∷ es) h = ends_printed P es h

pub ends_unprinted : (P : Says) (es : List TraceEvent) → EachEnd P es → EachEnd P (unprinted es)
ends_unprinted P [] h = tt
ends_unprinted P (Ended b result ∷ es) h = (h.0, ends_unprinted P es h.1)
ends_unprinted P (Dropped b ∷ es) h = ends_unprinted P es h
ends_unprinted P (Begun b others ∷ es) h = ends_unprinted P es h
ends_unprinted P (Trimmed level ∷ es) h = ends_unprinted P es h
ends_unprinted P (Printed line ∷ es) h = ends_unprinted P es h

pub ok_not_err : (A : Type 0) {E : Type 0} (e : E) → IsOk {T = A} (Err e) → ⊥
ok_not_err A e is = cc

-- ---- what a run comes to

module _ {W S : Type 0} (sink : sinks.Ghosts W) (source : sources.Ghosts S) (laws : Laws) (text : Option (List ℕ)) (old : Moment W S) where
  -- what is left as it was may be told of another moment
  as_touched : (result : Result code.Ended Stop) (mid new : Moment W S) → IsUntouched sink source mid new → HasWorked sink source text result old (moment mid.out mid.caller mid.source new.views) → HasWorked sink source text result old new
  as_touched result mid new u h =
      subst (λ w. HasWorked sink source text result old (moment w new.caller new.source new.views)) (sym u.unwritten)
      (subst (λ s. HasWorked sink source text result old (moment mid.out new.caller s new.views)) (sym u.unasked)
      (subst (λ c. HasWorked sink source text result old (moment mid.out c mid.source new.views)) (sym u.unmoved.caller) h))

  module _ (done : List Numbered) (troubles : Troubles) (mid : Moment W S) (p : HasObeyed sink source done troubles old mid) (new : Moment W S) (u : IsUntouched sink source mid new) where
    abbrev so_far : Step
    so_far = walked p.outcome done

    -- what a script's end needs
    record IsEnd (bad : Option ℕ) (rest : Script) : Type 0 where
      whole : IsWhole (option_map script_of text) done rest
      over : walk p.outcome so_far.stage (built rest).commands ≡ stay so_far.stage
      bad_is : bad ≡ bad_line (with_all done (built rest))

    trace_over : (left : List Numbered) → walk p.outcome so_far.stage left ≡ stay so_far.stage → trace p.outcome (done ++ left) ≡ trace p.outcome done
    trace_over left over =
        ap (λ (w : Step). w.events ++ closing w.stage) ((laws.go_on p.outcome done left p.none_bad).walk_is ∙ ap (then_step so_far) over)
        ∙ ap (λ l. l ++ closing so_far.stage) (append-nil so_far.events)

    ended : (bad : Option ℕ) (rest : Script) → IsEnd bad rest → HasWorked sink source text (Ok record { bad = bad; troubles = troubles }) old new
    ended bad rest end =
        let left = (built rest).commands in
        let result : Result code.Ended Stop = Ok record { bad = bad; troubles = troubles } in
        let over = trace_over left end.over in
        let lines = ap lines_in over ∙ trace_lines p.outcome done in
        as_touched result mid new u (record {
          progress = record { script = with_all done (built rest); done = done ++ left; left = []; outcome = p.outcome; work = done };
          is = record {
            script_is = script_is text done rest p.built end.whole;
            all_built = built_append done left p.built (are_built rest.commands rest.bad);
            parts = sym (append-nil (done ++ left));
            none_left = λ is. refl;
            same_work = ap unprinted (sym over);
            all_work = λ is. sym over;
            right = subst (EachEnd (IsRight (content_of old.caller))) (sym over) (trace_ends (IsRight (content_of old.caller)) p.outcome done p.right);
            bad = end.bad_is;
            failing = p.failing_is ∙ ap (list_any says_failed) (sym lines);
          };
          at = mid.views;
          follows = p.follows;
          loads = u.unmoved.loads;
          adds = p.adds;
          wanting = troubles.wanting;
          wanting_is = refl;
          jobs = p.jobs;
          written = wrote_as sink old.out mid.out (lines_text (lines_in so_far.events)) (lines_text (lines_in (trace p.outcome (done ++ left)))) (IsOk result) (ap lines_text (sym lines))
              (wrote_just sink old.out mid.out (lines_text (lines_in so_far.events)) (IsOk result) p.written);
        })

    good_whole : (bad : Option ℕ) → bad ≡ bad_line (with_all done record { commands = []; bad = bad })
    good_whole bad = sym (ap (λ l. option_or (bad_command l) bad) (append-nil done) ∙ ap (λ b. option_or b bad) p.none_bad)

    -- the script's end, or a line that cannot be read
    pub run_ended : (before : Option Script) (bad : Option ℕ) → IsSplit (option_map script_of text) done before → IfSome before (λ script. script ≡ record { commands = []; bad = bad })
        → HasWorked sink source text (Ok record { bad = bad; troubles = troubles }) old new
    run_ended before bad split none =
        let rest : Script = record { commands = []; bad = bad } in
        ended bad rest record {
          whole = split_is (option_map script_of text) before done rest none split;
          over = refl;
          bad_is = good_whole bad;
        }

    unbuilt_end : (first : Numbered) (rest : Script) → IsWhole (option_map script_of text) done (with_first first rest) → is_built first.command ≡ false → IsEnd (Some first.line) (with_first first rest)
    unbuilt_end first rest whole unbuilt =
        let e = unbuilt_first first rest unbuilt in
        record {
          whole = whole;
          over = ap (λ s. walk p.outcome so_far.stage s.commands) e;
          bad_is = good_whole (Some first.line) ∙ sym (ap (λ s. bad_line (with_all done s)) e);
        }

    bad_at_end : (first : Numbered) (rest : Script) → IsWhole (option_map script_of text) done (with_first first rest)
        → (is_built first.command ≡ false) ⊎ (can_obey_at first.command mid.views ≡ false) → IsEnd (Some first.line) (with_first first rest)
    bad_at_end first rest whole (inl unbuilt) = unbuilt_end first rest whole unbuilt
    bad_at_end first rest whole (inr bad) = elim (is_built first.command) as (λ t. is_built first.command ≡ t → IsEnd (Some first.line) (with_first first rest)) [
      | false ↦ λ e. unbuilt_end first rest whole e
      | true ↦ λ yes.
          let e = built_first first rest yes in
          let others = built rest in
          let can = can_as p.outcome so_far.stage mid.caller mid.views first false p.follows bad in
          record {
            whole = whole;
            over = ap (λ s. walk p.outcome so_far.stage s.commands) e
                ∙ ap (λ t. cond t (let r = step p.outcome so_far.stage first.command in then_step r (walk p.outcome r.stage others.commands)) (stay so_far.stage)) can;
            bad_is = sym (ap (λ s. bad_line (with_all done s)) e
                ∙ ap (λ b. option_or b others.bad) ((laws.go_on p.outcome done (first ∷ others.commands) p.none_bad).bad_is
                ∙ ap (λ t. cond t (bad_command_from (names_after (names_in first.command) (names_of so_far.stage.views)) others.commands) (Some first.line)) can));
          }
    ] refl

    -- a command that cannot be obeyed
    pub run_bad : (before after : Option Script) (first : Numbered) → IsSplit (option_map script_of text) done before → IsNext before first after
        → (is_built first.command ≡ false) ⊎ (can_obey_at first.command mid.views ≡ false) → HasWorked sink source text (Ok record { bad = Some first.line; troubles = troubles }) old new
    run_bad before after first split next why =
        ended (Some first.line) (with_first first (rest_of after)) (bad_at_end first (rest_of after) (split_next (option_map script_of text) before after done first next split) why)

    -- the run was stopped, by the reader or for want of memory
    pub run_stopped : (before : Option Script) (stop : Stop) → IsSplit (option_map script_of text) done before → HasWorked sink source text (Err stop) old new
    run_stopped before stop split =
        let rest = rest_of before in
        let lines = trace_lines p.outcome done in
        as_touched (Err stop) mid new u (record {
          progress = record { script = with_all done (built rest); done = done; left = (built rest).commands; outcome = p.outcome; work = done };
          is = record {
            script_is = script_is text done rest p.built (split_left (option_map script_of text) before done split);
            all_built = built_append done (built rest).commands p.built (are_built rest.commands rest.bad);
            parts = refl;
            none_left = λ is. absurd (ok_not_err code.Ended stop is);
            same_work = refl;
            all_work = λ is. refl;
            right = trace_ends (IsRight (content_of old.caller)) p.outcome done p.right;
            bad = tt;
            failing = tt;
          };
          at = mid.views;
          follows = p.follows;
          loads = u.unmoved.loads;
          adds = p.adds;
          wanting = troubles.wanting;
          wanting_is = tt;
          jobs = p.jobs;
          written = wrote_as sink old.out mid.out (lines_text (lines_in so_far.events)) (lines_text (lines_in (trace p.outcome done))) (IsOk {T = code.Ended} (Err stop)) (ap lines_text (sym lines))
              (wrote_just sink old.out mid.out (lines_text (lines_in so_far.events)) (IsOk {T = code.Ended} (Err stop)) p.written);
        })

  -- ---- a command stopped the run

  module _ (done : List Numbered) (troubles : Troubles) (mid : Moment W S) (p : HasObeyed sink source done troubles old mid) (new : Moment W S) where
    run_torn : (before after : Option Script) (first : Numbered) (stop : Stop) → IsSplit (option_map script_of text) done before → IsNext before first after
        → IsTorn sink source first.command p.outcome (walked p.outcome done).stage mid new → HasWorked sink source text (Err stop) old new
    run_torn before after first stop split next q =
        let w = walked p.outcome done in
        let s = w.stage in
        let n = q.next in
        let all = done ++ first ∷ [] in
        let waits : Numbered = record { line = first.line; command = Wait } in
        let work = done ++ waits ∷ [] in
        let r = step n s first.command in
        let ends = gather_events n s.views in
        let wait = step n s Wait in
        let none = print_events n Digest (λ name. false) (gathered n s.views) in
        let rest = rest_of after in
        let P = IsRight (content_of old.caller) in
        let can = can_as p.outcome s mid.caller mid.views first true p.follows q.can in
        let same = more_walk laws done p.none_bad n p.outcome first q.known can in
        let waited = more_walk laws done p.none_bad n p.outcome waits q.known refl in
        let quiet : wait.events ≡ ends = ap (λ l. ends ++ l) (prints_none n Digest (gathered n s.views)) ∙ append-nil ends in
        let gathered_right = right_as sink source laws old done troubles mid p waits ends q.right in
        let right = ends_printed P r.events (subst (EachEnd P) (sym q.only) (ends_unprinted P ends gathered_right)) in
        let text_is = more_text sink source laws old done troubles mid p first n all r same in
        record {
          progress = record { script = with_all all (built rest); done = all; left = (built rest).commands; outcome = n; work = work };
          is = record {
            script_is = script_is text all rest (built_append done (first ∷ []) p.built (built_one first q.built))
                (split_left (option_map script_of text) after all (split_more (option_map script_of text) before after done first next split));
            all_built = built_append all (built rest).commands (built_append done (first ∷ []) p.built (built_one first q.built)) (are_built rest.commands rest.bad);
            parts = refl;
            none_left = λ is. absurd (ok_not_err code.Ended stop is);
            same_work =
                ap (λ (x : Step). unprinted (x.events ++ closing x.stage)) waited ∙ unprinted-append (w.events ++ wait.events) (closing wait.stage)
                ∙ ap (λ l. l ++ unprinted (closing wait.stage)) (unprinted-append w.events wait.events ∙ ap (λ l. unprinted w.events ++ l) (ap unprinted quiet ∙ sym q.only) ∙ sym (unprinted-append w.events r.events))
                ∙ ap (λ x. unprinted (w.events ++ r.events) ++ unprinted (closing x)) (sym q.gathers)
                ∙ sym (unprinted-append (w.events ++ r.events) (closing r.stage)) ∙ sym (ap (λ (x : Step). unprinted (x.events ++ closing x.stage)) same);
            all_work = λ is. absurd (ok_not_err code.Ended stop is);
            right = trace_ends P n all (more_right sink source laws old done troubles mid p first P n all r same p.right right);
            bad = tt;
            failing = tt;
          };
          at = new.views;
          follows = subst (λ (x : Step). Follows n x.stage (standing_at new)) (sym waited) q.follows;
          loads = refl;
          adds = subst (λ (x : Step). Adds old.caller new.caller [] x.events) (sym waited)
              (adds_then laws.join old.caller mid.caller new.caller [] w.events wait.events p.adds (adds_as mid.caller new.caller (begins_after [] w.events) ends wait.events (sym quiet) (q.adds (begins_after [] w.events))));
          wanting = troubles.wanting || q.wanting;
          wanting_is = tt;
          jobs = runs_then source troubles.wanting q.wanting (worker_at old) (worker_at mid) (worker_at new) p.jobs q.jobs;
          written =
              let two = wrote_more sink old.out mid.out new.out (lines_text (lines_in w.events)) (lines_text (lines_in r.events)) ⊥ p.written q.written in
              let one = wrote_as sink old.out new.out (lines_text (lines_in w.events) ++ lines_text (lines_in r.events)) (lines_text (lines_in (trace n all))) ⊥ (text_is ∙ ap lines_text (sym (trace_lines n all))) two in
              record { prefix = one.prefix; rest = one.rest; parts = one.parts; added = one.added; all = λ is. absurd (ok_not_err code.Ended stop is) };
        }

    pub run_broken : (before after : Option Script) (first : Numbered) (stop : Stop) → IsSplit (option_map script_of text) done before → IsNext before first after
        → IsStopped sink source first.command p.outcome (walked p.outcome done).stage mid new → HasWorked sink source text (Err stop) old new
    run_broken before after first stop split next (inl u) = run_stopped done troubles mid p new u before stop split
    run_broken before after first stop split next (inr torn) = run_torn before after first stop split next torn
