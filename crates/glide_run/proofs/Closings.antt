-- All views are cleared at the end of a run.
use Rattle.std.proofs.Common.{◌≡◌, ℕ, ◌+◌, ◌≤◌, Bool, true, false, List, [], ◌∷◌, ◌++◌, length, Some, None, Option, Ok, Err, Result, refl, ap, sym, subst, ◌∙◌, append-nil, arith}
use Rattle.std.specs.Prelude.{⊤, IsOk}
use Rattle.std.specs.Option.{option_map}
use Rattle.outside.specs.declared.sinks.Sink as sinks
use Rattle.outside.specs.declared.sources.Source as sources
use Rattle.load_cause.specs.declared.causes.Cause.TheVariants as causes
use Rattle.script_lines.specs.Script.{Script, script_of}
use Rattle.state_machine.specs.declared.entry.Entry.{Entry}
use Rattle.engine_world.specs.declared.events.Note.{Note}
use Rattle.engine_world.specs.Knowledge.{knowledge_in}
use Rattle.engine_shared.specs.Tokens.{HoldValue}
use Rattle.engine_shared.specs.Caller.{Caller, knowledge_of}
use Rattle.script_walk.specs.Walk.{Begin, Outcome, Step, opening, closing, walk, trace}
use Rattle.fetch_bounds.specs.Follows as followed
use Rattle.fetch_bounds.specs.Parts.{begins_after, TracesJoin}
use Rattle.engine_views.specs.Held.{Held, no_held_views, loads_in}
use Rattle.engine_views.specs.Owner.{HasJust}
use Rattle.engine_views.specs.Following.{standing, Follows}
use Rattle.engine_views.specs.Closing.{AreReleases, Closes, ReleasesEndWalks}
use Rattle.glide_run.specs.Built.{built}
use Rattle.glide_run.specs.inside.Obeys.{Moment, moment, worker_at}
use Rattle.glide_run.specs.inside.Running.{with_all, IsFresh, Progress, IsProgress, HasWorked, HasRun}
use Rattle.glide_run.specs.declared.run.Ended.{Ended}
use Rattle.glide_run.specs.declared.run.Stop.{Stop}
use Rattle.glide_run.proofs.Jobs.{none_run, then_none}
use Rattle.glide_run.proofs.Counted.{trace_made, begun_stays}
use Rattle.glide_run.proofs.Scripts.{rest_of, are_built, script_is, split_start, split_left}
use Rattle.glide_run.proofs.Sinks.{wrote_just, wrote_nothing}
use Rattle.glide_run.proofs.Works.{ok_not_err}

module _ {W S : Type 0} (sink : sinks.Ghosts W) (source : sources.Ghosts S) where
  -- what is held is just what the caller has
  pub works_just : (text : Option (List ℕ)) (result : Result Ended Stop) (old new : Moment W S) → HasWorked sink source text result old new → HasJust new.caller (loads_in new.views.holds)
  works_just text result old new p = subst (HasJust new.caller) (sym p.loads) p.follows.just

  -- nothing was done
  pub run_none : (text : Option (List ℕ)) (old : Moment W S) → IsFresh old.caller → (stop : Stop) → HasRun sink source text (Err stop) old old
  run_none text old fresh stop =
      let whole = option_map script_of text in
      let rest = rest_of whole in
      let o : Outcome = λ b. Err causes.Missing in
      record {
        progress = record { script = with_all [] (built rest); done = []; left = (built rest).commands; outcome = o; work = [] };
        is = record {
          script_is = script_is text [] rest refl (split_left whole whole [] (split_start text whole refl));
          all_built = are_built rest.commands rest.bad;
          parts = refl;
          none_left = λ is. absurd (ok_not_err Ended stop is);
          same_work = refl;
          all_work = λ is. refl;
          right = tt;
          bad = tt;
          failing = tt;
        };
        just = fresh.just;
        begun = ap (λ l. (knowledge_in l old.caller.who).begun) fresh.unseen;
        follows = subst followed.AllWork (sym fresh.unseen) tt;
        opening = refl;
        wanting = false;
        wanting_is = tt;
        jobs = none_run source false old.caller old.caller old.source (record { runs = refl; fails = refl });
        written = wrote_just sink old.out old.out [] (IsOk {T = Ended} (Err stop)) (wrote_nothing sink old.out);
      }

  -- what was held is released
  pub run_closed : ReleasesEndWalks → TracesJoin → (text : Option (List ℕ)) (result : Result Ended Stop) (old mid : Moment W S) (new : Caller) → old.caller.seen ≡ [] → HasWorked sink source text result old mid
      → Closes (loads_in mid.views.holds) mid.caller new → HasRun sink source text result old (moment mid.out new mid.source no_held_views)
  run_closed ends join text result old mid new unseen p q =
      let o = p.progress.outcome in
      let w = walk o opening p.progress.work in
      let seen : mid.caller.seen ≡ p.adds.later = p.adds.seen ∙ ap (λ l. l ++ p.adds.later) unseen in
      let past = subst (followed.Follows [] w.events) (sym seen) p.adds.follows in
      let released = subst (λ l. AreReleases l q.later) p.loads q.releases in
      let behind = ends o w.stage (standing mid.caller p.at) (begins_after [] w.events) q.later p.follows released in
      record {
        progress = p.progress;
        is = p.is;
        just = q.just;
        begun =
            ap (λ l. (knowledge_in l new.who).begun) q.seen ∙ begun_stays new.who mid.caller.seen q.later (loads_in mid.views.holds) q.releases
            ∙ ap (λ who. (knowledge_in mid.caller.seen who).begun) (q.just.owner.who ∙ sym p.follows.just.owner.who) ∙ p.follows.begun ∙ trace_made o p.progress.work;
        follows = subst (followed.Follows [] (trace o p.progress.work)) (sym q.seen) (join [] w.events (closing w.stage) mid.caller.seen q.later past behind);
        opening = q.opening ∙ p.adds.opening;
        wanting = p.wanting;
        wanting_is = p.wanting_is;
        jobs = then_none source p.wanting (worker_at old) mid.caller new mid.source p.jobs q.no_job;
        written = p.written;
      }
