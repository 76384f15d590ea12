-- Where a run stands between two commands.
use Rattle.std.proofs.Common.{◌≡◌, ℕ, ◌+◌, ◌*◌, ◌<◌, ◌≤◌, Bool, true, false, List, [], ◌∷◌, ◌++◌, Some, None, Option, Ok, Err, Result, refl, ap, sym, subst, ◌∙◌, arith}
use Rattle.std.specs.Prelude.{⊤, ◌||◌, IfSome}
use Rattle.std.specs.Option.{option_map}
use Rattle.outside.specs.Content.{Contents}
use Rattle.outside.specs.declared.sinks.Sink as sinks
use Rattle.outside.specs.declared.sources.Source as sources
use Rattle.request_tracker.specs.Limits.{views_limit}
use Rattle.script_lines.specs.declared.commands.Command.{Command}
use Rattle.script_lines.specs.Limits.{script_limit}
use Rattle.script_lines.specs.Script.{Numbered, Script, script_of}
use Rattle.script_lines.specs.Reading.{Reader, at_start, IsNext, NextGives}
use Rattle.script_lines.specs.declared.commands.ScriptFault.{ScriptFault}
use Rattle.script_lines.specs.declared.commands.ScriptFault.TheVariants as scripts
use Rattle.script_walk.specs.Walk.{Outcome, opening, walk}
use Rattle.engine_world.specs.Permits.{load_limit}
use Rattle.engine_shared.specs.Caller.{Caller, knowledge_of, content_of}
use Rattle.decode_job.specs.Sources.{TellsContent}
use Rattle.engine_views.specs.Held.{Held, no_held_views}
use Rattle.engine_views.specs.Owner.{MayLoad}
use Rattle.engine_views.specs.Following.{standing, Follows, IsOnWalk}
use Rattle.glide_run.specs.inside.Obeys.{Moment, moment, no_troubles, standing_at, can_obey_at, IsUntouched, Gives}
use Rattle.glide_run.specs.inside.Running.{IsSplit, IsFresh, HasObeyed, HasWorked}
use Rattle.glide_run.specs.inside.Stops.{ended_by}
use Rattle.glide_run.specs.declared.run.Obeyed as answers
use Rattle.glide_run.specs.declared.run.Obeyed.TheVariants.{Done, Bad}
use Rattle.glide_run.specs.declared.run.Stop.{Stop}
use Rattle.glide_run.specs.declared.run.Stop.TheVariants.{Memory, Input}
use Rattle.glide_run.specs.declared.run.Troubles.{Troubles}
use Rattle.glide_run.proofs.Scripts.{split_start, split_more}
use Rattle.glide_run.proofs.Steps.{Laws, same_content, opening_follows, obeyed_none, obeyed_more}
use Rattle.glide_run.proofs.Works.{run_ended, run_bad, run_stopped, run_broken}

module _ {W S : Type 0} (sink : sinks.Ghosts W) (source : sources.Ghosts S) (text : Option (List ℕ)) (old : Moment W S) where
  -- These commands were obeyed, and this is still asked for, of which so many bytes are left. No command begins more loads than
  -- there may be views.
  pub record SoFar (asked : Option Script) (troubles : Troubles) (room : ℕ) (now : Moment W S) : Type 0 where
    pub done : List Numbered
    pub obeyed : HasObeyed sink source done troubles old now
    pub split : IsSplit (option_map script_of text) done asked
    pub few : (knowledge_of now.caller).begun + views_limit * room ≤ views_limit * script_limit

-- what a reader may read at the beginning
pub started : (reader : Reader) → reader ≡ at_start → reader.room ≤ script_limit
started reader e = omega (arith, ap (λ (r : Reader). r.room) e)

nothing_touched : {W S : Type 0} (sink : sinks.Ghosts W) (source : sources.Ghosts S) (now : Moment W S) → IsUntouched sink source now now
nothing_touched sink source now = record { unmoved = record { caller = refl; loads = refl }; unasked = refl; unwritten = refl }

tells_as : (a b c d : Option Contents) → b ≡ a → d ≡ c → TellsContent a c → TellsContent b d
tells_as a b c d e f h = subst (λ x. TellsContent x d) (sym e) (subst (TellsContent a) (sym f) h)

module _ {W S : Type 0} (sink : sinks.Ghosts W) (source : sources.Ghosts S) (laws : Laws) (text : Option (List ℕ)) (old : Moment W S) where
  pub starts : (asked : Option Script) (room : ℕ) → IsFresh old.caller → old.views ≡ no_held_views → asked ≡ option_map script_of text → room ≤ script_limit
      → SoFar sink source text old asked no_troubles room old
  starts asked room fresh none e le = record {
    done = [];
    obeyed = subst (λ v. HasObeyed sink source [] no_troubles old (moment old.out old.caller old.source v)) (sym none) (obeyed_none sink source laws old fresh);
    split = split_start text asked e;
    few = omega (arith, (opening_follows old.caller fresh (obeyed_none sink source laws old fresh).outcome).begun, le);
  }

  -- memory was wanting before anything was read
  pub unread : IsFresh old.caller → old.views ≡ no_held_views → (stop : Stop) → HasWorked sink source text (Err stop) old old
  unread fresh none stop =
      let p = starts (option_map script_of text) 0 fresh none refl (omega arith) in
      run_stopped sink source laws text old p.done no_troubles old p.obeyed old (nothing_touched sink source old) (option_map script_of text) stop p.split

  module _ (asked : Option Script) (troubles : Troubles) (room : ℕ) (now : Moment W S) (p : SoFar sink source text old asked troubles room now) where
    pub on_walk : IsOnWalk (standing_at now)
    on_walk = (p.obeyed.outcome, (walk p.obeyed.outcome opening p.done).stage, p.obeyed.follows)

    pub still_tells : TellsContent (content_of old.caller) (source.content old.source) → TellsContent (content_of now.caller) (source.content now.source)
    still_tells tells = tells_as (content_of old.caller) (content_of now.caller) (source.content old.source) (source.content now.source) (same_content old.caller.world now.caller.world p.obeyed.adds.opening) p.obeyed.jobs.content tells

    pub may_load : (left : ℕ) → left < room → MayLoad now.caller
    may_load left lt = omega (arith, p.few, lt)

    pub ends_with : (bad : Option ℕ) → IfSome asked (λ script. script ≡ record { commands = []; bad = bad }) → HasWorked sink source text (Ok record { bad = bad; troubles = troubles }) old now
    ends_with bad none = run_ended sink source laws text old p.done troubles now p.obeyed now (nothing_touched sink source now) asked bad p.split none

    pub stops_at : (stop : Stop) → HasWorked sink source text (Err stop) old now
    stops_at stop = run_stopped sink source laws text old p.done troubles now p.obeyed now (nothing_touched sink source now) asked stop p.split

    -- no command was read
    pub ends_by : (fault : ScriptFault) (line : ℕ) (after : Option Script) → NextGives (Err fault) line asked after → HasWorked sink source text (ended_by fault troubles) old now
    ends_by (scripts.Bad number) line after gives = ends_with (Some number) gives
    ends_by scripts.Input line after gives = stops_at Input
    ends_by scripts.Memory line after gives = stops_at Memory

    module _ (first : Numbered) (after : Option Script) (next : IsNext asked first after) (new : Moment W S) where
      pub goes_on : (more : Troubles) (r : answers.Obeyed) (left : ℕ) → left < room → r ≡ Done more → Gives sink source first.command (Ok r) now new
          → SoFar sink source text old after (record { failing = troubles.failing || more.failing; wanting = troubles.wanting || more.wanting }) left new
      goes_on more r left lt is gives =
          let q = subst (λ x. Gives sink source first.command (Ok x) now new) is gives in
          let obeys = q.2 p.obeyed.outcome (walk p.obeyed.outcome opening p.done).stage p.obeyed.follows in
          record {
            done = p.done ++ first ∷ [];
            obeyed = obeyed_more sink source laws old p.done troubles now p.obeyed first more new q.0 q.1 obeys;
            split = split_more (option_map script_of text) asked after p.done first next p.split;
            few = omega (arith, p.few, lt, obeys.few);
          }

      pub ends_bad : (r : answers.Obeyed) → r ≡ Bad → Gives sink source first.command (Ok r) now new → HasWorked sink source text (Ok record { bad = Some first.line; troubles = troubles }) old new
      ends_bad r is gives =
          let q = subst (λ x. Gives sink source first.command (Ok x) now new) is gives in
          run_bad sink source laws text old p.done troubles now p.obeyed new q.1 asked after first p.split next q.0

      pub breaks : (stop : Stop) → Gives sink source first.command (Err stop) now new → HasWorked sink source text (Err stop) old new
      breaks stop gives = run_broken sink source laws text old p.done troubles now p.obeyed new asked after first stop p.split next (gives p.obeyed.outcome (walk p.obeyed.outcome opening p.done).stage p.obeyed.follows)
