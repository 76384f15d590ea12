-- A run that has not begun: its engine at the opening, or none.
use Rattle.std.proofs.Common.{◌≡◌, ◌≢◌, ℕ, ◌+◌, ◌<◌, ◌≤◌, List, [], ◌∷◌, ◌++◌, length, Some, None, Option, Err, refl, sym, subst, append-nil, arith, inr}
use Rattle.std.specs.Prelude.{⊤, ◌⊎◌, IfSome}
use Rattle.std.specs.Ordering.{nat_cmp}
use Rattle.std.specs.FinMap.{len-empty}
use Rattle.std.proofs.KnownBytes.{Appends-nil}
use Rattle.load_cause.specs.declared.causes.Cause.TheVariants as causes
use Rattle.load_cause.specs.Ends.{end_in}
use Rattle.outside.specs.Content.{Contents}
use Rattle.script_lines.specs.Script.{Script, script_of}
use Rattle.state_machine.specs.declared.entry.Entry.{Entry}
use Rattle.state_machine.specs.Legal as histories
use Rattle.engine_world.specs.declared.events.Note.{Note}
use Rattle.engine_world.specs.World.{opening}
use Rattle.engine_world.specs.Knowledge.{OwnLoad}
use Rattle.engine_shared.specs.Caller.{Caller, engine}
use Rattle.script_walk.specs.Walk.{Outcome}
use Rattle.script_walk.specs.Marks.{no_marks, outcome_of}
use Rattle.glide_run.specs.Built.{built}
use Rattle.glide_run.specs.Handed.{Handed, Meanings}
use Rattle.glide_run.specs.Promise.{limits_of, Done, IsRun, IsLicensedRun}
use Rattle.glide_run.specs.inside.Running.{IsFresh}
use Rattle.glide_run.specs.declared.settings.Settings.{Settings}

-- ---- an engine at the opening

abbrev starting : Settings → Option Contents → Caller
starting settings content = record { who = 0; seen = []; world = opening (limits_of settings) content }

none_first : (before after : List (Entry Note)) (e : Entry Note) → [] ≡ before ++ e ∷ after → ⊥
none_first [] after e parts = cc
none_first (x ∷ before) after e parts = cc

legal_start : (settings : Settings) (content : Option Contents) → histories.IsLegal engine (opening (limits_of settings) content) [] (opening (limits_of settings) content)
legal_start settings content = record { leads = refl; asked = λ before after e parts. absurd (none_first before after e parts) }

pub fresh_start : (settings : Settings) (content : Option Contents) → IsFresh (starting settings content)
fresh_start settings content = record {
  just = record {
    owner = record {
      legal = record { past = legal_start settings content; seat = omega arith };
      who = refl;
      seats = refl;
      room = omega arith;
      is_open = refl;
    };
    each = tt;
    apart = tt;
    count = len-empty nat_cmp OwnLoad;
    idle = refl;
  };
  unseen = refl;
}

-- ---- where no engine could be made

module _ {I W S : Type 0} (m : Meanings I W S) (settings : Settings) (old : Handed I W S) where
  script_at : Option (List ℕ) → Script
  script_at None = record { commands = []; bad = None }
  script_at (Some text) = built (script_of text)

  is_script : (left : Option (List ℕ)) → IfSome left (λ text. script_at left ≡ built (script_of text))
  unfolding script_at
  is_script None = tt
  is_script (Some text) = refl

  abbrev script : Script
  script = script_at (m.input.left old.input)

  abbrev none_done : Outcome → Done
  none_done outcome = record { commands = []; left = script.commands; outcome = outcome; ending = [] }

  run_with : (outcome : Outcome) → IfSome (m.source.content old.source) (λ content. IsLicensedRun m settings content (none_done outcome) 4 None old.source old.source) → IsRun m settings 4 None old old
  run_with outcome licensed = record {
    script = script;
    script_is = is_script (m.input.left old.input);
    done = none_done outcome;
    parts = refl;
    end = inr (record { status_is = omega arith; no_ending = refl });
    written = record { prefix = []; rest = []; parts = refl; added = Appends-nil (m.sink.written old.out); all = λ all. refl };
    status_is = λ le. absurd (omega (arith, le));
    fetches = omega arith;
    blames = λ blamed. cc;
    engine = λ le. absurd (omega (arith, le));
    licensed = licensed;
  }

  unmarked : (content : Contents) → IsLicensedRun m settings content (none_done (outcome_of (end_in content) no_marks)) 4 None old.source old.source
  unmarked content = record {
    marks = no_marks;
    outcome_is = refl;
    failed = [];
    failed_is = sym (append-nil (m.source.failed old.source));
    caused = λ some. absurd (some refl);
    licensed = record {
      source_asked = λ begin marked. absurd marked;
      source = λ address. omega arith;
      memory = λ le begin marked. absurd marked;
      uncached = λ begin file marked. absurd marked;
    };
    fetches = omega arith;
    started = tt;
  }

  -- Nothing was done: no engine was made for want of memory.
  pub unstarted : IsRun m settings 4 None old old
  unstarted = elim (m.source.content old.source) as (λ known. m.source.content old.source ≡ known → IsRun m settings 4 None old old) [
    | None ↦ λ known. run_with (λ begin. Err causes.Memory) (subst (λ k. IfSome k (λ content. IsLicensedRun m settings content (none_done (λ begin. Err causes.Memory)) 4 None old.source old.source)) (sym known) tt)
    | Some content ↦ λ known.
        let outcome = outcome_of (end_in content) no_marks in
        run_with outcome (subst (λ k. IfSome k (λ content. IsLicensedRun m settings content (none_done outcome) 4 None old.source old.source)) (sym known) (unmarked content))
  ] refl
