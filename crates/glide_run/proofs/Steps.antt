-- One command more was obeyed.
use Rattle.std.proofs.Common.{◌≡◌, ℕ, ◌+◌, ◌<◌, ◌≤◌, Bool, true, false, cond, List, [], ◌∷◌, ◌++◌, map, Some, None, Option, Ok, Err, Result, refl, ap, sym, subst, ◌∙◌, append-nil, arith}
use Rattle.std.specs.Prelude.{⊤, ◌||◌}
use Rattle.std.specs.List.{list_any}
use Rattle.std.specs.Io.KnownBytes.{Appends}
use Rattle.std.proofs.KnownBytes.{Appends-trans, Appends-nil}
use Rattle.std.proofs.lemmas.List.Folds.{list_any-append}
use Rattle.outside.specs.Content.{Contents}
use Rattle.outside.specs.declared.sinks.Sink as sinks
use Rattle.outside.specs.declared.sources.Source as sources
use Rattle.load_cause.specs.declared.causes.Cause.TheVariants as causes
use Rattle.script_lines.specs.Script.{Numbered}
use Rattle.printed_lines.specs.Printed.{lines_text, says_failed}
use Rattle.request_tracker.specs.Moves as tracker
use Rattle.engine_world.specs.World.{World}
use Rattle.engine_world.specs.Knowledge.{knowledge_in}
use Rattle.engine_world.specs.EngineMachine.{opening_of}
use Rattle.engine_shared.specs.Caller.{Caller, content_of}
use Rattle.script_walk.specs.Walk.{Begin, WalkView, Outcome, TraceEvent, Stage, Step, opening, names_of, names_in, can_obey, step, stay, then_step, walk}
use Rattle.script_walk.specs.Ends.{lines_in, bad_command}
use Rattle.script_walk.specs.Tracked.{tracked_view, tracked, TrackerMakesTheMoves}
use Rattle.script_walk.specs.Laws.{EachEnd, IsEndBetween, EndsAtNextGather, EndsDecide, WalksGoOn}
use Rattle.fetch_bounds.specs.Parts.{begins_after, TracesJoin}
use Rattle.engine_views.specs.Held.{Held, no_held_views}
use Rattle.engine_views.specs.Owner.{Adds}
use Rattle.engine_views.specs.Following.{standing, Follows}
use Rattle.engine_views.specs.Gathers.{AgreeBefore, IsRight}
use Rattle.glide_run.specs.Built.{is_built}
use Rattle.glide_run.specs.inside.Prints.{AreLastIn, failing_in}
use Rattle.glide_run.specs.inside.Obeys.{Moment, moment, no_troubles, standing_at, worker_at, can_obey_at, IsObeyed}
use Rattle.glide_run.specs.inside.Running.{AreBuilt, IsFresh, KnowLast, HasObeyed}
use Rattle.glide_run.specs.declared.run.Troubles.{Troubles}
use Rattle.glide_run.proofs.Events.{Says, each_append, each_map, lines-append, text-append}
use Rattle.glide_run.proofs.Jobs.{none_run, runs_then}
use Rattle.glide_run.proofs.Histories.{adds_none, adds_then}
use Rattle.glide_run.proofs.Lasts.{after-append, step_knows, are_last}
use Rattle.glide_run.proofs.Sinks.{wrote_nothing}
use Rattle.glide_run.proofs.Scripts.{built_append, built_one}

-- ---- where a command can be obeyed

names_map : (vs : List WalkView) → tracker.names (map tracked_view vs) ≡ names_of vs
names_map [] = refl
names_map (v ∷ vs) = ap (λ l. v.name ∷ l) (names_map vs)

-- The views that are there are those of the walk.
pub can_as : (o : Outcome) (s : Stage) (c : Caller) (views : Held) (first : Numbered) (can : Bool) → Follows o s (standing c views) → can_obey_at first.command views ≡ can → can_obey (names_in first.command) (names_of s.views) ≡ can
can_as o s c views first can follows e =
    ap (can_obey (names_in first.command)) (sym (names_map s.views)) ∙ ap (λ t. can_obey (names_in first.command) (tracker.names t.views)) (sym follows.tracked_is) ∙ e

-- ---- the laws that are cited

pub record Laws : Type 0 where
  pub next_gather : EndsAtNextGather
  pub decide : EndsDecide
  pub go_on : WalksGoOn
  pub tracker : TrackerMakesTheMoves
  pub join : TracesJoin

-- the walk of the commands that were obeyed
abbrev pub walked : Outcome → List Numbered → Step
walked o done = walk o opening done

-- ---- one command after others

module _ (laws : Laws) (done : List Numbered) (good : bad_command done ≡ None) where
  -- Outcomes that agree on what came before the last gather make one walk.
  pub same_walk : (p o : Outcome) → AgreeBefore (walked o done).stage.gathers o p → walked p done ≡ walked o done
  same_walk p o agree =
      let g = (walked o done).stage.gathers in
      laws.decide p o done
      (each_map (IsEndBetween o opening.gathers g) (λ b r. p b ≡ r) (λ b r h. agree b h.1 ∙ h.2) (walked o done).events (laws.next_gather o opening done tt).ends)

  one_walk : (o : Outcome) (s : Stage) (first : Numbered) → can_obey (names_in first.command) (names_of s.views) ≡ true → walk o s (first ∷ []) ≡ step o s first.command
  one_walk o s first can =
      let r = step o s first.command in
      ap (λ t. cond t (then_step r (stay r.stage)) (stay s)) can ∙ ap (λ l. let w : Step = record { stage = r.stage; events = l } in w) (append-nil r.events)

  -- the walk of one command more
  pub more_walk : (p o : Outcome) (first : Numbered) → AgreeBefore (walked o done).stage.gathers o p → can_obey (names_in first.command) (names_of (walked o done).stage.views) ≡ true
      → walked p (done ++ first ∷ []) ≡ then_step (walked o done) (step p (walked o done).stage first.command)
  more_walk p o first agree can =
      (laws.go_on p done (first ∷ []) good).walk_is ∙ ap (λ (w : Step). then_step w (walk p w.stage (first ∷ []))) (same_walk p o agree)
      ∙ ap (then_step (walked o done)) (one_walk p (walked o done).stage first can)

  pub more_good : (o : Outcome) (first : Numbered) → can_obey (names_in first.command) (names_of (walked o done).stage.views) ≡ true → bad_command (done ++ first ∷ []) ≡ None
  more_good o first can = (laws.go_on o done (first ∷ []) good).bad_is ∙ ap (λ t. cond t None (Some first.line)) can

-- ---- what was obeyed

-- A caller that has made no call stands where each walk opens.
pub opening_follows : (c : Caller) → IsFresh c → (o : Outcome) → Follows o opening (standing c no_held_views)
opening_follows c fresh o = record {
  just = fresh.just;
  begun = ap (λ l. (knowledge_in l c.who).begun) fresh.unseen;
  tracked_is = refl;
  distinct = tt;
  begins = tt;
  holds = tt;
}

pub same_content : (old new : World) → opening_of new ≡ opening_of old → new.content ≡ old.content
same_content old new e = ap (λ (w : World). w.content) e

module _ {W S : Type 0} (sink : sinks.Ghosts W) (source : sources.Ghosts S) (laws : Laws) (old : Moment W S) where
  -- nothing yet
  pub obeyed_none : IsFresh old.caller → HasObeyed sink source [] no_troubles old (moment old.out old.caller old.source no_held_views)
  obeyed_none fresh =
      let o : Outcome = λ b. Err causes.Missing in
      record {
        built = refl;
        none_bad = refl;
        outcome = o;
        follows = opening_follows old.caller fresh o;
        adds = adds_none old.caller [];
        last = λ name. refl;
        right = tt;
        jobs = none_run source false old.caller old.caller old.source (record { runs = refl; fails = refl });
        written = wrote_nothing sink old.out;
        failing_is = refl;
      }

  module _ (done : List Numbered) (troubles : Troubles) (mid : Moment W S) (p : HasObeyed sink source done troubles old mid) (first : Numbered) where
    pub more_text : (next : Outcome) (all : List Numbered) (r : Step) → walked next all ≡ then_step (walked p.outcome done) r
        → lines_text (lines_in (walked p.outcome done).events) ++ lines_text (lines_in r.events) ≡ lines_text (lines_in (walked next all).events)
    more_text next all r same =
        let w = walked p.outcome done in
        sym (ap lines_text (lines-append w.events r.events) ∙ text-append (lines_in w.events) (lines_in r.events)) ∙ sym (ap (λ (x : Step). lines_text (lines_in x.events)) same)

    pub more_right : (P : Says) (next : Outcome) (all : List Numbered) (r : Step) → walked next all ≡ then_step (walked p.outcome done) r → EachEnd P (walked p.outcome done).events → EachEnd P r.events → EachEnd P (walked next all).events
    more_right P next all r same hx hy = subst (λ (x : Step). EachEnd P x.events) (sym same) (each_append P (walked p.outcome done).events r.events hx hy)

    -- what a later call says of the content is said of that at the beginning
    pub right_as : (es : List TraceEvent) → EachEnd (IsRight (content_of mid.caller)) es → EachEnd (IsRight (content_of old.caller)) es
    right_as es h = subst (λ c. EachEnd (IsRight c) es) (same_content old.caller.world mid.caller.world p.adds.opening) h

    -- the command was obeyed
    pub obeyed_more : (more : Troubles) (new : Moment W S) → is_built first.command ≡ true → can_obey_at first.command mid.views ≡ true
        → IsObeyed sink source first.command more p.outcome (walked p.outcome done).stage mid new
        → HasObeyed sink source (done ++ first ∷ []) (record { failing = troubles.failing || more.failing; wanting = troubles.wanting || more.wanting }) old new
    obeyed_more more new built can q =
        let w = walked p.outcome done in
        let s = w.stage in
        let next = q.next in
        let r = step next s first.command in
        let all = done ++ first ∷ [] in
        let can_walk = can_as p.outcome s mid.caller mid.views first true p.follows can in
        let same = more_walk laws done p.none_bad next p.outcome first q.known can_walk in
        let begun = begins_after [] w.events in
        let known = are_last begun s.views p.follows.distinct p.last in
        record {
          built = built_append done (first ∷ []) p.built (built_one first built);
          none_bad = more_good laws done p.none_bad p.outcome first can_walk;
          outcome = next;
          follows = subst (λ (x : Step). Follows next x.stage (standing_at new)) (sym same) q.follows;
          adds = subst (λ (x : Step). Adds old.caller new.caller [] x.events) (sym same)
              (adds_then laws.join old.caller mid.caller new.caller [] w.events r.events p.adds (q.adds begun known));
          last = subst (λ (x : Step). KnowLast (begins_after [] x.events) x.stage.views) (sym same)
              (subst (λ b. KnowLast b r.stage.views) (sym (after-append [] w.events r.events)) (step_knows laws.tracker next s begun first.command p.follows.distinct p.last));
          right = more_right (IsRight (content_of old.caller)) next all r same p.right (right_as r.events q.right);
          jobs = runs_then source troubles.wanting more.wanting (worker_at old) (worker_at mid) (worker_at new) p.jobs q.jobs;
          written = subst (Appends (sink.written old.out) (sink.written new.out)) (more_text next all r same)
              (Appends-trans (sink.written old.out) (sink.written mid.out) (sink.written new.out) (lines_text (lines_in w.events)) (lines_text (lines_in r.events)) p.written q.written);
          failing_is = (λ i. p.failing_is i || q.failing_is i) ∙ sym (ap (list_any says_failed) (lines-append w.events r.events) ∙ list_any-append says_failed (lines_in w.events) (lines_in r.events))
              ∙ sym (ap (λ (x : Step). failing_in x.events) same);
        }
