-- What a command comes to.
use Rattle.std.proofs.Common.{◌≡◌, ◌≢◌, ℕ, ◌+◌, ◌≤◌, ◌<◌, Bool, true, false, cond, List, [], ◌∷◌, ◌++◌, inl, inr, Some, None, Option, Ok, Err, Result, refl, ap, sym, subst, ◌∙◌, append-nil, arith}
use Rattle.std.specs.Prelude.{⊤, ◌⊎◌, IfOk, slice_get}
use Rattle.std.specs.List.{list_any}
use Rattle.std.specs.Io.KnownBytes.{Appends}
use Rattle.std.specs.Str.{bytes_eq}
use Rattle.outside.specs.declared.sinks.Sink as sinks
use Rattle.outside.specs.declared.sinks.WriteFault.{WriteFault}
use Rattle.outside.specs.declared.sources.Source as sources
use Rattle.cache_key.specs.declared.load_spec.LoadSpec.{LoadSpec}
use Rattle.request_tracker.specs.declared.views.Act.{Act}
use Rattle.request_tracker.specs.declared.views.Act.TheVariants as acts
use Rattle.request_tracker.specs.Limits.{views_limit}
use Rattle.request_tracker.specs.Moves.{place_of}
use Rattle.printed_lines.specs.Printed.{PrintedLine, lines_text, says_failed}
use Rattle.script_lines.specs.declared.commands.Command.{Command}
use Rattle.script_lines.specs.declared.commands.Command.TheVariants.{Load, Layout, Clear, ClearAll, Pause, PauseAll, Resume, Trim, Wait, Show, Dump}
use Rattle.script_walk.specs.Walk.{Begin, Outcome, Form, Pixels, Stage, WalkView, view_line, TraceEvent, Dropped, Begun, Ended, Trimmed, Printed, printed, Effect, Moves, Gathers, Trims, Step, effect, after_effect, step, gathered, gather_events, print_events, names_of}
use Rattle.script_walk.specs.Tracked.{AreDistinct}
use Rattle.script_walk.specs.Ends.{lines_in}
use Rattle.script_walk.specs.Laws.{EachEnd}
use Rattle.engine_world.specs.declared.events.Event.TheVariants as events
use Rattle.engine_world.specs.declared.events.NotedReply.TheVariants as replies
use Rattle.engine_shared.specs.Caller.{Caller, knowledge_of, content_of, entry_of, IsCall}
use Rattle.fetch_bounds.specs.Follows as followed
use Rattle.fetch_bounds.specs.Parts.{begins_after, TracesJoin}
use Rattle.engine_views.specs.Held.{Held}
use Rattle.engine_views.specs.Owner.{Adds}
use Rattle.engine_views.specs.Following as following
use Rattle.engine_views.specs.Following.{Standing, standing, Follows, IsOnWalk, IsMoved, IsUnmoved, act_command}
use Rattle.engine_views.specs.JobRuns.{worker}
use Rattle.engine_views.specs.Quiet.{QuietCallsLeaveViews}
use Rattle.engine_views.specs.Gathers as gathers
use Rattle.engine_views.specs.Gathers.{IsRight, IsGathered, gathered_stage}
use Rattle.glide_run.specs.Built.{is_built}
use Rattle.glide_run.specs.Handed.{IsWritten}
use Rattle.glide_run.specs.inside.Looks.{Asks}
use Rattle.glide_run.specs.inside.Prints.{failing_in, Printer, printer, IsLastIn, AreLastIn, Prints}
use Rattle.glide_run.specs.inside.Obeys.{Moment, moment, no_troubles, unprinted, can_obey_at, MovesGive, IsObeyed, IsTorn, IsUntouched, IsStopped, Gives}
use Rattle.glide_run.specs.declared.run.Obeyed as code
use Rattle.glide_run.specs.declared.run.Obeyed.TheVariants as obeyed
use Rattle.glide_run.specs.declared.run.Stop.{Stop}
use Rattle.glide_run.specs.declared.run.Troubles.{Troubles}
use Rattle.glide_run.proofs.Events.{Says, each_append, lines-append, NoneEnd, each_none, moves_end, moves_lines, gather_lines, prints_end, prints_none}
use Rattle.glide_run.proofs.Printing.{named_events, named_at, printed_none}
use Rattle.glide_run.proofs.Telling.{asks_none}
use Rattle.glide_run.proofs.Jobs.{none_run, then_none}
use Rattle.glide_run.proofs.Histories.{adds_then, asked_adds, work_adds}
use Rattle.glide_run.proofs.Sinks.{wrote_nothing}
use Rattle.glide_run.proofs.Views.{last_at}
use Rattle.glide_run.proofs.Lasts.{after_gather, gathered_lasts}

-- ---- commands that only move views, or trim

-- They bring no begin to its end, and print nothing.
abbrev pub OnlyMoves : Command → Type 0
OnlyMoves command = (o : Outcome) (s : Stage) → NoneEnd (step o s command).events × (lines_in (step o s command).events ≡ [])

abbrev IsMoves : Effect → Type 0
IsMoves (Moves set moves) = ⊤
IsMoves (Gathers form shown) = ⊥
IsMoves (Trims level) = ⊤

only_moves : (o : Outcome) (s : Stage) (e : Effect) → IsMoves e → NoneEnd (after_effect o s e).events × (lines_in (after_effect o s e).events ≡ [])
only_moves o s (Moves set moves) is = (moves_end moves set.begun set.gathers [] set.views, moves_lines moves set.begun set.gathers [] set.views)
only_moves o s (Gathers form shown) is = absurd is
only_moves o s (Trims level) is = (tt, refl)

pub load_moves : (view : List ℕ) (spec : LoadSpec) (sized : Bool) → OnlyMoves (Load view spec sized)
load_moves view spec sized o s = only_moves o s (effect s (Load view spec sized)) tt

pub layout_moves : (view : List ℕ) (width height : ℕ) → OnlyMoves (Layout view width height)
layout_moves view width height o s = only_moves o s (effect s (Layout view width height)) tt

pub clear_moves : (view : List ℕ) → OnlyMoves (Clear view)
clear_moves view o s = only_moves o s (effect s (Clear view)) tt

pub trim_moves : (level : ℕ) → OnlyMoves (Trim level)
trim_moves level o s = only_moves o s (effect s (Trim level)) tt

pub act_moves : (act : Act) → OnlyMoves (act_command act)
act_moves acts.Pause o s = only_moves o s (effect s Pause) tt
act_moves acts.PauseAll o s = only_moves o s (effect s PauseAll) tt
act_moves acts.Resume o s = only_moves o s (effect s Resume) tt
act_moves acts.ClearAll o s = only_moves o s (effect s ClearAll) tt

module _ {W S : Type 0} (sink : sinks.Ghosts W) (source : sources.Ghosts S) where
  moved : (command : Command) (troubles : Troubles) (out : W) (src : S) (old new : Standing) → OnlyMoves command → troubles ≡ no_troubles → following.Moves command old new → (o : Outcome) (s : Stage) → Follows o s old
      → IsObeyed sink source command troubles o s (moment out old.caller src old.held) (moment out new.caller src new.held)
  moved command troubles out src old new only same moves o s follows =
      let quiet = only o s in
      let events = (step o s command).events in
      let m = moves o s follows in
      record {
        next = o;
        known = λ b lt. refl;
        follows = m.follows;
        adds = λ begun known. m.adds begun;
        right = each_none (IsRight (content_of old.caller)) events quiet.0;
        jobs = none_run source troubles.wanting old.caller new.caller src m.no_job;
        written = subst (λ l. Appends (sink.written out) (sink.written out) (lines_text l)) (sym quiet.1) (wrote_nothing sink out);
        failing_is = ap (λ (t : Troubles). t.failing) same ∙ sym (ap (list_any says_failed) quiet.1);
        few = m.few;
      }

  pub untouched : (out : W) (src : S) (old new : Standing) → IsUnmoved old new → IsUntouched sink source (moment out old.caller src old.held) (moment out new.caller src new.held)
  untouched out src old new unmoved = record { unmoved = unmoved; unasked = refl; unwritten = refl }

  -- The answer of a command that only moves views, where nothing else is touched.
  pub moves_gives : (E : Type 0) (command : Command) (r : code.Obeyed) (out : W) (src : S) (old new : Standing) → is_built command ≡ true → OnlyMoves command → MovesGive command {E = E} (Ok r) old new
      → Gives sink source command (Ok r) (moment out old.caller src old.held) (moment out new.caller src new.held)
  moves_gives E command (obeyed.Done troubles) out src old new built only p = (built, p.1, moved command troubles out src old new only p.0 p.2)
  moves_gives E command obeyed.Bad out src old new built only p = (inr p.0, untouched out src old new p.1)

  -- Memory was wanting before the engine was called.
  pub stopped_before : (command : Command) (stop : Stop) (out : W) (src : S) (old new : Standing) → IsUnmoved old new
      → Gives sink source command (Err stop) (moment out old.caller src old.held) (moment out new.caller src new.held)
  stopped_before command stop out src old new unmoved o s follows = inl (untouched out src old new unmoved)

-- ---- what is left without lines

pub unprinted-append : (xs ys : List TraceEvent) → unprinted (xs ++ ys) ≡ unprinted xs ++ unprinted ys
unprinted-append [] ys = refl
unprinted-append (Dropped b ∷ xs) ys = ap (λ l. Dropped b ∷ l) (unprinted-append xs ys)
unprinted-append (Begun b others ∷ xs) ys = ap (λ l. Begun b others ∷ l) (unprinted-append xs ys)
unprinted-append (Ended b result ∷ xs) ys = ap (λ l. Ended b result ∷ l) (unprinted-append xs ys)
unprinted-append (Trimmed level ∷ xs) ys = ap (λ l. Trimmed level ∷ l) (unprinted-append xs ys)
unprinted-append (Printed line ∷ xs) ys = unprinted-append xs ys

printed_gone : (line : Option PrintedLine) (es : List TraceEvent) → unprinted (printed line ++ es) ≡ unprinted es
printed_gone None es = refl
printed_gone (Some line) es = refl

pub prints_gone : (o : Outcome) (form : Form) (shown : List ℕ → Bool) (vs : List WalkView) → unprinted (print_events o form shown vs) ≡ []
prints_gone o form shown [] = refl
prints_gone o form shown (v ∷ vs) = elim (shown v.name) as (λ t. unprinted (cond t (printed (view_line o form v)) [] ++ print_events o form shown vs) ≡ []) [
  | true ↦ printed_gone (view_line o form v) (print_events o form shown vs) ∙ prints_gone o form shown vs
  | false ↦ prints_gone o form shown vs
]

-- ---- commands that gather

module _ {W S : Type 0} (sink : sinks.Ghosts W) (source : sources.Ghosts S) (join : TracesJoin) (command : Command) (form : Form) (shown : List ℕ → Bool) (is : (s : Stage) → effect s command ≡ Gathers form shown)
    (o : Outcome) (s : Stage) (out : W) (c : Caller) (src : S) (before : Held) (mid : Caller) (src2 : S) (after : Held)
    (follows : Follows o s (standing c before)) (wanting : Bool) (g : IsGathered source wanting o s (gathers.moment c src before) (gathers.moment mid src2 after)) where
  abbrev prints : List TraceEvent
  prints = print_events g.next form shown (gathered g.next s.views)

  step_is : step g.next s command ≡ after_effect g.next s (Gathers form shown)
  step_is = ap (after_effect g.next s) (is s)

  -- What was printed is what the command prints.
  pub record HasPrinted (Known : List Begin → Type 0) (r : Result Bool WriteFault) (out2 : W) (new : Caller) : Type 0 where
    pub events : List TraceEvent
    pub same : events ≡ prints
    pub knows : (begun : List Begin) → AreLastIn begun (gathered g.next s.views) → Known begun
    pub prints_is : Prints sink after Known events (printer out mid) (printer out2 new) r

  lines_are : (events : List TraceEvent) → events ≡ prints → lines_in events ≡ lines_in (step g.next s command).events
  lines_are events e =
      let ends = gather_events g.next s.views in
      ap lines_in e ∙ sym (lines-append ends prints ∙ ap (λ l. l ++ lines_in prints) (gather_lines g.next s.views)) ∙ sym (ap (λ w. lines_in w.events) step_is)

  pub printed_all : (Known : List Begin → Type 0) (failing : Bool) (out2 : W) (new : Caller) → HasPrinted Known (Ok failing) out2 new
      → IsObeyed sink source command (record { failing = failing; wanting = wanting }) o s (moment out c src before) (moment out2 new src2 after)
  printed_all Known failing out2 new h =
      let n = g.next in
      let p = h.prints_is in
      let w = p.writes in
      let e = sym step_is in
      let ends = gather_events n s.views in
      let lines = lines_are h.events h.same in
      let goes = p.asks.follows n (gathered_stage n s) g.follows in
      record {
        next = n;
        known = g.known;
        follows = subst (λ (x : Step). Follows n x.stage (standing new after)) e goes;
        adds = λ begun known.
            let told = p.told begun (h.knows begun (gathered_lasts begun n s.views known)) in
            let second = subst (λ l. Adds mid new begun l) h.same (asked_adds after mid new begun h.events told) in
            let both = adds_then join c mid new begun ends prints (g.adds begun) (subst (λ b. Adds mid new b prints) (sym (after_gather begun n s.views)) second) in
            subst (λ (x : Step). Adds c new begun x.events) e both;
        right = subst (λ (x : Step). EachEnd (IsRight (content_of c)) x.events) e
            (each_append (IsRight (content_of c)) ends prints g.right (each_none (IsRight (content_of c)) prints (prints_end n form shown (gathered n s.views))));
        jobs = then_none source wanting (worker c src) mid new src2 g.jobs p.asks.no_job;
        written = subst (λ l. Appends (sink.written out) (sink.written out2) (lines_text l)) lines
            (subst (Appends (sink.written out) (sink.written out2)) (sym (w.parts ∙ ap (λ l. w.prefix ++ l) w.whole ∙ append-nil w.prefix)) w.added);
        failing_is = p.failing ∙ ap (list_any says_failed) lines;
        few = omega (arith, follows.begun, goes.begun);
      }

  pub printed_some : (Known : List Begin → Type 0) (fault : WriteFault) (out2 : W) (new : Caller) → is_built command ≡ true → can_obey_at command before ≡ true → HasPrinted Known (Err fault) out2 new
      → IsTorn sink source command o s (moment out c src before) (moment out2 new src2 after)
  printed_some Known fault out2 new built can h =
      let n = g.next in
      let p = h.prints_is in
      let w = p.writes in
      let e = sym step_is in
      let ends = gather_events n s.views in
      let lines = lines_are h.events h.same in
      record {
        built = built;
        can = can;
        next = n;
        known = g.known;
        gathers = ap (λ (x : Step). x.stage) step_is;
        only = ap (λ (x : Step). unprinted x.events) step_is ∙ unprinted-append ends prints ∙ ap (λ l. unprinted ends ++ l) (prints_gone n form shown (gathered n s.views)) ∙ append-nil (unprinted ends);
        follows = p.asks.follows n (gathered_stage n s) g.follows;
        adds = λ begun.
            subst (λ l. Adds c new begun l) (append-nil ends)
            (adds_then join c mid new begun ends [] (g.adds begun) (work_adds after mid new (begins_after begun ends) p.asks));
        right = g.right;
        wanting = wanting;
        jobs = then_none source wanting (worker c src) mid new src2 g.jobs p.asks.no_job;
        written = record { prefix = w.prefix; rest = w.rest; parts = sym (ap lines_text lines) ∙ w.parts; added = w.added; all = λ never. absurd never };
      }

-- Where nothing is printed.
pub nothing_printed : {W : Type 0} (sink : sinks.Ghosts W) (held : Held) (Known : List Begin → Type 0) (at : Printer W) → Prints sink held Known [] at at (Ok false)
nothing_printed sink held Known at = record {
  writes = (printed_none sink at.out).writes;
  failing = refl;
  asks = asks_none held at.caller;
  told = λ begun known. asks_none held at.caller;
}

-- ---- trims

pub trims : QuietCallsLeaveViews → (level : ℕ) (old new : Caller) (held : Held) → IsOnWalk (standing old held) → IsCall old (events.Trim level) replies.Done new
    → following.Moves (Trim level) (standing old held) (standing new held)
trims law level old new held walk call =
    let leaves = law held (events.Trim level) replies.Done old new tt walk.2.just.owner call in
    (λ o s follows. record {
      follows = leaves.follows o s follows;
      adds = λ begun. record {
        later = entry_of old (events.Trim level) replies.Done ∷ [];
        seen = leaves.seen;
        follows = inr (walk.2.just.owner.who, refl, tt);
        opening = leaves.opening;
      };
      no_job = leaves.no_job;
      few = omega (arith, follows.begun, (leaves.follows o s follows).begun);
    })

-- where a gather leaves the views
pub after_gather_walk : {S : Type 0} (source : sources.Ghosts S) (wanting : Bool) (old new : gathers.Moment S) → IsOnWalk (gathers.stands old) → gathers.Gathers source wanting old new → IsOnWalk (gathers.stands new)
after_gather_walk source wanting old new walk gathered_all =
    let g = gathered_all walk.0 walk.1 walk.2 in
    (g.next, gathered_stage g.next walk.1, g.follows)

-- The line of a dump is that of the view of its name.
pub dump_events : (n o : Outcome) (s : Stage) (c : Caller) (before : Held) → Follows o s (standing c before) → AreDistinct (names_of (gathered n s.views)) → (view : List ℕ) (place : ℕ) (v : WalkView)
    → place_of view before.tracked.views ≡ Some place → slice_get (gathered n s.views) place ≡ Some v → printed (view_line n Pixels v) ≡ print_events n Pixels (bytes_eq view) (gathered n s.views)
dump_events n o s c before follows distinct view place v found at =
    sym (named_events n Pixels view (gathered n s.views) place v distinct at (named_at o n s c before follows view place v found at))

pub is_true : (b : Bool) → b ≡ true → b ≡ true
is_true b e = e
