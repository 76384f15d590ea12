-- A line that says failed source is printed only where a begin came to that end.
use Rattle.std.proofs.Common.{◌≡◌, ◌≢◌, ℕ, ◌+◌, Bool, true, false, cond, List, [], ◌∷◌, ◌++◌, Some, None, Option, Ok, Err, Result, refl, ap, sym, subst, ◌∙◌, inl, inr}
use Rattle.std.specs.Prelude.{⊤, ◌||◌}
use Rattle.std.specs.List.{list_any}
use Rattle.std.specs.Option.{option_or, option_map, option_len}
use Rattle.outside.specs.Content.{Address}
use Rattle.bitmap_kind.specs.Picture.{Picture}
use Rattle.cache_key.specs.KeyBytes.{address_of}
use Rattle.request_tracker.specs.declared.turns.Turn.{Turn}
use Rattle.request_tracker.specs.declared.turns.Turn.TheVariants.{Stays, Begins, Pauses, Clears}
use Rattle.request_tracker.specs.declared.views.Act.TheVariants as acts
use Rattle.request_tracker.specs.declared.views.View.{View}
use Rattle.request_tracker.specs.declared.views.ViewState.{ViewState}
use Rattle.request_tracker.specs.declared.views.ViewState.TheVariants.{Cleared, Waiting, Running, Complete, Failed, Paused}
use Rattle.request_tracker.specs.Table.{has_size, begins, turned, request, collected}
use Rattle.request_tracker.specs.Moves.{Move, act_move}
use Rattle.load_cause.specs.declared.causes.Cause.{Cause}
use Rattle.load_cause.specs.declared.causes.Cause.TheVariants as causes
use Rattle.printed_lines.specs.Printed.{PrintedLine, says_failed_source}
use Rattle.script_lines.specs.Script.{Numbered}
use Rattle.script_walk.specs.Walk.{Begin, WalkView, Outcome, Form, Pixels, Digest, TraceEvent, Dropped, Begun, Ended, Trimmed, Printed, Stage, opening, begin_by, held, all_held, dropped_by, moved_view, move_events, drop_events, begin_events, each_move, running, running_in, ended, end_events, view_ends, gathered, gather_events, result_line, state_line, view_line, printed, print_events, names_of, names_in, can_obey, Effect, Moves, Gathers, Trims, effect, after_effect, Step, step, every, closing, stay, then_step, walk, trace}
use Rattle.script_walk.specs.Ends.{lines_in}
use Rattle.script_walk.specs.Laws.{source_failures, BlamesAreEnds}
use Rattle.script_walk.proofs.States.{Status, statuses, cleared, IsSet, KeepStates, Sets, effect_sets}

-- ---- lists of events

failures-append : (xs ys : List TraceEvent) → source_failures (xs ++ ys) ≡ source_failures xs ++ source_failures ys
failures-append [] ys = refl
failures-append (Ended b (Ok picture) ∷ xs) ys = failures-append xs ys
failures-append (Ended b (Err causes.Missing) ∷ xs) ys = failures-append xs ys
failures-append (Ended b (Err (causes.Refused refusal)) ∷ xs) ys = failures-append xs ys
failures-append (Ended b (Err causes.Source) ∷ xs) ys = ap (λ l. address_of b.spec.key ∷ l) (failures-append xs ys)
failures-append (Ended b (Err causes.Memory) ∷ xs) ys = failures-append xs ys
failures-append (Ended b (Err causes.Uncached) ∷ xs) ys = failures-append xs ys
failures-append (Dropped b ∷ xs) ys = failures-append xs ys
failures-append (Begun b others ∷ xs) ys = failures-append xs ys
failures-append (Trimmed level ∷ xs) ys = failures-append xs ys
failures-append (Printed line ∷ xs) ys = failures-append xs ys

both_empty : (xs ys : List Address) → xs ++ ys ≡ [] → (xs ≡ []) × (ys ≡ [])
both_empty [] ys e = (refl, e)
both_empty (x ∷ xs) ys e = cc

none_in : (xs ys : List TraceEvent) → source_failures (xs ++ ys) ≡ [] → (source_failures xs ≡ []) × (source_failures ys ≡ [])
none_in xs ys e = both_empty (source_failures xs) (source_failures ys) (sym (failures-append xs ys) ∙ e)

-- whether a line of these events blames the source
abbrev blames : List TraceEvent → Bool
blames events = list_any says_failed_source (lines_in events)

either : (a b : Bool) → a ≡ false → b ≡ false → (a || b) ≡ false
either a b p q = λ i. p i || q i

fine-append : (xs ys : List TraceEvent) → blames xs ≡ false → blames ys ≡ false → blames (xs ++ ys) ≡ false
fine-append [] ys hx hy = hy
fine-append (Ended b result ∷ xs) ys hx hy = fine-append xs ys hx hy
fine-append (Dropped b ∷ xs) ys hx hy = fine-append xs ys hx hy
fine-append (Begun b others ∷ xs) ys hx hy = fine-append xs ys hx hy
fine-append (Trimmed level ∷ xs) ys hx hy = fine-append xs ys hx hy
fine-append (Printed line ∷ xs) ys hx hy = elim (says_failed_source line) as (λ t. (t || blames xs) ≡ false → (t || blames (xs ++ ys)) ≡ false) [
  | true ↦ λ h. cc
  | false ↦ λ h. fine-append xs ys h hy
] hx

-- ---- views that do not blame it

abbrev failed_source : Cause → Bool
failed_source causes.Source = true
failed_source cause = false

abbrev source_end : Result Picture Cause → Bool
source_end (Ok picture) = false
source_end (Err cause) = failed_source cause

abbrev FineAt : Outcome → ViewState Cause → Option Begin → Type 0
FineAt o (Failed cause) last = failed_source cause ≡ false
FineAt o Complete (Some b) = source_end (o b) ≡ false
FineAt o state last = ⊤

abbrev AllFine : Outcome → List Status → Type 0
AllFine o [] = ⊤
AllFine o (s ∷ ss) = FineAt o s.0 s.1 × AllFine o ss

module _ (o : Outcome) where
  fine_all : (xs ys : List Status) → AllFine o xs → AllFine o ys → AllFine o (xs ++ ys)
  fine_all [] ys hx hy = hy
  fine_all (x ∷ xs) ys hx hy = (hx.0, fine_all xs ys hx.1 hy)

  fine_set : (new old : List Status) → IsSet new old → AllFine o old → AllFine o new
  fine_set new old (inl e) h = subst (AllFine o) (sym e) h
  fine_set new old (inr e) h = subst (AllFine o) (sym e) (fine_all old (cleared ∷ []) h (tt, tt))

  -- ---- moves

  turn_fine : (begin : Begin) (turn : Turn) (set : View Cause) (old : ViewState Cause) (last : Option Begin) → set.state ≡ old → FineAt o old last
      → FineAt o (turned turn set) (option_or (cond (begins turn set) (Some begin) None) last)
  turn_fine begin Stays set old last e h = subst (λ s. FineAt o s last) (sym e) h
  turn_fine begin Begins set old last e h =
      elim (has_size set) as (λ t. FineAt o (cond t Running Waiting) (option_or (cond t (Some begin) None) last)) [ true ↦ tt | false ↦ tt ]
  turn_fine begin Pauses set old last e h = tt
  turn_fine begin Clears set old last e h = tt

  moves_fine : (moves : List ℕ → Move Cause) → KeepStates moves → (k g : ℕ) (before : List Begin) (vs : List WalkView) → AllFine o (statuses vs)
      → AllFine o (statuses (each_move moves k g before vs).views)
  moves_fine moves keep k g before [] h = tt
  moves_fine moves keep k g before (v ∷ vs) h =
      let move = moves v.name in
      let set = move.sets v.view in
      let begin = begin_by move (k + 1) g v in (
        turn_fine (record { number = k + 1; gathers = g; view = v.name; spec = request set }) (move.turn v.view.state) set v.view.state v.last (keep v.name v.view) h.0,
        moves_fine moves keep (k + option_len begin) g (before ++ held (moved_view move begin v)) vs h.1,
      )

  drops_print : (b : Option Begin) → blames (drop_events b) ≡ false
  drops_print None = refl
  drops_print (Some b) = refl

  begins_print : (b : Option Begin) (others : List Begin) → blames (begin_events b others) ≡ false
  begins_print None others = refl
  begins_print (Some b) others = refl

  moves_print : (moves : List ℕ → Move Cause) (k g : ℕ) (before : List Begin) (vs : List WalkView) → blames (each_move moves k g before vs).events ≡ false
  moves_print moves k g before [] = refl
  moves_print moves k g before (v ∷ vs) =
      let move = moves v.name in
      let begin = begin_by move (k + 1) g v in
      let others = before ++ all_held vs in
      let behind = before ++ held (moved_view move begin v) in
      fine-append (move_events move begin others v) (each_move moves (k + option_len begin) g behind vs).events
      (fine-append (drop_events (dropped_by move v)) (begin_events begin others) (drops_print (dropped_by move v)) (begins_print begin others))
      (moves_print moves (k + option_len begin) g behind vs)

  -- ---- gathers

  cause_fine : (b : Begin) (cause : Cause) → source_failures (end_events b (Err cause)) ≡ [] → failed_source cause ≡ false
  cause_fine b causes.Missing e = refl
  cause_fine b (causes.Refused refusal) e = refl
  cause_fine b causes.Source e = cc
  cause_fine b causes.Memory e = refl
  cause_fine b causes.Uncached e = refl

  came_fine : (b : Begin) (r : Result Picture Cause) (view : View Cause) → view.state ≡ Running → o b ≡ r → source_failures (end_events b r) ≡ [] → FineAt o (ended (Some r) view).state (Some b)
  came_fine b (Ok picture) view is e none = subst (λ s. FineAt o (collected None s) (Some b)) (sym is) (ap source_end e)
  came_fine b (Err cause) view is e none = subst (λ s. FineAt o (collected (Some cause) s) (Some b)) (sym is) (cause_fine b cause none)

  status_fine : (view : View Cause) (state : ViewState Cause) (last : Option Begin) → view.state ≡ state → source_failures (view_ends o (running_in state last)) ≡ [] → FineAt o state last
      → FineAt o (ended (option_map o (running_in state last)) view).state last
  status_fine view Running (Some b) is none h = came_fine b (o b) view is refl none
  status_fine view Running None is none h = subst (λ s. FineAt o s None) (sym is) tt
  status_fine view Cleared last is none h = subst (λ s. FineAt o s last) (sym is) h
  status_fine view Waiting last is none h = subst (λ s. FineAt o s last) (sym is) h
  status_fine view Complete last is none h = subst (λ s. FineAt o s last) (sym is) h
  status_fine view (Failed cause) last is none h = subst (λ s. FineAt o s last) (sym is) h
  status_fine view Paused last is none h = subst (λ s. FineAt o s last) (sym is) h

  gather_fine : (vs : List WalkView) → source_failures (gather_events o vs) ≡ [] → AllFine o (statuses vs) → AllFine o (statuses (gathered o vs))
  gather_fine [] none h = tt
  gather_fine (v ∷ vs) none h =
      let parts = none_in (view_ends o (running v)) (gather_events o vs) none in
      (status_fine v.view v.view.state v.last refl parts.0 h.0, gather_fine vs parts.1 h.1)

  came_print : (b : Begin) (r : Result Picture Cause) → blames (end_events b r) ≡ false
  came_print b (Ok picture) = refl
  came_print b (Err cause) = refl

  view_print : (b : Option Begin) → blames (view_ends o b) ≡ false
  view_print None = refl
  view_print (Some b) = came_print b (o b)

  gather_print : (vs : List WalkView) → blames (gather_events o vs) ≡ false
  gather_print [] = refl
  gather_print (v ∷ vs) = fine-append (view_ends o (running v)) (gather_events o vs) (view_print (running v)) (gather_print vs)

  -- ---- printed lines

  failed_line : (form : Form) (name : List ℕ) (cause : Cause) → failed_source cause ≡ false → says_failed_source (result_line form name (Err cause)) ≡ false
  failed_line form name causes.Missing e = refl
  failed_line form name (causes.Refused refusal) e = refl
  failed_line form name causes.Source e = cc
  failed_line form name causes.Memory e = refl
  failed_line form name causes.Uncached e = refl

  result_fine : (form : Form) (name : List ℕ) (r : Result Picture Cause) → source_end r ≡ false → says_failed_source (result_line form name r) ≡ false
  result_fine Pixels name (Ok picture) e = refl
  result_fine Digest name (Ok picture) e = refl
  result_fine form name (Err cause) e = failed_line form name cause e

  one_line : (line : PrintedLine) → says_failed_source line ≡ false → blames (Printed line ∷ []) ≡ false
  one_line line e = either (says_failed_source line) false e refl

  line_fine : (form : Form) (name : List ℕ) (state : ViewState Cause) (last : Option Begin) → FineAt o state last → blames (printed (state_line o form name state last)) ≡ false
  line_fine form name Cleared last h = refl
  line_fine form name Waiting last h = refl
  line_fine form name Running last h = refl
  line_fine form name Complete (Some b) h = one_line (result_line form name (o b)) (result_fine form name (o b) h)
  line_fine form name Complete None h = refl
  line_fine form name (Failed cause) last h = one_line (result_line form name (Err cause)) (failed_line form name cause h)
  line_fine form name Paused last h = refl

  prints_fine : (form : Form) (shown : List ℕ → Bool) (vs : List WalkView) → AllFine o (statuses vs) → blames (print_events o form shown vs) ≡ false
  prints_fine form shown [] h = refl
  prints_fine form shown (v ∷ vs) h = elim (shown v.name) as (λ t. blames (cond t (printed (view_line o form v)) [] ++ print_events o form shown vs) ≡ false) [
    | true ↦ fine-append (printed (view_line o form v)) (print_events o form shown vs) (line_fine form v.name v.view.state v.last h.0) (prints_fine form shown vs h.1)
    | false ↦ prints_fine form shown vs h.1
  ]

  -- ---- commands

  record OneEffect (after : Step) : Type 0 where
    lines : blames after.events ≡ false
    views : AllFine o (statuses after.stage.views)

  effect_fine : (s : Stage) (e : Effect) → Sets s e → AllFine o (statuses s.views) → source_failures (after_effect o s e).events ≡ [] → OneEffect (after_effect o s e)
  effect_fine s (Moves set moves) sets h none = record {
    lines = moves_print moves set.begun set.gathers [] set.views;
    views = moves_fine moves sets.3 set.begun set.gathers [] set.views (fine_set (statuses set.views) (statuses s.views) sets.0 h);
  }
  effect_fine s (Gathers form shown) sets h none =
      let parts = none_in (gather_events o s.views) (print_events o form shown (gathered o s.views)) none in
      let views = gather_fine s.views parts.0 h in
      record {
        lines = fine-append (gather_events o s.views) (print_events o form shown (gathered o s.views)) (gather_print s.views) (prints_fine form shown (gathered o s.views) views);
        views = views;
      }
  effect_fine s (Trims level) sets h none = record { lines = refl; views = h }

  walk_fine : (commands : List Numbered) (s : Stage) → AllFine o (statuses s.views) → source_failures (walk o s commands).events ≡ [] → blames (walk o s commands).events ≡ false
  walk_fine [] s h none = refl
  walk_fine (first ∷ others) s h none =
      let r = step o s first.command in
      elim (can_obey (names_in first.command) (names_of s.views)) as (λ t. source_failures (cond t (then_step r (walk o r.stage others)) (stay s)).events ≡ [] → blames (cond t (then_step r (walk o r.stage others)) (stay s)).events ≡ false) [
        | true ↦ λ none.
            let parts = none_in r.events (walk o r.stage others).events none in
            let one = effect_fine s (effect s first.command) (effect_sets s first.command) h parts.0 in
            fine-append r.events (walk o r.stage others).events one.lines (walk_fine others r.stage one.views parts.1)
        | false ↦ λ none. refl
      ] none

pub blames_are_ends : BlamesAreEnds
blames_are_ends o commands blamed none =
    let all = walk o opening commands in
    let parts = none_in all.events (closing all.stage) none in
    let fine = fine-append all.events (closing all.stage) (walk_fine o commands opening tt parts.0) (moves_print o (every (act_move acts.ClearAll)) all.stage.begun all.stage.gathers [] all.stage.views) in
    let clash : true ≡ false = sym blamed ∙ fine in
    cc
