-- No more begins come to their ends than are made.
use Rattle.std.proofs.Common.{◌≡◌, ℕ, Bool, ◌+◌, ◌≤◌, true, false, cond, List, [], ◌∷◌, ◌++◌, length, Some, None, Option, Ok, Err, Result, refl, ap, ◌∙◌, inl, inr, arith}
use Rattle.std.specs.Option.{option_or, option_map, option_len}
use Rattle.std.proofs.lemmas.List.{length-append}
use Rattle.bitmap_kind.specs.Picture.{Picture}
use Rattle.load_cause.specs.declared.causes.Cause.{Cause}
use Rattle.request_tracker.specs.declared.turns.Turn.{Turn}
use Rattle.request_tracker.specs.declared.turns.Turn.TheVariants.{Stays, Begins, Pauses, Clears}
use Rattle.request_tracker.specs.declared.views.View.{View}
use Rattle.request_tracker.specs.declared.views.ViewState.{ViewState}
use Rattle.request_tracker.specs.declared.views.ViewState.TheVariants.{Cleared, Waiting, Running, Complete, Failed, Paused}
use Rattle.request_tracker.specs.Table.{has_size, begins, turned, request, collected}
use Rattle.request_tracker.specs.Moves.{Move}
use Rattle.script_lines.specs.Script.{Numbered}
use Rattle.printed_lines.specs.Printed.{PrintedLine}
use Rattle.script_walk.specs.Walk.{Begin, WalkView, Outcome, Form, TraceEvent, Dropped, Begun, Ended, Trimmed, Printed, Stage, begin_by, held, all_held, dropped_by, moved_view, move_events, drop_events, begin_events, each_move, running, running_in, ended, end_events, view_ends, gathered, gather_events, view_line, printed, print_events, names_of, names_in, can_obey, Effect, Moves, Gathers, Trims, effect, after_effect, step, stay, then_step, walk, opening}
use Rattle.script_walk.specs.Marks.{begins_in}
use Rattle.script_walk.specs.Laws.{ends_in, EndsAreBegun}
use Rattle.script_walk.proofs.States.{Status, statuses, cleared, IsSet, KeepStates, Sets, effect_sets}

-- how many views run
abbrev running_at : ViewState Cause → Option Begin → ℕ
running_at Running (Some b) = 1
running_at state last = 0

abbrev runs : List Status → ℕ
runs [] = 0
runs (s ∷ ss) = running_at s.0 s.1 + runs ss

abbrev made : List TraceEvent → ℕ
made es = length (begins_in es)

ends-append : (xs ys : List TraceEvent) → ends_in (xs ++ ys) ≡ ends_in xs + ends_in ys
ends-append [] ys = omega arith
ends-append (Ended b result ∷ xs) ys = omega (arith, ends-append xs ys)
ends-append (Dropped b ∷ xs) ys = ends-append xs ys
ends-append (Begun b others ∷ xs) ys = ends-append xs ys
ends-append (Trimmed level ∷ xs) ys = ends-append xs ys
ends-append (Printed line ∷ xs) ys = ends-append xs ys

made-append : (xs ys : List TraceEvent) → made (xs ++ ys) ≡ made xs + made ys
made-append [] ys = omega arith
made-append (Begun b others ∷ xs) ys = omega (arith, made-append xs ys)
made-append (Ended b result ∷ xs) ys = made-append xs ys
made-append (Dropped b ∷ xs) ys = made-append xs ys
made-append (Trimmed level ∷ xs) ys = made-append xs ys
made-append (Printed line ∷ xs) ys = made-append xs ys

runs-append : (xs ys : List Status) → runs (xs ++ ys) ≡ runs xs + runs ys
runs-append [] ys = omega arith
runs-append (x ∷ xs) ys = omega (arith, runs-append xs ys)

runs_set : (new old : List Status) → IsSet new old → runs new ≡ runs old
runs_set new old (inl e) = ap runs e
runs_set new old (inr e) = omega (arith, ap runs e, runs-append old (cleared ∷ []))

-- ---- moves

turn_made : (turn : Turn) (set : View Cause) (old : ViewState Cause) (b : Begin) (last : Option Begin) (others : List Begin) → set.state ≡ old
    → running_at (turned turn set) (option_or (cond (begins turn set) (Some b) None) last) ≤ running_at old last + made (begin_events (cond (begins turn set) (Some b) None) others)
turn_made Stays set old b last others e = omega (arith, ap (λ s. running_at s last) e)
turn_made Begins set old b last others e =
    elim (has_size set) as (λ t. running_at (cond t Running Waiting) (option_or (cond t (Some b) None) last) ≤ running_at old last + made (begin_events (cond t (Some b) None) others)) [
      | true ↦ omega arith
      | false ↦ omega arith
    ]
turn_made Pauses set old b last others e = omega arith
turn_made Clears set old b last others e = omega arith

drops_made : (o : Option Begin) → made (drop_events o) ≡ 0
drops_made None = refl
drops_made (Some b) = refl

drops_end : (o : Option Begin) → ends_in (drop_events o) ≡ 0
drops_end None = refl
drops_end (Some b) = refl

begins_end : (o : Option Begin) (others : List Begin) → ends_in (begin_events o others) ≡ 0
begins_end None others = refl
begins_end (Some b) others = refl

moves_made : (moves : List ℕ → Move Cause) → KeepStates moves → (k g : ℕ) (before : List Begin) (vs : List WalkView)
    → runs (statuses (each_move moves k g before vs).views) ≤ runs (statuses vs) + made (each_move moves k g before vs).events
moves_made moves keep k g before [] = omega arith
moves_made moves keep k g before (v ∷ vs) =
    let move = moves v.name in
    let begin = begin_by move (k + 1) g v in
    let set = move.sets v.view in
    let others = before ++ all_held vs in
    let rest = each_move moves (k + option_len begin) g (before ++ held (moved_view move begin v)) vs in
    omega (
      arith,
      turn_made (move.turn v.view.state) set v.view.state (record { number = k + 1; gathers = g; view = v.name; spec = request set }) v.last others (keep v.name v.view),
      moves_made moves keep (k + option_len begin) g (before ++ held (moved_view move begin v)) vs,
      made-append (move_events move begin others v) rest.events,
      made-append (drop_events (dropped_by move v)) (begin_events begin others),
      drops_made (dropped_by move v),
    )

moves_end : (moves : List ℕ → Move Cause) (k g : ℕ) (before : List Begin) (vs : List WalkView) → ends_in (each_move moves k g before vs).events ≡ 0
moves_end moves k g before [] = refl
moves_end moves k g before (v ∷ vs) =
    let move = moves v.name in
    let begin = begin_by move (k + 1) g v in
    let others = before ++ all_held vs in
    let rest = each_move moves (k + option_len begin) g (before ++ held (moved_view move begin v)) vs in
    omega (
      arith,
      ends-append (move_events move begin others v) rest.events,
      ends-append (drop_events (dropped_by move v)) (begin_events begin others),
      drops_end (dropped_by move v),
      begins_end begin others,
      moves_end moves (k + option_len begin) g (before ++ held (moved_view move begin v)) vs,
    )

-- ---- gathers

module _ (o : Outcome) where
  came_ends : (b : Begin) (r : Result Picture Cause) (view : View Cause) → view.state ≡ Running → ends_in (end_events b r) + running_at (ended (Some r) view).state (Some b) ≡ 1
  came_ends b (Ok picture) view is = omega (arith, ap (λ s. running_at (collected None s) (Some b)) is)
  came_ends b (Err cause) view is = omega (arith, ap (λ s. running_at (collected (Some cause) s) (Some b)) is)

  status_ends : (view : View Cause) (state : ViewState Cause) (last : Option Begin) → view.state ≡ state
      → ends_in (view_ends o (running_in state last)) + running_at (ended (option_map o (running_in state last)) view).state last ≡ running_at state last
  status_ends view Running (Some b) is = came_ends b (o b) view is
  status_ends view Running None is = omega (arith, ap (λ s. running_at s None) is)
  status_ends view Cleared last is = omega (arith, ap (λ s. running_at s last) is)
  status_ends view Waiting last is = omega (arith, ap (λ s. running_at s last) is)
  status_ends view Complete last is = omega (arith, ap (λ s. running_at s last) is)
  status_ends view (Failed cause) last is = omega (arith, ap (λ s. running_at s last) is)
  status_ends view Paused last is = omega (arith, ap (λ s. running_at s last) is)

  gather_ends : (vs : List WalkView) → ends_in (gather_events o vs) + runs (statuses (gathered o vs)) ≡ runs (statuses vs)
  gather_ends [] = refl
  gather_ends (v ∷ vs) = omega (arith, ends-append (view_ends o (running v)) (gather_events o vs), status_ends v.view v.view.state v.last refl, gather_ends vs)

  printed_ends : (line : Option PrintedLine) → ends_in (printed line) ≡ 0
  printed_ends None = refl
  printed_ends (Some line) = refl

  prints_end : (form : Form) (shown : List ℕ → Bool) (vs : List WalkView) → ends_in (print_events o form shown vs) ≡ 0
  prints_end form shown [] = refl
  prints_end form shown (v ∷ vs) = elim (shown v.name) as (λ t. ends_in (cond t (printed (view_line o form v)) [] ++ print_events o form shown vs) ≡ 0) [
    | true ↦ omega (arith, ends-append (printed (view_line o form v)) (print_events o form shown vs), printed_ends (view_line o form v), prints_end form shown vs)
    | false ↦ prints_end form shown vs
  ]

  effect_ends : (s : Stage) (e : Effect) → Sets s e → ends_in (after_effect o s e).events + runs (statuses (after_effect o s e).stage.views) ≤ runs (statuses s.views) + made (after_effect o s e).events
  effect_ends s (Moves set moves) sets =
      omega (arith, moves_end moves set.begun set.gathers [] set.views, moves_made moves sets.3 set.begun set.gathers [] set.views, runs_set (statuses set.views) (statuses s.views) sets.0)
  effect_ends s (Gathers form shown) sets = omega (arith, ends-append (gather_events o s.views) (print_events o form shown (gathered o s.views)), prints_end form shown (gathered o s.views), gather_ends s.views)
  effect_ends s (Trims level) sets = omega arith

  walk_ends : (commands : List Numbered) (s : Stage) → ends_in (walk o s commands).events ≤ runs (statuses s.views) + made (walk o s commands).events
  walk_ends [] s = omega arith
  walk_ends (first ∷ others) s =
      let r = step o s first.command in
      elim (can_obey (names_in first.command) (names_of s.views)) as (λ t. ends_in (cond t (then_step r (walk o r.stage others)) (stay s)).events ≤ runs (statuses s.views) + made (cond t (then_step r (walk o r.stage others)) (stay s)).events) [
        | true ↦ omega (arith, ends-append r.events (walk o r.stage others).events, made-append r.events (walk o r.stage others).events, effect_ends s (effect s first.command) (effect_sets s first.command), walk_ends others r.stage)
        | false ↦ omega arith
      ]

pub ends_are_begun : EndsAreBegun
ends_are_begun o commands = omega (arith, walk_ends o commands opening)
