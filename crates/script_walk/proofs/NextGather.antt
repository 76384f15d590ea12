-- Each begin that comes to its end does so at the first gather after it.
use Rattle.std.proofs.Common.{◌≡◌, ℕ, ◌+◌, ◌<◌, ◌≤◌, Bool, true, false, cond, List, [], ◌∷◌, ◌++◌, Some, None, Option, Ok, Err, Result, refl, ap, sym, subst, inl, inr, arith}
use Rattle.std.specs.Prelude.{⊤}
use Rattle.std.specs.Option.{option_or, option_map, option_len}
use Rattle.bitmap_kind.specs.Picture.{Picture}
use Rattle.request_tracker.specs.declared.turns.Turn.{Turn}
use Rattle.request_tracker.specs.declared.turns.Turn.TheVariants.{Stays, Begins, Pauses, Clears}
use Rattle.request_tracker.specs.declared.views.View.{View}
use Rattle.request_tracker.specs.declared.views.ViewState.{ViewState}
use Rattle.request_tracker.specs.declared.views.ViewState.TheVariants.{Cleared, Waiting, Running, Complete, Failed, Paused}
use Rattle.request_tracker.specs.Table.{has_size, begins, turned, request, collected}
use Rattle.request_tracker.specs.Moves.{Move}
use Rattle.load_cause.specs.declared.causes.Cause.{Cause}
use Rattle.printed_lines.specs.Printed.{PrintedLine}
use Rattle.script_lines.specs.Script.{Numbered}
use Rattle.script_walk.specs.Walk.{Begin, WalkView, Outcome, Form, TraceEvent, Dropped, Begun, Ended, Trimmed, Printed, Stage, begin_by, held, all_held, dropped_by, moved_view, move_events, drop_events, begin_events, each_move, running, running_in, ended, end_events, view_ends, gathered, gather_events, view_line, printed, print_events, names_of, names_in, can_obey, Effect, Moves, Gathers, Trims, effect, after_effect, Step, step, stay, then_step, walk}
use Rattle.script_walk.specs.Laws.{EachEnd, IsCurrent, AreCurrent, IsEndBetween, EndsBetween, EndsAtNextGather}
use Rattle.script_walk.proofs.States.{Status, statuses, cleared, IsSet, KeepStates, Sets, effect_sets}

-- ---- ends of lists of events

abbrev Says : Type 1
Says = Begin → Result Picture Cause → Type 0

each_append : (P : Says) (xs ys : List TraceEvent) → EachEnd P xs → EachEnd P ys → EachEnd P (xs ++ ys)
each_append P [] ys hx hy = hy
each_append P (Ended b result ∷ xs) ys hx hy = (hx.0, each_append P xs ys hx.1 hy)
each_append P (Dropped b ∷ xs) ys hx hy = each_append P xs ys hx hy
each_append P (Begun b others ∷ xs) ys hx hy = each_append P xs ys hx hy
each_append P (Trimmed level ∷ xs) ys hx hy = each_append P xs ys hx hy
each_append P (Printed line ∷ xs) ys hx hy = each_append P xs ys hx hy

each_map : (P Q : Says) → ((b : Begin) (r : Result Picture Cause) → P b r → Q b r) → (xs : List TraceEvent) → EachEnd P xs → EachEnd Q xs
each_map P Q f [] h = tt
each_map P Q f (Ended b result ∷ xs) h = (f b result h.0, each_map P Q f xs h.1)
each_map P Q f (Dropped b ∷ xs) h = each_map P Q f xs h
each_map P Q f (Begun b others ∷ xs) h = each_map P Q f xs h
each_map P Q f (Trimmed level ∷ xs) h = each_map P Q f xs h
each_map P Q f (Printed line ∷ xs) h = each_map P Q f xs h

-- ---- statuses

abbrev StatusCurrent : ℕ → Status → Type 0
StatusCurrent g s = IsCurrent g (running_in s.0 s.1)

abbrev AllCurrent : ℕ → List Status → Type 0
AllCurrent g [] = ⊤
AllCurrent g (s ∷ ss) = StatusCurrent g s × AllCurrent g ss

of_views : (g : ℕ) (vs : List WalkView) → AreCurrent g vs → AllCurrent g (statuses vs)
of_views g [] h = tt
of_views g (v ∷ vs) h = (h.0, of_views g vs h.1)

to_views : (g : ℕ) (vs : List WalkView) → AllCurrent g (statuses vs) → AreCurrent g vs
to_views g [] h = tt
to_views g (v ∷ vs) h = (h.0, to_views g vs h.1)

current-append : (g : ℕ) (xs ys : List Status) → AllCurrent g xs → AllCurrent g ys → AllCurrent g (xs ++ ys)
current-append g [] ys hx hy = hy
current-append g (x ∷ xs) ys hx hy = (hx.0, current-append g xs ys hx.1 hy)

current_set : (g : ℕ) (new old : List Status) → IsSet new old → AllCurrent g old → AllCurrent g new
current_set g new old (inl e) h = subst (AllCurrent g) (sym e) h
current_set g new old (inr e) h = subst (AllCurrent g) (sym e) (current-append g old (cleared ∷ []) h (tt, tt))

-- ---- moves

turn_current : (b : Begin) (turn : Turn) (set : View Cause) (old : ViewState Cause) (last : Option Begin) → set.state ≡ old → IsCurrent b.gathers (running_in old last)
    → IsCurrent b.gathers (running_in (turned turn set) (option_or (cond (begins turn set) (Some b) None) last))
turn_current b Stays set old last e h = subst (λ s. IsCurrent b.gathers (running_in s last)) (sym e) h
turn_current b Begins set old last e h =
    elim (has_size set) as (λ t. IsCurrent b.gathers (running_in (cond t Running Waiting) (option_or (cond t (Some b) None) last))) [ true ↦ refl | false ↦ tt ]
turn_current b Pauses set old last e h = tt
turn_current b Clears set old last e h = tt

moves_current : (moves : List ℕ → Move Cause) → KeepStates moves → (k g : ℕ) (before : List Begin) (vs : List WalkView) → AllCurrent g (statuses vs)
    → AllCurrent g (statuses (each_move moves k g before vs).views)
moves_current moves keep k g before [] h = tt
moves_current moves keep k g before (v ∷ vs) h =
    let move = moves v.name in
    let set = move.sets v.view in
    let begin = begin_by move (k + 1) g v in (
      turn_current (record { number = k + 1; gathers = g; view = v.name; spec = request set }) (move.turn v.view.state) set v.view.state v.last (keep v.name v.view) h.0,
      moves_current moves keep (k + option_len begin) g (before ++ held (moved_view move begin v)) vs h.1,
    )

module _ (P : Says) where
  drops_end : (o : Option Begin) → EachEnd P (drop_events o)
  drops_end None = tt
  drops_end (Some b) = tt

  begins_end : (o : Option Begin) (others : List Begin) → EachEnd P (begin_events o others)
  begins_end None others = tt
  begins_end (Some b) others = tt

  moves_end : (moves : List ℕ → Move Cause) (k g : ℕ) (before : List Begin) (vs : List WalkView) → EachEnd P (each_move moves k g before vs).events
  moves_end moves k g before [] = tt
  moves_end moves k g before (v ∷ vs) =
      let move = moves v.name in
      let begin = begin_by move (k + 1) g v in
      let others = before ++ all_held vs in
      let behind = before ++ held (moved_view move begin v) in
      each_append P (move_events move begin others v) (each_move moves (k + option_len begin) g behind vs).events
      (each_append P (drop_events (dropped_by move v)) (begin_events begin others) (drops_end (dropped_by move v)) (begins_end begin others))
      (moves_end moves (k + option_len begin) g behind vs)

  printed_end : (line : Option PrintedLine) → EachEnd P (printed line)
  printed_end None = tt
  printed_end (Some line) = tt

  prints_end : (o : Outcome) (form : Form) (shown : List ℕ → Bool) (vs : List WalkView) → EachEnd P (print_events o form shown vs)
  prints_end o form shown [] = tt
  prints_end o form shown (v ∷ vs) = elim (shown v.name) as (λ t. EachEnd P (cond t (printed (view_line o form v)) [] ++ print_events o form shown vs)) [
    | true ↦ each_append P (printed (view_line o form v)) (print_events o form shown vs) (printed_end (view_line o form v)) (prints_end o form shown vs)
    | false ↦ prints_end o form shown vs
  ]

-- ---- gathers

module _ (o : Outcome) where
  came_current : (g : ℕ) (b : Begin) (r : Result Picture Cause) (view : View Cause) → view.state ≡ Running → IsCurrent g (running_in (ended (Some r) view).state (Some b))
  came_current g b (Ok picture) view is = subst (λ s. IsCurrent g (running_in (collected None s) (Some b))) (sym is) tt
  came_current g b (Err cause) view is = subst (λ s. IsCurrent g (running_in (collected (Some cause) s) (Some b))) (sym is) tt

  status_current : (g : ℕ) (view : View Cause) (state : ViewState Cause) (last : Option Begin) → view.state ≡ state → IsCurrent g (running_in (ended (option_map o (running_in state last)) view).state last)
  status_current g view Running (Some b) is = came_current g b (o b) view is
  status_current g view Running None is = subst (λ s. IsCurrent g (running_in s None)) (sym is) tt
  status_current g view Cleared last is = subst (λ s. IsCurrent g (running_in s last)) (sym is) tt
  status_current g view Waiting last is = subst (λ s. IsCurrent g (running_in s last)) (sym is) tt
  status_current g view Complete last is = subst (λ s. IsCurrent g (running_in s last)) (sym is) tt
  status_current g view (Failed cause) last is = subst (λ s. IsCurrent g (running_in s last)) (sym is) tt
  status_current g view Paused last is = subst (λ s. IsCurrent g (running_in s last)) (sym is) tt

  gather_current : (g : ℕ) (vs : List WalkView) → AreCurrent g (gathered o vs)
  gather_current g [] = tt
  gather_current g (v ∷ vs) = (status_current g v.view v.view.state v.last refl, gather_current g vs)

  came_between : (g : ℕ) (b : Begin) (r : Result Picture Cause) → b.gathers ≡ g → o b ≡ r → EachEnd (IsEndBetween o g (g + 1)) (end_events b r)
  came_between g b (Ok picture) at e = ((omega (arith, at), omega (arith, at), e), tt)
  came_between g b (Err cause) at e = ((omega (arith, at), omega (arith, at), e), tt)

  view_between : (g : ℕ) (begin : Option Begin) → IsCurrent g begin → EachEnd (IsEndBetween o g (g + 1)) (view_ends o begin)
  view_between g None h = tt
  view_between g (Some b) h = came_between g b (o b) h refl

  gather_between : (g : ℕ) (vs : List WalkView) → AreCurrent g vs → EachEnd (IsEndBetween o g (g + 1)) (gather_events o vs)
  gather_between g [] h = tt
  gather_between g (v ∷ vs) h = each_append (IsEndBetween o g (g + 1)) (view_ends o (running v)) (gather_events o vs) (view_between g (running v) h.0) (gather_between g vs h.1)

  -- ---- commands

  -- the same of one effect
  record OneEffect (s : Stage) (after : Step) : Type 0 where
    current : AreCurrent after.stage.gathers after.stage.views
    later : s.gathers ≤ after.stage.gathers
    ends : EachEnd (IsEndBetween o s.gathers after.stage.gathers) after.events

  set_later : (g h : ℕ) → g ≡ h → h ≤ g
  set_later g h e = omega (arith, e)

  effect_between : (s : Stage) (e : Effect) → Sets s e → AreCurrent s.gathers s.views → OneEffect s (after_effect o s e)
  effect_between s (Moves set moves) sets h =
      let was : AllCurrent set.gathers (statuses s.views) = subst (λ g. AllCurrent g (statuses s.views)) (sym sets.2) (of_views s.gathers s.views h) in
      record {
        current = to_views set.gathers (each_move moves set.begun set.gathers [] set.views).views
            (moves_current moves sets.3 set.begun set.gathers [] set.views (current_set set.gathers (statuses set.views) (statuses s.views) sets.0 was));
        later = set_later set.gathers s.gathers sets.2;
        ends = moves_end (IsEndBetween o s.gathers set.gathers) moves set.begun set.gathers [] set.views;
      }
  effect_between s (Gathers form shown) sets h = record {
    current = gather_current (s.gathers + 1) s.views;
    later = omega arith;
    ends = each_append (IsEndBetween o s.gathers (s.gathers + 1)) (gather_events o s.views) (print_events o form shown (gathered o s.views))
        (gather_between s.gathers s.views h) (prints_end (IsEndBetween o s.gathers (s.gathers + 1)) o form shown (gathered o s.views));
  }
  effect_between s (Trims level) sets h = record { current = h; later = omega arith; ends = tt }

  wider_at : (a b c : ℕ) → b ≤ c → (begin : Begin) (r : Result Picture Cause) → IsEndBetween o a b begin r → IsEndBetween o a c begin r
  wider_at a b c le begin r h = (h.0, omega (arith, h.1, le), h.2)

  nearer_at : (a b c : ℕ) → a ≤ b → (begin : Begin) (r : Result Picture Cause) → IsEndBetween o b c begin r → IsEndBetween o a c begin r
  nearer_at a b c le begin r h = (omega (arith, h.0, le), h.1, h.2)

  walk_between : (commands : List Numbered) (s : Stage) → AreCurrent s.gathers s.views → OneEffect s (walk o s commands)
  walk_between [] s h = record { current = h; later = omega arith; ends = tt }
  walk_between (first ∷ others) s h =
      let r = step o s first.command in
      elim (can_obey (names_in first.command) (names_of s.views)) as (λ t. OneEffect s (cond t (then_step r (walk o r.stage others)) (stay s))) [
        | true ↦
            let one = effect_between s (effect s first.command) (effect_sets s first.command) h in
            let rest = walk_between others r.stage one.current in
            let a = s.gathers in
            let b = r.stage.gathers in
            let z = (walk o r.stage others).stage.gathers in
            record {
              current = rest.current;
              later = omega (arith, one.later, rest.later);
              ends = each_append (IsEndBetween o a z) r.events (walk o r.stage others).events
                  (each_map (IsEndBetween o a b) (IsEndBetween o a z) (wider_at a b z rest.later) r.events one.ends)
                  (each_map (IsEndBetween o b z) (IsEndBetween o a z) (nearer_at a b z one.later) (walk o r.stage others).events rest.ends);
            }
        | false ↦ record { current = h; later = omega arith; ends = tt }
      ]

pub ends_at_next_gather : EndsAtNextGather
ends_at_next_gather o s commands h =
    let all = walk_between o commands s h in
    record { current = all.current; later = all.later; ends = all.ends }
