-- Each begin comes to its end at most once.
use Rattle.std.proofs.Common.{◌≡◌, ℕ, ◌+◌, ◌<◌, ◌≤◌, Bool, true, false, cond, eqb, ltb, List, [], ◌∷◌, ◌++◌, Some, None, Option, Ok, Err, Result, refl, ap, inl, inr, arith}
use Rattle.std.specs.Option.{option_or, option_map, option_len}
use Rattle.std.proofs.lemmas.Bool.{ltb-true, ltb-false, eqb-true}
use Rattle.bitmap_kind.specs.Picture.{Picture}
use Rattle.request_tracker.specs.declared.turns.Turn.{Turn}
use Rattle.request_tracker.specs.declared.turns.Turn.TheVariants.{Stays, Begins, Pauses, Clears}
use Rattle.request_tracker.specs.declared.views.Act.TheVariants as acts
use Rattle.request_tracker.specs.declared.views.View.{View}
use Rattle.request_tracker.specs.declared.views.ViewState.{ViewState}
use Rattle.request_tracker.specs.declared.views.ViewState.TheVariants.{Cleared, Waiting, Running, Complete, Failed, Paused}
use Rattle.request_tracker.specs.Table.{has_size, begins, turned, request, collected}
use Rattle.request_tracker.specs.Moves.{Move, act_move}
use Rattle.load_cause.specs.declared.causes.Cause.{Cause}
use Rattle.printed_lines.specs.Printed.{PrintedLine}
use Rattle.script_walk.specs.Starts.{one_if}
use Rattle.script_lines.specs.Script.{Numbered}
use Rattle.script_walk.specs.Walk.{Begin, WalkView, Outcome, Form, TraceEvent, Dropped, Begun, Ended, Trimmed, Printed, Stage, begin_by, held, all_held, dropped_by, moved_view, move_events, drop_events, begin_events, each_move, running, running_in, ended, end_events, view_ends, gathered, gather_events, view_line, printed, print_events, names_of, names_in, can_obey, Effect, Moves, Gathers, Trims, effect, after_effect, step, every, closing, stay, then_step, walk, trace, opening}
use Rattle.script_walk.proofs.States.{Status, statuses, cleared, IsSet, KeepStates, Sets, effect_sets}

-- how often a begin of this number comes to its end
abbrev pub ends : ℕ → List TraceEvent → ℕ
ends n [] = 0
ends n (Ended b result ∷ es) = one_if (eqb b.number n) + ends n es
ends n (Dropped b ∷ es) = ends n es
ends n (Begun b others ∷ es) = ends n es
ends n (Trimmed level ∷ es) = ends n es
ends n (Printed line ∷ es) = ends n es

-- how many views run by it
abbrev pub runs_at : ℕ → ViewState Cause → Option Begin → ℕ
runs_at n Running (Some b) = one_if (eqb b.number n)
runs_at n state last = 0

abbrev pub runs : ℕ → List Status → ℕ
runs n [] = 0
runs n (s ∷ ss) = runs_at n s.0 s.1 + runs n ss

pub ends-append : (n : ℕ) (xs ys : List TraceEvent) → ends n (xs ++ ys) ≡ ends n xs + ends n ys
ends-append n [] ys = omega arith
ends-append n (Ended b result ∷ xs) ys = omega (arith, ends-append n xs ys)
ends-append n (Dropped b ∷ xs) ys = ends-append n xs ys
ends-append n (Begun b others ∷ xs) ys = ends-append n xs ys
ends-append n (Trimmed level ∷ xs) ys = ends-append n xs ys
ends-append n (Printed line ∷ xs) ys = ends-append n xs ys

runs-append : (n : ℕ) (xs ys : List Status) → runs n (xs ++ ys) ≡ runs n xs + runs n ys
runs-append n [] ys = omega arith
runs-append n (x ∷ xs) ys = omega (arith, runs-append n xs ys)

runs_set : (n : ℕ) (new old : List Status) → IsSet new old → runs n new ≡ runs n old
runs_set n new old (inl e) = ap (runs n) e
runs_set n new old (inr e) = omega (arith, ap (runs n) e, runs-append n old (cleared ∷ []))

-- one number more has been given
later : (k n : ℕ) → one_if (eqb (k + 1) n) + one_if (ltb (k + 1) n) ≤ one_if (ltb k n)
later k n = elim (ltb k n) as (λ t. ltb k n ≡ t → one_if (eqb (k + 1) n) + one_if (ltb (k + 1) n) ≤ one_if t) [
  | true ↦ λ e. elim (eqb (k + 1) n) as (λ t. eqb (k + 1) n ≡ t → one_if t + one_if (ltb (k + 1) n) ≤ 1) [
    | true ↦ λ h. let same : k + 1 ≡ n = eqb-true _ _ h in elim (ltb (k + 1) n) as (λ t. ltb (k + 1) n ≡ t → 1 + one_if t ≤ 1) [
      | true ↦ λ g. let less : k + 1 < n = ltb-true _ _ g in absurd (omega (arith, same, less))
      | false ↦ λ g. omega arith
    ] refl
    | false ↦ λ h. elim (ltb (k + 1) n) as (λ t. 0 + one_if t ≤ 1) [ true ↦ omega arith | false ↦ omega arith ]
  ] refl
  | false ↦ λ e.
      let most : n ≤ k = ltb-false _ _ e in
      elim (eqb (k + 1) n) as (λ t. eqb (k + 1) n ≡ t → one_if t + one_if (ltb (k + 1) n) ≤ 0) [
        | true ↦ λ h. let same : k + 1 ≡ n = eqb-true _ _ h in absurd (omega (arith, same, most))
        | false ↦ λ h. elim (ltb (k + 1) n) as (λ t. ltb (k + 1) n ≡ t → 0 + one_if t ≤ 0) [
          | true ↦ λ g. let less : k + 1 < n = ltb-true _ _ g in absurd (omega (arith, most, less))
          | false ↦ λ g. omega arith
        ] refl
      ] refl
] refl

none_later : (n k : ℕ) → one_if (ltb (k + 0) n) ≤ one_if (ltb k n)
none_later n k = let same : k + 0 ≡ k = omega arith in omega (arith, ap (λ m. one_if (ltb m n)) same)

turn_once : (n k g : ℕ) (name : List ℕ) (turn : Turn) (set : View Cause) (old : ViewState Cause) (last : Option Begin) → set.state ≡ old
    → (let b : Begin = record { number = k + 1; gathers = g; view = name; spec = request set } in let begin : Option Begin = cond (begins turn set) (Some b) None in
    runs_at n (turned turn set) (option_or begin last) + one_if (ltb (k + option_len begin) n) ≤ runs_at n old last + one_if (ltb k n))
turn_once n k g name Stays set old last e = omega (arith, none_later n k, ap (λ s. runs_at n s last) e)
turn_once n k g name Begins set old last e =
    let b : Begin = record { number = k + 1; gathers = g; view = name; spec = request set } in
    elim (has_size set) as (λ t. runs_at n (cond t Running Waiting) (option_or (cond t (Some b) None) last) + one_if (ltb (k + option_len (cond t (Some b) None)) n) ≤ runs_at n old last + one_if (ltb k n)) [
      | true ↦ omega (arith, later k n)
      | false ↦ omega (arith, none_later n k)
    ]
turn_once n k g name Pauses set old last e = omega (arith, none_later n k)
turn_once n k g name Clears set old last e = omega (arith, none_later n k)

moves_once : (n : ℕ) (moves : List ℕ → Move Cause) → KeepStates moves → (k g : ℕ) (before : List Begin) (vs : List WalkView)
    → runs n (statuses (each_move moves k g before vs).views) + one_if (ltb (each_move moves k g before vs).begun n) ≤ runs n (statuses vs) + one_if (ltb k n)
moves_once n moves keep k g before [] = omega arith
moves_once n moves keep k g before (v ∷ vs) =
    let move = moves v.name in
    let begin = begin_by move (k + 1) g v in
    let rest = moves_once n moves keep (k + option_len begin) g (before ++ held (moved_view move begin v)) vs in
    omega (arith, rest, turn_once n k g v.name (move.turn v.view.state) (move.sets v.view) v.view.state v.last (keep v.name v.view))

drops_end : (n : ℕ) (o : Option Begin) → ends n (drop_events o) ≡ 0
drops_end n None = refl
drops_end n (Some b) = refl

begins_end : (n : ℕ) (o : Option Begin) (others : List Begin) → ends n (begin_events o others) ≡ 0
begins_end n None others = refl
begins_end n (Some b) others = refl

moves_end : (n : ℕ) (moves : List ℕ → Move Cause) (k g : ℕ) (before : List Begin) (vs : List WalkView) → ends n (each_move moves k g before vs).events ≡ 0
moves_end n moves k g before [] = refl
moves_end n moves k g before (v ∷ vs) =
    let move = moves v.name in
    let begin = begin_by move (k + 1) g v in
    let others = before ++ all_held vs in
    let rest = each_move moves (k + option_len begin) g (before ++ held (moved_view move begin v)) vs in
    omega (
      arith,
      ends-append n (move_events move begin others v) rest.events,
      ends-append n (drop_events (dropped_by move v)) (begin_events begin others),
      drops_end n (dropped_by move v),
      begins_end n begin others,
      moves_end n moves (k + option_len begin) g (before ++ held (moved_view move begin v)) vs,
    )

module _ (o : Outcome) where
  came_once : (n : ℕ) (b : Begin) (r : Result Picture Cause) (view : View Cause) → view.state ≡ Running
      → ends n (end_events b r) + runs_at n (ended (Some r) view).state (Some b) ≡ one_if (eqb b.number n)
  came_once n b (Ok picture) view is = omega (arith, ap (λ s. runs_at n (collected None s) (Some b)) is)
  came_once n b (Err cause) view is = omega (arith, ap (λ s. runs_at n (collected (Some cause) s) (Some b)) is)

  status_once : (n : ℕ) (view : View Cause) (state : ViewState Cause) (last : Option Begin) → view.state ≡ state
      → ends n (view_ends o (running_in state last)) + runs_at n (ended (option_map o (running_in state last)) view).state last ≡ runs_at n state last
  status_once n view Running (Some b) is = came_once n b (o b) view is
  status_once n view Running None is = omega (arith, ap (λ s. runs_at n s None) is)
  status_once n view Cleared last is = omega (arith, ap (λ s. runs_at n s last) is)
  status_once n view Waiting last is = omega (arith, ap (λ s. runs_at n s last) is)
  status_once n view Complete last is = omega (arith, ap (λ s. runs_at n s last) is)
  status_once n view (Failed cause) last is = omega (arith, ap (λ s. runs_at n s last) is)
  status_once n view Paused last is = omega (arith, ap (λ s. runs_at n s last) is)

  gather_once : (n : ℕ) (vs : List WalkView) → ends n (gather_events o vs) + runs n (statuses (gathered o vs)) ≡ runs n (statuses vs)
  gather_once n [] = refl
  gather_once n (v ∷ vs) = omega (arith, ends-append n (view_ends o (running v)) (gather_events o vs), status_once n v.view v.view.state v.last refl, gather_once n vs)

  printed_ends : (n : ℕ) (line : Option PrintedLine) → ends n (printed line) ≡ 0
  printed_ends n None = refl
  printed_ends n (Some line) = refl

  prints_end : (n : ℕ) (form : Form) (shown : List ℕ → Bool) (vs : List WalkView) → ends n (print_events o form shown vs) ≡ 0
  prints_end n form shown [] = refl
  prints_end n form shown (v ∷ vs) = elim (shown v.name) as (λ t. ends n (cond t (printed (view_line o form v)) [] ++ print_events o form shown vs) ≡ 0) [
    | true ↦ omega (arith, ends-append n (printed (view_line o form v)) (print_events o form shown vs), printed_ends n (view_line o form v), prints_end n form shown vs)
    | false ↦ prints_end n form shown vs
  ]

  effect_once : (n : ℕ) (s : Stage) (e : Effect) → Sets s e
      → ends n (after_effect o s e).events + (runs n (statuses (after_effect o s e).stage.views) + one_if (ltb (after_effect o s e).stage.begun n)) ≤ runs n (statuses s.views) + one_if (ltb s.begun n)
  effect_once n s (Moves set moves) sets =
      omega (arith, moves_end n moves set.begun set.gathers [] set.views, moves_once n moves sets.3 set.begun set.gathers [] set.views, runs_set n (statuses set.views) (statuses s.views) sets.0, ap (λ k. one_if (ltb k n)) sets.1)
  effect_once n s (Gathers form shown) sets = omega (arith, ends-append n (gather_events o s.views) (print_events o form shown (gathered o s.views)), prints_end n form shown (gathered o s.views), gather_once n s.views)
  effect_once n s (Trims level) sets = omega arith

  walk_once : (n : ℕ) (lines : List Numbered) (s : Stage) → ends n (walk o s lines).events ≤ runs n (statuses s.views) + one_if (ltb s.begun n)
  walk_once n [] s = omega arith
  walk_once n (first ∷ others) s =
      let r = step o s first.command in
      elim (can_obey (names_in first.command) (names_of s.views)) as (λ t. ends n (cond t (then_step r (walk o r.stage others)) (stay s)).events ≤ runs n (statuses s.views) + one_if (ltb s.begun n)) [
        | true ↦ omega (arith, ends-append n r.events (walk o r.stage others).events, effect_once n s (effect s first.command) (effect_sets s first.command), walk_once n others r.stage)
        | false ↦ omega arith
      ]

  pub trace_once : (n : ℕ) (lines : List Numbered) → ends n (trace o lines) ≤ one_if (ltb 0 n)
  trace_once n lines =
      let all = walk o opening lines in
      omega (arith, ends-append n all.events (closing all.stage), walk_once n lines opening, moves_end n (every (act_move acts.ClearAll)) all.stage.begun all.stage.gathers [] all.stage.views)
