-- A begin says `cached` only where a load does.
use Rattle.std.proofs.Common.{◌≡◌, ℕ, ◌+◌, Bool, true, false, cond, List, [], ◌∷◌, ◌++◌, Some, None, Option, Ok, Err, Result, refl, ap, ◌∙◌, inl, inr}
use Rattle.std.specs.Prelude.{⊤, ◌||◌}
use Rattle.std.specs.List.{list_any}
use Rattle.std.specs.Str.{bytes_eq}
use Rattle.std.specs.Option.{option_len, option_map}
use Rattle.bitmap_kind.specs.Picture.{Picture}
use Rattle.cache_key.specs.declared.load_spec.LoadSpec.{LoadSpec}
use Rattle.request_tracker.specs.declared.turns.Turn.{Turn}
use Rattle.request_tracker.specs.declared.turns.Turn.TheVariants.{Stays, Begins, Pauses, Clears}
use Rattle.request_tracker.specs.declared.views.Act.{Act}
use Rattle.request_tracker.specs.declared.views.Act.TheVariants as acts
use Rattle.request_tracker.specs.declared.views.Ask.{Ask}
use Rattle.request_tracker.specs.declared.views.View.{View}
use Rattle.request_tracker.specs.Table.{has_size, begins, in_size, request}
use Rattle.request_tracker.specs.Moves.{Move, load_move, layout_move, clear_move, act_move, new_view}
use Rattle.load_cause.specs.declared.causes.Cause.{Cause}
use Rattle.printed_lines.specs.Printed.{PrintedLine}
use Rattle.script_lines.specs.declared.commands.Command.{Command}
use Rattle.script_lines.specs.declared.commands.Command.TheVariants.{Load, Layout, Clear, ClearAll, Pause, PauseAll, Resume, Trim, Wait, Show, Dump}
use Rattle.script_lines.specs.Script.{Numbered}
use Rattle.script_walk.specs.Walk.{Begin, WalkView, Outcome, Form, TraceEvent, Dropped, Begun, Ended, Trimmed, Printed, Stage, opening, begin_by, held, all_held, dropped_by, moved_view, move_events, drop_events, begin_events, each_move, running, ended, end_events, view_ends, gathered, gather_events, view_line, printed, print_events, no_move, only, every, names_of, names_in, has_name, can_obey, Effect, Moves, Gathers, Trims, with_view, effect, after_effect, Step, step, closing, stay, then_step, walk, trace}
use Rattle.script_walk.specs.Marks.{begins_in}
use Rattle.script_walk.specs.Orderly.{In}
use Rattle.script_walk.specs.Laws.{says_cached, NoneCached}

-- ---- begins of lists of events

abbrev IsPlain : LoadSpec → Type 0
IsPlain spec = spec.cached ≡ false

abbrev ArePlain : List TraceEvent → Type 0
ArePlain [] = ⊤
ArePlain (Begun b others ∷ es) = IsPlain b.spec × ArePlain es
ArePlain (Ended b result ∷ es) = ArePlain es
ArePlain (Dropped b ∷ es) = ArePlain es
ArePlain (Trimmed level ∷ es) = ArePlain es
ArePlain (Printed line ∷ es) = ArePlain es

plain-append : (xs ys : List TraceEvent) → ArePlain xs → ArePlain ys → ArePlain (xs ++ ys)
plain-append [] ys hx hy = hy
plain-append (Begun b others ∷ xs) ys hx hy = (hx.0, plain-append xs ys hx.1 hy)
plain-append (Ended b result ∷ xs) ys hx hy = plain-append xs ys hx hy
plain-append (Dropped b ∷ xs) ys hx hy = plain-append xs ys hx hy
plain-append (Trimmed level ∷ xs) ys hx hy = plain-append xs ys hx hy
plain-append (Printed line ∷ xs) ys hx hy = plain-append xs ys hx hy

plain_in : (begin : Begin) (es : List TraceEvent) → ArePlain es → In begin (begins_in es) → IsPlain begin.spec
plain_in begin [] h is = absurd is
plain_in begin (Begun b others ∷ es) h is = elim is as (λ p. IsPlain begin.spec) [
  | inl e ↦ ap (λ (b : Begin). b.spec.cached) e ∙ h.0
  | inr rest ↦ plain_in begin es h.1 rest
]
plain_in begin (Ended b result ∷ es) h is = plain_in begin es h is
plain_in begin (Dropped b ∷ es) h is = plain_in begin es h is
plain_in begin (Trimmed level ∷ es) h is = plain_in begin es h is
plain_in begin (Printed line ∷ es) h is = plain_in begin es h is

-- ---- views

abbrev IsPlainView : View Cause → Type 0
IsPlainView view = IsPlain view.ask.spec

abbrev ArePlainViews : List WalkView → Type 0
ArePlainViews [] = ⊤
ArePlainViews (v ∷ vs) = IsPlainView v.view × ArePlainViews vs

views-append : (xs ys : List WalkView) → ArePlainViews xs → ArePlainViews ys → ArePlainViews (xs ++ ys)
views-append [] ys hx hy = hy
views-append (x ∷ xs) ys hx hy = (hx.0, views-append xs ys hx.1 hy)

sized_plain : (size : Option (ℕ × ℕ)) (spec : LoadSpec) → IsPlain spec → IsPlain (in_size size spec)
sized_plain None spec h = h
sized_plain (Some size) spec h = h

request_plain : (view : View Cause) → IsPlainView view → IsPlain (request view)
request_plain view h = elim view.ask.sized as (λ t. IsPlain (cond t view.ask.spec (in_size view.size view.ask.spec))) [
  | true ↦ h
  | false ↦ sized_plain view.size view.ask.spec h
]

-- ---- moves

-- What a move sets in such a view leaves it such.
abbrev KeepsPlain : Move Cause → Type 0
KeepsPlain move = (view : View Cause) → IsPlainView view → IsPlainView (move.sets view)

abbrev KeepPlain : (List ℕ → Move Cause) → Type 0
KeepPlain moves = (name : List ℕ) → KeepsPlain (moves name)

only_keeps : (view : List ℕ) (move : Move Cause) → KeepsPlain move → KeepPlain (only view move)
only_keeps view move keeps name = elim (bytes_eq view name) as (λ t. KeepsPlain (cond t move no_move)) [
  | true ↦ keeps
  | false ↦ λ other h. h
]

begin_plain : (b : Begin) (turn : Turn) (set : View Cause) (others : List Begin) → IsPlain b.spec → ArePlain (begin_events (cond (begins turn set) (Some b) None) others)
begin_plain b turn set others h = elim (begins turn set) as (λ t. ArePlain (begin_events (cond t (Some b) None) others)) [ true ↦ (h, tt) | false ↦ tt ]

drops_plain : (o : Option Begin) → ArePlain (drop_events o)
drops_plain None = tt
drops_plain (Some b) = tt

moves_plain : (moves : List ℕ → Move Cause) → KeepPlain moves → (k g : ℕ) (before : List Begin) (vs : List WalkView) → ArePlainViews vs
    → ArePlainViews (each_move moves k g before vs).views × ArePlain (each_move moves k g before vs).events
moves_plain moves keep k g before [] h = (tt, tt)
moves_plain moves keep k g before (v ∷ vs) h =
    let move = moves v.name in
    let set = move.sets v.view in
    let begin = begin_by move (k + 1) g v in
    let others = before ++ all_held vs in
    let behind = before ++ held (moved_view move begin v) in
    let is : IsPlainView set = keep v.name v.view h.0 in
    let rest = moves_plain moves keep (k + option_len begin) g behind vs h.1 in (
      (is, rest.0),
      plain-append (move_events move begin others v) (each_move moves (k + option_len begin) g behind vs).events
          (plain-append (drop_events (dropped_by move v)) (begin_events begin others) (drops_plain (dropped_by move v))
          (begin_plain (record { number = k + 1; gathers = g; view = v.name; spec = request set }) (move.turn v.view.state) set others (request_plain set is)))
          rest.1,
    )

-- ---- gathers

ended_plain : (result : Option (Result Picture Cause)) (view : View Cause) → IsPlainView view → IsPlainView (ended result view)
ended_plain None view h = h
ended_plain (Some result) view h = h

module _ (o : Outcome) where
  gather_views : (vs : List WalkView) → ArePlainViews vs → ArePlainViews (gathered o vs)
  gather_views [] h = tt
  gather_views (v ∷ vs) h = (ended_plain (option_map o (running v)) v.view h.0, gather_views vs h.1)

  came_plain : (b : Begin) (r : Result Picture Cause) → ArePlain (end_events b r)
  came_plain b (Ok picture) = tt
  came_plain b (Err cause) = tt

  view_plain : (b : Option Begin) → ArePlain (view_ends o b)
  view_plain None = tt
  view_plain (Some b) = came_plain b (o b)

  gather_plain : (vs : List WalkView) → ArePlain (gather_events o vs)
  gather_plain [] = tt
  gather_plain (v ∷ vs) = plain-append (view_ends o (running v)) (gather_events o vs) (view_plain (running v)) (gather_plain vs)

  printed_plain : (line : Option PrintedLine) → ArePlain (printed line)
  printed_plain None = tt
  printed_plain (Some line) = tt

  prints_plain : (form : Form) (shown : List ℕ → Bool) (vs : List WalkView) → ArePlain (print_events o form shown vs)
  prints_plain form shown [] = tt
  prints_plain form shown (v ∷ vs) = elim (shown v.name) as (λ t. ArePlain (cond t (printed (view_line o form v)) [] ++ print_events o form shown vs)) [
    | true ↦ plain-append (printed (view_line o form v)) (print_events o form shown vs) (printed_plain (view_line o form v)) (prints_plain form shown vs)
    | false ↦ prints_plain form shown vs
  ]

-- ---- commands

-- What a command sets leaves such views, and its moves too.
abbrev SetsPlain : Stage → Effect → Type 0
SetsPlain s (Moves set moves) = ArePlainViews set.views × KeepPlain moves
SetsPlain s (Gathers form shown) = ⊤
SetsPlain s (Trims level) = ⊤

with_plain : (name : List ℕ) (ask : Ask) (s : Stage) → IsPlain ask.spec → ArePlainViews s.views → ArePlainViews (with_view name ask s).views
with_plain name ask s is h =
    let new : WalkView = record { name = name; view = new_view ask; last = None } in
    elim (has_name name (names_of s.views)) as (λ t. ArePlainViews (cond t s.views (s.views ++ new ∷ []))) [
      | true ↦ h
      | false ↦ views-append s.views (new ∷ []) h (is, tt)
    ]

act_keeps : (act : Act) → KeepPlain (every (act_move act))
act_keeps act name view h = h

effect_sets : (s : Stage) (command : Command) → says_cached command ≡ false → ArePlainViews s.views → SetsPlain s (effect s command)
effect_sets s (Load view spec sized) is h =
    let ask : Ask = record { spec = spec; sized = sized } in
    (with_plain view ask s is h, only_keeps view (load_move s.paused ask) (λ v old. is))
effect_sets s (Layout view width height) is h = (h, only_keeps view (layout_move width height) (λ v old. old))
effect_sets s (Clear view) is h = (h, only_keeps view clear_move (λ v old. old))
effect_sets s ClearAll is h = (h, act_keeps acts.ClearAll)
effect_sets s Pause is h = (h, act_keeps acts.Pause)
effect_sets s PauseAll is h = (h, act_keeps acts.PauseAll)
effect_sets s Resume is h = (h, act_keeps acts.Resume)
effect_sets s (Trim level) is h = tt
effect_sets s Wait is h = tt
effect_sets s Show is h = tt
effect_sets s (Dump view) is h = tt

record OneEffect (after : Step) : Type 0 where
  views : ArePlainViews after.stage.views
  begins : ArePlain after.events

effect_plain : (o : Outcome) (s : Stage) (e : Effect) → SetsPlain s e → ArePlainViews s.views → OneEffect (after_effect o s e)
effect_plain o s (Moves set moves) sets h =
    let all = moves_plain moves sets.1 set.begun set.gathers [] set.views sets.0 in
    record { views = all.0; begins = all.1 }
effect_plain o s (Gathers form shown) sets h = record {
  views = gather_views o s.views h;
  begins = plain-append (gather_events o s.views) (print_events o form shown (gathered o s.views)) (gather_plain o s.views) (prints_plain o form shown (gathered o s.views));
}
effect_plain o s (Trims level) sets h = record { views = h; begins = tt }

neither : (a b : Bool) → (a || b) ≡ false → (a ≡ false) × (b ≡ false)
neither true b e = cc
neither false b e = (refl, e)

walk_plain : (o : Outcome) (commands : List Numbered) (s : Stage) → list_any (λ (first : Numbered). says_cached first.command) commands ≡ false → ArePlainViews s.views → OneEffect (walk o s commands)
walk_plain o [] s none h = record { views = h; begins = tt }
walk_plain o (first ∷ others) s none h =
    let r = step o s first.command in
    let parts = neither (says_cached first.command) (list_any (λ (first : Numbered). says_cached first.command) others) none in
    elim (can_obey (names_in first.command) (names_of s.views)) as (λ t. OneEffect (cond t (then_step r (walk o r.stage others)) (stay s))) [
      | true ↦
          let one = effect_plain o s (effect s first.command) (effect_sets s first.command parts.0 h) h in
          let rest = walk_plain o others r.stage parts.1 one.views in
          record { views = rest.views; begins = plain-append r.events (walk o r.stage others).events one.begins rest.begins }
      | false ↦ record { views = h; begins = tt }
    ]

pub none_cached : NoneCached
none_cached o commands none begin is =
    let all = walk o opening commands in
    let plain = walk_plain o commands opening none tt in
    let last = moves_plain (every (act_move acts.ClearAll)) (act_keeps acts.ClearAll) all.stage.begun all.stage.gathers [] all.stage.views plain.views in
    plain_in begin (trace o commands) (plain-append all.events (closing all.stage) plain.begins last.1) is
