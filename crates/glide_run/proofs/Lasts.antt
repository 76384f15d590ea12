-- The last begins of the views of a walk, by its begins so far.
use Rattle.std.proofs.Common.{◌≡◌, ◌≢◌, ℕ, ◌+◌, Bool, true, false, cond, List, [], ◌∷◌, ◌++◌, Some, None, Ok, Err, Option, refl, ap, sym, subst, ◌∙◌, true≢false}
use Rattle.std.specs.Prelude.{⊤, slice_get, suc, zero}
use Rattle.std.specs.Option.{option_or, option_len}
use Rattle.std.specs.Str.{bytes_eq}
use Rattle.std.proofs.lemmas.Option.{none-some}
use Rattle.load_cause.specs.declared.causes.Cause.{Cause}
use Rattle.request_tracker.specs.declared.views.Ask.{Ask}
use Rattle.request_tracker.specs.declared.views.Act.TheVariants as acts
use Rattle.request_tracker.specs.Table.{begins, request}
use Rattle.request_tracker.specs.Moves.{Move, new_view}
use Rattle.script_lines.specs.declared.commands.Command.{Command}
use Rattle.script_lines.specs.declared.commands.Command.TheVariants.{Load, Layout, Clear, ClearAll, Pause, PauseAll, Resume, Trim, Wait, Show, Dump}
use Rattle.script_walk.specs.Walk.{Begin, WalkView, Outcome, Stage, TraceEvent, Dropped, Begun, Ended, Trimmed, Printed, Effect, Moves, Gathers, Trims, names_of, has_name, begin_by, dropped_by, moved_view, move_events, drop_events, begin_events, each_move, held, all_held, running, end_events, view_ends, gather_events, gathered, print_events, with_view, effect, after_effect, step}
use Rattle.script_walk.specs.Tracked.{AreDistinct, TrackerMakesTheMoves}
use Rattle.fetch_bounds.specs.Follows.{last_of}
use Rattle.fetch_bounds.specs.Parts.{begins_after}
use Rattle.glide_run.specs.inside.Prints.{IsLastIn, AreLastIn}
use Rattle.glide_run.specs.inside.Running.{last_in, KnowLast}
use Rattle.glide_run.proofs.Printing.{has_here, has_next, has_at, same_name, own_name}
use Rattle.glide_run.proofs.Views.{after_prints}

-- ---- begins after events

pub after-append : (begun : List Begin) (xs ys : List TraceEvent) → begins_after begun (xs ++ ys) ≡ begins_after (begins_after begun xs) ys
after-append begun [] ys = refl
after-append begun (Begun b others ∷ xs) ys = after-append (b ∷ begun) xs ys
after-append begun (Dropped b ∷ xs) ys = after-append begun xs ys
after-append begun (Ended b result ∷ xs) ys = after-append begun xs ys
after-append begun (Trimmed level ∷ xs) ys = after-append begun xs ys
after-append begun (Printed line ∷ xs) ys = after-append begun xs ys

came_after : (begun : List Begin) (o : Outcome) (last : Option Begin) (ys : List TraceEvent) → begins_after begun (view_ends o last ++ ys) ≡ begins_after begun ys
came_after begun o None ys = refl
came_after begun o (Some b) ys = elim (o b) as (λ r. begins_after begun (end_events b r ++ ys) ≡ begins_after begun ys) [ Ok picture ↦ refl | Err cause ↦ refl ]

pub after_gather : (begun : List Begin) (o : Outcome) (vs : List WalkView) → begins_after begun (gather_events o vs) ≡ begun
after_gather begun o [] = refl
after_gather begun o (v ∷ vs) = came_after begun o (running v) (gather_events o vs) ∙ after_gather begun o vs

-- ---- moves

-- the begins with one more, if there is one
abbrev with_begin : Option Begin → List Begin → List Begin
with_begin None begun = begun
with_begin (Some b) begun = b ∷ begun

begun_after : (begun : List Begin) (begin : Option Begin) (others : List Begin) → begins_after begun (begin_events begin others) ≡ with_begin begin begun
begun_after begun None others = refl
begun_after begun (Some b) others = refl

move_after : (begun : List Begin) (dropped begin : Option Begin) (others : List Begin) → begins_after begun (drop_events dropped ++ begin_events begin others) ≡ with_begin begin begun
move_after begun None begin others = begun_after begun begin others
move_after begun (Some b) begin others = begun_after begun begin others

same_either : {A : Type 0} (b : Bool) (x : A) → x ≡ cond b x x
same_either true x = refl
same_either false x = refl

-- the last begin of a name, where a view makes a move
last_by : (move : Move Cause) (n g : ℕ) (v : WalkView) (name : List ℕ) (begun : List Begin)
    → last_of name (with_begin (begin_by move n g v) begun) ≡ cond (bytes_eq v.name name) (option_or (begin_by move n g v) (last_of name begun)) (last_of name begun)
last_by move n g v name begun =
    let set = move.sets v.view in
    let b : Begin = record { number = n; gathers = g; view = v.name; spec = request set } in
    elim (begins (move.turn v.view.state) set) as (λ t. last_of name (with_begin (cond t (Some b) None) begun) ≡ cond (bytes_eq v.name name) (option_or (cond t (Some b) None) (last_of name begun)) (last_of name begun)) [
      | true ↦ refl
      | false ↦ same_either (bytes_eq v.name name) (last_of name begun)
    ]

-- No view has this name.
abbrev Absent : List ℕ → List WalkView → Type 0
Absent name [] = ⊤
Absent name (v ∷ vs) = (bytes_eq v.name name ≡ false) × Absent name vs

is_apart : (a b : List ℕ) → (a ≡ b → ⊥) → bytes_eq a b ≡ false
is_apart a b other = elim (bytes_eq a b) as (λ t. bytes_eq a b ≡ t → t ≡ false) [ true ↦ λ e. absurd (other (same_name a b e)) | false ↦ λ e. refl ] refl

absent : (name : List ℕ) (vs : List WalkView) → has_name name (names_of vs) ≡ false → Absent name vs
absent name [] none = tt
absent name (v ∷ vs) none =
    let other : name ≡ v.name → ⊥ = λ e. true≢false (sym (has_here name v.name (names_of vs) (ap (bytes_eq name) (sym e) ∙ own_name name)) ∙ none) in
    (is_apart v.name name (λ e. other (sym e)), absent name vs (sym (has_next name v.name (names_of vs) (is_apart name v.name other)) ∙ none))

module _ (moves : List ℕ → Move Cause) (g : ℕ) where
  -- what the rest of the views leave
  rest_after : (k : ℕ) (before : List Begin) (v : WalkView) (vs : List WalkView) (begun : List Begin)
      → begins_after begun (each_move moves k g before (v ∷ vs)).events
      ≡ begins_after (with_begin (begin_by (moves v.name) (k + 1) g v) begun)
      (each_move moves (k + option_len (begin_by (moves v.name) (k + 1) g v)) g (before ++ held (moved_view (moves v.name) (begin_by (moves v.name) (k + 1) g v) v)) vs).events
  rest_after k before v vs begun =
      let move = moves v.name in
      let begin = begin_by move (k + 1) g v in
      let others = before ++ all_held vs in
      let rest = (each_move moves (k + option_len begin) g (before ++ held (moved_view move begin v)) vs).events in
      after-append begun (move_events move begin others v) rest ∙ ap (λ b. begins_after b rest) (move_after begun (dropped_by move v) begin others)

  -- Moves of other views leave the last begin of a name.
  others_leave : (k : ℕ) (before : List Begin) (vs : List WalkView) (begun : List Begin) (name : List ℕ) → Absent name vs → last_of name (begins_after begun (each_move moves k g before vs).events) ≡ last_of name begun
  others_leave k before [] begun name none = refl
  others_leave k before (v ∷ vs) begun name none =
      let begin = begin_by (moves v.name) (k + 1) g v in
      ap (last_of name) (rest_after k before v vs begun)
      ∙ others_leave (k + option_len begin) (before ++ held (moved_view (moves v.name) begin v)) vs (with_begin begin begun) name none.1
      ∙ last_by (moves v.name) (k + 1) g v name begun ∙ ap (λ t. cond t (option_or begin (last_of name begun)) (last_of name begun)) none.0

  pub moves_know : (k : ℕ) (before : List Begin) (vs : List WalkView) (begun : List Begin) (name : List ℕ) → AreDistinct (names_of vs) → last_of name begun ≡ last_in name vs
      → last_of name (begins_after begun (each_move moves k g before vs).events) ≡ last_in name (each_move moves k g before vs).views
  moves_know k before [] begun name distinct known = known
  moves_know k before (v ∷ vs) begun name distinct known =
      let begin = begin_by (moves v.name) (k + 1) g v in
      let behind = before ++ held (moved_view (moves v.name) begin v) in
      let views = (each_move moves (k + option_len begin) g behind vs).views in
      let by = last_by (moves v.name) (k + 1) g v name begun in
      elim (bytes_eq v.name name) as (λ t. bytes_eq v.name name ≡ t → last_of name (begins_after begun (each_move moves k g before (v ∷ vs)).events) ≡ cond t (option_or begin v.last) (last_in name views)) [
        | true ↦ λ e.
            let none : Absent name vs = subst (λ n. Absent n vs) (same_name v.name name e) (absent v.name vs distinct.0) in
            ap (last_of name) (rest_after k before v vs begun)
            ∙ others_leave (k + option_len begin) behind vs (with_begin begin begun) name none
            ∙ by ∙ ap (λ t. cond t (option_or begin (last_of name begun)) (last_of name begun)) e
            ∙ ap (option_or begin) (known ∙ ap (λ t. cond t v.last (last_in name vs)) e)
        | false ↦ λ e.
            ap (last_of name) (rest_after k before v vs begun)
            ∙ moves_know (k + option_len begin) behind vs (with_begin begin begun) name distinct.1
            (by ∙ ap (λ t. cond t (option_or begin (last_of name begun)) (last_of name begun)) e ∙ known ∙ ap (λ t. cond t v.last (last_in name vs)) e)
      ] refl

moved_names : (moves : List ℕ → Move Cause) (k g : ℕ) (before : List Begin) (vs : List WalkView) → names_of (each_move moves k g before vs).views ≡ names_of vs
moved_names moves k g before [] = refl
moved_names moves k g before (v ∷ vs) =
    let begin = begin_by (moves v.name) (k + 1) g v in
    ap (λ l. v.name ∷ l) (moved_names moves (k + option_len begin) g (before ++ held (moved_view (moves v.name) begin v)) vs)

-- ---- gathers

gathered_last : (o : Outcome) (name : List ℕ) (vs : List WalkView) → last_in name (gathered o vs) ≡ last_in name vs
gathered_last o name [] = refl
gathered_last o name (v ∷ vs) = ap (cond (bytes_eq v.name name) v.last) (gathered_last o name vs)

-- ---- a new view

new_last : (name : List ℕ) (vs : List WalkView) (w : WalkView) → w.last ≡ None → last_in name (vs ++ w ∷ []) ≡ last_in name vs
new_last name [] w none = elim (bytes_eq w.name name) as (λ t. cond t w.last None ≡ None) [ true ↦ none | false ↦ refl ]
new_last name (v ∷ vs) w none = ap (cond (bytes_eq v.name name) v.last) (new_last name vs w none)

with_view_last : (name view : List ℕ) (ask : Ask) (s : Stage) → last_in name (with_view view ask s).views ≡ last_in name s.views
with_view_last name view ask s =
    let w : WalkView = record { name = view; view = new_view ask; last = None } in
    elim (has_name view (names_of s.views)) as (λ t. last_in name (cond t s.views (s.views ++ w ∷ [])) ≡ last_in name s.views) [ true ↦ refl | false ↦ new_last name s.views w refl ]

-- ---- a command

-- the stage whose views make the moves of an effect
abbrev set_of : Stage → Effect → Stage
set_of s (Moves set moves) = set
set_of s (Gathers form shown) = s
set_of s (Trims level) = s

effect_knows : (o : Outcome) (s : Stage) (begun : List Begin) (e : Effect) → AreDistinct (names_of (after_effect o s e).stage.views) → KnowLast begun (set_of s e).views
    → KnowLast (begins_after begun (after_effect o s e).events) (after_effect o s e).stage.views
effect_knows o s begun (Moves set moves) distinct known name =
    moves_know moves set.gathers set.begun [] set.views begun name (subst AreDistinct (moved_names moves set.begun set.gathers [] set.views) distinct) (known name)
effect_knows o s begun (Gathers form shown) distinct known name =
    let prints = print_events o form shown (gathered o s.views) in
    ap (last_of name) (after-append begun (gather_events o s.views) prints ∙ after_prints (begins_after begun (gather_events o s.views)) o form shown (gathered o s.views) ∙ after_gather begun o s.views)
    ∙ known name ∙ sym (gathered_last o name s.views)
effect_knows o s begun (Trims level) distinct known name = known name

set_knows : (s : Stage) (begun : List Begin) (command : Command) → KnowLast begun s.views → KnowLast begun (set_of s (effect s command)).views
set_knows s begun (Load view spec sized) known = λ name. known name ∙ sym (with_view_last name view (record { spec = spec; sized = sized }) s)
set_knows s begun (Layout view width height) known = known
set_knows s begun (Clear view) known = known
set_knows s begun ClearAll known = known
set_knows s begun Pause known = known
set_knows s begun PauseAll known = known
set_knows s begun Resume known = known
set_knows s begun (Trim level) known = known
set_knows s begun Wait known = known
set_knows s begun Show known = known
set_knows s begun (Dump view) known = known

-- Through each command the last begins are known.
pub step_knows : TrackerMakesTheMoves → (o : Outcome) (s : Stage) (begun : List Begin) (command : Command) → AreDistinct (names_of s.views) → KnowLast begun s.views
    → KnowLast (begins_after begun (step o s command).events) (step o s command).stage.views
step_knows law o s begun command distinct known = effect_knows o s begun (effect s command) ((law o s distinct).distinct command) (set_knows s begun command known)

-- ---- the last begin of each view

-- Those of some views are known, among which these are.
lasts : (begun : List Begin) (vs : List WalkView) → AreDistinct (names_of vs) → ((place : ℕ) (v : WalkView) → slice_get vs place ≡ Some v → last_of v.name begun ≡ last_in v.name vs) → AreLastIn begun vs
lasts begun [] distinct known = tt
lasts begun (v ∷ vs) distinct known = (
  known 0 v refl ∙ ap (λ t. cond t v.last (last_in v.name vs)) (own_name v.name),
  lasts begun vs distinct.1 (λ place w at.
      let other : v.name ≡ w.name → ⊥ = λ e. true≢false (sym (has_at vs place w at) ∙ ap (λ n. has_name n (names_of vs)) (sym e) ∙ distinct.0) in
      known (suc place) w at ∙ ap (λ t. cond t v.last (last_in w.name vs)) (is_apart v.name w.name other)),
)

pub are_last : (begun : List Begin) (vs : List WalkView) → AreDistinct (names_of vs) → KnowLast begun vs → AreLastIn begun vs
are_last begun vs distinct known = lasts begun vs distinct (λ place v at. known v.name)

pub gathered_lasts : (begun : List Begin) (o : Outcome) (vs : List WalkView) → AreLastIn begun vs → AreLastIn begun (gathered o vs)
gathered_lasts begun o [] known = tt
gathered_lasts begun o (v ∷ vs) known = (known.0, gathered_lasts begun o vs known.1)
