-- How many begins a walk makes, and how many loads a caller made.
use Rattle.std.proofs.Common.{◌≡◌, ℕ, ◌+◌, List, [], ◌∷◌, ◌++◌, length, Some, None, Option, Ok, Err, Result, cond, true, false, refl, ap, sym, subst, ◌∙◌, arith}
use Rattle.std.specs.Prelude.{⊤, ◌==◌}
use Rattle.std.specs.Option.{option_len}
use Rattle.request_tracker.specs.declared.views.Act.TheVariants as acts
use Rattle.request_tracker.specs.declared.views.View.{View}
use Rattle.request_tracker.specs.declared.views.ViewState.{ViewState}
use Rattle.request_tracker.specs.declared.views.ViewState.TheVariants as states
use Rattle.request_tracker.specs.Table.{begins, acted, request}
use Rattle.request_tracker.specs.Moves.{Move, act_move}
use Rattle.load_cause.specs.declared.causes.Cause.{Cause}
use Rattle.script_lines.specs.declared.commands.Command.{Command}
use Rattle.script_lines.specs.declared.commands.Command.TheVariants.{Load, Layout, Clear, ClearAll, Pause, PauseAll, Resume, Trim, Wait, Show, Dump}
use Rattle.script_lines.specs.Script.{Numbered}
use Rattle.script_walk.specs.Walk.{Begin, WalkView, Outcome, Stage, Step, TraceEvent, Effect, Moves, Gathers, Trims, begin_by, held, all_held, dropped_by, moved_view, move_events, drop_events, begin_events, each_move, gather_events, gathered, print_events, effect, after_effect, step, stay, then_step, walk, names_of, names_in, can_obey, opening, every, closing, trace}
use Rattle.script_walk.specs.Marks.{begins_in}
use Rattle.state_machine.specs.declared.entry.Entry.{Entry}
use Rattle.state_machine.specs.Histories.{own}
use Rattle.engine_world.specs.declared.events.Event.{Event}
use Rattle.engine_world.specs.declared.events.Event.TheVariants as events
use Rattle.engine_world.specs.declared.events.NotedReply.{NotedReply}
use Rattle.engine_world.specs.declared.events.Note.{Note}
use Rattle.engine_world.specs.Knowledge.{Knowledge, updated, updated_by, knowledge_in, no_knowledge}
use Rattle.engine_shared.specs.Tokens.{HoldValue}
use Rattle.engine_views.specs.Closing.{AreReleases}
use Rattle.glide_run.proofs.Events.{made, made-append, gather_made, prints_made}

-- ---- begins of a walk

drops_made : (b : Option Begin) → made (drop_events b) ≡ 0
drops_made None = refl
drops_made (Some b) = refl

begins_made : (b : Option Begin) (others : List Begin) → made (begin_events b others) ≡ option_len b
begins_made None others = refl
begins_made (Some b) others = refl

moves_made : (moves : List ℕ → Move Cause) (k g : ℕ) (before : List Begin) (vs : List WalkView) → (each_move moves k g before vs).begun ≡ k + made (each_move moves k g before vs).events
moves_made moves k g before [] = omega arith
moves_made moves k g before (v ∷ vs) =
    let move = moves v.name in
    let begin = begin_by move (k + 1) g v in
    let others = before ++ all_held vs in
    let behind = before ++ held (moved_view move begin v) in
    let rest = each_move moves (k + option_len begin) g behind vs in
    omega (
      arith,
      moves_made moves (k + option_len begin) g behind vs,
      made-append (move_events move begin others v) rest.events,
      made-append (drop_events (dropped_by move v)) (begin_events begin others),
      drops_made (dropped_by move v),
      begins_made begin others,
    )

-- the stage whose views make the moves of an effect has made as many begins
abbrev StartsAt : Stage → Effect → Type 0
StartsAt s (Moves set moves) = set.begun ≡ s.begun
StartsAt s (Gathers form shown) = ⊤
StartsAt s (Trims level) = ⊤

effect_made : (o : Outcome) (s : Stage) (e : Effect) → StartsAt s e → (after_effect o s e).stage.begun ≡ s.begun + made (after_effect o s e).events
effect_made o s (Moves set moves) is = omega (arith, is, moves_made moves set.begun set.gathers [] set.views)
effect_made o s (Gathers form shown) is =
    let prints = print_events o form shown (gathered o s.views) in
    omega (arith, made-append (gather_events o s.views) prints, gather_made o s.views, prints_made o form shown (gathered o s.views))
effect_made o s (Trims level) is = omega arith

starts_at : (s : Stage) (command : Command) → StartsAt s (effect s command)
starts_at s (Load view spec sized) = refl
starts_at s (Layout view width height) = refl
starts_at s (Clear view) = refl
starts_at s ClearAll = refl
starts_at s Pause = refl
starts_at s PauseAll = refl
starts_at s Resume = refl
starts_at s (Trim level) = tt
starts_at s Wait = tt
starts_at s Show = tt
starts_at s (Dump view) = tt

walk_made : (o : Outcome) (s : Stage) (commands : List Numbered) → (walk o s commands).stage.begun ≡ s.begun + made (walk o s commands).events
walk_made o s [] = omega arith
walk_made o s (first ∷ others) =
    let done = step o s first.command in
    let rest = walk o done.stage others in
    elim (can_obey (names_in first.command) (names_of s.views)) as (λ t. (cond t (then_step done rest) (stay s)).stage.begun ≡ s.begun + made (cond t (then_step done rest) (stay s)).events) [
      | true ↦ omega (arith, effect_made o s (effect s first.command) (starts_at s first.command), walk_made o done.stage others, made-append done.events rest.events)
      | false ↦ omega arith
    ]

clear_turns : (view : View Cause) (state : ViewState Cause) → begins (acted acts.ClearAll state) view ≡ false
clear_turns view states.Cleared = refl
clear_turns view states.Waiting = refl
clear_turns view states.Running = refl
clear_turns view states.Complete = refl
clear_turns view (states.Failed cause) = refl
clear_turns view states.Paused = refl

clears_begin_none : (n g : ℕ) (v : WalkView) → option_len (begin_by (act_move acts.ClearAll) n g v) ≡ 0
clears_begin_none n g v = ap (λ t. option_len {A = Begin} (cond t (Some (record { number = n; gathers = g; view = v.name; spec = request v.view })) None)) (clear_turns v.view v.view.state)

clears_make_none : (k g : ℕ) (before : List Begin) (vs : List WalkView) → made (each_move (every (act_move acts.ClearAll)) k g before vs).events ≡ 0
clears_make_none k g before [] = refl
clears_make_none k g before (v ∷ vs) =
    let move : Move Cause = act_move acts.ClearAll in
    let begin = begin_by move (k + 1) g v in
    let others = before ++ all_held vs in
    let behind = before ++ held (moved_view move begin v) in
    let rest = each_move (every move) (k + option_len begin) g behind vs in
    omega (
      arith,
      made-append (move_events move begin others v) rest.events,
      made-append (drop_events (dropped_by move v)) (begin_events begin others),
      drops_made (dropped_by move v),
      begins_made begin others,
      clears_begin_none (k + 1) g v,
      clears_make_none (k + option_len begin) g behind vs,
    )

-- All begins of a trace are those of its walk.
pub trace_made : (o : Outcome) (commands : List Numbered) → (walk o opening commands).stage.begun ≡ length (begins_in (trace o commands))
trace_made o commands =
    let w = walk o opening commands in
    omega (arith, walk_made o opening commands, made-append w.events (closing w.stage), clears_make_none w.stage.begun w.stage.gathers [] w.stage.views)

-- ---- releases begin no load

own-append : (who : ℕ) (xs ys : List (Entry Note)) → own who (xs ++ ys) ≡ own who xs ++ own who ys
own-append who [] ys = refl
own-append who (e ∷ xs) ys = elim (e.by == who) as (λ t. cond t (e ∷ own who (xs ++ ys)) (own who (xs ++ ys)) ≡ cond t (e ∷ own who xs) (own who xs) ++ own who ys) [
  | true ↦ ap (λ l. e ∷ l) (own-append who xs ys)
  | false ↦ own-append who xs ys
]

updated-append : (known : Knowledge) (xs ys : List (Entry Note)) → updated_by known (xs ++ ys) ≡ updated_by (updated_by known xs) ys
updated-append known [] ys = refl
updated-append known (e ∷ xs) ys = updated-append (updated e.note.event e.note.reply known) xs ys

release_begins_none : (known : Knowledge) (event : Event) (reply : NotedReply) (n : ℕ) → event ≡ events.Release n → (updated event reply known).begun ≡ known.begun
release_begins_none known event reply n e = ap (λ x. (updated x reply known).begun) e

releases_begin_none : (who : ℕ) (known : Knowledge) (loads : List HoldValue) (es : List (Entry Note)) → AreReleases loads es → (updated_by known (own who es)).begun ≡ known.begun
releases_begin_none who known [] [] r = refl
releases_begin_none who known [] (e ∷ es) r = absurd r
releases_begin_none who known (load ∷ loads) [] r = absurd r
releases_begin_none who known (load ∷ loads) (e ∷ es) r = elim (e.by == who) as (λ t. (updated_by known (cond t (e ∷ own who es) (own who es))).begun ≡ known.begun) [
  | true ↦ releases_begin_none who (updated e.note.event e.note.reply known) loads es r.2 ∙ release_begins_none known e.note.event e.note.reply load.number r.1
  | false ↦ releases_begin_none who known loads es r.2
]

pub begun_stays : (who : ℕ) (seen later : List (Entry Note)) (loads : List HoldValue) → AreReleases loads later → (knowledge_in (seen ++ later) who).begun ≡ (knowledge_in seen who).begun
begun_stays who seen later loads r =
    ap (λ l. (updated_by no_knowledge l).begun) (own-append who seen later) ∙ ap (λ k. k.begun) (updated-append no_knowledge (own who seen) (own who later))
    ∙ releases_begin_none who (updated_by no_knowledge (own who seen)) loads later r
