-- The walk of a script: what a plain reading of its commands does to the views, as one fold that leaves a trace. There is no
-- engine, no source and no memory in it. This project's own, as the script is; the views' moves are the tracker's.
use Rattle.std.specs.Prelude.{ℕ, ◌+◌, Bool, true, false, nat_lt, ◌||◌, List, [], ◌∷◌, ◌++◌, length, map, position, if◌then◌else◌, Some, None, Ok, Err, Result}
use Rattle.std.specs.declared.option.Option.{Option}
use Rattle.std.specs.Option.{is_some, option_or, option_map, option_len, option_to_list}
use Rattle.std.specs.Result.{result_err}
use Rattle.std.specs.Str.{bytes_eq}
use Rattle.bitmap_kind.specs.Picture.{Picture}
use Rattle.cache_key.specs.declared.load_spec.LoadSpec.{LoadSpec}
use Rattle.request_tracker.specs.declared.turns.Turn.TheVariants.{Stays}
use Rattle.request_tracker.specs.declared.views.Act.TheVariants as acts
use Rattle.request_tracker.specs.declared.views.Ask.{Ask}
use Rattle.request_tracker.specs.declared.views.View.{View}
use Rattle.request_tracker.specs.declared.views.ViewState.{ViewState}
use Rattle.request_tracker.specs.declared.views.ViewState.TheVariants.{Cleared, Waiting, Running, Complete, Failed, Paused}
use Rattle.request_tracker.specs.Limits.{views_limit}
use Rattle.request_tracker.specs.Table.{has_hold, drops, begins, request, collected}
use Rattle.request_tracker.specs.Moves.{Move, moved, load_move, layout_move, clear_move, act_move, new_view}
use Rattle.load_cause.specs.declared.causes.Cause.{Cause}
use Rattle.script_lines.specs.declared.commands.Command.{Command}
use Rattle.script_lines.specs.declared.commands.Command.TheVariants.{Load, Layout, Clear, ClearAll, Pause, PauseAll, Resume, Trim, Wait, Show, Dump}
use Rattle.script_lines.specs.Script.{Numbered}
use Rattle.printed_lines.specs.Printed.{PrintedLine, PixelsLine, ShownLine, FailedLine, WaitingLine, PausedLine, ClearedLine}

-- ---- begins and what they come to

-- A begin is a load that a view's request makes. Begins are numbered from 1, and each tells how many gathers were before it.
pub record Begin : Type 0 where
  pub number : ℕ
  pub gathers : ℕ
  pub view : List ℕ
  pub spec : LoadSpec

-- what each begin comes to: its picture, or why it failed
abbrev pub Outcome : Type 0
Outcome = Begin → Result Picture Cause

-- What happens in a walk: a view's hold is dropped; a view begins, while the other views hold these; a gather brings a begin
-- to its end; memory is trimmed; a line is printed.
pub data TraceEvent : Type 0 where
  Dropped : (begin : Begin) → TraceEvent
  Begun : (begin : Begin) (others : List Begin) → TraceEvent
  Ended : (begin : Begin) (result : Result Picture Cause) → TraceEvent
  Trimmed : (level : ℕ) → TraceEvent
  Printed : (line : PrintedLine) → TraceEvent

-- ---- where a walk stands

-- a view of the tracker with its name, and the last begin of its request, if it had one
pub record WalkView : Type 0 where
  pub name : List ℕ
  pub view : View Cause
  pub last : Option Begin

-- the views in order of first load, how many begins and gathers there were, and whether loads are paused
pub record Stage : Type 0 where
  pub views : List WalkView
  pub begun : ℕ
  pub gathers : ℕ
  pub paused : Bool

abbrev pub opening : Stage
opening = record { views = []; begun = 0; gathers = 0; paused = false }

-- what a view holds: its last begin, where it runs or is complete
abbrev pub hold : WalkView → Option Begin
hold v = if has_hold v.view.state then v.last else None

abbrev pub held : WalkView → List Begin
held v = option_to_list (hold v)

abbrev pub all_held : List WalkView → List Begin
all_held [] = []
all_held (v ∷ vs) = held v ++ all_held vs

-- ---- moves of the views

-- the begin that a move of a view makes, if it makes one
abbrev pub begin_by : Move Cause → (number gathers : ℕ) → WalkView → Option Begin
begin_by move number gathers v =
    let set = move.sets v.view in
    if begins (move.turn v.view.state) set
    then Some (record { number = number; gathers = gathers; view = v.name; spec = request set }) else None

-- what a move drops
abbrev pub dropped_by : Move Cause → WalkView → Option Begin
dropped_by move v = if drops (move.turn v.view.state) v.view.state then v.last else None

abbrev pub moved_view : Move Cause → Option Begin → WalkView → WalkView
moved_view move begin v = record { name = v.name; view = moved move v.view; last = option_or begin v.last }

abbrev pub drop_events : Option Begin → List TraceEvent
drop_events None = []
drop_events (Some begin) = Dropped begin ∷ []

abbrev pub begin_events : Option Begin → List Begin → List TraceEvent
begin_events None others = []
begin_events (Some begin) others = Begun begin others ∷ []

-- A view drops its hold first, and then begins, where the tracker so orders.
abbrev pub move_events : Move Cause → Option Begin → (others : List Begin) → WalkView → List TraceEvent
move_events move begin others v = drop_events (dropped_by move v) ++ begin_events begin others

-- the views after moves, how many begins there were by then, and what happened
pub record Moved : Type 0 where
  pub views : List WalkView
  pub begun : ℕ
  pub events : List TraceEvent

-- Each view in order makes the move of its name. `before` is what the views before these hold.
abbrev pub each_move : (List ℕ → Move Cause) → (begun gathers : ℕ) → (before : List Begin)
    → List WalkView → Moved
each_move moves begun gathers before [] = record { views = []; begun = begun; events = [] }
each_move moves begun gathers before (v ∷ vs) =
    let begin = begin_by (moves v.name) (begun + 1) gathers v in
    let new = moved_view (moves v.name) begin v in
    let rest = each_move moves (begun + option_len begin) gathers (before ++ held new) vs in
    record {
      views = new ∷ rest.views;
      begun = rest.begun;
      events = move_events (moves v.name) begin (before ++ all_held vs) v ++ rest.events;
    }

-- a view stays as it is
abbrev pub no_move : Move Cause
no_move = record { sets = λ view. view; turn = λ state. Stays }

-- the move of the view of this name alone
abbrev pub only : List ℕ → Move Cause → List ℕ → Move Cause
only name move other = if bytes_eq name other then move else no_move

-- the move of all views
abbrev pub every : Move Cause → List ℕ → Move Cause
every move name = move

-- ---- a gather

abbrev pub running_in : ViewState Cause → Option Begin → Option Begin
running_in Running last = last
running_in state last = None

-- the begin of a view that runs
abbrev pub running : WalkView → Option Begin
running v = running_in v.view.state v.last

-- a view whose begin came to this, if one did
abbrev pub ended : Option (Result Picture Cause) → View Cause → View Cause
ended None view = view
ended (Some result) view = record view { state = collected (result_err result) view.state }

abbrev pub gathered_view : Outcome → WalkView → WalkView
gathered_view outcome v = record v { view = ended (option_map outcome (running v)) v.view }

abbrev pub gathered : Outcome → List WalkView → List WalkView
gathered outcome views = map (gathered_view outcome) views

-- a begin that comes to its end, where the hold of one that failed is dropped
abbrev pub end_events : Begin → Result Picture Cause → List TraceEvent
end_events begin (Ok picture) = Ended begin (Ok picture) ∷ []
end_events begin (Err cause) = Ended begin (Err cause) ∷ Dropped begin ∷ []

abbrev pub view_ends : Outcome → Option Begin → List TraceEvent
view_ends outcome None = []
view_ends outcome (Some begin) = end_events begin (outcome begin)

abbrev pub gather_events : Outcome → List WalkView → List TraceEvent
gather_events outcome [] = []
gather_events outcome (v ∷ vs) = view_ends outcome (running v) ++ gather_events outcome vs

-- ---- printed lines

-- how a line shows a picture: by its pixels, as `dump` prints them, or by its size, config and digest, as `show` does
pub data Form : Type 0 where
  Pixels : Form
  Digest : Form

abbrev pub picture_line : Form → List ℕ → Picture → PrintedLine
picture_line Pixels name picture = PixelsLine name picture
picture_line Digest name picture = ShownLine name picture

abbrev pub result_line : Form → List ℕ → Result Picture Cause → PrintedLine
result_line form name (Ok picture) = picture_line form name picture
result_line form name (Err cause) = FailedLine name cause

-- a view's line, by its state and its last begin; a view that runs has none, and each command that prints gathers first
abbrev pub state_line : Outcome → Form → List ℕ → ViewState Cause → Option Begin → Option PrintedLine
state_line outcome form name Cleared last = Some (ClearedLine name)
state_line outcome form name Waiting last = Some (WaitingLine name)
state_line outcome form name Running last = None
state_line outcome form name Complete last = option_map (λ begin. result_line form name (outcome begin)) last
state_line outcome form name (Failed cause) last = Some (FailedLine name cause)
state_line outcome form name Paused last = Some (PausedLine name)

abbrev pub view_line : Outcome → Form → WalkView → Option PrintedLine
view_line outcome form v = state_line outcome form v.name v.view.state v.last

abbrev pub printed : Option PrintedLine → List TraceEvent
printed None = []
printed (Some line) = Printed line ∷ []

-- the lines of the views of which this name is shown
abbrev pub print_events : Outcome → Form → (List ℕ → Bool) → List WalkView → List TraceEvent
print_events outcome form shown [] = []
print_events outcome form shown (v ∷ vs) =
    (if shown v.name then printed (view_line outcome form v) else []) ++ print_events outcome form shown vs

-- ---- views by name

abbrev pub names_of : List WalkView → List (List ℕ)
names_of views = map (λ v. v.name) views

abbrev pub has_name : List ℕ → List (List ℕ) → Bool
has_name name names = is_some (position (bytes_eq name) names)

-- What a command names: no view, one that is there, or one that it makes where it is new.
pub data Names : Type 0 where
  NoView : Names
  Known : (view : List ℕ) → Names
  Made : (view : List ℕ) → Names

abbrev pub names_in : Command → Names
names_in (Load view spec sized) = Made view
names_in (Layout view width height) = Known view
names_in (Clear view) = Known view
names_in (Dump view) = Known view
names_in command = NoView

-- A command can be obeyed where its view is known, or where a new one is within the limit.
abbrev pub can_obey : Names → List (List ℕ) → Bool
can_obey NoView names = true
can_obey (Known view) names = has_name view names
can_obey (Made view) names = has_name view names || nat_lt (length names) views_limit

-- ---- one command

-- What a command does: the views move, once this stage is set; or all begins that run are gathered, and some views printed;
-- or memory is trimmed.
pub data Effect : Type 0 where
  Moves : (set : Stage) (moves : List ℕ → Move Cause) → Effect
  Gathers : (form : Form) (shown : List ℕ → Bool) → Effect
  Trims : (level : ℕ) → Effect

-- a stage with this view, which comes last where it is new
abbrev pub with_view : List ℕ → Ask → Stage → Stage
with_view name ask s = record s {
  views = if has_name name (names_of s.views) then s.views
      else s.views ++ record { name = name; view = new_view ask; last = None } ∷ [];
}

-- a load of this in this view, of a size or of none
abbrev pub load_effect : List ℕ → Ask → Stage → Effect
load_effect view ask s = Moves (with_view view ask s) (only view (load_move s.paused ask))

abbrev pub effect : Stage → Command → Effect
effect s (Load view spec sized) = load_effect view (record { spec = spec; sized = sized }) s
effect s (Layout view width height) = Moves s (only view (layout_move width height))
effect s (Clear view) = Moves s (only view clear_move)
effect s ClearAll = Moves s (every (act_move acts.ClearAll))
effect s Pause = Moves (record s { paused = true }) (every (act_move acts.Pause))
effect s PauseAll = Moves (record s { paused = true }) (every (act_move acts.PauseAll))
effect s Resume = Moves (record s { paused = false }) (every (act_move acts.Resume))
effect s (Trim level) = Trims level
effect s Wait = Gathers Digest (λ name. false)
effect s Show = Gathers Digest (λ name. true)
effect s (Dump view) = Gathers Pixels (bytes_eq view)

-- the stage after a command, and what happened
pub record Step : Type 0 where
  pub stage : Stage
  pub events : List TraceEvent

abbrev pub after_moves : Stage → Moved → Step
after_moves s moved = record {
  stage = record s { views = moved.views; begun = moved.begun };
  events = moved.events;
}

abbrev pub after_effect : Outcome → Stage → Effect → Step
after_effect outcome s (Moves set moves) =
    after_moves set (each_move moves set.begun set.gathers [] set.views)
after_effect outcome s (Gathers form shown) = record {
  stage = record s { views = gathered outcome s.views; gathers = s.gathers + 1 };
  events = gather_events outcome s.views ++ print_events outcome form shown (gathered outcome s.views);
}
after_effect outcome s (Trims level) = record { stage = s; events = Trimmed level ∷ [] }

abbrev pub step : Outcome → Stage → Command → Step
step outcome s command = after_effect outcome s (effect s command)

-- ---- a script

-- at the end all views are cleared
abbrev pub closing : Stage → List TraceEvent
closing s = (each_move (every (act_move acts.ClearAll)) s.begun s.gathers [] s.views).events

-- nothing more
abbrev pub stay : Stage → Step
stay s = record { stage = s; events = [] }

abbrev pub then_step : Step → Step → Step
then_step first second = record { stage = second.stage; events = first.events ++ second.events }

-- what these commands do from a stage on, up to the first that cannot be obeyed
abbrev pub walk : Outcome → Stage → List Numbered → Step
walk outcome s [] = stay s
walk outcome s (first ∷ others) =
    if can_obey (names_in first.command) (names_of s.views)
    then (let done = step outcome s first.command in then_step done (walk outcome done.stage others))
    else stay s

-- all that happens where a script has these commands
abbrev pub trace : Outcome → List Numbered → List TraceEvent
trace outcome commands = let all = walk outcome opening commands in all.events ++ closing all.stage
