-- What a walk prints, its first bad line, and its exit status. This project's own.
use Rattle.std.specs.Prelude.{ℕ, List, [], ◌∷◌, ◌++◌, if◌then◌else◌, Some, None}
use Rattle.std.specs.declared.option.Option.{Option}
use Rattle.std.specs.List.{list_any}
use Rattle.std.specs.Option.{option_or}
use Rattle.script_lines.specs.Script.{Numbered, Script}
use Rattle.printed_lines.specs.Printed.{PrintedLine, says_failed, run_text}
use Rattle.script_walk.specs.Walk.{Outcome, TraceEvent, Printed, Names, NoView, Known, Made, has_name, names_in, can_obey, trace}

-- the lines that are printed
abbrev pub lines_in : List TraceEvent → List PrintedLine
lines_in [] = []
lines_in (Printed line ∷ events) = line ∷ lines_in events
lines_in (event ∷ events) = lines_in events

-- ---- the first bad line, which does not depend on content

-- the views' names with this one, which comes last where it is new
abbrev pub with_name : List ℕ → List (List ℕ) → List (List ℕ)
with_name name names = if has_name name names then names else names ++ name ∷ []

-- the names after a command that names this
abbrev pub names_after : Names → List (List ℕ) → List (List ℕ)
names_after NoView names = names
names_after (Known view) names = names
names_after (Made view) names = with_name view names

-- The line of the first command that cannot be obeyed, since it names a view that was never loaded, or makes a 4,097th one.
-- The views before it have these names.
abbrev pub bad_command_from : List (List ℕ) → List Numbered → Option ℕ
bad_command_from names [] = None
bad_command_from names (first ∷ others) =
    let named = names_in first.command in
    if can_obey named names then bad_command_from (names_after named names) others else Some first.line

abbrev pub bad_command : List Numbered → Option ℕ
bad_command commands = bad_command_from [] commands

-- the number of the first bad line: that of such a command, or else one that asks for nothing that is known
abbrev pub bad_line : Script → Option ℕ
bad_line script = option_or (bad_command script.commands) script.bad

-- ---- what a run comes to

-- all that a run of the script prints
abbrev pub output : Outcome → Script → List ℕ
output outcome script = run_text (lines_in (trace outcome script.commands)) (bad_line script)

-- The exit status of a run that is not cut short: 3 for a bad line, 1 where a printed line says failed, and else 0.
abbrev pub status_of : List PrintedLine → Option ℕ → ℕ
status_of printed None = if list_any says_failed printed then 1 else 0
status_of printed (Some number) = 3

abbrev pub exit_status : Outcome → Script → ℕ
exit_status outcome script = status_of (lines_in (trace outcome script.commands)) (bad_line script)
