-- A script: its lines, and its commands up to the first bad line. This project's own.
use Rattle.std.specs.Prelude.{ℕ, ◌+◌, ◌==◌, nat_le, List, [], ◌∷◌, ◌++◌, length, take, map, if◌then◌else◌, Some, None}
use Rattle.std.specs.declared.option.Option.{Option}
use Rattle.script_lines.specs.declared.commands.Command.{Command}
use Rattle.script_lines.specs.declared.commands.Line.{Line}
use Rattle.script_lines.specs.declared.commands.Line.TheVariants.{Empty, Unreadable, Says}
use Rattle.script_lines.specs.Limits.{script_limit}
use Rattle.script_lines.specs.Commands.{line_of}

-- ---- lines of a text

-- a byte before the first of the lines, if there is one
abbrev pub onto_first : ℕ → List (List ℕ) → List (List ℕ)
onto_first byte [] = []
onto_first byte (line ∷ lines) = (byte ∷ line) ∷ lines

-- a byte before the first of the lines, or in a line of its own
abbrev pub onto_line : ℕ → List (List ℕ) → List (List ℕ)
onto_line byte [] = (byte ∷ []) ∷ []
onto_line byte (line ∷ lines) = (byte ∷ line) ∷ lines

-- the lines that a line feed ends
abbrev pub ended_lines : List ℕ → List (List ℕ)
ended_lines [] = []
ended_lines (byte ∷ text) =
    if byte == 10 then [] ∷ ended_lines text else onto_first byte (ended_lines text)

-- all lines, of which the last may lack its line feed
abbrev pub lines_of : List ℕ → List (List ℕ)
lines_of [] = []
lines_of (byte ∷ text) = if byte == 10 then [] ∷ lines_of text else onto_line byte (lines_of text)

-- What the lines of a text say that may have so many bytes. In a longer text the line that holds the byte
-- after them is bad.
abbrev pub lines_within : ℕ → List ℕ → List Line
lines_within room text =
    if nat_le (length text) room then map line_of (lines_of text)
    else map line_of (ended_lines (take room text)) ++ Unreadable ∷ []

-- ---- commands of lines

-- a command, and the number of its line, from 1
pub record Numbered : Type 0 where
  pub line : ℕ
  pub command : Command

-- What a script asks for: its commands up to the first bad line, and the number of this line, if there is
-- one.
pub record Script : Type 0 where
  pub commands : List Numbered
  pub bad : Option ℕ

-- a command before those of a script
abbrev pub with_first : Numbered → Script → Script
with_first first script = record { commands = first ∷ script.commands; bad = script.bad }

-- what lines ask for, with so many lines before them: lines that say nothing count, and ask for nothing
abbrev pub script_from : ℕ → List Line → Script
script_from before [] = record { commands = []; bad = None }
script_from before (Empty ∷ lines) = script_from (before + 1) lines
script_from before (Unreadable ∷ lines) = record { commands = []; bad = Some (before + 1) }
script_from before (Says command ∷ lines) =
    with_first (record { line = before + 1; command = command }) (script_from (before + 1) lines)

-- what a text asks for, which may have 1,048,576 bytes
unfoldable pub script_of : List ℕ → Script
script_of text = script_from 0 (lines_within script_limit text)
