-- The commands that lines ask for, line by line.
use Rattle.std.proofs.Common.{◌≡◌, ℕ, ◌+◌, List, ◌∷◌, Some, None, refl, ap, ◌∙◌, sym}
use Rattle.std.specs.Prelude.{⊤}
use Rattle.std.specs.declared.option.Option.{Option}
use Rattle.std.specs.Option.{option_map}
use Rattle.script_lines.specs.declared.commands.Command.{Command}
use Rattle.script_lines.specs.declared.commands.Line.{Line}
use Rattle.script_lines.specs.declared.commands.Line.TheVariants.{Says}
use Rattle.script_lines.specs.Script.{Script, lines_within, script_from, script_of}
use Rattle.script_lines.specs.Reading.{ahead, at_start, IsNext}
use Rattle.script_lines.specs.inside.Pieces.{Pieces, IsNextLine}

-- The same is asked for, where it is told.
abbrev pub StillAsks : Option Script → Option Script → Type 0
StillAsks None new = ⊤
StillAsks (Some old) None = ⊥
StillAsks (Some old) (Some new) = new ≡ old

pub opens : (left : Option (List ℕ)) → ahead at_start left ≡ option_map script_of left
unfolding script_of
opens None = refl
opens (Some left) = refl

-- a line that says a command
pub gave_command : (first : Option Script) (room less lines : ℕ) (text rest : Option (List ℕ)) (command : Command)
    → StillAsks first (option_map (λ t. script_from lines (lines_within room t)) text)
    → IsNextLine (option_map (lines_within room) text) (Says command) (option_map (lines_within less) rest)
    → IsNext first (record { line = lines + 1; command = command }) (option_map (λ t. script_from (lines + 1) (lines_within less t)) rest)
gave_command None room less lines text rest command same next = tt
gave_command (Some first) room less lines None rest command same next = absurd same
gave_command (Some first) room less lines (Some text) None command same next = absurd next
gave_command (Some first) room less lines (Some text) (Some rest) command same next = sym same ∙ ap (script_from lines) next
