-- What a reader of scripts holds, and what a call for the next command answers. This project's own.
use Rattle.std.specs.Prelude.{◌≡◌, ℕ, ◌≤◌, ◌<◌, ◌+◌, List, [], Some, None, IfSome, MatchOption, ⊤, Result, Ok, Err}
use Rattle.std.specs.declared.option.Option.{Option}
use Rattle.std.specs.Option.{option_map}
use Rattle.std.specs.Io.KnownBytes.{prepend_known}
use Rattle.script_lines.specs.declared.commands.Command.{Command}
use Rattle.script_lines.specs.declared.commands.ScriptFault.{ScriptFault}
use Rattle.script_lines.specs.declared.commands.ScriptFault.TheVariants.{Input, Bad, Memory}
use Rattle.script_lines.specs.Limits.{script_limit}
use Rattle.script_lines.specs.Script.{Numbered, Script, with_first, lines_within, script_from}

-- The bytes that a reader took from its input and did not give yet, how many bytes the script may have from
-- there on, how many lines it gave, and the number of the line that gave the last command.
pub record Reader : Type 0 where
  pub pending : List ℕ
  pub room : ℕ
  pub lines : ℕ
  pub line : ℕ

abbrev pub at_start : Reader
at_start = record { pending = []; room = script_limit; lines = 0; line = 0 }

-- what is still asked for, where the input tells what it has left
abbrev pub ahead : Reader → Option (List ℕ) → Option Script
ahead reader left =
    option_map (λ text. script_from reader.lines (lines_within reader.room text))
    (prepend_known reader.pending left)

-- no command and no bad line
abbrev pub no_more : Script
no_more = record { commands = []; bad = None }

-- a bad line with no command before it
abbrev pub bad_at : ℕ → Script
bad_at number = record { commands = []; bad = Some number }

-- The old script is this command and the new one, where they are known.
abbrev pub IsNext : Option Script → Numbered → Option Script → Type 0
IsNext None first new = ⊤
IsNext (Some old) first None = ⊥
IsNext (Some old) first (Some new) = old ≡ with_first first new

-- what a call for the next command answers, by what is asked for before it and after it
abbrev pub NextGives :
    Result (Option Command) ScriptFault → (line : ℕ) → (old new : Option Script) → Type 0
NextGives (Ok (Some command)) line old new = IsNext old (record { line = line; command = command }) new
NextGives (Ok None) line old new =
    IfSome old (λ script. script ≡ no_more) × IfSome new (λ script. script ≡ no_more)
NextGives (Err (Bad number)) line old new = IfSome old (λ script. script ≡ bad_at number)
NextGives (Err Input) line old new = ⊤
NextGives (Err Memory) line old new = ⊤

-- The number of the last command's line rises with each command, and only so.
abbrev pub LineRises : Option Command → (old new : ℕ) → Type 0
LineRises given old new = MatchOption given (new ≡ old) (λ command. old < new)

-- Each line that was given had a byte at least.
pub record IsWithin (reader : Reader) : Type 0 where
  pub last : reader.line ≤ reader.lines
  pub counted : reader.lines + reader.room ≤ script_limit
