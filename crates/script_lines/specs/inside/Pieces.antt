-- A reader of lines, which stands inside a reader of scripts. This project's own.
use Rattle.std.specs.Prelude.{◌≡◌, ℕ, ◌<◌, ◌+◌, Bool, false, ◌==◌, List, [], ◌∷◌, ◌++◌, length, take, drop, Some, None, IfSome, ⊤, Result, Ok, Err}
use Rattle.std.specs.declared.option.Option.{Option}
use Rattle.std.specs.Option.{option_map}
use Rattle.std.specs.List.{list_any}
use Rattle.std.specs.Io.KnownBytes.{prepend_known, Consumes, IsAtEnd, Keeps}
use Rattle.faults.specs.declared.Failed.{Failed}
use Rattle.script_lines.specs.declared.pieces.Next.{Next}
use Rattle.script_lines.specs.declared.pieces.Next.TheVariants as nexts
use Rattle.script_lines.specs.declared.commands.Line.{Line}
use Rattle.script_lines.specs.declared.commands.Line.TheVariants.{Unreadable}
use Rattle.script_lines.specs.Commands.{line_of}
use Rattle.script_lines.specs.Limits.{script_limit}
use Rattle.script_lines.specs.Script.{lines_within}

-- the bytes that it took from the input and did not yet give, the line that it gave last, and how many bytes
-- a script may still have
pub record Pieces : Type 0 where
  pub pending : List ℕ
  pub line : List ℕ
  pub room : ℕ

abbrev pub no_pieces : Pieces
no_pieces = record { pending = []; line = []; room = script_limit }

-- what the lines before a reader say, where they are known
abbrev pub lines_before : Pieces → Option (List ℕ) → Option (List Line)
lines_before pieces left = option_map (lines_within pieces.room) (prepend_known pieces.pending left)

-- whether a line feed is among the bytes
abbrev pub has_line_feed : List ℕ → Bool
has_line_feed bytes = list_any (λ byte. byte == 10) bytes

-- The first line feed among the bytes is at this place.
abbrev pub IsFirstFeed : List ℕ → ℕ → Type 0
IsFirstFeed bytes at =
    (at < length bytes) × (bytes ≡ take at bytes ++ 10 ∷ drop (at + 1) bytes)
    × (has_line_feed (take at bytes) ≡ false)

-- The pending bytes grew by what was taken from the input, by nothing only at its end.
abbrev pub Fills : Result ℕ Failed → List ℕ → List ℕ → Option (List ℕ) → Option (List ℕ) → Type 0
Fills (Ok count) old new left rest =
    (taken : List ℕ) × (new ≡ old ++ taken) × (length taken ≡ count) × Consumes left rest taken
    × (count ≡ 0 → IsAtEnd rest)
Fills (Err fault) old new left rest = (new ≡ old) × Keeps left rest

-- The first of these is bad.
abbrev pub BeginsBad : List Line → Type 0
BeginsBad lines = (rest : List Line) × (lines ≡ Unreadable ∷ rest)

-- no lines, where they are known
abbrev pub AreNone : Option (List Line) → Type 0
AreNone lines = IfSome lines (λ lines. lines ≡ [])

-- The old lines are this one and the new ones, where they are known.
abbrev pub IsNextLine : Option (List Line) → Line → Option (List Line) → Type 0
IsNextLine None line new = ⊤
IsNextLine (Some old) line None = ⊥
IsNextLine (Some old) line (Some new) = old ≡ line ∷ new

-- what a call for the next line answers, with the line that it gave
abbrev pub LineGives : Result Next Failed → List ℕ → Option (List Line) → Option (List Line) → Type 0
LineGives (Ok nexts.Line) line old new = IsNextLine old (line_of line) new
LineGives (Ok nexts.End) line old new = AreNone old × AreNone new
LineGives (Ok nexts.TooLong) line old new = IfSome old BeginsBad
LineGives (Err fault) line old new = ⊤

-- Whether pending bytes at the end of an input are a last line, and what is pending then.
abbrev pub IsLast : Next → (pending line after : List ℕ) → Type 0
IsLast nexts.Line pending line after = (line ≡ pending) × (0 < length pending) × (after ≡ [])
IsLast nexts.End pending line after = (pending ≡ []) × (after ≡ [])
IsLast nexts.TooLong pending line after = ⊥
