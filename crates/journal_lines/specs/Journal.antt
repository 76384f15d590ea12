-- What a whole text says as a journal. The header is DiskLruCache's: its magic, its version, the program's version, the
-- number of values of an entry, and an empty line. That a bad line is known by its number is this project's own.
use Rattle.std.specs.Prelude.{◌≡◌, ℕ, ◌+◌, false, ◌==◌, List, [], ◌∷◌, ◌++◌, Some, None, Ok, Err, Result, codes}
use Rattle.std.specs.declared.option.Option.{Option}
use Rattle.std.specs.List.{AllByRecursion, slice_split}
use Rattle.journal_lines.specs.Lines.{spelled, line_of, after_word}
use Rattle.journal_lines.specs.declared.lines.Line.{Line}
use Rattle.journal_lines.specs.declared.lines.Rest.{Rest}
use Rattle.journal_lines.specs.declared.lines.Rest.TheVariants.{Whole, Cut}
use Rattle.journal_lines.specs.declared.lines.JournalFault.{JournalFault}
use Rattle.journal_lines.specs.declared.lines.JournalFault.TheVariants.{BadHeader, BadLine}

-- the header, for one value an entry
abbrev pub header : List ℕ
header = codes "libcore.io.DiskLruCache\n1\n1\n1\n\n"

-- the bytes of a text differ from this one
abbrev pub Lacks : ℕ → List ℕ → Type 0
Lacks c = AllByRecursion (λ b. (b == c) ≡ false)

-- ---- how a journal is written

-- a line with its newline
abbrev pub ended : List ℕ → List ℕ
ended line = line ++ 10 ∷ []

abbrev pub text_of : List Line → List ℕ
text_of [] = []
text_of (line ∷ lines) = ended (spelled line) ++ text_of lines

-- ---- how a journal is read

-- the lines of a text, and how it ends
abbrev pub Lines : Type 0
Lines = List Line × Rest

-- the text after the last newline: a line without one is no line
abbrev pub rest_of : List ℕ → Rest
rest_of [] = Whole
rest_of (b ∷ text) = Cut

abbrev pub onto : Line → Result Lines JournalFault → Result Lines JournalFault
onto line (Ok lines) = Ok (line ∷ lines.0, lines.1)
onto line (Err fault) = Err fault

abbrev pub onto_read : ℕ → Option Line → Result Lines JournalFault → Result Lines JournalFault
onto_read number None more = Err (BadLine number)
onto_read number (Some line) more = onto line more

-- the lines of the parts between newlines, of which the first has this number; after the last part is no newline
abbrev pub lines_of : ℕ → List (List ℕ) → Result Lines JournalFault
lines_of number [] = Ok ([], Whole)
lines_of number (part ∷ []) = Ok ([], rest_of part)
lines_of number (part ∷ (next ∷ parts)) = onto_read number (line_of part) (lines_of (number + 1) (next ∷ parts))

-- the lines of a text after the header; the first has the number 6
abbrev pub text_lines : ℕ → List ℕ → Result Lines JournalFault
text_lines number text = lines_of number (slice_split (λ b. b == 10) text)

abbrev pub after_header : Option (List ℕ) → Result Lines JournalFault
after_header None = Err BadHeader
after_header (Some text) = text_lines 6 text

-- the journal of a text
abbrev pub journal_of : List ℕ → Result Lines JournalFault
journal_of text = after_header (after_word header text)
