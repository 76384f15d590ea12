-- A journal that is read piece by piece: what it says from a place on. This project's own.
use Rattle.std.specs.Prelude.{◌≡◌, ℕ, ◌+◌, ◌^◌, ◌≤◌, ◌<◌, List, [], ◌∷◌, ◌++◌, drop, Some, None, Ok, Err, Result}
use Rattle.std.specs.declared.option.Option.{Option}
use Rattle.journal_lines.specs.Lines.{after_word}
use Rattle.journal_lines.specs.Journal.{header, Lacks, Lines, after_header, text_lines, onto}
use Rattle.journal_lines.specs.declared.lines.Line.{Line}
use Rattle.journal_lines.specs.declared.lines.Rest.{Rest}
use Rattle.journal_lines.specs.declared.lines.JournalFault.{JournalFault}

-- where a reader of a journal stands
pub record ReplayState : Type 0 where
  -- how many bytes were read
  pub read : ℕ
  -- how many of them are the header's
  pub header_read : ℕ
  -- the number of the line that comes next, counted from 1 with the header
  pub number : ℕ
  -- what was read of that line; of a line that is longer than every line, a prefix that is longer too
  pub begun : List ℕ
  -- the fault that was met
  pub fault : Option JournalFault

-- before the first byte
abbrev pub at_start : ReplayState
at_start = record { read = 0; header_read = 0; number = 6; begun = []; fault = None }

-- what is left of the header, and then the lines
abbrev pub from_header : List ℕ → ReplayState → List ℕ → Result Lines JournalFault
from_header [] state text = text_lines state.number (state.begun ++ text)
from_header (c ∷ word) state text = after_header (after_word (c ∷ word) text)

abbrev pub from_fault : Option JournalFault → ReplayState → List ℕ → Result Lines JournalFault
from_fault (Some fault) state text = Err fault
from_fault None state text = from_header (drop state.header_read header) state text

-- what the journal says from here on, where this text is left to read
abbrev pub journal_from : ReplayState → List ℕ → Result Lines JournalFault
journal_from state text = from_fault state.fault state text

-- ---- the rules that a reader keeps

pub record IsReading (state : ReplayState) : Type 0 where
  pub header : state.header_read ≤ 31
  pub in_header : state.header_read < 31 → (state.number ≡ 6) × (state.begun ≡ [])
  pub counted : state.number + state.header_read ≤ state.read + 6
  pub begun : Lacks 10 state.begun
  pub size : state.read < 2 ^ 64

-- ---- what a step tells

-- Whatever text is still to come after what is left of the piece: the line stands before what the journal says from
-- the new place on; without a line the journal says the same; and a fault is the journal's.
abbrev pub Tells : ReplayState → List ℕ → ReplayState → List ℕ → Result (Option Line) JournalFault → Type 0
Tells old left new left' (Ok (Some line)) = (more : List ℕ)
    → journal_from old (left ++ more) ≡ onto line (journal_from new (left' ++ more))
Tells old left new left' (Ok None) =
    (left' ≡ []) × ((more : List ℕ) → journal_from old (left ++ more) ≡ journal_from new more)
Tells old left new left' (Err fault) =
    (new.fault ≡ Some fault) × ((more : List ℕ) → journal_from old (left ++ more) ≡ Err fault)

-- what the journal says where nothing is left to read
abbrev pub ended_with : Result Rest JournalFault → Result Lines JournalFault
ended_with (Ok rest) = Ok ([], rest)
ended_with (Err fault) = Err fault
