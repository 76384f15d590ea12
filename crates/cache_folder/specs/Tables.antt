-- The table of a disk cache with its open edits: what the cache keeps of each key, the eldest first, and what the calls make of
-- it. It is this project's own view of what DiskLruCache keeps in memory.
use Rattle.std.specs.Prelude.{◌≡◌, ℕ, Bool, not, ◌&&◌, List, [], ◌∷◌, Some, None, get_or, set, is_some, option_and_then, if◌then◌else◌}
use Rattle.std.specs.declared.option.Option.{Option}
use Rattle.std.specs.Option.{option_map}
use Rattle.std.specs.Str.{bytes_eq}
use Rattle.journal_lines.specs.declared.lines.Line.{Line}
use Rattle.journal_lines.specs.declared.lines.Line.TheVariants.{Dirty, Clean, Remove}
use Rattle.disk_table.specs.UseOrder.{Entries, without, value_at, newest}
use Rattle.disk_table.specs.Table.{TableValue, counted, edit_of}

-- what is kept of a key: the length of its readable value, and how many bytes its open edit has
pub record Kept : Type 0 where
  pub len : Option ℕ
  pub edit : Option ℕ

abbrev pub Table : Type 0
Table = Entries Kept

-- each value by its key and what it was
abbrev pub mapped : {V W : Type 0} → (List ℕ → V → W) → Entries V → Entries W
mapped f [] = []
mapped f (e ∷ es) = (e.0, f e.0 e.1) ∷ mapped f es

-- ---- the table in memory

pub record CacheTableValue : Type 0 where
  pub table : TableValue
  -- how many bytes each edit has, at the edit's number
  pub written : List ℕ

abbrev pub kept_by : List (Option (List ℕ)) → List ℕ → List ℕ → Option ℕ → Kept
kept_by edits written key len = record { len = len; edit = option_map (λ number. get_or written number 0) (edit_of key edits) }

-- what it keeps of each key
abbrev pub kept : CacheTableValue → Table
kept t = mapped (kept_by t.table.edits t.written) t.table.entries

-- one line of the journal was counted
abbrev pub CountsLine : CacheTableValue → CacheTableValue → Type 0
CountsLine old new = new.table.lines ≡ counted old.table.lines

-- the open edits after the one at this number is closed, or where there is none
abbrev pub closed_at : Option ℕ → List (Option (List ℕ)) → List (Option (List ℕ))
closed_at None edits = edits
closed_at (Some number) edits = set edits number None

-- ---- what a key has

abbrev pub len_at : List ℕ → Table → Option ℕ
len_at key t = option_and_then (λ k. k.len) (value_at key t)

abbrev pub edit_at : List ℕ → Table → Option ℕ
edit_at key t = option_and_then (λ k. k.edit) (value_at key t)

-- whether the key has a readable value and is not under edit
abbrev pub is_offered : List ℕ → Table → Bool
is_offered key t = is_some (len_at key t) && not (is_some (edit_at key t))

-- ---- the table after a call

abbrev pub begun : List ℕ → Table → Table
begun key t = newest key record { len = len_at key t; edit = Some 0 } t

abbrev pub committed : List ℕ → ℕ → Table → Table
committed key n t = newest key record { len = Some n; edit = None } t

abbrev pub restored : List ℕ → Table → Table
restored key t = newest key record { len = len_at key t; edit = None } t

-- the key's edit has so many bytes now; the order stays
abbrev pub with_edit : List ℕ → ℕ → List ℕ → Kept → Kept
with_edit key n k kept = if bytes_eq key k then record { len = kept.len; edit = Some n } else kept

abbrev pub grown_edit : List ℕ → ℕ → Table → Table
grown_edit key n t = mapped (with_edit key n) t

-- an edit that is given up leaves what was readable, or nothing
abbrev pub aborted : Option ℕ → List ℕ → Table → Table
aborted None key t = without key t
aborted (Some n) key t = restored key t

-- ---- what the journal says of a table

-- an edit that is not ended hides the length
abbrev pub hidden : Option ℕ → Option ℕ → Option ℕ
hidden len None = len
hidden len (Some written) = None

abbrev pub in_journal : List ℕ → Kept → Option ℕ
in_journal key kept = hidden kept.len kept.edit

-- the line of a key in a new journal
abbrev pub line_for : List ℕ → Option ℕ → Line
line_for key None = Dirty key
line_for key (Some n) = Clean key n

abbrev pub lines_for : Table → List Line
lines_for [] = []
lines_for (e ∷ es) = line_for e.0 (in_journal e.0 e.1) ∷ lines_for es

-- the line of an edit that is given up, by what was readable
abbrev pub line_back : List ℕ → Option ℕ → Line
line_back key None = Remove key
line_back key (Some n) = Clean key n
