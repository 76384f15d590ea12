-- The table of a disk cache: its entries in order of use, its open edits, and how many lines its journal has. What each line
-- of the journal does, and which calls write a line, is DiskLruCache's. The limits on keys and on open edits are this
-- project's own.
use Rattle.std.specs.Prelude.{ℕ, ◌+◌, ◌-◌, ◌^◌, min, Bool, false, not, ◌&&◌, ◌||◌, nat_le, nat_lt, List, [], ◌∷◌, length, map, position, set, Some, None, is_some, slice_get, if◌then◌else◌}
use Rattle.std.specs.declared.option.Option.{Option}
use Rattle.std.specs.Option.{option_flatten}
use Rattle.std.specs.Str.{bytes_eq}
use lib.ListN.{replicate}
use Rattle.journal_lines.specs.declared.lines.Line.{Line}
use Rattle.journal_lines.specs.declared.lines.Line.TheVariants.{Dirty, Clean, Read, Remove}
use Rattle.disk_table.specs.UseOrder.{Entries, without, value_at, is_known, newest, used, size_of}

pub record TableValue : Type 0 where
  -- each key with the length of its readable value, or none where it has none; the eldest first
  pub entries : Entries (Option ℕ)
  -- the key of each open edit at the edit's number, of which there are 16
  pub edits : List (Option (List ℕ))
  -- how many lines the journal has after its header
  pub lines : ℕ

abbrev pub no_entries : TableValue
no_entries = record { entries = []; edits = replicate 16 None; lines = 0 }

-- ---- what a line of the journal does

abbrev pub key_in : Line → List ℕ
key_in (Dirty key) = key
key_in (Clean key length) = key
key_in (Read key) = key
key_in (Remove key) = key

-- DIRTY leaves its key without a readable value; the last line of a key decides
abbrev pub replayed : Entries (Option ℕ) → Line → Entries (Option ℕ)
replayed es (Dirty key) = newest key None es
replayed es (Clean key length) = newest key (Some length) es
replayed es (Read key) = used key es
replayed es (Remove key) = without key es

-- the entries that the lines leave, or none where one of them would make more than 16,400 keys
abbrev pub fold_from : Entries (Option ℕ) → List Line → Option (Entries (Option ℕ))
fold_from es [] = Some es
fold_from es (line ∷ lines) =
    let next = replayed es line in
    if nat_le (length next) 16400 then fold_from next lines else None

abbrev pub fold : List Line → Option (Entries (Option ℕ))
fold lines = fold_from [] lines

-- one line more, up to the largest number
abbrev pub counted : ℕ → ℕ
counted lines = min (lines + 1) (2 ^ 64 - 1)

abbrev pub has_room_for : Line → TableValue → Bool
has_room_for line table = nat_le (length (replayed table.entries line)) 16400

abbrev pub after_line : Line → TableValue → TableValue
after_line line table = record table {
  entries = replayed table.entries line;
  lines = counted table.lines;
}

-- ---- edits

-- whether an open edit is of this key
abbrev pub is_edit_of : List ℕ → Option (List ℕ) → Bool
is_edit_of key None = false
is_edit_of key (Some k) = bytes_eq key k

-- the open edit of a key
abbrev pub edit_of : List ℕ → List (Option (List ℕ)) → Option ℕ
edit_of key edits = position (is_edit_of key) edits

abbrev pub is_under_edit : List ℕ → List (Option (List ℕ)) → Bool
is_under_edit key edits = is_some (edit_of key edits)

-- the least number that no open edit has
abbrev pub free_edit : List (Option (List ℕ)) → Option ℕ
free_edit edits = position (λ edit. not (is_some edit)) edits

-- the key of an open edit
abbrev pub key_of_edit : ℕ → List (Option (List ℕ)) → Option (List ℕ)
key_of_edit number edits = option_flatten (slice_get edits number)

-- the key is not under edit, and no edit is free or the key is new and there are 16,400
abbrev pub is_full_for : List ℕ → TableValue → Bool
is_full_for key table =
    not (is_under_edit key table.edits)
    && (not (is_some (free_edit table.edits))
    || not (is_known key table.entries) && nat_le 16400 (length table.entries))

-- the length of the key's readable value
abbrev pub clean_length : List ℕ → Entries (Option ℕ) → Option ℕ
clean_length key es = option_flatten (value_at key es)

-- an edit is begun: its key is the most recent, and what was readable stays so
abbrev pub opened : List ℕ → ℕ → TableValue → TableValue
opened key number table = record {
  entries = newest key (clean_length key table.entries) table.entries;
  edits = set table.edits number (Some key);
  lines = counted table.lines;
}

-- the entries after an edit: the key is clean with this length, or it is gone
abbrev pub ended_with : List ℕ → Option ℕ → Entries (Option ℕ) → Entries (Option ℕ)
ended_with key None es = without key es
ended_with key (Some length) es = newest key (Some length) es

abbrev pub closed : List ℕ → ℕ → Option ℕ → TableValue → TableValue
closed key number length table = record {
  entries = ended_with key length table.entries;
  edits = set table.edits number None;
  lines = counted table.lines;
}

-- ---- the other calls

-- a line is written for a known key alone
abbrev pub touched : List ℕ → TableValue → TableValue
touched key table =
    if is_known key table.entries
    then record table { entries = used key table.entries; lines = counted table.lines }
    else table

abbrev pub forgotten : List ℕ → TableValue → TableValue
forgotten key table =
    if is_known key table.entries
    then record table { entries = without key table.entries; lines = counted table.lines }
    else table

-- whether an entry has to go: the lengths are together above the maximum, or there are more than 16,384 keys
abbrev pub is_over : ℕ → Entries (Option ℕ) → Bool
is_over maximum es = nat_lt maximum (size_of es) || nat_lt 16384 (length es)

-- the eldest key that is not under edit
abbrev pub eldest_closed : List (Option (List ℕ)) → List (List ℕ) → Option (List ℕ)
eldest_closed edits [] = None
eldest_closed edits (key ∷ keys) =
    if is_under_edit key edits then eldest_closed edits keys else Some key

abbrev pub keys_in : Entries (Option ℕ) → List (List ℕ)
keys_in es = map (λ e. e.0) es

abbrev pub eldest_over : ℕ → TableValue → Option (List ℕ)
eldest_over maximum table =
    if is_over maximum table.entries then eldest_closed table.edits (keys_in table.entries)
    else None

-- the lines that a rebuild would save
abbrev pub redundant : TableValue → ℕ
redundant table = table.lines - length table.entries

-- DiskLruCache rebuilds its journal where it saves 2,000 lines, and at least as many as there are keys
abbrev pub is_due : TableValue → Bool
is_due table = nat_le 2000 (redundant table) && nat_le (length table.entries) (redundant table)
