-- The start of a disk cache: what it makes of the folder that it finds. That keys which were left dirty are dropped with their
-- files, and that a bad journal empties the folder, is DiskLruCache's. This project's own: an entry whose file is missing or has
-- another length is dropped, files of no entry are deleted, and the eldest entries go at once where they are too many.
use Rattle.std.specs.Prelude.{◌≡◌, ◌⊎◌, ℕ, ◌-◌, ◌^◌, min, Bool, true, false, ◌==◌, ◌||◌, nat_lt, List, [], ◌∷◌, length, sum_by, Some, None, Ok, Err, Result, IsSome, unwrap_or, if◌then◌else◌}
use Rattle.std.specs.declared.option.Option.{Option}
use Rattle.std.specs.FinMap.{get}
use lib.ListN.{replicate}
use Rattle.outside.specs.Files.{Folder}
use Rattle.journal_lines.specs.Journal.{Lines, journal_of}
use Rattle.journal_lines.specs.Replay.{ReplayState, journal_from}
use Rattle.journal_lines.specs.declared.lines.Line.{Line}
use Rattle.journal_lines.specs.declared.lines.Rest.{Rest}
use Rattle.journal_lines.specs.declared.lines.JournalFault.{JournalFault}
use Rattle.disk_table.specs.UseOrder.{Entries, without, is_known}
use Rattle.disk_table.specs.Table.{TableValue, no_entries, has_room_for, after_line}
use Rattle.cache_folder.specs.Offered.{Replayed, journal_name, value_name, journal_text, replay_of, offered}
use Rattle.cache_folder.specs.Journals.{line_count}
use Rattle.cache_folder.specs.Steps.{Cached, CacheStep, Drop}
use Rattle.cache_folder.specs.Tables.{CacheTableValue, kept}
use Rattle.cache_folder.specs.Sound.{IsSound, listed}

-- ---- the table that a journal leaves

-- a table after some lines, or none where one of them would make too many keys
abbrev pub applied : TableValue → List Line → Option TableValue
applied table [] = Some table
applied table (line ∷ lines) = if has_room_for line table then applied (after_line line table) lines else None

abbrev pub with_rest : Rest → Option TableValue → Option (TableValue × Rest)
with_rest rest None = None
with_rest rest (Some table) = Some (table, rest)

abbrev pub applied_all : TableValue → Result Lines JournalFault → Option (TableValue × Rest)
applied_all table (Ok lines) = with_rest lines.1 (applied table lines.0)
applied_all table (Err fault) = None

-- the table that a journal leaves and how its text ends, or none where it is missing or bad
abbrev pub table_of : Option (List ℕ) → Option (TableValue × Rest)
table_of None = None
table_of (Some text) = applied_all no_entries (journal_of text)

-- the same from a place of a stream on, where a table was made of the lines before it
abbrev pub table_from : TableValue → ReplayState → List ℕ → Option (TableValue × Rest)
table_from table replay text = applied_all table (journal_from replay text)

-- no key is under edit
abbrev pub HasNoEdits : CacheTableValue → Type 0
HasNoEdits t = t.table.edits ≡ replicate 16 None

-- ---- the entries whose files are there

-- what a journal leaves of a folder: no entries where it is missing or bad
abbrev pub entries_found : Folder → Replayed
entries_found folder = unwrap_or (replay_of (journal_text folder)) []

abbrev pub has_length : ℕ → Option (List ℕ) → Bool
has_length len None = false
has_length len (Some bytes) = length bytes == len

-- whether the key is clean, and its file is there with just the length
abbrev pub has_value : Folder → List ℕ → Option ℕ → Bool
has_value folder key None = false
has_value folder key (Some len) = has_length len (get folder (value_name key))

-- the entries that stay
abbrev pub entries_staying : Folder → Replayed → Replayed
entries_staying folder [] = []
entries_staying folder (e ∷ es) = if has_value folder e.0 e.1 then e ∷ entries_staying folder es else entries_staying folder es

-- the keys of the others, which a start drops
abbrev pub keys_dropped : Folder → Replayed → List (List ℕ)
keys_dropped folder [] = []
keys_dropped folder (e ∷ es) = if has_value folder e.0 e.1 then keys_dropped folder es else e.0 ∷ keys_dropped folder es

-- the entries of no key of some
abbrev pub without_all : {V : Type 0} → List (List ℕ) → Entries V → Entries V
without_all [] es = es
without_all (key ∷ keys) es = without_all keys (without key es)

-- ---- the files that stay

-- the file is that of an entry
pub record IsEntryFile (name : List ℕ) (es : Replayed) : Type 0 where
  pub key : List ℕ
  pub name_is : name ≡ value_name key
  pub known : is_known key es ≡ true

-- the file is the journal or that of an entry
abbrev pub Belongs : List ℕ → Replayed → Type 0
Belongs name es = (name ≡ journal_name) ⊎ IsEntryFile name es

-- no other file is held
abbrev pub IsTidy : Folder → Replayed → Type 0
IsTidy folder es = (name : List ℕ) → IsSome (get folder name) → Belongs name es

-- the folder offers the same
abbrev pub OffersSame : Folder → Folder → Type 0
OffersSame old new = offered new ≡ offered old

-- ---- the list of a cache that was started

-- the list of a cache that keeps these pairs of a key and bytes, the eldest first, none of them under edit
abbrev pub list_of_pairs : List (List ℕ × List ℕ) → Cached (List ℕ)
list_of_pairs [] = []
list_of_pairs (p ∷ ps) = (p.0, record { values = Some p.1; marked = false }) ∷ list_of_pairs ps

-- the list that the folder offers
abbrev pub list_offered : Folder → Cached (List ℕ)
list_offered folder = list_of_pairs (offered folder)

-- whether pairs are too many: of more bytes together than the maximum, or more than 16,384
abbrev pub are_over : ℕ → List (List ℕ × List ℕ) → Bool
are_over maximum ps = nat_lt maximum (sum_by (λ p. length p.1) ps) || nat_lt 16384 (length ps)

-- the eldest go while they are too many
abbrev pub evictions : ℕ → List (List ℕ × List ℕ) → List (CacheStep (List ℕ))
evictions maximum [] = []
evictions maximum (p ∷ ps) = if are_over maximum (p ∷ ps) then Drop p.0 ∷ evictions maximum ps else []

-- what is left then
abbrev pub staying : ℕ → List (List ℕ × List ℕ) → List (List ℕ × List ℕ)
staying maximum [] = []
staying maximum (p ∷ ps) = if are_over maximum (p ∷ ps) then staying maximum ps else p ∷ ps

-- each key with the length of its bytes
abbrev pub lengths_in : List (List ℕ × List ℕ) → Replayed
lengths_in [] = []
lengths_in (p ∷ ps) = (p.0, Some (length p.1)) ∷ lengths_in ps

-- a count that is kept in 64 bits
abbrev pub kept_count : ℕ → ℕ
kept_count n = min n (2 ^ 64 - 1)

-- A folder and the table of a cache on it where no key is under edit: the table has what the folder offers, the journal says the
-- table, no other file is there, and the lines of the journal are counted.
pub record IsOpen (folder : Folder) (t : CacheTableValue) : Type 0 where
  pub entries : t.table.entries ≡ lengths_in (offered folder)
  pub sound : IsSound folder (kept t)
  pub list : listed folder (kept t) ≡ list_offered folder
  pub tidy : IsTidy folder t.table.entries
  pub lines : t.table.lines ≡ kept_count (line_count folder)
