-- What a folder offers as a disk cache: what `start` would find in it. The names of the files are DiskLruCache's.
use Rattle.std.specs.Prelude.{ℕ, ◌==◌, List, [], ◌∷◌, ◌++◌, length, Some, None, Ok, Err, Result, codes, if◌then◌else◌}
use Rattle.std.specs.declared.option.Option.{Option}
use Rattle.std.specs.FinMap.{get}
use Rattle.outside.specs.Files.{Folder}
use Rattle.journal_lines.specs.Journal.{Lines, journal_of}
use Rattle.disk_table.specs.Table.{fold}
use Rattle.disk_table.specs.UseOrder.{Entries}
use Rattle.journal_lines.specs.declared.lines.JournalFault.{JournalFault}

-- ---- the files' names

abbrev pub journal_name : List ℕ
journal_name = codes "journal"

abbrev pub journal_tmp : List ℕ
journal_tmp = codes "journal.tmp"

abbrev pub journal_bkp : List ℕ
journal_bkp = codes "journal.bkp"

-- the file of an entry, and that of its edit
abbrev pub value_name : List ℕ → List ℕ
value_name key = key ++ codes ".0"

abbrev pub edit_name : List ℕ → List ℕ
edit_name key = key ++ codes ".0.tmp"

-- the entries that a journal leaves: each key's readable length, or none where its last edit was begun and not ended
abbrev pub Replayed : Type 0
Replayed = Entries (Option ℕ)

-- ---- what a folder offers

-- the journal, or where there is none the one that a rebuild left
abbrev pub first_text : Option (List ℕ) → Option (List ℕ) → Option (List ℕ)
first_text None second = second
first_text (Some text) second = Some text

abbrev pub journal_text : Folder → Option (List ℕ)
journal_text folder = first_text (get folder journal_name) (get folder journal_bkp)

-- the entries of a journal, or none where it is bad
abbrev pub entries_of : Result Lines JournalFault → Option Replayed
entries_of (Ok lines) = fold lines.0
entries_of (Err fault) = None

abbrev pub replay_of : Option (List ℕ) → Option Replayed
replay_of None = None
replay_of (Some text) = entries_of (journal_of text)

-- the key and bytes of a clean entry whose file is there with just its length
abbrev pub clean_pair : List ℕ → ℕ → Option (List ℕ) → List (List ℕ × List ℕ)
clean_pair key len None = []
clean_pair key len (Some bytes) = if length bytes == len then (key, bytes) ∷ [] else []

abbrev pub pair_of : Folder → List ℕ → Option ℕ → List (List ℕ × List ℕ)
pair_of folder key None = []
pair_of folder key (Some len) = clean_pair key len (get folder (value_name key))

abbrev pub readable : Folder → Replayed → List (List ℕ × List ℕ)
readable folder [] = []
readable folder (e ∷ es) = pair_of folder e.0 e.1 ++ readable folder es

abbrev pub offered_by : Folder → Option Replayed → List (List ℕ × List ℕ)
offered_by folder None = []
offered_by folder (Some entries) = readable folder entries

-- the entries that a folder offers, the eldest first
abbrev pub offered : Folder → List (List ℕ × List ℕ)
offered folder = offered_by folder (replay_of (journal_text folder))
