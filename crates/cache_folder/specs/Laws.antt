-- What follows from the definitions for one who makes calls on a cache's files.
use Rattle.std.specs.Prelude.{◌≡◌, ◌≢◌, ◌≤◌, Bool, ℕ, List, length, Some, None, is_some, if◌then◌else◌}
use Rattle.std.specs.List.{AllByRecursion}
use Rattle.std.specs.FinMap.{get}
use Rattle.outside.specs.Files.{Folder}
use Rattle.disk_table.specs.UseOrder.{IsOnce, without, is_known, used}
use Rattle.disk_table.specs.Table.{edit_of}
use Rattle.cache_folder.specs.Offered.{value_name, edit_name, offered}
use Rattle.cache_folder.specs.Steps.{Cached, CacheStep, Doubt, Commit, Use, Drop, stepped, all_stepped, answer_at, Leaves, offers}
use Rattle.cache_folder.specs.Tables.{Table, CacheTableValue, kept, len_at, edit_at, is_offered, begun, committed, aborted, grown_edit}
use Rattle.cache_folder.specs.Sound.{IsKept, IsSound, SameBut, SameEntries, MayLose, listed, SameLength, text_at, abort_step}
use Rattle.cache_folder.specs.Allowed.{Pass, values_of, handed_by}

pub record CacheLaws : Type 0 where
  -- a call on a key leaves the entries of all other keys
  pub others_kept : (key : List ℕ) (f g : Folder) (t : Table) → SameBut key f g → IsKept f t → IsKept g (without key t)
  pub others_listed : (key : List ℕ) (f g : Folder) (t : Table) → SameBut key f g → listed g (without key t) ≡ without key (listed f t)
  pub others_edits : (key k : List ℕ) (f g : Folder) → SameBut key f g → k ≢ key → get g (edit_name k) ≡ get f (edit_name k)
  -- a rebuild leaves all of them
  pub entries_kept : (f g : Folder) (t : Table) → SameEntries f g → IsKept f t → IsKept g t
  pub entries_listed : (f g : Folder) (t : Table) → SameEntries f g → listed g t ≡ listed f t
  pub entries_edits : (k : List ℕ) (f g : Folder) → SameEntries f g → get g (edit_name k) ≡ get f (edit_name k)
  -- an eviction that failed leaves all but one value
  pub lost_kept : (key : List ℕ) (f g : Folder) (t : Table) → MayLose key f g → IsKept f t → IsKept g t
  pub lost_listed : (key : List ℕ) (f g : Folder) (t : Table) → MayLose key f g → without key (listed g t) ≡ without key (listed f t)
  pub lost_edits : (key k : List ℕ) (f g : Folder) → MayLose key f g → get g (edit_name k) ≡ get f (edit_name k)
  pub lost_allowed : (allowed : List ℕ × List ℕ → Bool) (key : List ℕ) (f g : Folder) (t : Table) → MayLose key f g
      → Pass allowed (values_of (listed f t)) → Pass allowed (values_of (listed g t))
  -- sound files offer the table's list
  pub sound_offers : (f : Folder) (t : Table) → IsSound f t → offered f ≡ offers (listed f t)
  -- a list keeps after some steps what it kept before, or what they bring in; and it offers of what it keeps
  pub steps_allowed : (allowed : List ℕ × List ℕ → Bool) (es : Cached (List ℕ)) (steps : List (CacheStep (List ℕ))) → Pass allowed (values_of es) → Pass allowed (handed_by steps)
      → Pass allowed (values_of (all_stepped es steps))
  pub offers_allowed : (allowed : List ℕ × List ℕ → Bool) (es : Cached (List ℕ)) → Pass allowed (values_of es) → Pass allowed (offers es)
  -- what the list answers for a key, by the table and the files; and whether it answers, where the two have one length
  pub list_answers : (key : List ℕ) (f : Folder) (t : Table)
      → answer_at key (listed f t) ≡ (if is_offered key t then get f (value_name key) else None)
  pub answers_offered : (key : List ℕ) (f : Folder) (t : Table) → SameLength key t (listed f t)
      → is_offered key t ≡ is_some (answer_at key (listed f t))
  -- steps that leave it, and a drop of another key
  pub answer_left : (key : List ℕ) (es : Cached (List ℕ)) (steps : List (CacheStep (List ℕ)))
      → AllByRecursion (Leaves key) steps → answer_at key (all_stepped es steps) ≡ answer_at key es
  pub other_answer : (key other : List ℕ) (es : Cached (List ℕ)) → other ≢ key
      → answer_at other (without key es) ≡ answer_at other es
  -- a table and a list that have one length for a key have it after a call
  pub length_begun : (any key : List ℕ) (t : Table) (es : Cached (List ℕ)) → SameLength any t es
      → SameLength any (begun key t) (stepped es (Doubt key))
  pub length_committed : (any key values : List ℕ) (n : ℕ) (t : Table) (es : Cached (List ℕ))
      → length values ≡ n → SameLength any t es → SameLength any (committed key n t) (stepped es (Commit key values))
  pub length_aborted : (any key : List ℕ) (t : Table) (es : Cached (List ℕ)) → SameLength any t es
      → SameLength any (aborted (len_at key t) key t) (stepped es (abort_step (len_at key t) key))
  pub length_used : (any key : List ℕ) (t : Table) (es : Cached (List ℕ)) → SameLength any t es
      → SameLength any (used key t) (stepped es (Use key))
  pub length_written : (any key : List ℕ) (n : ℕ) (t : Table) (es : Cached (List ℕ)) → SameLength any t es
      → SameLength any (grown_edit key n t) es
  pub length_dropped : (any key : List ℕ) (t : Table) (es : Cached (List ℕ)) → SameLength any t es
      → SameLength any (without key t) (stepped es (Drop key))
  pub length_others : (key other : List ℕ) (t : Table) (es gs : Cached (List ℕ)) → other ≢ key
      → without key gs ≡ without key es → SameLength other t es → SameLength other t gs
  -- the file of an edit has the length that the table says
  pub edit_length : (key : List ℕ) (n : ℕ) (f : Folder) (t : Table) → IsKept f t → edit_at key t ≡ Some n
      → length (text_at f (edit_name key)) ≡ n
  -- a commit's values are what the list answers
  pub answer_committed : (key values : List ℕ) (es : Cached (List ℕ))
      → answer_at key (stepped es (Commit key values)) ≡ Some values
  -- which keys a table knows
  pub known_kept : (key : List ℕ) (t : CacheTableValue) → is_known key (kept t) ≡ is_known key t.table.entries
  pub known_left : (key other : List ℕ) (t : Table) → other ≢ key
      → is_known other (without key t) ≡ is_known other t
  pub once_kept : (t : CacheTableValue) → IsOnce t.table.entries → IsOnce (kept t)
  pub few_kept : (t : CacheTableValue) → length t.table.entries ≤ 16400 → length (kept t) ≤ 16400
  -- a key that no open edit is of
  pub closed_kept : (key : List ℕ) (t : CacheTableValue) → edit_of key t.table.edits ≡ None
      → edit_at key (kept t) ≡ None
