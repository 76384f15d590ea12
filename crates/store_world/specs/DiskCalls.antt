-- What the store needs of the calls of its disk cache: the clauses of each call, over its state before and
-- after. The calls are DiskLruCache's, and the clauses those of disk_lru.
use Rattle.std.specs.Prelude.{◌≡◌, ℕ, ◌+◌, Bool, true, false, List, [], ◌∷◌, ◌++◌, length, set, Some, None, Ok, Err, Result, IfOk, IfSome, IsOk, IsErr, IsSome, is_err, is_some, if◌then◌else◌, ⊤}
use Rattle.std.specs.declared.option.Option.{Option}
use Rattle.std.specs.FinMap.{get}
use Rattle.outside.specs.Causes.{HasCause}
use Rattle.disk_table.specs.UseOrder.{used}
use Rattle.disk_table.specs.Table.{free_edit, eldest_over}
use Rattle.cache_folder.specs.Offered.{value_name, edit_name}
use Rattle.cache_folder.specs.Steps.{answer_at}
use Rattle.cache_folder.specs.Images.{IfKnown}
use Rattle.cache_folder.specs.Tables.{len_at, edit_at, is_offered, begun, committed, aborted, grown_edit}
use Rattle.cache_folder.specs.Sound.{text_at}
use Rattle.disk_lru.specs.declared.refusals.DiskFault.{DiskFault}
use Rattle.disk_lru.specs.declared.refusals.DiskFault.TheVariants as faults
use Rattle.disk_lru.specs.State.{EditValue, entries, edits, list_of, IsOpen}
use Rattle.disk_lru.specs.Calls.{Steps, no_steps, begin_steps, commit_steps, abort_steps, use_steps, Makes, Fails, ClosesEdit}
use Rattle.disk_lru.specs.Faults.{get_acts, trim_acts}
use Rattle.disk_lru.specs.Trims.{Trims}
use Rattle.disk_lru.specs.Staying.{HasEntry}
use Rattle.disk_lru.specs.Past.{DiskState, steps_at, after_call}

-- a failure has its cause
abbrev pub Causes : {T : Type 0} → DiskState → Result T DiskFault → DiskState → Type 0
Causes old result new = HasCause old.cache.faults new.cache.faults (result ≡ Err faults.Failed)

-- no call changes the greatest size
abbrev pub SameMaximum : DiskState → DiskState → Type 0
SameMaximum old new = new.cache.maximum ≡ old.cache.maximum

-- what a call that was to make these steps adds to the past
abbrev pub AddsCall : {T : Type 0} → Steps → DiskState → Result T DiskFault → DiskState → Type 0
AddsCall steps old result new =
    new.past ≡ after_call (steps_at old.cache.history steps) (is_err result) old.past

-- nothing has changed but the count of faults
abbrev pub UnchangedDisk : DiskState → DiskState → Type 0
UnchangedDisk old new = new ≡ record old { cache = record old.cache { faults = new.cache.faults } }

-- ---- the calls

-- `get`: a key that is under edit is answered with nothing.
pub record Gets (key : List ℕ) (old : DiskState) (result : Result (Option (List ℕ)) DiskFault)
    (new : DiskState) : Type 0 where
  pub bytes : IfKnown old.cache.history (λ h. IfOk result (λ found. found
      ≡ (if is_offered key (entries old.cache) then get h.held (value_name key) else None)))
  pub list : IfKnown old.cache.history (λ h. IfOk result (λ found.
      found ≡ answer_at key (list_of h.held old.cache)))
  pub offered : IfOk result (λ found. IsSome found → is_offered key (entries old.cache) ≡ true)
  pub none : IfOk result (λ found. found ≡ None → UnchangedDisk old new)
  pub ok : IfOk result (λ found. IsSome found → entries new.cache ≡ used key (entries old.cache))
  pub edits_are : IsOk result → edits new.cache ≡ edits old.cache
  pub makes : IfOk result (λ found. IsSome found → Makes key (use_steps key) old.cache new.cache)
  pub err : IsErr result → is_offered key (entries old.cache) ≡ true
  pub fails : IsErr result → Fails key (use_steps key) old.cache new.cache
  pub past : get_acts result ≡ true → AddsCall (use_steps key) old result new
  pub cause : Causes old result new
  pub maximum : SameMaximum old new

-- `begin`, of a key that is not under edit and for which there is room.
pub record Begins (key : List ℕ) (old : DiskState) (result : Result EditValue DiskFault)
    (new : DiskState) : Type 0 where
  pub key_is : IfOk result (λ edit. edit.key ≡ key)
  pub open_ : IfOk result (λ edit. IsOpen edit new.cache)
  pub free : IfOk result (λ edit. free_edit (edits old.cache) ≡ Some edit.number)
  pub edits_are : IfOk result (λ edit. edits new.cache ≡ set (edits old.cache) edit.number (Some key))
  pub ok : IsOk result → entries new.cache ≡ begun key (entries old.cache)
  pub empty : IsOk result → IfKnown new.cache.history (λ k. text_at k.held (edit_name key) ≡ [])
  pub makes : IsOk result → Makes key (begin_steps key) old.cache new.cache
  pub fails : IsErr result → Fails key (begin_steps key) old.cache new.cache
  pub past : AddsCall (begin_steps key) old result new
  pub cause : Causes old result new
  pub maximum : SameMaximum old new

-- `write`, of an open edit.
pub record Writes (key bytes : List ℕ) (old : DiskState) (result : Result ⊤ DiskFault)
    (new : DiskState) : Type 0 where
  pub ok : IsOk result → (n : ℕ) → edit_at key (entries old.cache) ≡ Some n
      → entries new.cache ≡ grown_edit key (n + length bytes) (entries old.cache)
  pub edits_are : IsOk result → edits new.cache ≡ edits old.cache
  pub text : IsOk result → IfKnown old.cache.history (λ h. IfKnown new.cache.history (λ k.
      text_at k.held (edit_name key) ≡ text_at h.held (edit_name key) ++ bytes))
  pub makes : IsOk result → Makes key no_steps old.cache new.cache
  pub fails : IsErr result → Fails key no_steps old.cache new.cache
  pub past : AddsCall no_steps old result new
  pub cause : Causes old result new
  pub maximum : SameMaximum old new

-- `commit`, of an open edit.
pub record Commits (key : List ℕ) (old : DiskState) (result : Result ⊤ DiskFault)
    (new : DiskState) : Type 0 where
  pub ok : IsOk result → (n : ℕ) → edit_at key (entries old.cache) ≡ Some n
      → entries new.cache ≡ committed key n (entries old.cache)
  pub edit : ClosesEdit key old.cache new.cache
  pub stored : IsOk result → IfKnown old.cache.history (λ h. IfKnown new.cache.history (λ k.
      HasEntry (key, text_at h.held (edit_name key)) k.held new.cache))
  pub makes : IsOk result → Makes key (commit_steps key) old.cache new.cache
  pub fails : IsErr result → Fails key (commit_steps key) old.cache new.cache
  pub past : AddsCall (commit_steps key) old result new
  pub cause : Causes old result new
  pub maximum : SameMaximum old new

-- `abort`, of an open edit.
pub record Aborts (key : List ℕ) (old : DiskState) (result : Result ⊤ DiskFault)
    (new : DiskState) : Type 0 where
  pub ok : IsOk result
      → entries new.cache ≡ aborted (len_at key (entries old.cache)) key (entries old.cache)
  pub edit : ClosesEdit key old.cache new.cache
  pub makes : IsOk result → Makes key (abort_steps key old.cache) old.cache new.cache
  pub fails : IsErr result → Fails key (abort_steps key old.cache) old.cache new.cache
  pub past : AddsCall (abort_steps key old.cache) old result new
  pub cause : Causes old result new
  pub maximum : SameMaximum old new

-- ---- evictions

-- the key that an eviction would take: the eldest that is not under edit, where there is too much
abbrev pub next_eviction : DiskState → Option (List ℕ)
next_eviction disk = eldest_over disk.cache.maximum disk.cache.table.table

-- `trim_one`.
pub record Evicts (old : DiskState) (result : Result Bool DiskFault) (new : DiskState) : Type 0 where
  pub over : IfOk result (λ gone. gone ≡ is_some (next_eviction old))
  pub err : IsErr result → IsSome (next_eviction old)
  pub idle : trim_acts result ≡ false → new ≡ old
  pub key : IfSome (next_eviction old) (λ key. Trims key result old new)
  pub cause : Causes old result new
  pub maximum : SameMaximum old new

-- Just these keys go, in this order, each the one that is next to go.
abbrev pub EvictsTo : List (List ℕ) → DiskState → DiskState → Type 0
EvictsTo [] old new = new ≡ old
EvictsTo (key ∷ gone) old new =
    (between : DiskState) × (next_eviction old ≡ Some key) × Evicts old (Ok true) between
    × EvictsTo gone between new

-- what ends evictions: there is none to make, or one fails
abbrev pub EndsEvicting : DiskState → Result ⊤ DiskFault → DiskState → Type 0
EndsEvicting old (Ok done) new = Evicts old (Ok false) new
EndsEvicting old (Err fault) new = Evicts old (Err fault) new

-- `trim_one` again and again, until it answers false or fails: these keys went before that
pub record EvictsAll (gone : List (List ℕ)) (old : DiskState) (result : Result ⊤ DiskFault)
    (new : DiskState) : Type 0 where
  pub last : DiskState
  pub evicts : EvictsTo gone old last
  pub ends : EndsEvicting last result new
