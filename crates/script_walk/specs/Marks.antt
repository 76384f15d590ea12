-- Marks: the begins that failed for a cause that the content does not give, and which marks a run's faults license. This
-- project's own.
use Rattle.std.specs.Prelude.{◌≡◌, ℕ, ◌≤◌, ◌⊎◌, Bool, true, false, ◌&&◌, ◌==◌, List, [], ◌∷◌, length, filter, count_by, if◌then◌else◌, Some, None, Err, Result}
use Rattle.std.specs.declared.option.Option.{Option}
use Rattle.std.specs.List.{list_any}
use Rattle.std.specs.Str.{bytes_eq}
use Rattle.outside.specs.Content.{Address}
use Rattle.bitmap_kind.specs.Picture.{Picture}
use Rattle.cache_key.specs.Key.{Key, same_key}
use Rattle.cache_key.specs.KeyBytes.{address_of}
use Rattle.load_cause.specs.declared.causes.Cause.{Cause}
use Rattle.load_cause.specs.declared.causes.Cause.TheVariants as causes
use Rattle.script_walk.specs.Walk.{Begin, Outcome, TraceEvent, Begun}

-- the name of an entry's file in the disk cache
abbrev pub FileKey : Type 0
FileKey = List ℕ

-- A begin failed by its source, for want of memory, or because no cache had its picture; the last may name the entry's file
-- that was lost.
pub data Mark : Type 0 where
  Source : Mark
  Memory : Mark
  Uncached : (file : Option FileKey) → Mark

-- The marks of a run, by the numbers of its begins. Only begins of the run's trace are looked up.
abbrev pub Marks : Type 0
Marks = ℕ → Option Mark

abbrev pub no_marks : Marks
no_marks number = None

abbrev pub cause_of : Mark → Cause
cause_of Source = causes.Source
cause_of Memory = causes.Memory
cause_of (Uncached file) = causes.Uncached

abbrev pub marked_result : Result Picture Cause → Option Mark → Result Picture Cause
marked_result result None = result
marked_result result (Some mark) = Err (cause_of mark)

-- what each key comes to where nothing fails
abbrev pub KeyResults : Type 0
KeyResults = Key → Result Picture Cause

-- What each begin comes to: its mark's cause, or else what its key does.
abbrev pub outcome_of : KeyResults → Marks → Outcome
outcome_of results marks begin = marked_result (results begin.spec.key) (marks begin.number)

-- ---- begins of a trace

abbrev pub begins_in : List TraceEvent → List Begin
begins_in [] = []
begins_in (Begun begin others ∷ events) = begin ∷ begins_in events
begins_in (event ∷ events) = begins_in events

abbrev pub is_source : Option Mark → Bool
is_source (Some Source) = true
is_source mark = false

abbrev pub source_marked : Marks → List Begin → List Begin
source_marked marks begins = filter (λ begin. is_source (marks begin.number)) begins

abbrev pub same_address : Address → Address → Bool
same_address a b = bytes_eq a.0 b.0 && bytes_eq a.1 b.1

-- begins of one key between two gathers, which one fetch may serve
abbrev pub same_fetch : Begin → Begin → Bool
same_fetch a b = a.gathers == b.gathers && same_key a.spec.key b.spec.key

-- each once
abbrev pub distinct : {A : Type 0} → (A → A → Bool) → List A → List A
distinct same [] = []
distinct same (x ∷ xs) = if list_any (same x) xs then distinct same xs else x ∷ distinct same xs

abbrev pub begins_at : Address → List Begin → List Begin
begins_at address begins = filter (λ begin. same_address (address_of begin.spec.key) address) begins

-- the fetches of a url and a signature that must have failed for these marks
abbrev pub failed_fetches : Marks → List Begin → Address → ℕ
failed_fetches marks begins address =
    length (distinct same_fetch (begins_at address (source_marked marks begins)))

-- ---- the licence

-- one of these begins has this mark
abbrev pub IsMarked : Marks → List Begin → Begin → Mark → Type 0
IsMarked marks [] begin mark = ⊥
IsMarked marks (b ∷ bs) begin mark =
    ((b ≡ begin) × (marks b.number ≡ Some mark)) ⊎ IsMarked marks bs begin mark

-- what a run shows of its faults: the fetches that failed, by address, and its exit status
pub record Faults : Type 0 where
  pub failed : List Address
  pub status : ℕ

-- Marks are licensed by the faults of a run with these begins. A begin that failed by its source may ask it, and of each
-- address no more fetches must have failed than did; where the run was obeyed, no begin failed for want of memory; only a
-- begin that says `cached` is uncached.
pub record IsLicensed (faults : Faults) (begins : List Begin) (marks : Marks) : Type 0 where
  pub source_asked : (begin : Begin) → IsMarked marks begins begin Source → begin.spec.cached ≡ false
  pub source : (address : Address)
      → failed_fetches marks begins address ≤ count_by (λ a. same_address a address) faults.failed
  pub memory : faults.status ≤ 3 → (begin : Begin) → IsMarked marks begins begin Memory → ⊥
  pub uncached : (begin : Begin) (file : Option FileKey)
      → IsMarked marks begins begin (Uncached file) → begin.spec.cached ≡ true
