-- How many fetches a script may cost: the begins whose picture the engine need not have yet. That joined and remembered
-- pictures are fetched once is the point of Glide's Engine; the count is this project's own.
use Rattle.std.specs.Prelude.{ℕ, ◌+◌, ◌*◌, Bool, true, false, not, ◌&&◌, ◌||◌, nat_le, nat_lt, List, [], ◌∷◌, length, map, if◌then◌else◌, Ok, Err, Result}
use Rattle.std.specs.List.{list_any, list_all}
use Rattle.std.specs.Option.{is_none}
use Rattle.std.specs.Result.{is_ok}
use Rattle.bitmap_kind.specs.Picture.{Picture, stored_size}
use Rattle.cache_key.specs.Key.{Key, same_key}
use Rattle.load_cause.specs.declared.causes.Cause.{Cause}
use Rattle.script_walk.specs.Walk.{Begin, TraceEvent, Begun, Ended, Trimmed}
use Rattle.script_walk.specs.Marks.{Marks, KeyResults, begins_in, distinct}

abbrev pub one_if : Bool → ℕ
one_if is = if is then 1 else 0

abbrev pub has_key : Key → List Key → Bool
has_key key keys = list_any (same_key key) keys

abbrev pub is_trim : TraceEvent → Bool
is_trim (Trimmed level) = true
is_trim event = false

abbrev pub size_of : Result Picture Cause → ℕ
size_of (Ok picture) = stored_size picture.width picture.height picture.config
size_of (Err cause) = 0

abbrev pub total_size : KeyResults → List Key → ℕ
total_size results [] = 0
total_size results (key ∷ keys) = size_of (results key) + total_size results keys

abbrev pub keys_of : List Begin → List Key
keys_of begins = distinct same_key (map (λ begin. begin.spec.key) begins)

-- a run with these marks, over what its keys come to, with a memory cache of this size in bytes, and its whole trace
pub record Walked : Type 0 where
  pub results : KeyResults
  pub marks : Marks
  pub memory : ℕ
  pub events : List TraceEvent

-- No begin of this key says `skip` or `cached`.
abbrev pub is_plain : List Begin → Key → Bool
is_plain begins key =
    list_all (λ begin. not (same_key begin.spec.key key) || not (begin.spec.skip || begin.spec.cached)) begins

-- Another view is running or complete by an unmarked begin of this key.
abbrev pub is_shared : Marks → Key → List Begin → Bool
is_shared marks key others =
    list_any (λ begin. same_key begin.spec.key key && is_none (marks begin.number)) others

-- The memory cache keeps every picture of the script: nothing trims it, the keys are at most 1,024, and 8 times the sizes of
-- their pictures are below its size.
abbrev pub remembers : Walked → Bool
remembers run =
    let keys = keys_of (begins_in run.events) in
    not (list_any is_trim run.events) && nat_le (length keys) 1024
    && nat_lt (8 * total_size run.results keys) run.memory

-- A begin is covered where its picture is there or on its way: another view has it, or an earlier begin was complete after a
-- gather (`complete` are the keys of these) and the memory cache keeps every picture.
abbrev pub is_covered : Walked → (complete : List Key) → Begin → (others : List Begin) → Bool
is_covered run complete begin others =
    let key = begin.spec.key in
    is_ok (run.results key) && is_plain (begins_in run.events) key
    && (is_shared run.marks key others || (remembers run && has_key key complete))

-- the begins of these events that are neither `cached` nor covered
abbrev pub starts_from : Walked → (complete : List Key) → List TraceEvent → ℕ
starts_from run complete [] = 0
starts_from run complete (Begun begin others ∷ events) =
    one_if (not (begin.spec.cached || is_covered run complete begin others)) + starts_from run complete events
starts_from run complete (Ended begin (Ok picture) ∷ events) =
    starts_from run (begin.spec.key ∷ complete) events
starts_from run complete (event ∷ events) = starts_from run complete events

abbrev pub starts : Walked → ℕ
starts run = starts_from run [] run.events
