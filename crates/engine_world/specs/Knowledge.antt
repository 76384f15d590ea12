-- What a seat knows from its own entries in a history: its loads, and its job. That a caller keeps to
-- what it was told is this project's own; Glide's callers hold objects in its place.
use Rattle.std.specs.Prelude.{ℕ, ◌+◌, Bool, true, false, List, [], ◌∷◌, ◌++◌, Some, None, if◌then◌else◌, ◌==◌}
use Rattle.std.specs.declared.option.Option.{Option}
use Rattle.std.specs.Ordering.{nat_cmp}
use Rattle.std.specs.FinMap.{FinMap, get, insert, remove, empty}
use Rattle.cache_key.specs.Key.{Key}
use Rattle.cache_key.specs.declared.load_spec.LoadSpec.{LoadSpec}
use Rattle.state_machine.specs.declared.entry.Entry.{Entry}
use Rattle.state_machine.specs.Histories.{own}
use Rattle.engine_world.specs.declared.events.Event.{Event}
use Rattle.engine_world.specs.declared.events.Event.TheVariants as events
use Rattle.engine_world.specs.declared.events.NotedReply.{NotedReply}
use Rattle.engine_world.specs.declared.events.NotedReply.TheVariants as replies
use Rattle.engine_world.specs.declared.events.Note.{Note}
use Rattle.engine_world.specs.declared.events.Lent.{Lent}
use Rattle.engine_world.specs.Moves.{without_lent}

-- A load that its owner has not released: the key of its Load entry and whether that was for what is
-- cached alone, and whether it was answered Ready.
pub record OwnLoad : Type 0 where
  pub key : Key
  pub cached : Bool
  pub ready : Bool

-- A seat's job: its number, what its starter asked for, how many bitmaps it took, those that it has, and
-- whether the seat was told that it is cancelled.
pub record OwnJob : Type 0 where
  pub number : ℕ
  pub spec : LoadSpec
  pub takes : ℕ
  pub out : List Lent
  pub cancelled : Bool

-- What a seat knows: how many loads it made that were not Full, those that it has not released, and its
-- job.
pub record Knowledge : Type 0 where
  pub begun : ℕ
  pub loads : FinMap nat_cmp OwnLoad
  pub job : Option OwnJob

abbrev pub no_knowledge : Knowledge
no_knowledge = record { begun = 0; loads = empty; job = None }

-- ---- what an entry of its own adds

abbrev pub own_load : LoadSpec → Bool → OwnLoad
own_load spec ready = record { key = spec.key; cached = spec.cached; ready = ready }

abbrev pub with_load : LoadSpec → Bool → Knowledge → Knowledge
with_load spec ready known =
    record known { begun = known.begun + 1; loads = insert known.loads known.begun (own_load spec ready) }

abbrev pub after_load : LoadSpec → NotedReply → Knowledge → Knowledge
after_load spec replies.Full known = known
after_load spec replies.Ready known = with_load spec true known
after_load spec reply known = with_load spec false known

abbrev pub with_ready : ℕ → Option OwnLoad → Knowledge → Knowledge
with_ready n None known = known
with_ready n (Some load) known =
    record known { loads = insert known.loads n (record load { ready = true }) }

abbrev pub after_collect : ℕ → NotedReply → Knowledge → Knowledge
after_collect n replies.Ready known = with_ready n (get known.loads n) known
after_collect n reply known = known

abbrev pub after_next_job : NotedReply → Knowledge → Knowledge
after_next_job (replies.Job j spec) known =
    record known {
      job = Some (record {
        number = j;
        spec = spec;
        takes = 0;
        out = [];
        cancelled = false;
      });
    }
after_next_job reply known = known

abbrev pub job_with : Lent → Option OwnJob → Option OwnJob
job_with lent None = None
job_with lent (Some job) = Some (record job { takes = job.takes + 1; out = job.out ++ lent ∷ [] })

abbrev pub after_take : NotedReply → Knowledge → Knowledge
after_take (replies.Taken lent) known = record known { job = job_with lent known.job }
after_take reply known = known

abbrev pub job_without : ℕ → Option OwnJob → Option OwnJob
job_without b None = None
job_without b (Some job) = Some (record job { out = without_lent b job.out })

abbrev pub job_cancelled : Option OwnJob → Option OwnJob
job_cancelled None = None
job_cancelled (Some job) = Some (record job { cancelled = true })

abbrev pub after_is_cancelled : NotedReply → Knowledge → Knowledge
after_is_cancelled (replies.Cancelled true) known = record known { job = job_cancelled known.job }
after_is_cancelled reply known = known

-- what a seat knows after one entry more of its own
abbrev pub updated : Event → NotedReply → Knowledge → Knowledge
updated (events.Load spec) reply known = after_load spec reply known
updated (events.Collect n) reply known = after_collect n reply known
updated (events.Release n) reply known = record known { loads = remove known.loads n }
updated (events.NextJob room) reply known = after_next_job reply known
updated (events.Take j width height config) reply known = after_take reply known
updated (events.GiveBack j bitmap) reply known =
    record known { job = job_without bitmap.number known.job }
updated (events.Finish j bitmap) reply known = record known { job = None }
updated (events.Fail j cause) reply known = record known { job = None }
updated (events.Quit j) reply known = record known { job = None }
updated (events.IsCancelled j) reply known = after_is_cancelled reply known
updated event reply known = known

-- what it knows after these entries of its own, in order
abbrev pub updated_by : Knowledge → List (Entry Note) → Knowledge
updated_by known [] = known
updated_by known (e ∷ es) = updated_by (updated e.note.event e.note.reply known) es

-- what it knows from all its own entries
abbrev pub learned : List (Entry Note) → Knowledge
learned own = updated_by no_knowledge own

-- what a seat knows in a history
abbrev pub knowledge_in : List (Entry Note) → ℕ → Knowledge
knowledge_in history who = learned (own who history)

-- what each seat knows after one entry more of one of them
unfoldable pub knowledge_with : (ℕ → Knowledge) → ℕ → Event → NotedReply → ℕ → Knowledge
knowledge_with known who event reply k = if who == k then updated event reply (known k) else known k
