-- What a caller may do while it stores an entry, and what it knows after each step.
use Rattle.std.proofs.Common.{◌≡◌, ℕ, ◌<◌, ◌^◌, true, false, List, [], ◌++◌, length, Ok, Err, Result, refl, ap, ◌∙◌, arith}
use Rattle.std.specs.Prelude.{⊤, IsOk, IsErr}
use Rattle.std.specs.declared.option.Option.{Option}
use Rattle.outside.specs.Content.{Contents}
use Rattle.disk_lru.specs.declared.refusals.DiskFault.{DiskFault}
use Rattle.store_world.specs.declared.events.StoreEvent.TheVariants as events
use Rattle.store_world.specs.declared.events.StoreReply.{StoreReply}
use Rattle.store_world.specs.declared.events.StoreReply.TheVariants as replies
use Rattle.store_world.specs.World.{SeatEdit}
use Rattle.store_world.specs.Steps.{closed_edit, done}
use Rattle.store_world.specs.Knowledge.{Knowledge, updated, knowledge_in}
use Rattle.store_world.specs.Right.{IsRightIn}
use Rattle.store_world.specs.Permits.{HasRequest, MayBegin, HasEdit, HasOpenEdit, MayLeave, Permits}
use Rattle.store_world.specs.Laws.{IsStored, CommitStores}
use Rattle.store_world.specs.StoreMachine.{noted}
use Rattle.store_shared.specs.Caller.{Caller, knowledge_of, IsStep}
use Rattle.store_shared.specs.Answers.{IsCommit}
use Rattle.store_shared.specs.Holding.{wanting, holding, editing, edit_of, leaving}

-- ---- what it may do

module _ (known : Knowledge) (key : List ℕ) where
  pub may_begin : known ≡ holding key → MayBegin known
  may_begin is = record { request = _; knows = is; granted = refl; first = refl }

  abbrev has_edit : (edit : SeatEdit) → known ≡ editing edit key → HasEdit known
  has_edit edit is = record { request = _; edit = edit; knows = is; has = refl }

  pub may_give_up : ((edit : SeatEdit) × (known ≡ editing edit key)) → HasEdit known
  may_give_up is = has_edit is.0 is.1

  pub may_write : (content : Option Contents) (file : List ℕ) → known ≡ editing (edit_of []) key → length file < 2 ^ 40 → Permits content known (events.Write file)
  may_write content file is short = (record { holds = has_edit (edit_of []) is; open_ = refl }, omega (arith, short))

  pub may_commit : (content : Option Contents) (file : List ℕ) → known ≡ editing (edit_of file) key → IsRightIn content (key, file) → Permits content known events.Commit
  may_commit content file is right = (record { holds = has_edit (edit_of file) is; open_ = refl }, right)

  pub may_leave : known ≡ leaving key → MayLeave known
  may_leave is = record { request = _; knows = is; none = refl }

  pub has_request : known ≡ wanting key → HasRequest known
  has_request is = (_, is)

-- ---- what it knows then

module _ (old new : Caller) (key : List ℕ) where
  pub gave_up : (reply : StoreReply) → IsStep old (noted events.GiveUp reply) new → (edit : SeatEdit) → knowledge_of old ≡ editing edit key → knowledge_of new ≡ leaving key
  gave_up reply step edit is = step.knowledge ∙ ap (updated events.GiveUp reply) is

  pub wrote : (file : List ℕ) (result : Result ⊤ DiskFault) → IsStep old (noted (events.Write file) (done result)) new → knowledge_of old ≡ editing (edit_of []) key → IsOk result
      → knowledge_of new ≡ editing (edit_of file) key
  wrote file (Ok nothing) step is ok = step.knowledge ∙ ap (updated (events.Write file) replies.Done) is
  wrote file (Err fault) step is ok = let bad : false ≡ true = ok in cc

  pub not_wrote : (file : List ℕ) (result : Result ⊤ DiskFault) → IsStep old (noted (events.Write file) (done result)) new → knowledge_of old ≡ editing (edit_of []) key → IsErr result
      → knowledge_of new ≡ editing (closed_edit (edit_of [])) key
  not_wrote file (Ok nothing) step is err = let bad : false ≡ true = err in cc
  not_wrote file (Err fault) step is err = step.knowledge ∙ ap (updated (events.Write file) (replies.Fault fault)) is

  pub committed : (file : List ℕ) (reply : StoreReply) → IsStep old (noted events.Commit reply) new → knowledge_of old ≡ editing (edit_of file) key → knowledge_of new ≡ leaving key
  committed file reply step is = step.knowledge ∙ ap (updated events.Commit reply) is

  pub begun : IsStep old (noted events.Begin replies.Done) new → knowledge_of old ≡ holding key → knowledge_of new ≡ editing (edit_of []) key
  begun step is = step.knowledge ∙ ap (updated events.Begin replies.Done) is

  pub found_there : IsStep old (noted events.Begin replies.Already) new → knowledge_of old ≡ holding key → knowledge_of new ≡ leaving key
  found_there step is = step.knowledge ∙ ap (updated events.Begin replies.Already) is

  pub unbegun : (fault : DiskFault) → IsStep old (noted events.Begin (replies.Fault fault)) new → knowledge_of old ≡ holding key → knowledge_of new ≡ leaving key
  unbegun fault step is = step.knowledge ∙ ap (updated events.Begin (replies.Fault fault)) is

  -- ---- what it stores

  stored_by : CommitStores → (file : List ℕ) → (step : IsStep old (noted events.Commit replies.Done) new) → knowledge_of old ≡ editing (edit_of file) key → IsStored (key, file) step.before step.after
  stored_by stores file step is =
      let may : HasOpenEdit (knowledge_in (old.seen ++ step.others) old.who) = record { holds = has_edit (knowledge_in (old.seen ++ step.others) old.who) key (edit_of file) (step.known ∙ is); open_ = refl } in
      stores step.before step.after (knowledge_in (old.seen ++ step.others)) old.who may step.from.sound step.step

  pub commit_is : CommitStores → (file : List ℕ) (result : Result ⊤ DiskFault) → IsStep old (noted events.Commit (done result)) new → knowledge_of old ≡ editing (edit_of file) key → IsCommit (key, file) result old new
  commit_is stores file (Ok nothing) step is = record { step = step; stored = λ ok. stored_by stores file step is }
  commit_is stores file (Err fault) step is = record { step = step; stored = λ ok. let bad : false ≡ true = ok in cc }
