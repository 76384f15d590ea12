-- Which replies an event has.
use Rattle.std.proofs.Common.{ℕ, Bool, true, false, List, Some, None, Ok, Err, Result, sym, subst}
use Rattle.std.specs.Prelude.{⊤, IsSomeAnd}
use Rattle.std.specs.declared.option.Option.{Option}
use Rattle.cache_folder.specs.Tables.{is_offered}
use Rattle.disk_lru.specs.declared.refusals.DiskFault.{DiskFault}
use Rattle.disk_lru.specs.State.{EditValue, entries}
use Rattle.disk_lru.specs.Past.{DiskState}
use Rattle.store_world.specs.declared.events.StoreEvent.{StoreEvent}
use Rattle.store_world.specs.declared.events.StoreEvent.TheVariants as events
use Rattle.store_world.specs.declared.events.StoreReply.{StoreReply}
use Rattle.store_world.specs.World.{SeatEdit, Request, World, request_of, has_lock}
use Rattle.store_world.specs.Steps.{IsOutcome, Fetch, fetched, is_too_large, want, ask_granted, begun_edit, BeginAfter, Begin, Write, done, CommitAfter, Commit, GiveUp, Transition}
use Rattle.store_shared.specs.Replied.{RepliesToFetch, RepliesToWant, RepliesToGranted, RepliesToBegin, IsDone, IsLeft, RepliesTo}

some_and : {X : Type 0} (o : Option X) (P : X → Type 0) (Q : Type 0) → ((x : X) → P x → Q) → IsSomeAnd o P → Q
some_and None P Q does is = absurd is
some_and (Some x) P Q does is = does x is

found_replies : (found : Result (Option (List ℕ)) DiskFault) → RepliesToFetch (fetched found)
found_replies (Ok found) = tt
found_replies (Err fault) = tt

done_replies : (result : Result ⊤ DiskFault) → IsDone (done result)
done_replies (Ok nothing) = tt
done_replies (Err fault) = tt

fetch_replies : (off : Bool) (w z : World) (key : List ℕ) (reply : StoreReply) → Fetch off w key reply z → RepliesToFetch reply
fetch_replies true w z key reply is = subst RepliesToFetch (sym is.0) tt
fetch_replies false w z key reply is = subst RepliesToFetch (sym is.3.0) (found_replies is.0)

want_replies : (off large : Bool) (w z : World) (who : ℕ) (key : List ℕ) (reply : StoreReply) → IsOutcome reply z (want off large w who key) → RepliesToWant reply
want_replies true large w z who key reply is = subst RepliesToWant (sym is.0) tt
want_replies false true w z who key reply is = subst RepliesToWant (sym is.0) tt
want_replies false false w z who key reply is = subst RepliesToWant (sym is.0) tt

begun_replies : (w : World) (who : ℕ) (request : Request) (disk : DiskState) (result : Result EditValue DiskFault) → RepliesToBegin (begun_edit w who request disk result).0
begun_replies w who request disk (Ok edit) = tt
begun_replies w who request disk (Err fault) = tt

begin_after_replies : (evicted : Result ⊤ DiskFault) (w z : World) (who : ℕ) (request : Request) (disk : DiskState) (reply : StoreReply) → BeginAfter evicted w who request disk reply z → RepliesToBegin reply
begin_after_replies (Err fault) w z who request disk reply is = subst RepliesToBegin (sym is.0) tt
begin_after_replies (Ok nothing) w z who request disk reply is = subst RepliesToBegin (sym is.3.0) (begun_replies w who request is.1 is.0)

begin_replies : (there : Bool) (w z : World) (who : ℕ) (request : Request) (reply : StoreReply) → Begin there w who request reply z → RepliesToBegin reply
begin_replies true w z who request reply is = subst RepliesToBegin (sym is.0) tt
begin_replies false w z who request reply is = begin_after_replies is.1 w z who request is.2 reply is.4

commit_after_replies : (result : Result ⊤ DiskFault) (w z : World) (who : ℕ) (request : Request) (disk : DiskState) (reply : StoreReply) → CommitAfter result w who request disk reply z → IsDone reply
commit_after_replies (Err fault) w z who request disk reply is = subst IsDone (sym is.0) tt
commit_after_replies (Ok nothing) w z who request disk reply is = subst IsDone (sym is.4.0) (done_replies is.1)

give_up_replies : (closed : Bool) (w z : World) (who : ℕ) (request : Request) (reply : StoreReply) → GiveUp closed w who request reply z → IsDone reply
give_up_replies true w z who request reply is = subst IsDone (sym is.0) tt
give_up_replies false w z who request reply is = subst IsDone (sym is.3.0) (done_replies is.0)

with_edit_replies : (w : World) (who : ℕ) (P : Request → SeatEdit → Type 0) (Q : Type 0) → ((request : Request) (edit : SeatEdit) → P request edit → Q) → IsSomeAnd (request_of who w.requests) (λ request. IsSomeAnd request.edit (P request)) → Q
with_edit_replies w who P Q does is =
    some_and (request_of who w.requests) (λ request. IsSomeAnd request.edit (P request)) Q (λ request has. some_and request.edit (P request) Q (does request) has) is

pub replies_to : (w z : World) (who : ℕ) (event : StoreEvent) (reply : StoreReply) → Transition w who event reply z → RepliesTo event reply
replies_to w z who (events.Fetch key) reply is = fetch_replies w.off w z key reply is
replies_to w z who (events.Want key length payload) reply is = want_replies w.off (is_too_large w.disk.cache.maximum length payload) w z who key reply is
replies_to w z who events.Granted reply is =
    some_and (request_of who w.requests) (λ request. IsOutcome reply z (ask_granted w who (has_lock who w.requests) request)) (RepliesToGranted reply)
    (λ request o. subst RepliesToGranted (sym o.0) tt) is
replies_to w z who events.Begin reply is =
    some_and (request_of who w.requests) (λ request. Begin (is_offered request.key (entries w.disk.cache)) w who request reply z) (RepliesToBegin reply)
    (λ request b. begin_replies (is_offered request.key (entries w.disk.cache)) w z who request reply b) is
replies_to w z who (events.Write bytes) reply is =
    with_edit_replies w who (λ request edit. Write w who request edit bytes reply z) (IsDone reply) (λ request edit o. subst IsDone (sym o.3.0) (done_replies o.0)) is
replies_to w z who events.Commit reply is =
    with_edit_replies w who (λ request edit. Commit w who request reply z) (IsDone reply) (λ request edit o. commit_after_replies o.0 w z who request o.1 reply o.3) is
replies_to w z who events.GiveUp reply is =
    with_edit_replies w who (λ request edit. GiveUp edit.closed w who request reply z) (IsDone reply) (λ request edit o. give_up_replies edit.closed w z who request reply o) is
replies_to w z who events.Done reply is = subst IsLeft (sym is.0) tt
