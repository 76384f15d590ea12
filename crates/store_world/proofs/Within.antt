-- What each moment of an event offers, and what a fetch answers.
use Rattle.std.proofs.Common.{◌≡◌, ℕ, Bool, true, false, cond, List, [], ◌∷◌, ◌++◌, Some, None, Ok, Err, Result, refl, sym, ap, subst, ◌∙◌}
use Rattle.std.specs.Prelude.{⊤, IfOk, option_and_then}
use Rattle.std.specs.declared.option.Option.{Option}
use Rattle.std.specs.List.{AllByRecursion}
use Rattle.std.specs.Str.{bytes_eq}
use Rattle.outside.specs.Content.{Contents}
use Rattle.outside.specs.Files.{FolderHistory}
use Rattle.disk_table.specs.UseOrder.{value_at}
use Rattle.cache_folder.specs.Offered.{edit_name}
use Rattle.cache_folder.specs.Steps.{Entry, Cached, unmarked, answer_at}
use Rattle.cache_folder.specs.Images.{IfKnown}
use Rattle.cache_folder.specs.Tables.{is_offered}
use Rattle.cache_folder.specs.Sound.{text_at, listed}
use Rattle.cache_folder.specs.Allowed.{Pass, value_of, values_of}
use Rattle.disk_lru.specs.declared.refusals.DiskFault.{DiskFault}
use Rattle.disk_lru.specs.State.{EditValue, entries}
use Rattle.disk_lru.specs.Calls.{no_steps, begin_steps}
use Rattle.disk_lru.specs.Past.{DiskState}
use Rattle.store_world.specs.declared.events.StoreEvent.{StoreEvent}
use Rattle.store_world.specs.declared.events.StoreEvent.TheVariants as events
use Rattle.store_world.specs.declared.events.StoreReply.{StoreReply}
use Rattle.store_world.specs.declared.events.StoreReply.TheVariants as replies
use Rattle.store_world.specs.Right.{Pair, IsRight, AreRight, OffersRight, HoldsRight}
use Rattle.store_world.specs.World.{SeatEdit, Request, World, request_of, has_lock}
use Rattle.store_world.specs.DiskCalls.{Begins, Writes}
use Rattle.store_world.specs.Steps.{Outcome, IsOutcome, Fetch, fetched, is_too_large, want, ask_granted, begun_edit, BeginAfter, Begin, Write, CommitAfter, Commit, GiveUp, Transition}
use Rattle.store_world.specs.Knowledge.{Knowledge}
use Rattle.store_world.specs.Permits.{Permits}
use Rattle.store_world.specs.Sound.{IsRightDisk, IsRightStore, Sound}
use Rattle.store_world.specs.Laws.{handed_of, handed_by_event, KeepsWithin, PassesRight, KeepsRight, FetchesRight}
use Rattle.store_world.proofs.Tables.{same_if}
use Rattle.store_world.proofs.Allowed.{Handed, nothing_handed, Allows, allows_passage, allows_then, allows_same, right_stays, runs_none, some_folder, all_front, all_back}
use Rattle.store_world.proofs.Quiet.{got, evicted, evicted_allows}
use Rattle.store_world.proofs.Off.{off_law}
use Rattle.store_world.proofs.EventLaws.{no_number, with_found, with_open, commit_allows, abort_allows}

-- what is allowed of one outcome's disk is allowed of the world that it leaves
lifted : (handed : Handed) (w z : World) (reply : StoreReply) (outcome : Outcome) → IsOutcome reply z outcome → Allows handed w.disk outcome.1.disk → Allows handed w.disk z.disk
lifted handed w z reply outcome o allows = subst (λ (v : World). Allows handed w.disk v.disk) (sym o.1) allows

nothing_done : (d : DiskState) → Allows nothing_handed d d
nothing_done d = allows_same d d refl refl

-- what passes as handed by the event passes as handed by the call
rehanded : (handed given : Handed) (old new : DiskState) → Allows handed old new
    → IfKnown old.cache.history (λ h. (allowed : Pair → Bool) → Pass allowed (given h.held) → Pass allowed (handed h.held)) → Allows given old new
rehanded handed given old new allows more h known allowed within passes = allows h known allowed within (more h known allowed passes)

fetch_allows : (off : Bool) (w z : World) (known : ℕ → Knowledge) (key : List ℕ) (reply : StoreReply) → Sound w known → Fetch off w key reply z → Allows nothing_handed w.disk z.disk
fetch_allows true w z known key reply s does = lifted nothing_handed w z reply _ does (nothing_done w.disk)
fetch_allows false w z known key reply s does = lifted nothing_handed w z reply _ does.3 (got key w.disk does.1 does.0 s.once (no_number w known s key) does.2).allows

want_allows : (off large : Bool) (w z : World) (who : ℕ) (key : List ℕ) (reply : StoreReply) → IsOutcome reply z (want off large w who key) → Allows nothing_handed w.disk z.disk
want_allows true large w z who key reply does = lifted nothing_handed w z reply _ does (nothing_done w.disk)
want_allows false true w z who key reply does = lifted nothing_handed w z reply _ does (nothing_done w.disk)
want_allows false false w z who key reply does = lifted nothing_handed w z reply _ does (nothing_done w.disk)

begins_allow : (result : Result EditValue DiskFault) (key : List ℕ) (old new : DiskState) → Begins key old result new → Allows nothing_handed old new
begins_allow (Ok edit) key old new b = allows_passage (begin_steps key) old new (b.makes refl).call.passage
begins_allow (Err fault) key old new b = allows_passage (begin_steps key) old new (b.fails refl).call.passage

begun_allows : (result : Result EditValue DiskFault) (w z : World) (who : ℕ) (request : Request) (d : DiskState) (reply : StoreReply) → Allows nothing_handed w.disk d → IsOutcome reply z (begun_edit w who request d result) → Allows nothing_handed w.disk z.disk
begun_allows (Ok edit) w z who request d reply allows by = lifted nothing_handed w z reply _ by allows
begun_allows (Err fault) w z who request d reply allows by = lifted nothing_handed w z reply _ by allows

begin_after_allows : (trim : Result ⊤ DiskFault) (w z : World) (who : ℕ) (request : Request) (d : DiskState) (reply : StoreReply) → Allows nothing_handed w.disk d → BeginAfter trim w who request d reply z → Allows nothing_handed w.disk z.disk
begin_after_allows (Ok x) w z who request d reply allows does =
    begun_allows does.0 w z who request does.1 reply (allows_then nothing_handed w.disk d does.1 allows (begins_allow does.0 request.key d does.1 does.2)) does.3
begin_after_allows (Err fault) w z who request d reply allows does = lifted nothing_handed w z reply _ does allows

begin_allows : (there : Bool) (w z : World) (known : ℕ → Knowledge) (who : ℕ) (request : Request) (reply : StoreReply) → Sound w known → Begin there w who request reply z → Allows nothing_handed w.disk z.disk
begin_allows true w z known who request reply s does = lifted nothing_handed w z reply _ does (nothing_done w.disk)
begin_allows false w z known who request reply s does = begin_after_allows does.1 w z who request does.2 reply (evicted does.0 w.disk does.2 does.1 s.once does.3).allows does.4

writes_allow : (result : Result ⊤ DiskFault) (key bytes : List ℕ) (old new : DiskState) → Writes key bytes old result new → Allows nothing_handed old new
writes_allow (Ok x) key bytes old new c = allows_passage no_steps old new (c.makes refl).call.passage
writes_allow (Err fault) key bytes old new c = allows_passage no_steps old new (c.fails refl).call.passage

give_up_allows : (closed : Bool) (w z : World) (who : ℕ) (request : Request) (reply : StoreReply) → GiveUp closed w who request reply z → Allows nothing_handed w.disk z.disk
give_up_allows true w z who request reply does = lifted nothing_handed w z reply _ does (nothing_done w.disk)
give_up_allows false w z who request reply does = lifted nothing_handed w z reply _ does.3 (abort_allows does.0 request.key w.disk does.1 does.2)

commit_allowed : (result : Result ⊤ DiskFault) (given : Handed) (w z : World) (who : ℕ) (request : Request) (d : DiskState) (reply : StoreReply) → Allows given w.disk d → CommitAfter result w who request d reply z → Allows given w.disk z.disk
commit_allowed (Ok x) given w z who request d reply call by = lifted given w z reply _ by.4 (allows_then given w.disk d by.2 call (evicted_allows by.0 d by.2 by.1 by.3))
commit_allowed (Err fault) given w z who request d reply call by = lifted given w z reply _ by call

-- what the commit's seat has written
handed_now : (known : Knowledge) (request : Request) (edit : SeatEdit) → known ≡ Some request → request.edit ≡ Some edit → handed_of known ≡ (request.key, edit.written) ∷ []
handed_now known request edit knows has = ap handed_of knows ∙ one request.edit has where
  one : (e : Option SeatEdit) → e ≡ Some edit → handed_of (Some record request { edit = e }) ≡ (request.key, edit.written) ∷ []
  one e is = ap (λ (x : Option SeatEdit). handed_of (Some record request { edit = x })) is

pub event_allows : (event : StoreEvent) (w z : World) (known : ℕ → Knowledge) (who : ℕ) (reply : StoreReply) → Sound w known → Permits w.content (known who) event → Transition w who event reply z
    → Allows (λ f. handed_by_event event (known who)) w.disk z.disk
event_allows (events.Fetch key) w z known who reply s permits does = fetch_allows w.off w z known key reply s does
event_allows (events.Want key length payload) w z known who reply s permits does = want_allows w.off (is_too_large w.disk.cache.maximum length payload) w z who key reply does
event_allows events.Granted w z known who reply s permits does =
    lifted nothing_handed w z reply _ (with_found (λ r. IsOutcome reply z (ask_granted w who (has_lock who w.requests) r)) (request_of who w.requests) permits.0 (sym (s.known_is who) ∙ permits.1) does) (nothing_done w.disk)
event_allows events.Begin w z known who reply s may does =
    begin_allows (is_offered may.request.key (entries w.disk.cache)) w z known who may.request reply s
    (with_found (λ r. Begin (is_offered r.key (entries w.disk.cache)) w who r reply z) (request_of who w.requests) may.request (sym (s.known_is who) ∙ may.knows) does)
event_allows (events.Write bytes) w z known who reply s permits does =
    let h = permits.0.holds in
    let d = with_open (λ r e. Write w who r e bytes reply z) w who h.request h.edit (sym (s.known_is who) ∙ h.knows) h.has does in
    lifted nothing_handed w z reply _ d.3 (writes_allow d.0 h.request.key bytes w.disk d.1 d.2)
event_allows events.Commit w z known who reply s permits does =
    let h = permits.0.holds in
    let at = sym (s.known_is who) ∙ h.knows in
    let d = with_open (λ r e. Commit w who r reply z) w who h.request h.edit at h.has does in
    let handed : Handed = λ f. (h.request.key, text_at f (edit_name h.request.key)) ∷ [] in
    let given : Handed = λ f. handed_of (known who) in
    let call : Allows given w.disk d.1 = rehanded handed given w.disk d.1 (commit_allows d.0 h.request.key w.disk d.1 d.2) (λ k is allowed passes.
    subst (λ (text : List ℕ). Pass allowed ((h.request.key, text) ∷ [])) (sym (s.files k is who h.request at h.edit h.has permits.0.open_)) (subst (Pass allowed) (handed_now (known who) h.request h.edit h.knows h.has) passes)) in
    commit_allowed d.0 given w z who h.request d.1 reply call d.3
event_allows events.GiveUp w z known who reply s h does =
    give_up_allows h.edit.closed w z who h.request reply (with_open (λ r e. GiveUp e.closed w who r reply z) w who h.request h.edit (sym (s.known_is who) ∙ h.knows) h.has does)
event_allows events.Done w z known who reply s may does = lifted nothing_handed w z reply _ does (nothing_done w.disk)

pub within_law : (event : StoreEvent) → KeepsWithin event
within_law event w z known who reply s permits does = event_allows event w z known who reply s permits does

-- ---- right pairs

pub right_in : (content : Contents) (w : World) (known : ℕ → Knowledge) → w.content ≡ Some content → Sound w known → w.off ≡ false → IsRightDisk content w.disk
right_in content w known is s on = subst (λ c. IsRightStore c w.disk) is (s.right on)

-- where nothing changes, what is held is right still
pub right_still : (content : Contents) (d : DiskState) → HoldsRight content d.cache.history → PassesRight content d d
right_still content d holds h known =
    runs_none (OffersRight content) h d.cache.history known
    (subst (λ (j : FolderHistory). OffersRight content j.held) (some_folder holds.history h (sym holds.known ∙ known)) holds.right)

-- what an event hands over is right
handed_right : (event : StoreEvent) (content : Contents) (known : Knowledge) → Permits (Some content) known event → AreRight content (handed_by_event event known)
handed_right (events.Fetch key) content known permits = tt
handed_right (events.Want key length payload) content known permits = tt
handed_right events.Granted content known permits = tt
handed_right events.Begin content known permits = tt
handed_right (events.Write bytes) content known permits = tt
handed_right events.Commit content known permits = subst (AreRight content) (sym (handed_now known permits.0.holds.request permits.0.holds.edit permits.0.holds.knows permits.0.holds.has)) (permits.1, tt)
handed_right events.GiveUp content known permits = tt
handed_right events.Done content known permits = tt

pub right_law : (event : StoreEvent) → KeepsRight event
right_law event content w z known who reply is holds s permits does = by_off w.off refl where
  by_off : (off : Bool) → w.off ≡ off → PassesRight content w.disk z.disk
  by_off true off = subst (λ (v : World). PassesRight content w.disk v.disk) (sym (off_law event w z known who reply s off does)) (right_still content w.disk holds)
  by_off false on =
      (right_stays content (λ f. handed_by_event event (known who)) w.disk z.disk (event_allows event w z known who reply s permits does) (right_in content w known is s on)
      (handed_right event content (known who) (subst (λ c. Permits c (known who) event) is permits))).1

-- ---- fetches

unmarked_some : (marked : Bool) (values : Option (List ℕ)) (bytes : List ℕ) → unmarked marked values ≡ Some bytes → values ≡ Some bytes
unmarked_some true values bytes e = cc
unmarked_some false values bytes e = e

-- what a list answers is one of the pairs that it keeps
answer_has : (P : Pair → Type 0) (key bytes : List ℕ) (es : Cached (List ℕ)) → AllByRecursion P (values_of es) → answer_at key es ≡ Some bytes → P (key, bytes)
answer_has P key bytes [] h is = cc
answer_has P key bytes (e ∷ es) h is = elim (bytes_eq key e.0) as (λ b. bytes_eq key e.0 ≡ b → option_and_then (λ (x : Entry (List ℕ)). unmarked x.marked x.values) (cond b (Some e.1) (value_at key es)) ≡ Some bytes → P (key, bytes)) [
  | true ↦ λ same at.
      let values : e.1.values ≡ Some bytes = unmarked_some e.1.marked e.1.values bytes at in
      let mine : P (e.0, bytes) = (all_front P (value_of e.0 (Some bytes)) (values_of es) (subst (λ v. AllByRecursion P (value_of e.0 v ++ values_of es)) values h)).0 in
      subst (λ q. P (q, bytes)) (same_if e.0 key same) mine
  | false ↦ λ same at. answer_has P key bytes es (all_back P (value_of e.0 e.1.values) (values_of es) h) at
] refl is

fetched_bytes : (result : Result (Option (List ℕ)) DiskFault) (bytes : List ℕ) → replies.Bytes (Some bytes) ≡ fetched result → result ≡ Ok (Some bytes)
fetched_bytes (Ok found) bytes e = cc
fetched_bytes (Err fault) bytes e = cc

fetch_right : (off : Bool) (content : Contents) (w z : World) (key bytes : List ℕ) → (off ≡ false → IsRightDisk content w.disk) → Fetch off w key (replies.Bytes (Some bytes)) z → IsRight content (key, bytes)
fetch_right true content w z key bytes right does = let bad : replies.Bytes (Some bytes) ≡ replies.Bytes None = does.0 in cc
fetch_right false content w z key bytes on does =
    let right = on refl in
    let is = fetched_bytes does.0 bytes does.3.0 in
    let answer : Some bytes ≡ answer_at key (listed right.holds.history.held (entries w.disk.cache)) = subst (λ r. IfOk r (λ found. found ≡ answer_at key (listed right.holds.history.held (entries w.disk.cache)))) is (does.2.list right.holds.history right.holds.known) in
    answer_has (IsRight content) key bytes (listed right.holds.history.held (entries w.disk.cache)) right.keeps (sym answer)

pub fetches_right : FetchesRight
fetches_right content w z known who key bytes is s does = fetch_right w.off content w z key bytes (right_in content w known is s) does
