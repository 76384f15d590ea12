-- What events leave as it is: the settings, and the numbers of other seats' edits. And evictions as a loop.
use Rattle.std.proofs.Common.{◌≡◌, ◌≢◌, ℕ, Bool, true, false, List, [], ◌∷◌, Some, None, Ok, Err, Result, refl, sym, ap, subst, ◌∙◌}
use Rattle.std.specs.Prelude.{⊤, IsSome, IsSomeAnd}
use Rattle.std.specs.declared.option.Option.{Option}
use Rattle.disk_table.specs.Table.{edit_of}
use Rattle.cache_folder.specs.Tables.{is_offered}
use Rattle.disk_lru.specs.declared.refusals.DiskFault.{DiskFault}
use Rattle.disk_lru.specs.State.{EditValue, entries, edits}
use Rattle.disk_lru.specs.Past.{DiskState}
use Rattle.store_world.specs.declared.events.StoreEvent.{StoreEvent}
use Rattle.store_world.specs.declared.events.StoreEvent.TheVariants as events
use Rattle.store_world.specs.declared.events.StoreReply.{StoreReply}
use Rattle.store_world.specs.World.{SeatEdit, Request, World, queue_of, request_of, has_lock}
use Rattle.store_world.specs.DiskCalls.{SameMaximum, Begins, Writes, next_eviction, Evicts, EvictsTo, EndsEvicting, EvictsAll}
use Rattle.store_world.specs.Steps.{Outcome, IsOutcome, Fetch, is_too_large, want, ask_granted, begun_edit, BeginAfter, Begin, Write, CommitAfter, Commit, GiveUp}
use Rattle.store_world.specs.Knowledge.{Knowledge}
use Rattle.store_world.specs.Sound.{IsHolding, Sound}
use Rattle.store_world.specs.Laws.{SameSettings, KeepsSettings, KeepsNumbers, EvictsOneMore, RoomKeeps}
use Rattle.store_world.proofs.Numbers.{begun_others}
use Rattle.store_world.proofs.Queues.{First, first_of_granted, first_is_one, found_request}
use Rattle.store_world.proofs.Quiet.{got, evicted, evicted_key, ended}
use Rattle.store_world.proofs.Moves.{under_edit, open_granted}
use Rattle.store_world.proofs.EventLaws.{no_number, with_found, with_open}

-- ---- evictions

to_maximum : (gone : List (List ℕ)) (old new : DiskState) → EvictsTo gone old new → SameMaximum old new
to_maximum [] old new e = ap (λ (d : DiskState). d.cache.maximum) e
to_maximum (key ∷ gone) old new e = to_maximum gone e.0 new e.3 ∙ e.2.maximum

ends_maximum : (result : Result ⊤ DiskFault) (old new : DiskState) → EndsEvicting old result new → SameMaximum old new
ends_maximum (Ok x) old new e = e.maximum
ends_maximum (Err fault) old new e = e.maximum

evicted_maximum : (gone : List (List ℕ)) (old new : DiskState) (result : Result ⊤ DiskFault) → EvictsAll gone old result new → SameMaximum old new
evicted_maximum gone old new result e = ends_maximum result e.last new e.ends ∙ to_maximum gone old e.last e.evicts

pub one_more_eviction : EvictsOneMore
one_more_eviction [] key old between new e next goes = (new, ap next_eviction (sym e) ∙ next, subst (λ (d : DiskState). Evicts d (Ok true) new) e goes, refl)
one_more_eviction (k ∷ gone) key old between new e next goes = (e.0, e.1, e.2, one_more_eviction gone key e.0 between new e.3 next goes)

ended_idle : (result : Result ⊤ DiskFault) (old new : DiskState) → next_eviction old ≡ None → EndsEvicting old result new → (result ≡ Ok tt) × (new ≡ old)
ended_idle (Ok x) old new none e = (refl, e.idle refl)
ended_idle (Err fault) old new none e = let bad : false ≡ true = subst IsSome none (e.err refl) in cc

pub room_keeps : RoomKeeps
room_keeps old new [] result none e =
    let both = ended_idle result e.last new (ap next_eviction e.evicts ∙ none) e.ends in
    (refl, both.0, both.1 ∙ e.evicts)
room_keeps old new (key ∷ gone) result none e = let bad : Some key ≡ None = sym e.evicts.1 ∙ none in cc

-- ---- settings

from_left : (w z : World) (reply : StoreReply) (outcome : Outcome) → IsOutcome reply z outcome → SameSettings w outcome.1 → SameSettings w z
from_left w z reply outcome o s = subst (λ (v : World). SameSettings w v) (sym o.1) s

all_same : (w : World) → SameSettings w w
all_same w = record { off = refl; content = refl; maximum = refl }

fetch_settings : (off : Bool) (w z : World) (key : List ℕ) (reply : StoreReply) → Fetch off w key reply z → SameSettings w z
fetch_settings true w z key reply does = from_left w z reply _ does (all_same w)
fetch_settings false w z key reply does = from_left w z reply _ does.3 (record { off = refl; content = refl; maximum = does.2.maximum })

want_settings : (off large : Bool) (w z : World) (who : ℕ) (key : List ℕ) (reply : StoreReply) → IsOutcome reply z (want off large w who key) → SameSettings w z
want_settings true large w z who key reply does = from_left w z reply _ does (all_same w)
want_settings false true w z who key reply does = from_left w z reply _ does (all_same w)
want_settings false false w z who key reply does = from_left w z reply _ does (record { off = refl; content = refl; maximum = refl })

begun_settings : (result : Result EditValue DiskFault) (w z : World) (who : ℕ) (request : Request) (d : DiskState) (reply : StoreReply) → SameMaximum w.disk d → IsOutcome reply z (begun_edit w who request d result) → SameSettings w z
begun_settings (Ok edit) w z who request d reply same by = from_left w z reply _ by (record { off = refl; content = refl; maximum = same })
begun_settings (Err fault) w z who request d reply same by = from_left w z reply _ by (record { off = refl; content = refl; maximum = same })

begin_after_settings : (trim : Result ⊤ DiskFault) (w z : World) (who : ℕ) (request : Request) (d : DiskState) (reply : StoreReply) → SameMaximum w.disk d → BeginAfter trim w who request d reply z → SameSettings w z
begin_after_settings (Ok x) w z who request d reply same does = begun_settings does.0 w z who request does.1 reply (does.2.maximum ∙ same) does.3
begin_after_settings (Err fault) w z who request d reply same does = from_left w z reply _ does (record { off = refl; content = refl; maximum = same })

begin_settings : (there : Bool) (w z : World) (who : ℕ) (request : Request) (reply : StoreReply) → Begin there w who request reply z → SameSettings w z
begin_settings true w z who request reply does = from_left w z reply _ does (record { off = refl; content = refl; maximum = refl })
begin_settings false w z who request reply does = begin_after_settings does.1 w z who request does.2 reply (evicted_maximum does.0 w.disk does.2 does.1 does.3) does.4

commit_settings : (result : Result ⊤ DiskFault) (w z : World) (who : ℕ) (request : Request) (d : DiskState) (reply : StoreReply) → SameMaximum w.disk d → CommitAfter result w who request d reply z → SameSettings w z
commit_settings (Ok x) w z who request d reply same by = from_left w z reply _ by.4 (record { off = refl; content = refl; maximum = evicted_maximum by.0 d by.2 by.1 by.3 ∙ same })
commit_settings (Err fault) w z who request d reply same by = from_left w z reply _ by (record { off = refl; content = refl; maximum = same })

give_up_settings : (closed : Bool) (w z : World) (who : ℕ) (request : Request) (reply : StoreReply) → GiveUp closed w who request reply z → SameSettings w z
give_up_settings true w z who request reply does = from_left w z reply _ does (record { off = refl; content = refl; maximum = refl })
give_up_settings false w z who request reply does = from_left w z reply _ does.3 (record { off = refl; content = refl; maximum = does.2.maximum })

-- what is there is this
found : {X : Type 0} (o : Option X) (P : X → Type 0) → IsSomeAnd o P → (x : X) × P x
found None P h = absurd h
found (Some x) P h = (x, h)

pub settings_law : (event : StoreEvent) → KeepsSettings event
settings_law (events.Fetch key) w z who reply does = fetch_settings w.off w z key reply does
settings_law (events.Want key length payload) w z who reply does = want_settings w.off (is_too_large w.disk.cache.maximum length payload) w z who key reply does
settings_law events.Granted w z who reply does =
    let r = found (request_of who w.requests) (λ r. IsOutcome reply z (ask_granted w who (has_lock who w.requests) r)) does in
    from_left w z reply _ r.1 (record { off = refl; content = refl; maximum = refl })
settings_law events.Begin w z who reply does =
    let r = found (request_of who w.requests) (λ r. Begin (is_offered r.key (entries w.disk.cache)) w who r reply z) does in
    begin_settings (is_offered r.0.key (entries w.disk.cache)) w z who r.0 reply r.1
settings_law (events.Write bytes) w z who reply does =
    let r = found (request_of who w.requests) (λ r. IsSomeAnd r.edit (λ e. Write w who r e bytes reply z)) does in
    let e = found r.0.edit (λ e. Write w who r.0 e bytes reply z) r.1 in
    from_left w z reply _ e.1.3 (record { off = refl; content = refl; maximum = e.1.2.maximum })
settings_law events.Commit w z who reply does =
    let r = found (request_of who w.requests) (λ r. IsSomeAnd r.edit (λ e. Commit w who r reply z)) does in
    let e = found r.0.edit (λ e. Commit w who r.0 reply z) r.1 in
    commit_settings e.1.0 w z who r.0 e.1.1 reply e.1.2.maximum e.1.3
settings_law events.GiveUp w z who reply does =
    let r = found (request_of who w.requests) (λ r. IsSomeAnd r.edit (λ e. GiveUp e.closed w who r reply z)) does in
    let e = found r.0.edit (λ e. GiveUp e.closed w who r.0 reply z) r.1 in
    give_up_settings e.0.closed w z who r.0 reply e.1
settings_law events.Done w z who reply does = from_left w z reply _ does (record { off = refl; content = refl; maximum = refl })

-- ---- the numbers of other edits

-- all keys but one have the numbers that they had
abbrev LeavesNumbers : List ℕ → DiskState → DiskState → Type 0
LeavesNumbers key old new = (other : List ℕ) → other ≢ key → edit_of other (edits new.cache) ≡ edit_of other (edits old.cache)

from_numbers : (key : List ℕ) (w z : World) (reply : StoreReply) (outcome : Outcome) → IsOutcome reply z outcome → LeavesNumbers key w.disk outcome.1.disk → LeavesNumbers key w.disk z.disk
from_numbers key w z reply outcome o leaves = subst (λ (v : World). LeavesNumbers key w.disk v.disk) (sym o.1) leaves

begins_number : (result : Result EditValue DiskFault) (key : List ℕ) (old new : DiskState) → Begins key old result new → LeavesNumbers key old new
begins_number (Ok edit) key old new b = begun_others key edit.number (edits old.cache) (edits new.cache) b.free b.edits_are
begins_number (Err fault) key old new b = (b.fails refl).forgets.edit.others

writes_number : (result : Result ⊤ DiskFault) (key bytes : List ℕ) (old new : DiskState) → Writes key bytes old result new → LeavesNumbers key old new
writes_number (Ok x) key bytes old new c other ne = ap (edit_of other) (c.edits_are refl)
writes_number (Err fault) key bytes old new c other ne = (c.fails refl).forgets.edit.others other ne

begun_numbers : (result : Result EditValue DiskFault) (w z : World) (who : ℕ) (request : Request) (d : DiskState) (reply : StoreReply) → LeavesNumbers request.key w.disk d → IsOutcome reply z (begun_edit w who request d result) → LeavesNumbers request.key w.disk z.disk
begun_numbers (Ok edit) w z who request d reply same by = from_numbers request.key w z reply _ by same
begun_numbers (Err fault) w z who request d reply same by = from_numbers request.key w z reply _ by same

begin_after_numbers : (trim : Result ⊤ DiskFault) (w z : World) (who : ℕ) (request : Request) (d : DiskState) (reply : StoreReply) → edits d.cache ≡ edits w.disk.cache → BeginAfter trim w who request d reply z → LeavesNumbers request.key w.disk z.disk
begin_after_numbers (Ok x) w z who request d reply same does =
    begun_numbers does.0 w z who request does.1 reply (λ other ne. begins_number does.0 request.key d does.1 does.2 other ne ∙ ap (edit_of other) same) does.3
begin_after_numbers (Err fault) w z who request d reply same does = from_numbers request.key w z reply _ does (λ other ne. ap (edit_of other) same)

begin_numbers : (there : Bool) (w z : World) (known : ℕ → Knowledge) (who : ℕ) (request : Request) (reply : StoreReply) → Sound w known → Begin there w who request reply z → LeavesNumbers request.key w.disk z.disk
begin_numbers true w z known who request reply s does = from_numbers request.key w z reply _ does (λ other ne. refl)
begin_numbers false w z known who request reply s does = begin_after_numbers does.1 w z who request does.2 reply (evicted does.0 w.disk does.2 does.1 s.once does.3).leaves.edits_are does.4

-- all keys have the numbers that they had
abbrev AllNumbers : DiskState → DiskState → Type 0
AllNumbers old new = (key : List ℕ) → edit_of key (edits new.cache) ≡ edit_of key (edits old.cache)

from_all : (w z : World) (reply : StoreReply) (outcome : Outcome) → IsOutcome reply z outcome → AllNumbers w.disk outcome.1.disk → AllNumbers w.disk z.disk
from_all w z reply outcome o all = subst (λ (v : World). AllNumbers w.disk v.disk) (sym o.1) all

fetch_numbers : (off : Bool) (w z : World) (known : ℕ → Knowledge) (key : List ℕ) (reply : StoreReply) → Sound w known → Fetch off w key reply z → AllNumbers w.disk z.disk
fetch_numbers true w z known key reply s does = from_all w z reply _ does (λ k. refl)
fetch_numbers false w z known key reply s does =
    from_all w z reply _ does.3 (λ k. ap (edit_of k) (got key w.disk does.1 does.0 s.once (no_number w known s key) does.2).leaves.edits_are)

want_numbers : (off large : Bool) (w z : World) (who : ℕ) (key : List ℕ) (reply : StoreReply) → IsOutcome reply z (want off large w who key) → AllNumbers w.disk z.disk
want_numbers true large w z who key reply does = from_all w z reply _ does (λ k. refl)
want_numbers false true w z who key reply does = from_all w z reply _ does (λ k. refl)
want_numbers false false w z who key reply does = from_all w z reply _ does (λ k. refl)

give_up_numbers : (closed : Bool) (w z : World) (who : ℕ) (request : Request) (reply : StoreReply) → GiveUp closed w who request reply z → LeavesNumbers request.key w.disk z.disk
give_up_numbers true w z who request reply does = from_numbers request.key w z reply _ does (λ other ne. refl)
give_up_numbers false w z who request reply does = from_numbers request.key w z reply _ does.3 does.2.edit.others

-- another seat's open edit is of another key than the first's of this queue
other_key : (w : World) (known : ℕ → Knowledge) → Sound w known → (who other : ℕ) (first : Request) (request : Request) (edit : SeatEdit) → First who first.key w.requests → other ≢ who
    → request_of other w.requests ≡ Some request → request.edit ≡ Some edit → edit.closed ≡ false → request.key ≢ first.key
other_key w known s who other first request edit is_first ne at has open_ same =
    let under = under_edit w known s other request edit at has open_ in
    let one = first_is_one who other (queue_of first.key w.requests) is_first (subst (λ q. First other q w.requests) same under.first) in
    ne (sym one)

-- the seat's request, which is the first of its key's queue, since it was told that it has the lock
granted_first : (w : World) (known : ℕ → Knowledge) → Sound w known → (who : ℕ) (request : Request) (edit : SeatEdit) → request_of who w.requests ≡ Some request → request.edit ≡ Some edit → First who request.key w.requests
granted_first w known s who request edit at has =
    first_of_granted who request w.requests s.orderly at (open_granted request edit (found_request IsHolding who request w.requests s.holding at) has)

to_edits : (gone : List (List ℕ)) (old new : DiskState) → EvictsTo gone old new → edits new.cache ≡ edits old.cache
to_edits [] old new e = ap (λ (d : DiskState). edits d.cache) e
to_edits (key ∷ gone) old new e = to_edits gone e.0 new e.3 ∙ (evicted_key key old e.0 (Ok true) e.1 e.2).edits_are

evicted_edits : (gone : List (List ℕ)) (old new : DiskState) (result : Result ⊤ DiskFault) → EvictsAll gone old result new → edits new.cache ≡ edits old.cache
evicted_edits gone old new result e = (ended e.last new result e.ends).leaves.edits_are ∙ to_edits gone old e.last e.evicts

commit_numbers : (result : Result ⊤ DiskFault) (w z : World) (who : ℕ) (request : Request) (d : DiskState) (reply : StoreReply) → LeavesNumbers request.key w.disk d → CommitAfter result w who request d reply z → LeavesNumbers request.key w.disk z.disk
commit_numbers (Ok x) w z who request d reply same by = from_numbers request.key w z reply _ by.4 (λ other ne. ap (edit_of other) (evicted_edits by.0 d by.2 by.1 by.3) ∙ same other ne)
commit_numbers (Err fault) w z who request d reply same by = from_numbers request.key w z reply _ by same

pub numbers_law : (event : StoreEvent) → KeepsNumbers event
numbers_law (events.Fetch key) w z known who other reply request edit s permits does ne at has open_ = fetch_numbers w.off w z known key reply s does request.key
numbers_law (events.Want key length payload) w z known who other reply request edit s permits does ne at has open_ =
    want_numbers w.off (is_too_large w.disk.cache.maximum length payload) w z who key reply does request.key
numbers_law events.Granted w z known who other reply request edit s permits does ne at has open_ =
    let r = found (request_of who w.requests) (λ r. IsOutcome reply z (ask_granted w who (has_lock who w.requests) r)) does in
    from_all w z reply _ r.1 (λ k. refl) request.key
numbers_law events.Begin w z known who other reply request edit s may does ne at has open_ =
    let mine = sym (s.known_is who) ∙ may.knows in
    let first = first_of_granted who may.request w.requests s.orderly mine may.granted in
    begin_numbers (is_offered may.request.key (entries w.disk.cache)) w z known who may.request reply s
    (with_found (λ r. Begin (is_offered r.key (entries w.disk.cache)) w who r reply z) (request_of who w.requests) may.request mine does)
    request.key (other_key w known s who other may.request request edit first ne at has open_)
numbers_law (events.Write bytes) w z known who other reply request edit s permits does ne at has open_ =
    let h = permits.0.holds in
    let mine = sym (s.known_is who) ∙ h.knows in
    let d = with_open (λ r e. Write w who r e bytes reply z) w who h.request h.edit mine h.has does in
    from_numbers h.request.key w z reply _ d.3 (writes_number d.0 h.request.key bytes w.disk d.1 d.2)
    request.key (other_key w known s who other h.request request edit (granted_first w known s who h.request h.edit mine h.has) ne at has open_)
numbers_law events.Commit w z known who other reply request edit s permits does ne at has open_ =
    let h = permits.0.holds in
    let mine = sym (s.known_is who) ∙ h.knows in
    let d = with_open (λ r e. Commit w who r reply z) w who h.request h.edit mine h.has does in
    commit_numbers d.0 w z who h.request d.1 reply d.2.edit.others d.3
    request.key (other_key w known s who other h.request request edit (granted_first w known s who h.request h.edit mine h.has) ne at has open_)
numbers_law events.GiveUp w z known who other reply request edit s h does ne at has open_ =
    let mine = sym (s.known_is who) ∙ h.knows in
    give_up_numbers h.edit.closed w z who h.request reply (with_open (λ r e. GiveUp e.closed w who r reply z) w who h.request h.edit mine h.has does)
    request.key (other_key w known s who other h.request request edit (granted_first w known s who h.request h.edit mine h.has) ne at has open_)
numbers_law events.Done w z known who other reply request edit s may does ne at has open_ = from_all w z reply _ does (λ k. refl) request.key
