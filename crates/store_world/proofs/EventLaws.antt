-- Each event keeps what is sound.
use Rattle.std.proofs.Common.{◌≡◌, ℕ, ◌+◌, ◌<◌, Bool, true, false, List, [], ◌∷◌, ◌++◌, length, Some, None, Ok, Err, Result, refl, sym, ap, subst, ◌∙◌}
use Rattle.std.specs.Prelude.{⊤, is_some, IsSomeAnd}
use Rattle.std.specs.declared.option.Option.{Option}
use Rattle.std.specs.Option.{option_map}
use Rattle.std.specs.FinMap.{get}
use Rattle.std.proofs.lemmas.List.{length-append}
use Rattle.outside.specs.Content.{Contents}
use Rattle.outside.specs.Files.{Folder, FolderHistory}
use Rattle.disk_table.specs.Table.{edit_of}
use Rattle.cache_folder.specs.Offered.{edit_name}
use Rattle.cache_folder.specs.Images.{IfKnown}
use Rattle.cache_folder.specs.Tables.{edit_at, len_at, is_offered}
use Rattle.cache_folder.specs.Sound.{text_at, abort_step}
use Rattle.cache_folder.specs.Allowed.{Pass, handed_by}
use Rattle.disk_lru.specs.declared.refusals.DiskFault.{DiskFault}
use Rattle.disk_lru.specs.State.{EditValue, entries, edits}
use Rattle.disk_lru.specs.Calls.{Steps, Fails, no_steps, begin_steps, commit_steps, abort_steps, drop_steps}
use Rattle.disk_lru.specs.Past.{DiskState}
use Rattle.store_world.specs.declared.events.StoreEvent.{StoreEvent}
use Rattle.store_world.specs.declared.events.StoreEvent.TheVariants as events
use Rattle.store_world.specs.declared.events.StoreReply.{StoreReply}
use Rattle.store_world.specs.declared.events.StoreReply.TheVariants as replies
use Rattle.store_world.specs.Right.{IsRightIn}
use Rattle.store_world.specs.World.{SeatEdit, Request, World, request_of, without_seat, has_lock_by, has_lock}
use Rattle.store_world.specs.DiskCalls.{Begins, Writes, Commits, Aborts}
use Rattle.store_world.specs.Steps.{IsOutcome, with_disk, with_requests, with_own, with_own_on, new_request, granted, begun_with, with_edit, new_edit, more_written, closed_edit, done, fetched, Fetch, is_too_large, want, ask_granted, begun_edit, BeginAfter, Begin, edit_after, Write, CommitAfter, Commit, GiveUp, WithEdit}
use Rattle.store_world.specs.Knowledge.{Knowledge, updated, knowledge_with}
use Rattle.store_world.specs.Sound.{seat_count, IsHolding, open_length_by, open_length, HasFile, IsRightStore, Sound}
use Rattle.store_world.specs.Laws.{KeepsSound}
use Rattle.store_world.proofs.Tables.{Moved, moved_same, moved_newest, moved_without, moved_grown, moved_aborted}
use Rattle.store_world.proofs.Queues.{First, first_of_granted, open_of_first, as_same, found_request}
use Rattle.store_world.proofs.Numbers.{Renumbered, renumbered_same, renumbered_closed, renumbered_begun}
use Rattle.store_world.proofs.Allowed.{nothing_handed, Allows, allows_passage, right_stays, right_kept}
use Rattle.store_world.proofs.Quiet.{got, evicted}
use Rattle.store_world.proofs.Moves.{CallMoves, moves, open_granted, open_is, by_first, by_quiet, by_nothing, by_want, by_leaving}

from_outcome : (known : ℕ → Knowledge) (who : ℕ) (event : StoreEvent) (answer reply : StoreReply) (left z : World) → IsOutcome reply z (answer, left)
    → Sound left (knowledge_with known who event answer) → Sound z (knowledge_with known who event reply)
from_outcome known who event answer reply left z o s =
    subst (λ r. Sound z (knowledge_with known who event r)) (sym o.0) (subst (λ v. Sound v (knowledge_with known who event answer)) (sym o.1) s)

none_of_some : (o : Option ℕ) → is_some o ≡ false → o ≡ None
none_of_some None e = refl
none_of_some (Some n) e = cc

-- a key that is not under edit in the table has no number
pub no_number : (w : World) (known : ℕ → Knowledge) → Sound w known → (key : List ℕ) → edit_at key (entries w.disk.cache) ≡ None → edit_of key (edits w.disk.cache) ≡ None
no_number w known s key none =
    none_of_some (edit_of key (edits w.disk.cache)) (s.edits_agree.numbers key ∙ ap is_some (sym (s.edits_agree.lengths key) ∙ none))

-- ---- Fetch and Want

fetch_by : (off : Bool) (key : List ℕ) (w z : World) (known : ℕ → Knowledge) (who : ℕ) (reply : StoreReply) → Sound w known → Fetch off w key reply z → Sound z (knowledge_with known who (events.Fetch key) reply)
fetch_by true key w z known who reply s does =
    from_outcome known who (events.Fetch key) (replies.Bytes None) reply w z does (by_nothing w known who (events.Fetch key) (replies.Bytes None) s refl)
fetch_by false key w z known who reply s does =
    let left = by_quiet w known does.1 s (got key w.disk does.1 does.0 s.once (no_number w known s key) does.2) in
    from_outcome known who (events.Fetch key) (fetched does.0) reply (with_disk does.1 w) z does.3
    (by_nothing (with_disk does.1 w) known who (events.Fetch key) (fetched does.0) left refl)

fetch_law : (key : List ℕ) → KeepsSound (events.Fetch key)
fetch_law key w z known who reply small s permits does = fetch_by w.off key w z known who reply s does

want_by : (off large : Bool) (key : List ℕ) (length payload : ℕ) (w z : World) (known : ℕ → Knowledge) (who : ℕ) (reply : StoreReply) → w.off ≡ off → who < seat_count → Sound w known → known who ≡ None
    → IsOutcome reply z (want off large w who key) → Sound z (knowledge_with known who (events.Want key length payload) reply)
want_by true large key length payload w z known who reply is small s none does =
    from_outcome known who (events.Want key length payload) replies.Off reply w z does (by_nothing w known who (events.Want key length payload) replies.Off s refl)
want_by false true key length payload w z known who reply is small s none does =
    from_outcome known who (events.Want key length payload) replies.TooLarge reply w z does (by_nothing w known who (events.Want key length payload) replies.TooLarge s refl)
want_by false false key length payload w z known who reply is small s none does =
    from_outcome known who (events.Want key length payload) replies.Done reply (with_requests (w.requests ++ (who, new_request key) ∷ []) w) z does
    (by_want w known who (events.Want key length payload) replies.Done key small is s none refl)

want_law : (key : List ℕ) (length payload : ℕ) → KeepsSound (events.Want key length payload)
want_law key length payload w z known who reply small s permits does =
    want_by w.off (is_too_large w.disk.cache.maximum length payload) key length payload w z known who reply refl small s permits does

-- ---- an event of a seat with a request

-- what the table has of the first's key is its open edit
pub length_of_first : (w : World) (known : ℕ → Knowledge) (who : ℕ) (request : Request) → Sound w known → request_of who w.requests ≡ Some request → First who request.key w.requests
    → edit_at request.key (entries w.disk.cache) ≡ open_length request.edit
length_of_first w known who request s at first = s.edits_agree.lengths request.key ∙ open_of_first who request w.requests at first

number_of_first : (w : World) (known : ℕ → Knowledge) (who : ℕ) (request : Request) → Sound w known → request_of who w.requests ≡ Some request → First who request.key w.requests
    → is_some (edit_of request.key (edits w.disk.cache)) ≡ is_some (open_length request.edit)
number_of_first w known who request s at first = s.edits_agree.numbers request.key ∙ ap is_some (open_of_first who request w.requests at first)

no_file : (folder : Folder) (request : Request) → request.edit ≡ None → HasFile folder request
no_file folder request none edit is open_ = let no : None ≡ Some edit = sym none ∙ is in cc

same_files : (key : List ℕ) (edit : Option ℕ) (d : DiskState) → Moved key edit (entries d.cache) (entries d.cache) → Renumbered key edit (edits d.cache) (edits d.cache) → CallMoves key edit d d
same_files key edit d lengths numbers = record {
  lengths = lengths;
  numbers = numbers;
  known = λ k is. (k, is);
  files = λ h is_h k is_k other ne. let same : k ≡ h = one h k (sym is_h ∙ is_k) in ap (λ (j : FolderHistory). get j.held (edit_name other)) same;
} where
  one : (h k : FolderHistory) → Some h ≡ Some k → k ≡ h
  one h k e = cc

-- the same disk, and a request with the same open edit
still : (w : World) (known : ℕ → Knowledge) (who : ℕ) (event : StoreEvent) (reply : StoreReply) (request request' : Request) → Sound w known → request_of who w.requests ≡ Some request → First who request.key w.requests
    → request'.key ≡ request.key → IsHolding request' → open_length request'.edit ≡ open_length request.edit → IfKnown w.disk.cache.history (λ k. HasFile k.held request')
    → updated event reply (known who) ≡ Some request' → Sound (with_own who request' w) (knowledge_with known who event reply)
still w known who event reply request request' s at first key holding same mine after_is =
    by_first w known who event reply request request' w.disk s at first key holding
    (same_files request.key (open_length request'.edit) w.disk
    (subst (λ e. Moved request.key e (entries w.disk.cache) (entries w.disk.cache)) (length_of_first w known who request s at first ∙ sym same) (moved_same request.key (entries w.disk.cache) s.once))
    (renumbered_same request.key (open_length request'.edit) (edits w.disk.cache) (edits w.disk.cache) (number_of_first w known who request s at first ∙ ap is_some (sym same)) refl))
    mine s.right after_is

granted_by : (front : Bool) (w z : World) (known : ℕ → Knowledge) (who : ℕ) (reply : StoreReply) (request : Request) → has_lock who w.requests ≡ front → Sound w known → known who ≡ Some request → request_of who w.requests ≡ Some request
    → IsOutcome reply z (ask_granted w who front request) → Sound z (knowledge_with known who events.Granted reply)
granted_by true w z known who reply request is s knows at does =
    from_outcome known who events.Granted (replies.Front true) reply (with_own who (granted request) w) z does
    (still w known who events.Granted (replies.Front true) request (granted request) s at (sym (ap (has_lock_by who w.requests) at) ∙ is) refl
    (record { granted = λ g. cc; begun = (found_request IsHolding who request w.requests s.holding at).begun }) refl (λ g told. s.files g told who request at) (ap (option_map granted) knows))
granted_by false w z known who reply request is s knows at does =
    from_outcome known who events.Granted (replies.Front false) reply (with_own who request w) z does
    (subst (λ l. Sound (with_requests l w) (knowledge_with known who events.Granted (replies.Front false))) (sym (as_same who request w.requests at)) (by_nothing w known who events.Granted (replies.Front false) s refl))

-- an event of a seat with a request, or with an edit besides
pub with_found : (does : Request → Type 0) (o : Option Request) (request : Request) → o ≡ Some request → IsSomeAnd o does → does request
with_found does o request at h = subst (λ r. IsSomeAnd r does) at h

pub with_open : (does : Request → SeatEdit → Type 0) (w : World) (who : ℕ) (request : Request) (edit : SeatEdit) → request_of who w.requests ≡ Some request → request.edit ≡ Some edit → WithEdit w who does → does request edit
with_open does w who request edit at has h =
    subst (λ e. IsSomeAnd e (does request)) has (with_found (λ r. IsSomeAnd r.edit (does r)) (request_of who w.requests) request at h)

granted_law : KeepsSound events.Granted
granted_law w z known who reply small s permits does =
    let at = sym (s.known_is who) ∙ permits.1 in
    granted_by (has_lock who w.requests) w z known who reply permits.0 refl s permits.1 at
    (with_found (λ r. IsOutcome reply z (ask_granted w who (has_lock who w.requests) r)) (request_of who w.requests) permits.0 at does)

-- ---- a call on the key of the first of a queue that failed

failed_moves : (key : List ℕ) (steps : Steps) (w : World) (known : ℕ → Knowledge) (d : DiskState) → Sound w known → Fails key steps w.disk.cache d.cache → CallMoves key None w.disk d
failed_moves key steps w known d s fails =
    moves key None steps (drop_steps key) w.disk d fails.call
    (subst (Moved key None (entries w.disk.cache)) (sym fails.forgets.entries_are) (moved_without key (entries w.disk.cache) s.once))
    (renumbered_closed key w.disk.cache d.cache fails.forgets.edit)

-- it has no edit then
no_edit : (request : Request) → request.edit ≡ None → IsHolding request
no_edit request none = record { granted = λ g. none; begun = λ b. none }

-- ---- Begin

begun_by : (result : Result EditValue DiskFault) (w z : World) (known : ℕ → Knowledge) (who : ℕ) (reply : StoreReply) (request : Request) (d : DiskState) → Sound w known → known who ≡ Some request → request_of who w.requests ≡ Some request
    → First who request.key w.requests → request.granted ≡ true → request.edit ≡ None → Begins request.key w.disk result d → IsOutcome reply z (begun_edit w who request d result) → Sound z (knowledge_with known who events.Begin reply)
begun_by (Ok edit) w z known who reply request d s knows at first g none begins by =
    let request' = begun_with (Some new_edit) request in
    let closed = no_number w known s request.key (length_of_first w known who request s at first ∙ ap open_length none) in
    let makes = begins.makes refl in
    from_outcome known who events.Begin replies.Done reply (with_own_on d who request' w) z by
    (by_first w known who events.Begin replies.Done request request' d s at first refl (record { granted = λ no. let bad : true ≡ false = sym g ∙ no in cc; begun = λ no. cc })
    (moves request.key (Some 0) (begin_steps request.key) (begin_steps request.key) w.disk d makes.call
    (subst (Moved request.key (Some 0) (entries w.disk.cache)) (sym (begins.ok refl)) (moved_newest request.key record { len = len_at request.key (entries w.disk.cache); edit = Some 0 } (entries w.disk.cache) s.once))
    (renumbered_begun request.key edit w.disk.cache d.cache begins.key_is begins.open_ closed begins.free begins.edits_are))
    (λ k is own has open_. begins.empty refl k is ∙ written own has)
    (λ on. right_kept w.content w.disk d (allows_passage (begin_steps request.key) w.disk d makes.call.passage) (s.right on)) (ap (option_map (begun_with (Some new_edit))) knows)) where
      written : (own : SeatEdit) → Some new_edit ≡ Some own → [] ≡ own.written
      written own e = let same : new_edit ≡ own = cc in ap (λ (x : SeatEdit). x.written) same
begun_by (Err fault) w z known who reply request d s knows at first g none begins by =
    let request' = begun_with None request in
    let fails = begins.fails refl in
    from_outcome known who events.Begin (replies.Fault fault) reply (with_own_on d who request' w) z by
    (by_first w known who events.Begin (replies.Fault fault) request request' d s at first refl (no_edit request' refl) (failed_moves request.key (begin_steps request.key) w known d s fails)
    (λ k is. no_file k.held request' refl) (λ on. right_kept w.content w.disk d (allows_passage (begin_steps request.key) w.disk d fails.call.passage) (s.right on)) (ap (option_map (begun_with None)) knows))

begun_over : (result : Result EditValue DiskFault) (w z : World) (who : ℕ) (reply : StoreReply) (request : Request) (d e : DiskState) → IsOutcome reply z (begun_edit w who request e result) → IsOutcome reply z (begun_edit (with_disk d w) who request e result)
begun_over (Ok x) w z who reply request d e by = by
begun_over (Err fault) w z who reply request d e by = by

begin_after : (trim : Result ⊤ DiskFault) (w z : World) (known : ℕ → Knowledge) (who : ℕ) (reply : StoreReply) (request : Request) (d : DiskState) → Sound (with_disk d w) known → known who ≡ Some request → request_of who w.requests ≡ Some request
    → First who request.key w.requests → request.granted ≡ true → request.edit ≡ None → BeginAfter trim w who request d reply z → Sound z (knowledge_with known who events.Begin reply)
begin_after (Ok x) w z known who reply request d s knows at first g none does =
    begun_by does.0 (with_disk d w) z known who reply request does.1 s knows at first g none does.2 (begun_over does.0 w z who reply request d does.1 does.3)
begin_after (Err fault) w z known who reply request d s knows at first g none does =
    let request' = begun_with None request in
    from_outcome known who events.Begin (replies.Fault fault) reply (with_own_on d who request' w) z does
    (still (with_disk d w) known who events.Begin (replies.Fault fault) request request' s at first refl (no_edit request' refl) (sym (ap open_length none)) (λ k is. no_file k.held request' refl) (ap (option_map (begun_with None)) knows))

begin_by : (there : Bool) (w z : World) (known : ℕ → Knowledge) (who : ℕ) (reply : StoreReply) (request : Request) → Sound w known → known who ≡ Some request → request_of who w.requests ≡ Some request
    → First who request.key w.requests → request.granted ≡ true → request.edit ≡ None → Begin there w who request reply z → Sound z (knowledge_with known who events.Begin reply)
begin_by true w z known who reply request s knows at first g none does =
    let request' = begun_with None request in
    from_outcome known who events.Begin replies.Already reply (with_own who request' w) z does
    (still w known who events.Begin replies.Already request request' s at first refl (no_edit request' refl) (sym (ap open_length none)) (λ k is. no_file k.held request' refl) (ap (option_map (begun_with None)) knows))
begin_by false w z known who reply request s knows at first g none does =
    begin_after does.1 w z known who reply request does.2 (by_quiet w known does.2 s (evicted does.0 w.disk does.2 does.1 s.once does.3)) knows at first g none does.4

begin_law : KeepsSound events.Begin
begin_law w z known who reply small s may does =
    let at = sym (s.known_is who) ∙ may.knows in
    begin_by (is_offered may.request.key (entries w.disk.cache)) w z known who reply may.request s may.knows at (first_of_granted who may.request w.requests s.orderly at may.granted) may.granted
    ((found_request IsHolding who may.request w.requests s.holding at).begun may.first)
    (with_found (λ r. Begin (is_offered r.key (entries w.disk.cache)) w who r reply z) (request_of who w.requests) may.request at does)

-- ---- Write

written_by : (result : Result ⊤ DiskFault) (bytes : List ℕ) (w z : World) (known : ℕ → Knowledge) (who : ℕ) (reply : StoreReply) (request : Request) (edit : SeatEdit) (d : DiskState) → Sound w known → known who ≡ Some request
    → request_of who w.requests ≡ Some request → First who request.key w.requests → request.granted ≡ true → IsHolding request → request.edit ≡ Some edit → edit.closed ≡ false → Writes request.key bytes w.disk result d
    → IsOutcome reply z (done result, with_own_on d who (with_edit (Some (edit_after bytes result edit)) request) w) → Sound z (knowledge_with known who (events.Write bytes) reply)
written_by (Ok x) bytes w z known who reply request edit d s knows at first g holding has open_ writes by =
    let request' = with_edit (Some (more_written bytes edit)) request in
    let now : edit_at request.key (entries w.disk.cache) ≡ Some (length edit.written) = length_of_first w known who request s at first ∙ open_is request.edit edit has open_ in
    let then_ : Some (length edit.written + length bytes) ≡ open_length request'.edit = ap Some (sym (length-append edit.written bytes)) ∙ sym (ap (λ b. open_length_by b (length (edit.written ++ bytes))) open_) in
    let makes = writes.makes refl in
    from_outcome known who (events.Write bytes) replies.Done reply (with_own_on d who request' w) z by
    (by_first w known who (events.Write bytes) replies.Done request request' d s at first refl
    (record { granted = λ no. let bad : true ≡ false = sym g ∙ no in cc; begun = λ no. let bad : None ≡ Some edit = sym (holding.begun no) ∙ has in cc })
    (moves request.key (open_length request'.edit) no_steps no_steps w.disk d makes.call
    (subst (λ e. Moved request.key e (entries w.disk.cache) (entries d.cache)) then_ (subst (Moved request.key (Some (length edit.written + length bytes)) (entries w.disk.cache)) (sym (writes.ok refl (length edit.written) now)) (moved_grown request.key (length edit.written + length bytes) (length edit.written) (entries w.disk.cache) s.once now)))
    (renumbered_same request.key (open_length request'.edit) (edits w.disk.cache) (edits d.cache) (number_of_first w known who request s at first ∙ ap is_some (open_is request.edit edit has open_) ∙ ap is_some then_) (writes.edits_are refl)))
    (λ k is own own_is own_open.
    let before = makes.call.passage.known k is in
    let file = s.files before.0 before.1 who request at edit has open_ in
    writes.text refl before.0 before.1 k is ∙ ap (λ (t : List ℕ). t ++ bytes) file ∙ written own own_is)
    (λ on. right_kept w.content w.disk d (allows_passage no_steps w.disk d makes.call.passage) (s.right on))
    (ap (option_map (λ (r : Request). with_edit (option_map (more_written bytes) r.edit) r)) knows ∙ ap (λ e. Some (with_edit (option_map (more_written bytes) e) request)) has)) where
      written : (own : SeatEdit) → Some (more_written bytes edit) ≡ Some own → edit.written ++ bytes ≡ own.written
      written own e = let same : more_written bytes edit ≡ own = cc in ap (λ (x : SeatEdit). x.written) same
written_by (Err fault) bytes w z known who reply request edit d s knows at first g holding has open_ writes by =
    let request' = with_edit (Some (closed_edit edit)) request in
    let fails = writes.fails refl in
    from_outcome known who (events.Write bytes) (replies.Fault fault) reply (with_own_on d who request' w) z by
    (by_first w known who (events.Write bytes) (replies.Fault fault) request request' d s at first refl
    (record { granted = λ no. let bad : true ≡ false = sym g ∙ no in cc; begun = λ no. let bad : None ≡ Some edit = sym (holding.begun no) ∙ has in cc })
    (failed_moves request.key no_steps w known d s fails)
    (λ k is own own_is own_open. let bad : Some true ≡ Some false = ap (option_map (λ (x : SeatEdit). x.closed)) own_is ∙ ap Some own_open in cc)
    (λ on. right_kept w.content w.disk d (allows_passage no_steps w.disk d fails.call.passage) (s.right on))
    (ap (option_map (λ (r : Request). with_edit (option_map closed_edit r.edit) r)) knows ∙ ap (λ e. Some (with_edit (option_map closed_edit e) request)) has))

write_law : (bytes : List ℕ) → KeepsSound (events.Write bytes)
write_law bytes w z known who reply small s permits does =
    let h = permits.0.holds in
    let at = sym (s.known_is who) ∙ h.knows in
    let holding = found_request IsHolding who h.request w.requests s.holding at in
    let g = open_granted h.request h.edit holding h.has in
    let d = with_open (λ r e. Write w who r e bytes reply z) w who h.request h.edit at h.has does in
    written_by d.0 bytes w z known who reply h.request h.edit d.1 s h.knows at (first_of_granted who h.request w.requests s.orderly at g) g holding h.has permits.0.open_ d.2 d.3

-- ---- Commit

-- the call hands over what was written
pub commit_right : (content : Option Contents) (key written : List ℕ) (old new : DiskState) → Allows (λ f. (key, text_at f (edit_name key)) ∷ []) old new → IfKnown old.cache.history (λ h. text_at h.held (edit_name key) ≡ written)
    → IsRightIn content (key, written) → IsRightStore content old → IsRightStore content new
commit_right None key written old new allows file right store = tt
commit_right (Some content) key written old new allows file right store =
    (right_stays content (λ f. (key, text_at f (edit_name key)) ∷ []) old new allows store
    (subst (λ (text : List ℕ). IsRightIn (Some content) (key, text)) (sym (file store.holds.history store.holds.known)) right, tt)).0

pub commit_allows : (result : Result ⊤ DiskFault) (key : List ℕ) (old new : DiskState) → Commits key old result new → Allows (λ f. (key, text_at f (edit_name key)) ∷ []) old new
commit_allows (Ok x) key old new c = allows_passage (commit_steps key) old new (c.makes refl).call.passage
commit_allows (Err fault) key old new c = allows_passage (commit_steps key) old new (c.fails refl).call.passage

committed_by : (result : Result ⊤ DiskFault) (w z : World) (known : ℕ → Knowledge) (who : ℕ) (reply : StoreReply) (request : Request) (edit : SeatEdit) (d : DiskState) → Sound w known → known who ≡ Some request → request_of who w.requests ≡ Some request
    → First who request.key w.requests → request.edit ≡ Some edit → edit.closed ≡ false → (w.off ≡ false → IsRightStore w.content d) → Commits request.key w.disk result d → CommitAfter result w who request d reply z → Sound z (knowledge_with known who events.Commit reply)
committed_by (Ok x) w z known who reply request edit d s knows at first has open_ right commits by =
    let request' = with_edit None request in
    let now : edit_at request.key (entries w.disk.cache) ≡ Some (length edit.written) = length_of_first w known who request s at first ∙ open_is request.edit edit has open_ in
    let makes = commits.makes refl in
    let answer = done by.1 in
    let after_commit : Sound (with_own_on d who request' w) (knowledge_with known who events.Commit answer) =
    by_first w known who events.Commit answer request request' d s at first refl (no_edit request' refl)
    (moves request.key None (commit_steps request.key) (commit_steps request.key) w.disk d makes.call
    (subst (Moved request.key None (entries w.disk.cache)) (sym (commits.ok refl (length edit.written) now)) (moved_newest request.key record { len = Some (length edit.written); edit = None } (entries w.disk.cache) s.once))
    (renumbered_closed request.key w.disk.cache d.cache commits.edit))
    (λ k is. no_file k.held request' refl) right (ap (option_map (with_edit None)) knows) in
    from_outcome known who events.Commit answer reply (with_own_on by.2 who request' w) z by.4
    (by_quiet (with_own_on d who request' w) (knowledge_with known who events.Commit answer) by.2 after_commit (evicted by.0 d by.2 by.1 after_commit.once by.3))
committed_by (Err fault) w z known who reply request edit d s knows at first has open_ right commits by =
    let request' = with_edit None request in
    from_outcome known who events.Commit (replies.Fault fault) reply (with_own_on d who request' w) z by
    (by_first w known who events.Commit (replies.Fault fault) request request' d s at first refl (no_edit request' refl) (failed_moves request.key (commit_steps request.key) w known d s (commits.fails refl))
    (λ k is. no_file k.held request' refl) right (ap (option_map (with_edit None)) knows))

commit_law : KeepsSound events.Commit
commit_law w z known who reply small s permits does =
    let h = permits.0.holds in
    let at = sym (s.known_is who) ∙ h.knows in
    let first = first_of_granted who h.request w.requests s.orderly at (open_granted h.request h.edit (found_request IsHolding who h.request w.requests s.holding at) h.has) in
    let d = with_open (λ r e. Commit w who r reply z) w who h.request h.edit at h.has does in
    let right = λ (on : w.off ≡ false). commit_right w.content h.request.key h.edit.written w.disk d.1 (commit_allows d.0 h.request.key w.disk d.1 d.2) (λ k told. s.files k told who h.request at h.edit h.has permits.0.open_) permits.1 (s.right on) in
    committed_by d.0 w z known who reply h.request h.edit d.1 s h.knows at first h.has permits.0.open_ right d.2 d.3

-- ---- GiveUp and Done

abort_moves : (result : Result ⊤ DiskFault) (key : List ℕ) (w : World) (known : ℕ → Knowledge) (d : DiskState) → Sound w known → Aborts key w.disk result d → CallMoves key None w.disk d
abort_moves (Ok x) key w known d s a =
    let steps = abort_steps key w.disk.cache in
    moves key None steps steps w.disk d (a.makes refl).call
    (subst (Moved key None (entries w.disk.cache)) (sym (a.ok refl)) (moved_aborted key (len_at key (entries w.disk.cache)) (entries w.disk.cache) s.once))
    (renumbered_closed key w.disk.cache d.cache a.edit)
abort_moves (Err fault) key w known d s a = failed_moves key (abort_steps key w.disk.cache) w known d s (a.fails refl)

-- a step of an edit that is given up hands nothing over
gives_nothing : (allowed : List ℕ × List ℕ → Bool) (key : List ℕ) (len : Option ℕ) → Pass allowed (handed_by (abort_step len key ∷ []))
gives_nothing allowed key None = tt
gives_nothing allowed key (Some n) = tt

pub abort_allows : (result : Result ⊤ DiskFault) (key : List ℕ) (old new : DiskState) → Aborts key old result new → Allows nothing_handed old new
abort_allows (Ok x) key old new a h known allowed within given =
    allows_passage (abort_steps key old.cache) old new (a.makes refl).call.passage h known allowed within (gives_nothing allowed key (len_at key (entries old.cache)))
abort_allows (Err fault) key old new a h known allowed within given =
    allows_passage (abort_steps key old.cache) old new (a.fails refl).call.passage h known allowed within (gives_nothing allowed key (len_at key (entries old.cache)))

give_up_by : (closed : Bool) (w z : World) (known : ℕ → Knowledge) (who : ℕ) (reply : StoreReply) (request : Request) (edit : SeatEdit) → Sound w known → known who ≡ Some request → request_of who w.requests ≡ Some request
    → First who request.key w.requests → request.edit ≡ Some edit → edit.closed ≡ closed → GiveUp closed w who request reply z → Sound z (knowledge_with known who events.GiveUp reply)
give_up_by true w z known who reply request edit s knows at first has closed does =
    let request' = with_edit None request in
    from_outcome known who events.GiveUp replies.Done reply (with_own who request' w) z does
    (still w known who events.GiveUp replies.Done request request' s at first refl (no_edit request' refl)
    (sym (ap open_length has ∙ ap (λ b. open_length_by b (length edit.written)) closed)) (λ k is. no_file k.held request' refl) (ap (option_map (with_edit None)) knows))
give_up_by false w z known who reply request edit s knows at first has closed does =
    let request' = with_edit None request in
    from_outcome known who events.GiveUp (done does.0) reply (with_own_on does.1 who request' w) z does.3
    (by_first w known who events.GiveUp (done does.0) request request' does.1 s at first refl (no_edit request' refl) (abort_moves does.0 request.key w known does.1 s does.2)
    (λ k is. no_file k.held request' refl) (λ on. right_kept w.content w.disk does.1 (abort_allows does.0 request.key w.disk does.1 does.2) (s.right on)) (ap (option_map (with_edit None)) knows))

give_up_law : KeepsSound events.GiveUp
give_up_law w z known who reply small s h does =
    let at = sym (s.known_is who) ∙ h.knows in
    let first = first_of_granted who h.request w.requests s.orderly at (open_granted h.request h.edit (found_request IsHolding who h.request w.requests s.holding at) h.has) in
    give_up_by h.edit.closed w z known who reply h.request h.edit s h.knows at first h.has refl
    (with_open (λ r e. GiveUp e.closed w who r reply z) w who h.request h.edit at h.has does)

done_law : KeepsSound events.Done
done_law w z known who reply small s may does =
    from_outcome known who events.Done replies.Done reply (with_requests (without_seat who w.requests) w) z does
    (by_leaving w known who events.Done replies.Done may.request s may.knows may.none refl)

pub event_law : (event : StoreEvent) → KeepsSound event
event_law (events.Fetch key) = fetch_law key
event_law (events.Want key length payload) = want_law key length payload
event_law events.Granted = granted_law
event_law events.Begin = begin_law
event_law (events.Write bytes) = write_law bytes
event_law events.Commit = commit_law
event_law events.GiveUp = give_up_law
event_law events.Done = done_law
