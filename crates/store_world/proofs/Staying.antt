-- What a commit stores, and how long an entry stays.
use Rattle.std.proofs.Common.{◌≡◌, ◌≢◌, ◌⊎◌, inl, inr, ℕ, Bool, true, false, List, [], ◌∷◌, ◌++◌, Some, None, Ok, Err, Result, refl, sym, ap, subst, ◌∙◌}
use Rattle.std.specs.Prelude.{⊤, ◌&&◌, not, is_some, if◌then◌else◌}
use Rattle.std.specs.declared.option.Option.{Option}
use Rattle.std.specs.FinMap.{get}
use Rattle.std.specs.Str.{bytes_eq}
use Rattle.std.proofs.lemmas.Bool.{or_parts}
use Rattle.std.proofs.lemmas.List.{append_assoc}
use Rattle.outside.specs.Files.{Folder, FolderHistory, passed_through}
use Rattle.state_machine.specs.declared.entry.Entry.{Entry}
use Rattle.cache_folder.specs.Offered.{value_name, edit_name, offered}
use Rattle.cache_folder.specs.Steps.{Leaves, answer_at}
use Rattle.cache_folder.specs.Images.{IfKnown, WasKnown}
use Rattle.cache_folder.specs.Tables.{Table, edit_at, is_offered, len_at}
use Rattle.cache_folder.specs.Sound.{listed, text_at, abort_step}
use Rattle.disk_lru.specs.declared.refusals.DiskFault.{DiskFault}
use Rattle.disk_lru.specs.State.{EditValue, CacheState, entries}
use Rattle.disk_lru.specs.Calls.{Steps, no_steps, begin_steps, commit_steps, abort_steps, use_steps, drop_steps, Fails}
use Rattle.disk_lru.specs.Past.{DiskState, is_among}
use Rattle.disk_lru.specs.Staying.{HasEntry, LeaveAnswer, EntryStays, EntriesStay}
use Rattle.store_world.specs.declared.events.StoreEvent.{StoreEvent}
use Rattle.store_world.specs.declared.events.StoreEvent.TheVariants as events
use Rattle.store_world.specs.declared.events.StoreReply.{StoreReply}
use Rattle.store_world.specs.declared.events.StoreReply.TheVariants as replies
use Rattle.store_world.specs.declared.events.Note.{Note}
use Rattle.store_world.specs.Right.{Pair}
use Rattle.store_world.specs.World.{SeatEdit, Request, World, request_of, has_lock}
use Rattle.store_world.specs.DiskCalls.{Gets, Begins, Writes, Commits, Aborts, next_eviction, Evicts, EvictsTo, EndsEvicting, EvictsAll}
use Rattle.store_world.specs.Steps.{Outcome, IsOutcome, done, fetched, Fetch, is_too_large, want, ask_granted, begun_edit, BeginAfter, Begin, Write, CommitAfter, Commit, GiveUp, Transition}
use Rattle.store_world.specs.Knowledge.{Knowledge, knowledge_in}
use Rattle.store_world.specs.Permits.{Permits}
use Rattle.store_world.specs.Sound.{Sound}
use Rattle.store_world.specs.Laws.{is_one_of, IsStored, CommitStores}
use Rattle.store_world.specs.Staying.{EvictionsChoose, CommitChooses, MayTake, KeepsEntries}
use Rattle.store_world.specs.Histories.{AlwaysOffered}
use Rattle.store_world.proofs.Tables.{same_if, ne_if}
use Rattle.store_world.proofs.Allowed.{some_folder, runs_then, runs_none}
use Rattle.store_world.proofs.Quiet.{evicted_key, some_next}
use Rattle.store_world.proofs.Moves.{under_edit}
use Rattle.store_world.proofs.EventLaws.{with_found, with_open}
use Rattle.store_world.proofs.Histories.{Carried, through, sound_after}

-- what the list of a cache answers, by its table and its files
abbrev pub ListAnswers : Type 0
ListAnswers = (key : List ℕ) (f : Folder) (t : Table) → answer_at key (listed f t) ≡ (if is_offered key t then get f (value_name key) else None)

-- ---- an entry through calls, one after the other

same_entry : (pair : Pair) (old new : DiskState) → (h k : FolderHistory) → h ≡ k → entries new.cache ≡ entries old.cache → HasEntry pair h.held old.cache → HasEntry pair k.held new.cache
same_entry pair old new h k same entries_are has = record {
  in_files = subst (λ (j : FolderHistory). is_among (offered j.held) pair ≡ true) same has.in_files;
  in_list = ap (λ t. answer_at pair.0 (listed k.held t)) entries_are ∙ subst (λ (j : FolderHistory). answer_at pair.0 (listed j.held (entries old.cache)) ≡ Some pair.1) same has.in_list;
}

stays_unchanged : (pair : Pair) (old new : DiskState) → new.cache.history ≡ old.cache.history → entries new.cache ≡ entries old.cache → EntryStays pair old.cache new.cache
stays_unchanged pair old new history entries_are h known has = (
  runs_none (λ c. is_among (offered c) pair ≡ true) h new.cache.history (history ∙ known) has.in_files,
  λ k is. same_entry pair old new h k (some_folder h k (sym (history ∙ known) ∙ is)) entries_are has,
)

stays_same : (pair : Pair) (old new : DiskState) → new ≡ old → EntryStays pair old.cache new.cache
stays_same pair old new same = stays_unchanged pair old new (ap (λ (d : DiskState). d.cache.history) same) (ap (λ (d : DiskState). entries d.cache) same)

stays_then : (pair : Pair) (a b c : DiskState) → EntryStays pair a.cache b.cache → EntryStays pair b.cache c.cache → EntryStays pair a.cache c.cache
stays_then pair a b c x y h known has =
    let first = x h known has in
    let mid = passed_through first.0.contents h in
    let second = y mid first.0.after_is (first.1 mid first.0.after_is) in (
      runs_then (λ f. is_among (offered f) pair ≡ true) h b.cache.history c.cache.history first.0 second.0,
      second.1,
    )

from_stays : (pair : Pair) (w z : World) (reply : StoreReply) (outcome : Outcome) → IsOutcome reply z outcome → EntryStays pair w.disk.cache outcome.1.disk.cache → EntryStays pair w.disk.cache z.disk.cache
from_stays pair w z reply outcome o stays = subst (λ (v : World). EntryStays pair w.disk.cache v.disk.cache) (sym o.1) stays

-- two keys are one, or not
decide : (a b : List ℕ) → (a ≡ b) ⊎ (a ≢ b)
decide a b = elim (bytes_eq b a) as (λ t. bytes_eq b a ≡ t → (a ≡ b) ⊎ (a ≢ b)) [ true ↦ λ t. inl (same_if a b t) | false ↦ λ t. inr (ne_if a b t) ] refl

abort_leaves : (key other : List ℕ) (len : Option ℕ) → key ≢ other → Leaves {V = List ℕ} key (abort_step len other)
abort_leaves key other None ne = ne
abort_leaves key other (Some n) ne = ne

module _ (stay : EntriesStay) (answers : ListAnswers) (pair : Pair) where
  -- a call that failed on another key
  failed_stays : (key : List ℕ) (steps : Steps) (old new : DiskState) → pair.0 ≢ key → LeaveAnswer pair.0 steps → Fails key steps old.cache new.cache → EntryStays pair old.cache new.cache
  failed_stays key steps old new ne leave fails = stay.call key steps (drop_steps key) old.cache new.cache pair fails.call leave (λ f. (ne, tt))

  -- a key that is under edit, or has no entry, is not one that the cache answers for
  not_there : (d : DiskState) (new : CacheState) → is_offered pair.0 (entries d.cache) ≡ false → EntryStays pair d.cache new
  not_there d new none h known has =
      let bad : None ≡ Some pair.1 = sym (answers pair.0 h.held (entries d.cache) ∙ ap (λ b. if b then get h.held (value_name pair.0) else None) none) ∙ has.in_list in
      absurd (let no_entry = bad in cc)

  -- ---- evictions

  one_stays : (key : List ℕ) (old new : DiskState) → pair.0 ≢ key → next_eviction old ≡ Some key → Evicts old (Ok true) new → EntryStays pair old.cache new.cache
  one_stays key old new ne is e = let makes = (evicted_key key old new (Ok true) is e).makes refl in stay.call key (drop_steps key) (drop_steps key) old.cache new.cache pair makes.call (λ f. (ne, tt)) (λ f. (ne, tt))

  to_rest : (key : List ℕ) (gone : List (List ℕ)) (old new : DiskState) (e : EvictsTo (key ∷ gone) old new) → EntryStays pair old.cache e.0.cache → EntryStays pair e.0.cache new.cache ⊎ EvictionsChoose pair.0 e.0 → EntryStays pair old.cache new.cache ⊎ EvictionsChoose pair.0 old
  to_rest key gone old new e stays (inl later) = inl (stays_then pair old e.0 new stays later)
  to_rest key gone old new e stays (inr chooses) = inr (record { gone = key ∷ chooses.gone; last = chooses.last; evicts = (e.0, e.1, e.2, chooses.evicts); next = chooses.next })

  to_first : (key : List ℕ) (gone : List (List ℕ)) (old new : DiskState) (e : EvictsTo (key ∷ gone) old new) → (pair.0 ≡ key) ⊎ (pair.0 ≢ key) → EntryStays pair e.0.cache new.cache ⊎ EvictionsChoose pair.0 e.0 → EntryStays pair old.cache new.cache ⊎ EvictionsChoose pair.0 old
  to_first key gone old new e (inl same) later = inr (record { gone = []; last = old; evicts = refl; next = e.1 ∙ ap Some (sym same) })
  to_first key gone old new e (inr ne) later = to_rest key gone old new e (one_stays key old e.0 ne e.1 e.2) later

  to_stays : (gone : List (List ℕ)) (old new : DiskState) → EvictsTo gone old new → EntryStays pair old.cache new.cache ⊎ EvictionsChoose pair.0 old
  to_stays [] old new e = inl (stays_same pair old new e)
  to_stays (key ∷ gone) old new e = to_first key gone old new e (decide pair.0 key) (to_stays gone e.0 new e.3)

  ends_stays : (result : Result ⊤ DiskFault) (old new : DiskState) → EndsEvicting old result new → EntryStays pair old.cache new.cache ⊎ (next_eviction old ≡ Some pair.0)
  ends_stays (Ok x) old new e = inl (stays_same pair old new (e.idle refl))
  ends_stays (Err fault) old new e = by_next (some_next (next_eviction old) (e.err refl)) where
    by_key : (key : List ℕ) → next_eviction old ≡ Some key → (pair.0 ≡ key) ⊎ (pair.0 ≢ key) → EntryStays pair old.cache new.cache ⊎ (next_eviction old ≡ Some pair.0)
    by_key key is (inl same) = inr (is ∙ ap Some (sym same))
    by_key key is (inr ne) = inl (stay.eviction key old.cache new.cache pair ((evicted_key key old new (Err fault) is e).stays refl) ne)

    by_next : (key : List ℕ) × (next_eviction old ≡ Some key) → EntryStays pair old.cache new.cache ⊎ (next_eviction old ≡ Some pair.0)
    by_next found = by_key found.0 found.1 (decide pair.0 found.0)

  evicted_stays : (gone : List (List ℕ)) (old new : DiskState) (result : Result ⊤ DiskFault) → EvictsAll gone old result new → EntryStays pair old.cache new.cache ⊎ EvictionsChoose pair.0 old
  evicted_stays gone old new result e = both (to_stays gone old e.last e.evicts) (ends_stays result e.last new e.ends) where
    both : EntryStays pair old.cache e.last.cache ⊎ EvictionsChoose pair.0 old → EntryStays pair e.last.cache new.cache ⊎ (next_eviction e.last ≡ Some pair.0) → EntryStays pair old.cache new.cache ⊎ EvictionsChoose pair.0 old
    both (inr chooses) y = inr chooses
    both (inl x) (inl y) = inl (stays_then pair old e.last new x y)
    both (inl x) (inr next) = inr (record { gone = gone; last = e.last; evicts = e.evicts; next = next })

  -- ---- Fetch and Want

  get_stays : (key : List ℕ) (old new : DiskState) (result : Result (Option (List ℕ)) DiskFault) → Gets key old result new → EntryStays pair old.cache new.cache ⊎ ((key ≡ pair.0) × (fault : DiskFault) × (fetched result ≡ replies.Fault fault))
  get_stays key old new (Ok None) g = let same = g.none refl in inl (stays_unchanged pair old new (ap (λ (d : DiskState). d.cache.history) same) (ap (λ (d : DiskState). entries d.cache) same))
  get_stays key old new (Ok (Some bytes)) g = inl (stay.call key (use_steps key) (use_steps key) old.cache new.cache pair (g.makes refl).call (λ f. (tt, tt)) (λ f. (tt, tt)))
  get_stays key old new (Err fault) g = by_key (decide pair.0 key) where
    by_key : (pair.0 ≡ key) ⊎ (pair.0 ≢ key) → EntryStays pair old.cache new.cache ⊎ ((key ≡ pair.0) × (other : DiskFault) × (replies.Fault fault ≡ replies.Fault other))
    by_key (inl same) = inr (sym same, fault, refl)
    by_key (inr ne) = inl (failed_stays key (use_steps key) old new ne (λ f. (tt, tt)) (g.fails refl))

  fetch_stays : (off : Bool) (w z : World) (who : ℕ) (key : List ℕ) (reply : StoreReply) → Fetch off w key reply z → EntryStays pair w.disk.cache z.disk.cache ⊎ MayTake pair.0 w who (events.Fetch key) reply
  fetch_stays true w z who key reply does = inl (from_stays pair w z reply _ does (stays_same pair w.disk w.disk refl))
  fetch_stays false w z who key reply does = by_get (get_stays key w.disk does.1 does.0 does.2) where
    by_get : EntryStays pair w.disk.cache does.1.cache ⊎ ((key ≡ pair.0) × (fault : DiskFault) × (fetched does.0 ≡ replies.Fault fault)) → EntryStays pair w.disk.cache z.disk.cache ⊎ MayTake pair.0 w who (events.Fetch key) reply
    by_get (inl stays) = inl (from_stays pair w z reply _ does.3 stays)
    by_get (inr takes) = inr (takes.0, takes.1, does.3.0 ∙ takes.2)

  want_stays : (off large : Bool) (w z : World) (who : ℕ) (key : List ℕ) (reply : StoreReply) → IsOutcome reply z (want off large w who key) → EntryStays pair w.disk.cache z.disk.cache
  want_stays true large w z who key reply does = from_stays pair w z reply _ does (stays_same pair w.disk w.disk refl)
  want_stays false true w z who key reply does = from_stays pair w z reply _ does (stays_same pair w.disk w.disk refl)
  want_stays false false w z who key reply does = from_stays pair w z reply _ does (stays_same pair w.disk w.disk refl)

  -- ---- Begin

  begins_stays : (result : Result EditValue DiskFault) (key : List ℕ) (old new : DiskState) → pair.0 ≢ key → Begins key old result new → EntryStays pair old.cache new.cache
  begins_stays (Ok edit) key old new ne b = stay.call key (begin_steps key) (begin_steps key) old.cache new.cache pair (b.makes refl).call (λ f. (ne, tt)) (λ f. (ne, tt))
  begins_stays (Err fault) key old new ne b = failed_stays key (begin_steps key) old new ne (λ f. (ne, tt)) (b.fails refl)

  begun_stays : (result : Result EditValue DiskFault) (w z : World) (who : ℕ) (request : Request) (d : DiskState) (reply : StoreReply) → EntryStays pair w.disk.cache d.cache → IsOutcome reply z (begun_edit w who request d result) → EntryStays pair w.disk.cache z.disk.cache
  begun_stays (Ok edit) w z who request d reply stays by = from_stays pair w z reply _ by stays
  begun_stays (Err fault) w z who request d reply stays by = from_stays pair w z reply _ by stays

  begin_after_stays : (trim : Result ⊤ DiskFault) (w z : World) (who : ℕ) (request : Request) (d : DiskState) (reply : StoreReply) → pair.0 ≢ request.key → EntryStays pair w.disk.cache d.cache → BeginAfter trim w who request d reply z → EntryStays pair w.disk.cache z.disk.cache
  begin_after_stays (Ok x) w z who request d reply ne stays does =
      begun_stays does.0 w z who request does.1 reply (stays_then pair w.disk d does.1 stays (begins_stays does.0 request.key d does.1 ne does.2)) does.3
  begin_after_stays (Err fault) w z who request d reply ne stays does = from_stays pair w z reply _ does stays

  begin_stays : (there : Bool) (w z : World) (who : ℕ) (request : Request) (reply : StoreReply) → is_offered request.key (entries w.disk.cache) ≡ there → Begin there w who request reply z → EntryStays pair w.disk.cache z.disk.cache ⊎ EvictionsChoose pair.0 w.disk
  begin_stays true w z who request reply is does = inl (from_stays pair w z reply _ does (stays_same pair w.disk w.disk refl))
  begin_stays false w z who request reply is does = by_key (decide pair.0 request.key) where
    by_evictions : pair.0 ≢ request.key → EntryStays pair w.disk.cache does.2.cache ⊎ EvictionsChoose pair.0 w.disk → EntryStays pair w.disk.cache z.disk.cache ⊎ EvictionsChoose pair.0 w.disk
    by_evictions ne (inl stays) = inl (begin_after_stays does.1 w z who request does.2 reply ne stays does.4)
    by_evictions ne (inr chooses) = inr chooses

    by_key : (pair.0 ≡ request.key) ⊎ (pair.0 ≢ request.key) → EntryStays pair w.disk.cache z.disk.cache ⊎ EvictionsChoose pair.0 w.disk
    by_key (inl same) = inl (not_there w.disk z.disk.cache (subst (λ k. is_offered k (entries w.disk.cache) ≡ false) (sym same) is))
    by_key (inr ne) = by_evictions ne (evicted_stays does.0 w.disk does.2 does.1 does.3)

  -- ---- Write, Commit and GiveUp

  writes_stays : (result : Result ⊤ DiskFault) (key bytes : List ℕ) (old new : DiskState) → pair.0 ≢ key → Writes key bytes old result new → EntryStays pair old.cache new.cache
  writes_stays (Ok x) key bytes old new ne c = stay.call key no_steps no_steps old.cache new.cache pair (c.makes refl).call (λ f. tt) (λ f. tt)
  writes_stays (Err fault) key bytes old new ne c = failed_stays key no_steps old new ne (λ f. tt) (c.fails refl)

  commits_stays : (result : Result ⊤ DiskFault) (key : List ℕ) (old new : DiskState) → pair.0 ≢ key → Commits key old result new → EntryStays pair old.cache new.cache
  commits_stays (Ok x) key old new ne c = stay.call key (commit_steps key) (commit_steps key) old.cache new.cache pair (c.makes refl).call (λ f. (ne, tt)) (λ f. (ne, tt))
  commits_stays (Err fault) key old new ne c = failed_stays key (commit_steps key) old new ne (λ f. (ne, tt)) (c.fails refl)

  aborts_stays : (result : Result ⊤ DiskFault) (key : List ℕ) (old new : DiskState) → pair.0 ≢ key → Aborts key old result new → EntryStays pair old.cache new.cache
  aborts_stays (Ok x) key old new ne c =
      let leave : LeaveAnswer pair.0 (abort_steps key old.cache) = λ f. (abort_leaves pair.0 key (len_at key (entries old.cache)) ne, tt) in
      stay.call key (abort_steps key old.cache) (abort_steps key old.cache) old.cache new.cache pair (c.makes refl).call leave leave
  aborts_stays (Err fault) key old new ne c = failed_stays key (abort_steps key old.cache) old new ne (λ f. (abort_leaves pair.0 key (len_at key (entries old.cache)) ne, tt)) (c.fails refl)

  commit_stays : (result : Result ⊤ DiskFault) (w z : World) (who : ℕ) (request : Request) (d : DiskState) (reply : StoreReply) → request_of who w.requests ≡ Some request → EntryStays pair w.disk.cache d.cache
      → Commits request.key w.disk result d → CommitAfter result w who request d reply z → EntryStays pair w.disk.cache z.disk.cache ⊎ CommitChooses pair.0 w who
  commit_stays (Err fault) w z who request d reply at stays commits by = inl (from_stays pair w z reply _ by stays)
  commit_stays (Ok x) w z who request d reply at stays commits by = by_evictions (evicted_stays by.0 d by.2 by.1 by.3) where
    by_evictions : EntryStays pair d.cache by.2.cache ⊎ EvictionsChoose pair.0 d → EntryStays pair w.disk.cache z.disk.cache ⊎ CommitChooses pair.0 w who
    by_evictions (inl more) = inl (from_stays pair w z reply _ by.4 (stays_then pair w.disk d by.2 stays more))
    by_evictions (inr chooses) = inr (record { request = request; is = at; between = d; commits = commits; chooses = chooses })

  give_up_stays : (closed : Bool) (w z : World) (who : ℕ) (request : Request) (reply : StoreReply) → (closed ≡ false → (pair.0 ≢ request.key) ⊎ (is_offered pair.0 (entries w.disk.cache) ≡ false)) → GiveUp closed w who request reply z → EntryStays pair w.disk.cache z.disk.cache
  give_up_stays true w z who request reply apart does = from_stays pair w z reply _ does (stays_same pair w.disk w.disk refl)
  give_up_stays false w z who request reply apart does = by_key (apart refl) where
    by_key : (pair.0 ≢ request.key) ⊎ (is_offered pair.0 (entries w.disk.cache) ≡ false) → EntryStays pair w.disk.cache z.disk.cache
    by_key (inl ne) = from_stays pair w z reply _ does.3 (aborts_stays does.0 request.key w.disk does.1 ne does.2)
    by_key (inr none) = not_there w.disk z.disk.cache none

  -- a key that is under edit is not offered
  edited_none : (w : World) (known : ℕ → Knowledge) → Sound w known → (who : ℕ) (request : Request) (edit : SeatEdit) → request_of who w.requests ≡ Some request → request.edit ≡ Some edit → edit.closed ≡ false
      → (pair.0 ≢ request.key) ⊎ (is_offered pair.0 (entries w.disk.cache) ≡ false)
  edited_none w known s who request edit at has open_ = by_key (decide pair.0 request.key) where
    by_edit : (n : ℕ) → edit_at pair.0 (entries w.disk.cache) ≡ Some n → is_offered pair.0 (entries w.disk.cache) ≡ false
    by_edit n is = ap (λ (e : Option ℕ). is_some (len_at pair.0 (entries w.disk.cache)) && not (is_some e)) is ∙ and_false (is_some (len_at pair.0 (entries w.disk.cache))) where
      and_false : (b : Bool) → b && false ≡ false
      and_false true = refl
      and_false false = refl

    by_key : (pair.0 ≡ request.key) ⊎ (pair.0 ≢ request.key) → (pair.0 ≢ request.key) ⊎ (is_offered pair.0 (entries w.disk.cache) ≡ false)
    by_key (inr ne) = inl ne
    by_key (inl same) = inr (by_edit _ (ap (λ k. edit_at k (entries w.disk.cache)) same ∙ (under_edit w known s who request edit at has open_).length_is))

  -- an event on a key under edit
  apart_stays : (w z : World) (key : List ℕ) → (pair.0 ≢ key) ⊎ (is_offered pair.0 (entries w.disk.cache) ≡ false) → (pair.0 ≢ key → EntryStays pair w.disk.cache z.disk.cache) → EntryStays pair w.disk.cache z.disk.cache
  apart_stays w z key (inl ne) stays = stays ne
  apart_stays w z key (inr none) stays = not_there w.disk z.disk.cache none

  -- ---- each event

  pub event_stays : (event : StoreEvent) (w z : World) (known : ℕ → Knowledge) (who : ℕ) (reply : StoreReply) → Sound w known → Permits w.content (known who) event → Transition w who event reply z
      → EntryStays pair w.disk.cache z.disk.cache ⊎ MayTake pair.0 w who event reply
  event_stays (events.Fetch key) w z known who reply s permits does = fetch_stays w.off w z who key reply does
  event_stays (events.Want key length payload) w z known who reply s permits does = inl (want_stays w.off (is_too_large w.disk.cache.maximum length payload) w z who key reply does)
  event_stays events.Granted w z known who reply s permits does =
      inl (from_stays pair w z reply _ (with_found (λ r. IsOutcome reply z (ask_granted w who (has_lock who w.requests) r)) (request_of who w.requests) permits.0 (sym (s.known_is who) ∙ permits.1) does) (stays_same pair w.disk w.disk refl))
  event_stays events.Begin w z known who reply s may does =
      begin_stays (is_offered may.request.key (entries w.disk.cache)) w z who may.request reply refl
      (with_found (λ r. Begin (is_offered r.key (entries w.disk.cache)) w who r reply z) (request_of who w.requests) may.request (sym (s.known_is who) ∙ may.knows) does)
  event_stays (events.Write bytes) w z known who reply s permits does =
      let h = permits.0.holds in
      let at = sym (s.known_is who) ∙ h.knows in
      let d = with_open (λ r e. Write w who r e bytes reply z) w who h.request h.edit at h.has does in
      inl (apart_stays w z h.request.key (edited_none w known s who h.request h.edit at h.has permits.0.open_) (λ ne. from_stays pair w z reply _ d.3 (writes_stays d.0 h.request.key bytes w.disk d.1 ne d.2)))
  event_stays events.Commit w z known who reply s permits does =
      let h = permits.0.holds in
      let at = sym (s.known_is who) ∙ h.knows in
      let d = with_open (λ r e. Commit w who r reply z) w who h.request h.edit at h.has does in
      by_key h.request at d.0 d.1 d.2 d.3 (edited_none w known s who h.request h.edit at h.has permits.0.open_) where
        by_key : (request : Request) → request_of who w.requests ≡ Some request → (result : Result ⊤ DiskFault) (d : DiskState) → Commits request.key w.disk result d → CommitAfter result w who request d reply z
            → (pair.0 ≢ request.key) ⊎ (is_offered pair.0 (entries w.disk.cache) ≡ false) → EntryStays pair w.disk.cache z.disk.cache ⊎ CommitChooses pair.0 w who
        by_key request at result d commits after_ (inr none) = inl (not_there w.disk z.disk.cache none)
        by_key request at result d commits after_ (inl ne) = commit_stays result w z who request d reply at (commits_stays result request.key w.disk d ne commits) commits after_
  event_stays events.GiveUp w z known who reply s h does =
      let at = sym (s.known_is who) ∙ h.knows in
      inl (give_up_stays h.edit.closed w z who h.request reply (λ open_. edited_none w known s who h.request h.edit at h.has open_) (with_open (λ r e. GiveUp e.closed w who r reply z) w who h.request h.edit at h.has does))
  event_stays events.Done w z known who reply s may does = inl (from_stays pair w z reply _ does (stays_same pair w.disk w.disk refl))

  -- ---- evictions that leave a key

  to_leave : (gone : List (List ℕ)) (old new : DiskState) → EvictsTo gone old new → is_one_of pair.0 gone ≡ false → EntryStays pair old.cache new.cache
  to_leave [] old new e none = stays_same pair old new e
  to_leave (key ∷ gone) old new e none =
      let parts = or_parts (bytes_eq pair.0 key) (is_one_of pair.0 gone) none in
      stays_then pair old e.0 new (one_stays key old e.0 (λ same. ne_if key pair.0 parts.0 (sym same)) e.1 e.2) (to_leave gone e.0 new e.3 parts.1)

  pub evicted_leave : (gone : List (List ℕ)) (old new : DiskState) → EvictsAll gone old (Ok tt) new → is_one_of pair.0 gone ≡ false → EntryStays pair old.cache new.cache
  evicted_leave gone old new e none = stays_then pair old e.last new (to_leave gone old e.last e.evicts none) (stays_same pair e.last new (e.ends.idle refl))

pub entries_law : EntriesStay → ListAnswers → (event : StoreEvent) → KeepsEntries event
entries_law stay answers event pair w z known who reply s permits does = event_stays stay answers pair event w z known who reply s permits does

-- ---- what a commit stores

to_known : (gone : List (List ℕ)) (old new : DiskState) → EvictsTo gone old new → WasKnown old.cache.history new.cache.history
to_known [] old new e k is = (k, sym (ap (λ (d : DiskState). d.cache.history) e) ∙ is)
to_known (key ∷ gone) old new e k is =
    let mid = to_known gone e.0 new e.3 k is in
    ((evicted_key key old e.0 (Ok true) e.1 e.2).makes refl).call.passage.known mid.0 mid.1

evicted_known : (gone : List (List ℕ)) (old new : DiskState) → EvictsAll gone old (Ok tt) new → WasKnown old.cache.history new.cache.history
evicted_known gone old new e k is = to_known gone old e.last e.evicts k (sym (ap (λ (d : DiskState). d.cache.history) (e.ends.idle refl)) ∙ is)

done_ok : (result : Result ⊤ DiskFault) → replies.Done ≡ done result → result ≡ Ok tt
done_ok (Ok x) e = refl
done_ok (Err fault) e = cc

module _ (stay : EntriesStay) (answers : ListAnswers) where
  stored : (result : Result ⊤ DiskFault) (w z : World) (who : ℕ) (request : Request) (d : DiskState) (written : List ℕ) → IfKnown w.disk.cache.history (λ h. text_at h.held (edit_name request.key) ≡ written)
      → Commits request.key w.disk result d → CommitAfter result w who request d replies.Done z → IsStored (request.key, written) w z
  stored (Err fault) w z who request d written file commits by = let bad : replies.Done ≡ replies.Fault fault = by.0 in cc
  stored (Ok x) w z who request d written file commits by =
      let pair : Pair = (request.key, written) in
      let evicts : EvictsAll by.0 d (Ok tt) z.disk = subst (λ (v : World). EvictsAll by.0 d (Ok tt) v.disk) (sym by.4.1) (subst (λ r. EvictsAll by.0 d r by.2) (done_ok by.1 by.4.0) by.3) in
      let there : IfKnown w.disk.cache.history (λ h. IfKnown d.cache.history (λ k. HasEntry pair k.held d.cache)) = λ h known k is. subst (λ (text : List ℕ). HasEntry (request.key, text) k.held d.cache) (file h known) (commits.stored refl h known k is) in
      record {
        between = d;
        gone = by.0;
        evicts = evicts;
        there = there;
        still = λ none h known j is. let mid = evicted_known by.0 d z.disk evicts j is in (evicted_leave stay answers pair by.0 d z.disk evicts none mid.0 mid.1 (there h known mid.0 mid.1)).1 j is;
      }

  pub commit_stores : CommitStores
  commit_stores w z known who may s does =
      let h = may.holds in
      let at = sym (s.known_is who) ∙ h.knows in
      let d = with_open (λ r e. Commit w who r replies.Done z) w who h.request h.edit at h.has does in
      stored d.0 w z who h.request d.1 h.edit.written (λ k is. s.files k is who h.request at h.edit h.has may.open_) d.2 d.3

-- ---- an entry through a history

module _ {M : Type 0} (opening now : M → World) (history : M → List (Entry Note)) (stay : EntriesStay) (answers : ListAnswers) where
  entry_carried : (pair : Pair) → Carried (λ a b. EntryStays pair a.disk.cache b.disk.cache) (λ w k e. MayTake pair.0 w e.by e.note.event e.note.reply → ⊥)
  entry_carried pair = record {
    here = λ w known s. stays_same pair w.disk w.disk refl;
    then_ = λ a b c x y. stays_then pair a.disk b.disk c.disk x y;
    step = λ w z known e small s permits asked step. unless (EntryStays pair w.disk.cache z.disk.cache) (MayTake pair.0 w e.by e.note.event e.note.reply) asked (event_stays stay answers pair e.note.event w z known e.by e.note.reply s permits step);
  } where
    unless : (P Q : Type 0) → (Q → ⊥) → P ⊎ Q → P
    unless P Q no_q (inl p) = p
    unless P Q no_q (inr q) = absurd (no_q q)

  pub always_offered : AlwaysOffered opening now history
  always_offered content before w between z past later pair o holds legal longer leads none =
      let at = sound_after opening now history content before w between past o holds legal in
      (through opening now history (λ a b. EntryStays pair a.disk.cache b.disk.cache) (λ v k e. MayTake pair.0 v e.by e.note.event e.note.reply → ⊥) (entry_carried pair) content past later between z at.1 at.0 leads
      (λ xs ys e is. let may = longer.asked (past ++ xs) ys e (ap (λ l. past ++ l) is ∙ sym (append_assoc past xs (e ∷ ys))) in (may.seat, subst (λ c. Permits c (knowledge_in (past ++ xs) e.by) e.note.event) o.content_is may.asked))
      (λ xs ys e v is l. none xs ys e v is l)).1
