-- What each event's step leaves is sound.
use Rattle.std.proofs.Common.{◌≡◌, ◌≢◌, ℕ, ◌<◌, true, false, cond, eqb, List, [], ◌∷◌, ◌++◌, length, Some, None, refl, sym, ap, subst, ◌∙◌, arith}
use Rattle.std.specs.Prelude.{is_some, IsSome, unwrap_or}
use Rattle.std.specs.declared.option.Option.{Option}
use Rattle.std.specs.FinMap.{get}
use Rattle.std.specs.Str.{bytes_eq}
use Rattle.std.proofs.lemmas.Bool.{eqb-true, eq-eqb}
use Rattle.disk_table.specs.Table.{edit_of}
use Rattle.cache_folder.specs.Offered.{edit_name}
use Rattle.cache_folder.specs.Images.{IfKnown, WasKnown}
use Rattle.cache_folder.specs.Tables.{edit_at}
use Rattle.disk_lru.specs.State.{entries, edits}
use Rattle.disk_lru.specs.Calls.{Steps, CallOn}
use Rattle.disk_lru.specs.Past.{DiskState}
use Rattle.store_world.specs.declared.events.StoreEvent.{StoreEvent}
use Rattle.store_world.specs.declared.events.StoreReply.{StoreReply}
use Rattle.store_world.specs.World.{SeatEdit, Request, Requests, World, queue_of, request_of, with_request, without_seat}
use Rattle.store_world.specs.Steps.{with_own_on, with_disk, with_requests, new_request}
use Rattle.store_world.specs.Knowledge.{Knowledge, updated, knowledge_with}
use Rattle.store_world.specs.Sound.{one_if, seat_count, taken, IsHolding, open_length_by, open_length, open_at, EditsAgree, HasFile, IsRightStore, Sound}
use Rattle.store_world.proofs.Tables.{Moved, same_if, ne_if}
use Rattle.store_world.proofs.Numbers.{Renumbered}
use Rattle.store_world.proofs.Queues.{First, Opened, opened_as, first_of_granted, open_of_first, orderly_as, seated_as, seats_as, all_as, at_as, at_as_other, at_last, all_seats_last, seated_last, orderly_last, open_last, count_last, all_without, seated_without, orderly_without, at_without, at_without_other, open_without, count_without, first_is_one, found_request, some_is}
use Rattle.store_world.proofs.Allowed.{right_kept}
use Rattle.store_world.proofs.Quiet.{QuietCall}

-- ---- knowledge

-- what each seat knows after the entry, by the others' requests and the caller's
pub knows_after : (rs rs' : Requests) (known : ℕ → Knowledge) (who : ℕ) (event : StoreEvent) (reply : StoreReply) → ((k : ℕ) → known k ≡ request_of k rs)
    → ((k : ℕ) → eqb who k ≡ false → request_of k rs' ≡ request_of k rs) → updated event reply (known who) ≡ request_of who rs' → (k : ℕ) → knowledge_with known who event reply k ≡ request_of k rs'
unfolding knowledge_with
knows_after rs rs' known who event reply knows others mine k = elim (eqb who k) as (λ t. eqb who k ≡ t → cond t (updated event reply (known k)) (known k) ≡ request_of k rs') [
  | true ↦ λ t. subst (λ n. updated event reply (known n) ≡ request_of n rs') (eqb-true who k t) mine
  | false ↦ λ t. knows k ∙ sym (others k t)
] refl

-- ---- a call on the key of one edit

-- after it the key has this open edit, or none, and the other edits and their files are as they were
pub record CallMoves (key : List ℕ) (edit : Option ℕ) (old new : DiskState) : Type 0 where
  pub lengths : Moved key edit (entries old.cache) (entries new.cache)
  pub numbers : Renumbered key edit (edits old.cache) (edits new.cache)
  pub known : WasKnown old.cache.history new.cache.history
  pub files : IfKnown old.cache.history (λ h. IfKnown new.cache.history (λ k.
      (other : List ℕ) → other ≢ key → get k.held (edit_name other) ≡ get h.held (edit_name other)))

pub moves : (key : List ℕ) (edit : Option ℕ) (meant made : Steps) (old new : DiskState) → CallOn key meant made old.cache new.cache → Moved key edit (entries old.cache) (entries new.cache)
    → Renumbered key edit (edits old.cache) (edits new.cache) → CallMoves key edit old new
moves key edit meant made old new call lengths numbers = record { lengths = lengths; numbers = numbers; known = call.passage.known; files = call.others }

agree_moved : (key : List ℕ) (edit : Option ℕ) (old new : DiskState) (rs rs' : Requests) → CallMoves key edit old new → Opened key edit rs rs' → EditsAgree old rs → EditsAgree new rs'
agree_moved key edit old new rs rs' m o agree = record {
  lengths = λ k. elim (bytes_eq key k) as (λ b. bytes_eq key k ≡ b → edit_at k (entries new.cache) ≡ open_at k rs') [
    | true ↦ λ is. subst (λ q. edit_at q (entries new.cache) ≡ open_at q rs') (sym (same_if k key is)) (m.lengths.here ∙ sym o.here)
    | false ↦ λ is. let ne = ne_if k key is in m.lengths.others k ne ∙ agree.lengths k ∙ sym (o.others k ne)
  ] refl;
  numbers = λ k. elim (bytes_eq key k) as (λ b. bytes_eq key k ≡ b → is_some (edit_of k (edits new.cache)) ≡ is_some (open_at k rs')) [
    | true ↦ λ is. subst (λ q. is_some (edit_of q (edits new.cache)) ≡ is_some (open_at q rs')) (sym (same_if k key is)) (m.numbers.here ∙ sym (ap is_some o.here))
    | false ↦ λ is. let ne = ne_if k key is in ap is_some (m.numbers.others k ne) ∙ agree.numbers k ∙ sym (ap is_some (o.others k ne))
  ] refl;
  keys = omega (arith, m.lengths.count, o.count, ap (λ e. one_if (is_some e)) (agree.lengths key), agree.keys);
  taken_are = omega (arith, m.numbers.count, o.count, ap one_if (agree.numbers key), agree.taken_are);
  places = m.numbers.places ∙ agree.places;
}

-- ---- the files of open edits

pub open_granted : (request : Request) (edit : SeatEdit) → IsHolding request → request.edit ≡ Some edit → request.granted ≡ true
open_granted request edit holds is = elim request.granted as (λ g. request.granted ≡ g → g ≡ true) [ true ↦ λ g. refl | false ↦ λ g. let no = holds.granted g in cc ] refl

pub open_is : (edit : Option SeatEdit) (e : SeatEdit) → edit ≡ Some e → e.closed ≡ false → open_length edit ≡ Some (length e.written)
open_is edit e is open_ = ap open_length is ∙ ap (λ b. open_length_by b (length e.written)) open_

-- an open edit's seat is the first, and the disk cache has its key under edit
pub record UnderEdit (w : World) (who : ℕ) (request : Request) (edit : SeatEdit) : Type 0 where
  pub first : First who request.key w.requests
  pub length_is : edit_at request.key (entries w.disk.cache) ≡ Some (length edit.written)
  pub numbered : IsSome (edit_of request.key (edits w.disk.cache))

pub under_edit : (w : World) (known : ℕ → Knowledge) → Sound w known → (k : ℕ) (request : Request) (edit : SeatEdit) → request_of k w.requests ≡ Some request → request.edit ≡ Some edit → edit.closed ≡ false → UnderEdit w k request edit
under_edit w known s k request edit at is open_ =
    let first = first_of_granted k request w.requests s.orderly at (open_granted request edit (found_request IsHolding k request w.requests s.holding at) is) in
    let here : open_at request.key w.requests ≡ Some (length edit.written) = open_of_first k request w.requests at first ∙ open_is request.edit edit is open_ in
    record {
      first = first;
      length_is = s.edits_agree.lengths request.key ∙ here;
      numbered = s.edits_agree.numbers request.key ∙ ap is_some here;
    }

same_text : (found held : Option (List ℕ)) → found ≡ held → unwrap_or found [] ≡ unwrap_or held []
same_text found held same = ap (λ (o : Option (List ℕ)). unwrap_or o []) same

-- ---- an event of the first in a queue, by which its request is another

pub by_first : (w : World) (known : ℕ → Knowledge) (who : ℕ) (event : StoreEvent) (reply : StoreReply) (request request' : Request) (d : DiskState)
    → Sound w known → request_of who w.requests ≡ Some request → First who request.key w.requests → request'.key ≡ request.key → IsHolding request'
    → CallMoves request.key (open_length request'.edit) w.disk d → IfKnown d.cache.history (λ k. HasFile k.held request')
    → (w.off ≡ false → IsRightStore w.content d) → updated event reply (known who) ≡ Some request'
    → Sound (with_own_on d who request' w) (knowledge_with known who event reply)
by_first w known who event reply request request' d s at first key holding m mine right after_is =
    let opened = opened_as who request request' w.requests at first key in
    let here = at_as who request request' w.requests at in
    record {
      seated = seated_as who request' w.requests s.seated;
      seats = seats_as who request' w.requests s.seats;
      orderly = orderly_as who request request' w.requests at first key s.orderly;
      holding = all_as (λ r. IsHolding r.1) who request' (λ x p. holding) w.requests s.holding;
      edits_agree = agree_moved request.key (open_length request'.edit) w.disk d w.requests (with_request who request' w.requests) m opened s.edits_agree;
      once = m.lengths.once;
      files = λ g is k other found. elim (eqb who k) as (λ t. eqb who k ≡ t → HasFile g.held other) [
        | true ↦ λ t. subst (HasFile g.held) (some_is request' other (sym here ∙ ap (λ n. request_of n (with_request who request' w.requests)) (eqb-true who k t) ∙ found)) (mine g is)
        | false ↦ λ t edit has open_.
            let found_old : request_of k w.requests ≡ Some other = sym (at_as_other who k request' w.requests t) ∙ found in
            let before = m.known g is in
            let under = under_edit w known s k other edit found_old has open_ in
            let ne : other.key ≢ request.key = λ same. let one = first_is_one who k (queue_of request.key w.requests) first (subst (λ q. First k q w.requests) same under.first) in let yes = eq-eqb who k one in cc in
            same_text (get g.held (edit_name other.key)) (get before.0.held (edit_name other.key)) (m.files before.0 before.1 g is other.key ne) ∙ s.files before.0 before.1 k other found_old edit has open_
      ] refl;
      right = right;
      off = λ is. ap (with_request who request') (s.off is);
      known_is = knows_after w.requests (with_request who request' w.requests) known who event reply s.known_is (λ k ne. at_as_other who k request' w.requests ne) (after_is ∙ sym here);
    }

-- ---- an event that leaves the queues as they are

pub by_quiet : (w : World) (known : ℕ → Knowledge) (d : DiskState) → Sound w known → QuietCall w.disk d → Sound (with_disk d w) known
by_quiet w known d s call = record {
  seated = s.seated;
  seats = s.seats;
  orderly = s.orderly;
  holding = s.holding;
  edits_agree = record {
    lengths = λ key. call.leaves.lengths key ∙ s.edits_agree.lengths key;
    numbers = λ key. ap (λ es. is_some (edit_of key es)) call.leaves.edits_are ∙ s.edits_agree.numbers key;
    keys = call.leaves.count s.once ∙ s.edits_agree.keys;
    taken_are = ap taken call.leaves.edits_are ∙ s.edits_agree.taken_are;
    places = ap length call.leaves.edits_are ∙ s.edits_agree.places;
  };
  once = call.leaves.once s.once;
  files = λ g is k other found edit has open_.
      let before = call.known g is in
      let under = under_edit w known s k other edit found has open_ in
      same_text (get g.held (edit_name other.key)) (get before.0.held (edit_name other.key)) (call.files before.0 before.1 g is other.key under.numbered) ∙ s.files before.0 before.1 k other found edit has open_;
  right = λ on. right_kept w.content w.disk d call.allows (s.right on);
  off = s.off;
  known_is = s.known_is;
}

pub by_nothing : (w : World) (known : ℕ → Knowledge) (who : ℕ) (event : StoreEvent) (reply : StoreReply) → Sound w known → updated event reply (known who) ≡ known who → Sound w (knowledge_with known who event reply)
by_nothing w known who event reply s after_is = record {
  seated = s.seated;
  seats = s.seats;
  orderly = s.orderly;
  holding = s.holding;
  edits_agree = s.edits_agree;
  once = s.once;
  files = s.files;
  right = s.right;
  off = s.off;
  known_is = knows_after w.requests w.requests known who event reply s.known_is (λ k ne. refl) (after_is ∙ s.known_is who);
}

-- ---- a seat that wants a lock, and one that does not any more

pub by_want : (w : World) (known : ℕ → Knowledge) (who : ℕ) (event : StoreEvent) (reply : StoreReply) (key : List ℕ) → who < seat_count → w.off ≡ false → Sound w known
    → known who ≡ None → updated event reply (known who) ≡ Some (new_request key) → Sound (with_requests (w.requests ++ (who, new_request key) ∷ []) w) (knowledge_with known who event reply)
by_want w known who event reply key small on s none after_is =
    let none_at = sym (s.known_is who) ∙ none in
    let rs = w.requests ++ (who, new_request key) ∷ [] in
    let at : (k : ℕ) → request_of k rs ≡ cond (eqb who k) (Some (new_request key)) (request_of k w.requests) = λ k. at_last who k (new_request key) w.requests none_at in
    let new_open : (k : List ℕ) → open_at k rs ≡ open_at k w.requests = λ k. open_last who (new_request key) k w.requests refl in
    let new_count = count_last who (new_request key) w.requests refl in
    record {
      seated = seated_last who (new_request key) w.requests none_at s.seated;
      seats = all_seats_last (λ r. r.0 < seat_count) w.requests (who, new_request key) s.seats small;
      orderly = orderly_last who (new_request key) w.requests refl s.orderly;
      holding = all_seats_last (λ r. IsHolding r.1) w.requests (who, new_request key) s.holding (record { granted = λ g. refl; begun = λ b. refl });
      edits_agree = record {
        lengths = λ k. s.edits_agree.lengths k ∙ sym (new_open k);
        numbers = λ k. s.edits_agree.numbers k ∙ sym (ap is_some (new_open k));
        keys = s.edits_agree.keys ∙ sym new_count;
        taken_are = s.edits_agree.taken_are ∙ sym new_count;
        places = s.edits_agree.places;
      };
      once = s.once;
      files = λ g is k other found. elim (eqb who k) as (λ t. eqb who k ≡ t → HasFile g.held other) [
        | true ↦ λ t edit has open_.
            let same = some_is (new_request key) other (sym (ap (λ b. cond b (Some (new_request key)) (request_of k w.requests)) t) ∙ sym (at k) ∙ found) in
            let no : None ≡ Some edit = ap (λ (x : Request). x.edit) same ∙ has in cc
        | false ↦ λ t. s.files g is k other (sym (ap (λ b. cond b (Some (new_request key)) (request_of k w.requests)) t) ∙ sym (at k) ∙ found)
      ] refl;
      right = s.right;
      off = λ is. cc;
      known_is = knows_after w.requests rs known who event reply s.known_is (λ k ne. at k ∙ ap (λ b. cond b (Some (new_request key)) (request_of k w.requests)) ne)
          (after_is ∙ sym (at who ∙ ap (λ b. cond b (Some (new_request key)) (request_of who w.requests)) (eq-eqb who who refl)));
    }

pub by_leaving : (w : World) (known : ℕ → Knowledge) (who : ℕ) (event : StoreEvent) (reply : StoreReply) (request : Request) → Sound w known
    → known who ≡ Some request → request.edit ≡ None → updated event reply (known who) ≡ None → Sound (with_requests (without_seat who w.requests) w) (knowledge_with known who event reply)
by_leaving w known who event reply request s knows none after_is =
    let at = sym (s.known_is who) ∙ knows in
    let still : (k : List ℕ) → open_at k (without_seat who w.requests) ≡ open_at k w.requests = λ k. open_without who request k w.requests at none s.orderly s.holding in
    let count = count_without who request w.requests at none in
    record {
      seated = seated_without who w.requests s.seated;
      seats = all_without (λ r. r.0 < seat_count) who w.requests s.seats;
      orderly = orderly_without who w.requests s.orderly;
      holding = all_without (λ r. IsHolding r.1) who w.requests s.holding;
      edits_agree = record {
        lengths = λ k. s.edits_agree.lengths k ∙ sym (still k);
        numbers = λ k. s.edits_agree.numbers k ∙ sym (ap is_some (still k));
        keys = s.edits_agree.keys ∙ sym count;
        taken_are = s.edits_agree.taken_are ∙ sym count;
        places = s.edits_agree.places;
      };
      once = s.once;
      files = λ g is k other found. elim (eqb who k) as (λ t. eqb who k ≡ t → HasFile g.held other) [
        | true ↦ λ t. let no : None ≡ Some other = sym (at_without who w.requests s.seated) ∙ ap (λ n. request_of n (without_seat who w.requests)) (eqb-true who k t) ∙ found in cc
        | false ↦ λ t. s.files g is k other (sym (at_without_other who k w.requests t) ∙ found)
      ] refl;
      right = s.right;
      off = λ is. ap (without_seat who) (s.off is);
      known_is = knows_after w.requests (without_seat who w.requests) known who event reply s.known_is (λ k ne. at_without_other who k w.requests ne) (after_is ∙ sym (at_without who w.requests s.seated));
    }
