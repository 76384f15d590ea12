-- The events of an open store: from what its parts did to the step of the world, and to what the store keeps.
use Rattle.std.proofs.Common.{◌≡◌, ◌≢◌, ℕ, Bool, true, false, List, [], ◌∷◌, ◌++◌, length, get_or, Some, None, Ok, Err, Result, Option, refl, ap, sym, subst, ◌∙◌}
use Rattle.std.specs.Prelude.{is_err, IsOk, IsSomeAnd, ⊤}
use Rattle.std.specs.Option.{option_map}
use Rattle.state_machine.specs.declared.entry.Entry.{Entry}
use Rattle.disk_table.specs.Table.{edit_of}
use Rattle.cache_folder.specs.Tables.{is_offered}
use Rattle.disk_lru.specs.declared.refusals.DiskFault.{DiskFault}
use Rattle.disk_lru.specs.State.{EditValue, IsOpen, edits, entries}
use Rattle.disk_lru.specs.Past.{DiskState}
use Rattle.store_world.specs.declared.events.StoreEvent.{StoreEvent}
use Rattle.store_world.specs.declared.events.StoreReply.{StoreReply}
use Rattle.store_world.specs.declared.events.StoreReply.TheVariants as replies
use Rattle.store_world.specs.declared.events.Note.{Note}
use Rattle.store_world.specs.World.{SeatEdit, Request, Requests, World, request_of, with_request}
use Rattle.store_world.specs.DiskCalls.{Writes, Commits, Aborts, EvictsAll}
use Rattle.store_world.specs.Steps as steps
use Rattle.store_world.specs.Steps.{IsOutcome, want, with_own, with_own_on, with_requests, new_request, granted_if, begun_with, with_edit, new_edit, edit_after, done, Transition}
use Rattle.store_world.specs.Knowledge.{knowledge_in}
use Rattle.store_world.specs.Sound.{Sound}
use Rattle.store_world.specs.Laws.{KeepsNumbers, KeepsSettings}
use Rattle.disk_store.specs.DiskEvents.{BeginsUnlessFailed, BeginsAfterEvicting, EvictsUnlessFailed, EvictsAfterCommit}
use Rattle.disk_store.specs.Requests.{change, written_if, written_to}
use Rattle.disk_store.specs.StoreView.{MayStep, IsToken, TokensAgree}
use Rattle.disk_store.specs.OpenView.{IsOpenStore}
use Rattle.disk_store.proofs.Tokens.{own_changed, change_is, keeps_tokens, with_it}

-- ---- requests

-- the request that a seat knows of is there
pub own_request : (w : World) (past : List (Entry Note)) (who : ℕ) (request : Request) → Sound w (knowledge_in past) → knowledge_in past who ≡ Some request → request_of who w.requests ≡ Some request
own_request w past who request sound knows = sym (sound.known_is who) ∙ knows

-- its key is the one that was found
pub key_is : (key : List ℕ) (request : Request) (o : Option Request) → o ≡ Some request → Some key ≡ option_map (λ (r : Request). r.key) o → key ≡ request.key
key_is key request o is found = let both : Some key ≡ Some request.key = found ∙ ap (option_map (λ (r : Request). r.key)) is in cc

pub key_found_not : (request : Request) (o : Option Request) → o ≡ Some request → None ≡ option_map (λ (r : Request). r.key) o → ⊥
key_found_not request o is found = let both : None ≡ Some request.key = found ∙ ap (option_map (λ (r : Request). r.key)) is in cc

pub own_now : (who : ℕ) (changed : Request → Request) (request : Request) (rs : Requests) → request_of who rs ≡ Some request → request_of who (change who changed rs) ≡ Some (changed request)
own_now who changed request rs is = ap (request_of who) (change_is who changed request rs is) ∙ own_changed who request (changed request) rs is

-- ---- tokens

-- a request that keeps its key and its edit keeps its token
pub kept_own : (disk : DiskState) (rs rs' : Requests) (ts : List (Option EditValue)) (who : ℕ) (old now : Request) → TokensAgree disk rs ts → request_of who rs ≡ Some old → request_of who rs' ≡ Some now → now.key ≡ old.key → now.edit ≡ old.edit
    → (request : Request) (edit : SeatEdit) → request_of who rs' ≡ Some request → request.edit ≡ Some edit → IsToken disk request edit (get_or ts who None)
kept_own disk rs rs' ts who old now agree was is key same request edit is' has =
    let one : now ≡ request = cc in
    let t = agree.each who old edit was (sym same ∙ ap (λ (r : Request). r.edit) one ∙ has) in
    let keys : old.key ≡ request.key = sym key ∙ ap (λ (r : Request). r.key) one in
    record {
      token = t.token;
      is = t.is;
      key = t.key ∙ keys;
      closed = t.closed;
      number = λ open_. subst (λ k. edit_of k (edits disk.cache) ≡ Some t.token.number) keys (t.number open_);
    }

-- the token that was taken out
pub taken_token : (disk : DiskState) (request : Request) (edit : SeatEdit) (kept : Option EditValue) (token : EditValue) → IsToken disk request edit kept → kept ≡ Some token → IsToken disk request edit (Some token)
taken_token disk request edit kept token t is = subst (IsToken disk request edit) is t

pub token_key : (disk : DiskState) (request : Request) (edit : SeatEdit) (token : EditValue) → IsToken disk request edit (Some token) → token.key ≡ request.key
token_key disk request edit token t = let one : token ≡ t.token = cc in ap (λ (e : EditValue). e.key) one ∙ t.key

pub token_closed : (disk : DiskState) (request : Request) (edit : SeatEdit) (token : EditValue) → IsToken disk request edit (Some token) → token.closed ≡ edit.closed
token_closed disk request edit token t = let one : token ≡ t.token = cc in ap (λ (e : EditValue). e.closed) one ∙ t.closed

pub token_number : (disk : DiskState) (request : Request) (edit : SeatEdit) (token : EditValue) → IsToken disk request edit (Some token) → edit.closed ≡ false → edit_of request.key (edits disk.cache) ≡ Some token.number
token_number disk request edit token t open_ = let one : token ≡ t.token = cc in t.number open_ ∙ ap (λ (e : EditValue). Some e.number) (sym one)

pub token_open : (disk : DiskState) (request : Request) (edit : SeatEdit) (token : EditValue) → IsToken disk request edit (Some token) → edit.closed ≡ false → IsOpen token disk.cache
token_open disk request edit token t open_ =
    (token_closed disk request edit token t ∙ open_, ap (λ k. edit_of k (edits disk.cache)) (token_key disk request edit token t) ∙ token_number disk request edit token t open_)

pub no_token : (disk : DiskState) (request : Request) (edit : SeatEdit) (kept : Option EditValue) → IsToken disk request edit kept → kept ≡ None → ⊥
no_token disk request edit kept t none = let clash : None ≡ Some t.token = sym none ∙ t.is in cc

-- what an event leaves of all that an open store keeps
pub after_event : (event : StoreEvent) (w z : World) (past : List (Entry Note)) (who : ℕ) (reply : StoreReply) (ts ts' : List (Option EditValue)) (maximum : ℕ)
    → KeepsNumbers event → KeepsSettings event → MayStep w past who event → Transition w who event reply z → IsOpenStore w.disk w.requests ts maximum → length ts' ≡ 16
    → ((other : ℕ) → other ≢ who → request_of other z.requests ≡ request_of other w.requests)
    → ((other : ℕ) → other ≢ who → get_or ts' other None ≡ get_or ts other None)
    → ((request : Request) (edit : SeatEdit) → request_of who z.requests ≡ Some request → request.edit ≡ Some edit → IsToken z.disk request edit (get_or ts' who None))
    → IsOpenStore z.disk z.requests ts' maximum
after_event event w z past who reply ts ts' maximum numbers settings may step keeps places requests kept own = record {
  tokens_agree = keeps_tokens w.disk z.disk w.requests z.requests ts ts' who keeps.tokens_agree places requests kept
      (λ other request edit apart is has open_. numbers w z (knowledge_in past) who other reply request edit may.sound may.permitted step apart is has open_) own;
  maximum_is = keeps.maximum_is ∙ sym (settings w z who reply step).maximum;
}

-- ---- Want

pub want_large : (w : World) (who : ℕ) (key : List ℕ) (large : Bool) → large ≡ true → IsOutcome replies.TooLarge w (want false large w who key)
want_large w who key large is = subst (λ t. IsOutcome replies.TooLarge w (want false t w who key)) (sym is) (refl, refl)

pub want_done : (w z : World) (who : ℕ) (key : List ℕ) (large : Bool) → large ≡ false → z ≡ with_requests (w.requests ++ (who, new_request key) ∷ []) w → IsOutcome replies.Done z (want false large w who key)
want_done w z who key large is left = subst (λ t. IsOutcome replies.Done z (want false t w who key)) (sym is) (refl, left)

-- ---- Begin

-- the edit that was begun is open
begun_by : (key : List ℕ) (evicted : Result ⊤ DiskFault) (between : DiskState) (edit : EditValue) (new : DiskState) → BeginsUnlessFailed key evicted between (Ok edit) new → (edit.key ≡ key) × IsOpen edit new.cache
begun_by key (Err fault) between edit new begins = let clash : Ok edit ≡ Err fault = begins.0 in absurd (let no' : ⊥ = cc in no')
begun_by key (Ok nothing) between edit new begins = (begins.key_is, begins.open_)

pub begun_open : (key : List ℕ) (old : DiskState) (edit : EditValue) (new : DiskState) → BeginsAfterEvicting key old (Ok edit) new → (edit.key ≡ key) × IsOpen edit new.cache
begun_open key old edit new begins = begun_by key begins.evicted begins.between edit new begins.begins

module _ (w : World) (who : ℕ) (request : Request) where
  pub begin_already : (z : World) → is_offered request.key (entries w.disk.cache) ≡ true → z ≡ with_own who (begun_with None request) w → steps.Begin (is_offered request.key (entries w.disk.cache)) w who request replies.Already z
  begin_already z is left = subst (λ t. steps.Begin t w who request replies.Already z) (sym is) (refl, left)

  begins_ok_by : (gone : List (List ℕ)) (evicted : Result ⊤ DiskFault) (between : DiskState) (edit : EditValue) (new : DiskState) (z : World) → EvictsAll gone w.disk evicted between → BeginsUnlessFailed request.key evicted between (Ok edit) new
      → z ≡ with_own_on new who (begun_with (Some new_edit) request) w → steps.Begin false w who request replies.Done z
  begins_ok_by gone (Err fault) between edit new z evicts begins left = let clash : Ok edit ≡ Err fault = begins.0 in absurd (let no' : ⊥ = cc in no')
  begins_ok_by gone (Ok nothing) between edit new z evicts begins left = (gone, Ok nothing, between, evicts, (Ok edit, new, begins, (refl, left)))

  begins_err_by : (gone : List (List ℕ)) (evicted : Result ⊤ DiskFault) (between : DiskState) (fault : DiskFault) (new : DiskState) (z : World) → EvictsAll gone w.disk evicted between → BeginsUnlessFailed request.key evicted between (Err fault) new
      → z ≡ with_own_on new who (begun_with None request) w → steps.Begin false w who request (replies.Fault fault) z
  begins_err_by gone (Err other) between fault new z evicts begins left =
      let same : fault ≡ other = let both = begins.0 in cc in
      (gone, Err other, between, evicts, (ap replies.Fault same, left ∙ ap (λ (d : DiskState). with_own_on d who (begun_with None request) w) begins.1))
  begins_err_by gone (Ok nothing) between fault new z evicts begins left = (gone, Ok nothing, between, evicts, (Err fault, new, begins, (refl, left)))

  pub begin_ok : (key : List ℕ) (edit : EditValue) (new : DiskState) (z : World) → key ≡ request.key → is_offered request.key (entries w.disk.cache) ≡ false → BeginsAfterEvicting key w.disk (Ok edit) new
      → z ≡ with_own_on new who (begun_with (Some new_edit) request) w → steps.Begin (is_offered request.key (entries w.disk.cache)) w who request replies.Done z
  begin_ok key edit new z same is begins left =
      subst (λ t. steps.Begin t w who request replies.Done z) (sym is)
      (begins_ok_by begins.gone begins.evicted begins.between edit new z begins.evicts (subst (λ k. BeginsUnlessFailed k begins.evicted begins.between (Ok edit) new) same begins.begins) left)

  pub begin_err : (key : List ℕ) (fault : DiskFault) (new : DiskState) (z : World) → key ≡ request.key → is_offered request.key (entries w.disk.cache) ≡ false → BeginsAfterEvicting key w.disk (Err fault) new
      → z ≡ with_own_on new who (begun_with None request) w → steps.Begin (is_offered request.key (entries w.disk.cache)) w who request (replies.Fault fault) z
  begin_err key fault new z same is begins left =
      subst (λ t. steps.Begin t w who request (replies.Fault fault) z) (sym is)
      (begins_err_by begins.gone begins.evicted begins.between fault new z begins.evicts (subst (λ k. BeginsUnlessFailed k begins.evicted begins.between (Err fault) new) same begins.begins) left)

-- ---- Write

written_by : (bytes : List ℕ) (result : Result ⊤ DiskFault) (edit : SeatEdit) → written_if bytes (is_err result) edit ≡ edit_after bytes result edit
written_by bytes (Ok nothing) edit = refl
written_by bytes (Err fault) edit = refl

pub written_is : (bytes : List ℕ) (result : Result ⊤ DiskFault) (request : Request) (edit : SeatEdit) → request.edit ≡ Some edit → written_to bytes (is_err result) request ≡ with_edit (Some (edit_after bytes result edit)) request
written_is bytes result request edit has =
    ap (λ o. with_edit (option_map (written_if bytes (is_err result)) o) request) has
    ∙ ap (λ e. with_edit (Some e) request) (written_by bytes result edit)

-- the token after a write
closed_by : (bytes : List ℕ) (result : Result ⊤ DiskFault) (edit : SeatEdit) → edit.closed ≡ false → is_err result ≡ (edit_after bytes result edit).closed
closed_by bytes (Ok nothing) edit open_ = sym open_
closed_by bytes (Err fault) edit open_ = refl

number_by : (bytes : List ℕ) (result : Result ⊤ DiskFault) (edit : SeatEdit) (key : List ℕ) (old new : DiskState) (n : ℕ) → (IsOk result → edits new.cache ≡ edits old.cache) → edit_of key (edits old.cache) ≡ Some n → (edit_after bytes result edit).closed ≡ false → edit_of key (edits new.cache) ≡ Some n
number_by bytes (Ok nothing) edit key old new n same is open_ = ap (edit_of key) (same refl) ∙ is
number_by bytes (Err fault) edit key old new n same is open_ = cc

pub written_token : (old new : DiskState) (request : Request) (edit : SeatEdit) (bytes : List ℕ) (result : Result ⊤ DiskFault) (token token' : EditValue) → IsToken old request edit (Some token) → edit.closed ≡ false → (IsOk result → edits new.cache ≡ edits old.cache)
    → token' ≡ record token { closed = is_err result } → IsToken new (with_edit (Some (edit_after bytes result edit)) request) (edit_after bytes result edit) (Some token')
written_token old new request edit bytes result token token' t open_ same is = record {
  token = token';
  is = refl;
  key = ap (λ (e : EditValue). e.key) is ∙ token_key old request edit token t;
  closed = ap (λ (e : EditValue). e.closed) is ∙ closed_by bytes result edit open_;
  number = λ still. number_by bytes result edit request.key old new token'.number same (token_number old request edit token t open_ ∙ ap (λ (e : EditValue). Some e.number) (sym is)) still;
}

-- the token of a seat whose request is known
pub own_token : (disk : DiskState) (rs : Requests) (who : ℕ) (now : Request) (edit : SeatEdit) (kept : Option EditValue) → request_of who rs ≡ Some now → now.edit ≡ Some edit → IsToken disk now edit kept
    → (request : Request) (edit' : SeatEdit) → request_of who rs ≡ Some request → request.edit ≡ Some edit' → IsToken disk request edit' kept
own_token disk rs who now edit kept is has t request edit' is' has' =
    let one : now ≡ request = cc in
    let same : edit ≡ edit' = let e : Some edit ≡ Some edit' = sym has ∙ ap (λ (r : Request). r.edit) one ∙ has' in cc in
    subst (λ (r : Request). IsToken disk r edit' kept) one (subst (λ (e : SeatEdit). IsToken disk now e kept) same t)

-- ---- Commit

commits_by : (w : World) (who : ℕ) (request : Request) (committed : Result ⊤ DiskFault) (between : DiskState) (result : Result ⊤ DiskFault) (new : DiskState) (reply : StoreReply) (z : World) → Commits request.key w.disk committed between → EvictsUnlessFailed committed between result new
    → reply ≡ done result → z ≡ with_own_on new who (with_edit None request) w → steps.Commit w who request reply z
commits_by w who request (Err fault) between result new reply z commits evicts said left =
    (Err fault, between, commits, (said ∙ ap done evicts.0, left ∙ ap (λ (d : DiskState). with_own_on d who (with_edit None request) w) evicts.1))
commits_by w who request (Ok nothing) between result new reply z commits evicts said left = (Ok nothing, between, commits, (evicts.0, result, new, evicts.1, (said, left)))

pub commit_step : (w : World) (who : ℕ) (request : Request) (key : List ℕ) (result : Result ⊤ DiskFault) (new : DiskState) (reply : StoreReply) (z : World) → key ≡ request.key → EvictsAfterCommit key w.disk result new
    → reply ≡ done result → z ≡ with_own_on new who (with_edit None request) w → steps.Commit w who request reply z
commit_step w who request key result new reply z same commits said left =
    let here = subst (λ k. EvictsAfterCommit k w.disk result new) same commits in
    commits_by w who request here.committed here.between result new reply z here.commits here.evicts said left

-- ---- GiveUp

ok_done : (result : Result ⊤ DiskFault) → IsOk result → done result ≡ replies.Done
ok_done (Ok nothing) is = refl
ok_done (Err fault) is = cc

pub give_up_step : (w : World) (who : ℕ) (request : Request) (closed : Bool) (result : Result ⊤ DiskFault) (new : DiskState) (reply : StoreReply) (z : World) → (closed ≡ true → IsOk result × (new ≡ w.disk)) → (closed ≡ false → Aborts request.key w.disk result new)
    → reply ≡ done result → z ≡ with_own_on new who (with_edit None request) w → steps.GiveUp closed w who request reply z
give_up_step w who request true result new reply z same aborts said left =
    (said ∙ ok_done result (same refl).0, left ∙ ap (λ (d : DiskState). with_own_on d who (with_edit None request) w) (same refl).1)
give_up_step w who request false result new reply z same aborts said left = (result, new, aborts refl, (said, left))

-- ---- Granted

pub granted_edit : (first : Bool) (request : Request) → (granted_if first request).edit ≡ request.edit
granted_edit true request = refl
granted_edit false request = refl

-- ---- an edit that is there

pub with_both : (w : World) (who : ℕ) (request : Request) (edit : SeatEdit) (does : Request → SeatEdit → Type 0) → request_of who w.requests ≡ Some request → request.edit ≡ Some edit → does request edit → steps.WithEdit w who does
with_both w who request edit does is has d = with_it (λ (r : Request). IsSomeAnd r.edit (does r)) (request_of who w.requests) request is (with_it (does request) request.edit edit has d)

-- ---- what a write leaves

module _ (w : World) (who : ℕ) (request : Request) (edit : SeatEdit) (token : EditValue) where
  pub writes_of : (bytes chunk : List ℕ) (result : Result ⊤ DiskFault) (new : DiskState) → token.key ≡ request.key → bytes ≡ chunk → Writes token.key bytes w.disk result new → Writes request.key chunk w.disk result new
  writes_of bytes chunk result new key same writes = subst (λ k. Writes k chunk w.disk result new) key (subst (λ b. Writes token.key b w.disk result new) same writes)

  pub written_left : (chunk : List ℕ) (result : Result ⊤ DiskFault) (failed : Bool) (rs' : Requests) → request_of who w.requests ≡ Some request → request.edit ≡ Some edit → failed ≡ is_err result → rs' ≡ change who (written_to chunk failed) w.requests
      → rs' ≡ with_request who (with_edit (Some (edit_after chunk result edit)) request) w.requests
  written_left chunk result failed rs' is has said changed =
      changed
      ∙ ap (λ f. change who (written_to chunk f) w.requests) said
      ∙ change_is who (written_to chunk (is_err result)) request w.requests is
      ∙ ap (λ (r : Request). with_request who r w.requests) (written_is chunk result request edit has)
