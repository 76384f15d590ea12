use Rattle.std.proofs.Common.{◌≡◌, ℕ, ◌<◌, List, length, get_or, set, Some, None, Option, refl, ap, sym, subst, ◌∙◌, arith, false}
use Rattle.state_machine.specs.declared.entry.Entry.{Entry}
use Rattle.disk_lru.specs.State.{EditValue}
use Rattle.store_world.specs.declared.events.StoreEvent.TheVariants as events
use Rattle.store_world.specs.declared.events.Note.{Note}
use Rattle.store_world.specs.World.{SeatEdit, Request, Requests, World, request_of, with_request}
use Rattle.store_world.specs.Knowledge.{knowledge_in}
use Rattle.disk_store.specs.StoreView.{MayStep, IsToken}
use Rattle.disk_store.specs.OpenView.{IsOpenStore}
use Rattle.std.proofs.lemmas.List.{get_or-set_same, get_or-set_other, length-set}
use Rattle.cache_folder.specs.Tables.{edit_at}
use Rattle.disk_lru.specs.State.{entries}
use Rattle.disk_lru.specs.Past.{DiskState}
use Rattle.store_world.specs.Steps as steps
use Rattle.store_world.specs.Steps.{with_edit, edit_after, done, Transition}
use Rattle.disk_store.specs.Requests.{change, written_to}
use Rattle.disk_store.proofs.Tokens.{own_changed, others_changed}
use Rattle.disk_store.proofs.OpenEvents.{own_request, after_event, own_token, taken_token, token_key, token_open, no_token, with_both, written_token, writes_of, written_left}
use Rattle.disk_store.proofs.open.OpenStore.write.Goals as goal

pub unreachable-requires : goal.unreachable-requires
unreachable-requires g c =
    let w : World = record { off = false; disk = c.self.inside.disk; content = c.self.inside.told; requests = c.self.inside.requests } in
    let past : List (Entry Note) = c.args.history.now.value in
    let may : MayStep w past c.args.who (events.Write c.args.chunk) = subst (λ (v : World). MayStep v past c.args.who (events.Write c.args.chunk)) (sym c.self.view_is) c.requires in
    let own = may.permitted.0.holds in
    let is = own_request w past c.args.who own.request may.sound own.knows in
    no_token w.disk own.request own.edit (get_or c.self.inside.edits c.args.who None) (c.self.invariant.tokens_agree.each c.args.who own.request own.edit is own.has) (sym c.take.ensures.result ∙ c.in_default.is)

pub write-result-requires-clause-open : goal.write-result-requires-clause-open
write-result-requires-clause-open g c =
    let w : World = record { off = false; disk = c.self.inside.disk; content = c.self.inside.told; requests = c.self.inside.requests } in
    let past : List (Entry Note) = c.args.history.now.value in
    let may : MayStep w past c.args.who (events.Write c.args.chunk) = subst (λ (v : World). MayStep v past c.args.who (events.Write c.args.chunk)) (sym c.self.view_is) c.requires in
    let own = may.permitted.0.holds in
    let is = own_request w past c.args.who own.request may.sound own.knows in
    let token = taken_token w.disk own.request own.edit (get_or c.self.inside.edits c.args.who None) c.in-Some.edit (c.self.invariant.tokens_agree.each c.args.who own.request own.edit is own.has) (sym c.take.ensures.result ∙ c.in-Some.is) in
    token_open w.disk own.request own.edit c.in-Some.edit token may.permitted.0.open_

pub write-result-requires-clause-small : goal.write-result-requires-clause-small
write-result-requires-clause-small g c = λ n at.
    let w : World = record { off = false; disk = c.self.inside.disk; content = c.self.inside.told; requests = c.self.inside.requests } in
    let past : List (Entry Note) = c.args.history.now.value in
    let may : MayStep w past c.args.who (events.Write c.args.chunk) = subst (λ (v : World). MayStep v past c.args.who (events.Write c.args.chunk)) (sym c.self.view_is) c.requires in
    let own = may.permitted.0.holds in
    let is = own_request w past c.args.who own.request may.sound own.knows in
    let token = taken_token w.disk own.request own.edit (get_or c.self.inside.edits c.args.who None) c.in-Some.edit (c.self.invariant.tokens_agree.each c.args.who own.request own.edit is own.has) (sym c.take.ensures.result ∙ c.in-Some.is) in
    let open_ = c.holders_may_call.ensures.write w (knowledge_in past) c.args.who may.permitted.0 may.sound in
    let there : Some n ≡ Some (length own.edit.written) = sym at ∙ ap (λ k. edit_at k (entries w.disk.cache)) (token_key w.disk own.request own.edit c.in-Some.edit token) ∙ open_.length_is in
    let long : n ≡ length own.edit.written = cc in
    let bytes = ap length (c.deref.ensures.value ∙ c.into_bytes-bytes.ensures) in
    omega (arith, long, bytes, may.permitted.1)

pub invariant_of-self : goal.invariant_of-self
invariant_of-self g c =
    let w : World = record { off = false; disk = c.self.inside.disk; content = c.self.inside.told; requests = c.self.inside.requests } in
    let rs : Requests = c.self.inside.requests in
    let ts : List (Option EditValue) = c.self.inside.edits in
    let past : List (Entry Note) = c.args.history.now.value in
    let who : ℕ = c.args.who in
    let chunk : List ℕ = c.args.chunk in
    let new : DiskState = c.write-result.new.self in
    let result = c.write-result.result in
    let may : MayStep w past who (events.Write chunk) = subst (λ (v : World). MayStep v past who (events.Write chunk)) (sym c.self.view_is) c.requires in
    let own = may.permitted.0.holds in
    let is : request_of who rs ≡ Some own.request = own_request w past who own.request may.sound own.knows in
    let token = taken_token w.disk own.request own.edit (get_or ts who None) c.in-Some.edit (c.self.invariant.tokens_agree.each who own.request own.edit is own.has) (sym c.take.ensures.result ∙ c.in-Some.is) in
    let writes = writes_of w who own.request own.edit c.in-Some.edit _ chunk result new (token_key w.disk own.request own.edit c.in-Some.edit token) (c.deref.ensures.value ∙ c.into_bytes-bytes.ensures) (record {
      ok = c.write-result.ensures.ok;
      edits_are = c.write-result.ensures.edits;
      text = c.write-result.ensures.text;
      makes = c.write-result.ensures.makes;
      fails = c.write-result.ensures.fails;
      past = c.write-result.ensures.past;
      cause = c.write-result.ensures.cause;
      maximum = c.write-result.ensures.maximum;
    }) in
    let now : Request = with_edit (Some (edit_after chunk result own.edit)) own.request in
    let rs' : Requests = with_request who now rs in
    let ts' : List (Option EditValue) = set (set ts who None) who (Some c.write-result.new.edit) in
    let z : World = record { off = false; disk = new; content = c.self.inside.told; requests = rs' } in
    let step : Transition w who (events.Write chunk) (done result) z =
    with_both w who own.request own.edit (λ (r : Request) (e : SeatEdit). steps.Write w who r e chunk (done result) z) is own.has (result, new, writes, (refl, refl)) in
    let room : who < length (set ts who None) = omega (arith, may.served, length-set ts who None, c.self.invariant.tokens_agree.places) in
    let left : c.write.new.self ≡ rs' = written_left w who own.request own.edit c.in-Some.edit chunk result c.is_err.result c.write.new.self is own.has c.is_err.ensures.value
    (c.write.ensures ∙ ap (λ (b : List ℕ). change c.args.who (written_to b c.is_err.result) c.self.inside.requests) c.of-shown.ensures) in
    subst (λ (q : Requests). IsOpenStore new q c.put.new.self c.self.inside.maximum) (sym left)
    (subst (λ (l : List (Option EditValue)). IsOpenStore new rs' l c.self.inside.maximum) (sym (c.put.ensures ∙ ap (λ (l : List (Option EditValue)). set l who (Some c.write-result.new.edit)) c.take.ensures.table))
    (after_event (events.Write chunk) w z past who (done result) ts ts' c.self.inside.maximum (c.each_event_keeps_numbers.ensures (events.Write chunk)) (c.each_event_keeps_settings.ensures (events.Write chunk)) may step c.self.invariant
    (length-set (set ts who None) who (Some c.write-result.new.edit) ∙ length-set ts who None ∙ c.self.invariant.tokens_agree.places)
    (λ other apart. others_changed who other now rs apart)
    (λ other apart. get_or-set_other (set ts who None) who other (Some c.write-result.new.edit) None apart ∙ get_or-set_other ts who other None None apart)
    (own_token new rs' who now (edit_after chunk result own.edit) (get_or ts' who None) (own_changed who own.request now rs is) refl
    (subst (IsToken new now (edit_after chunk result own.edit)) (sym (get_or-set_same (set ts who None) who (Some c.write-result.new.edit) None room))
    (written_token w.disk new own.request own.edit chunk result c.in-Some.edit c.write-result.new.edit token may.permitted.0.open_ c.write-result.ensures.edits c.write-result.ensures.token)))))

pub returns : goal.returns
returns g c =
    let w : World = record { off = false; disk = c.self.inside.disk; content = c.self.inside.told; requests = c.self.inside.requests } in
    let rs : Requests = c.self.inside.requests in
    let past : List (Entry Note) = c.args.history.now.value in
    let who : ℕ = c.args.who in
    let chunk : List ℕ = c.args.chunk in
    let new : DiskState = c.write-result.new.self in
    let result = c.write-result.result in
    let may : MayStep w past who (events.Write chunk) = subst (λ (v : World). MayStep v past who (events.Write chunk)) (sym c.self.view_is) c.requires in
    let own = may.permitted.0.holds in
    let is : request_of who rs ≡ Some own.request = own_request w past who own.request may.sound own.knows in
    let token = taken_token w.disk own.request own.edit (get_or c.self.inside.edits who None) c.in-Some.edit (c.self.invariant.tokens_agree.each who own.request own.edit is own.has) (sym c.take.ensures.result ∙ c.in-Some.is) in
    let writes = writes_of w who own.request own.edit c.in-Some.edit _ chunk result new (token_key w.disk own.request own.edit c.in-Some.edit token) (c.deref.ensures.value ∙ c.into_bytes-bytes.ensures) (record {
      ok = c.write-result.ensures.ok;
      edits_are = c.write-result.ensures.edits;
      text = c.write-result.ensures.text;
      makes = c.write-result.ensures.makes;
      fails = c.write-result.ensures.fails;
      past = c.write-result.ensures.past;
      cause = c.write-result.ensures.cause;
      maximum = c.write-result.ensures.maximum;
    }) in
    let z : World = record { off = false; disk = new; content = c.self.inside.told; requests = c.write.new.self } in
    let left = written_left w who own.request own.edit c.in-Some.edit chunk result c.is_err.result c.write.new.self is own.has c.is_err.ensures.value
    (c.write.ensures ∙ ap (λ (b : List ℕ). change c.args.who (written_to b c.is_err.result) c.self.inside.requests) c.of-shown.ensures) in
    subst (λ (v : World). Transition v who (events.Write chunk) c.done.result z) c.self.view_is
    (with_both w who own.request own.edit (λ (r : Request) (e : SeatEdit). steps.Write w who r e chunk c.done.result z) is own.has
    (result, new, writes, (c.done.ensures, ap (λ (q : Requests). (let v : World = record { off = false; disk = new; content = c.self.inside.told; requests = q } in v)) left)))
