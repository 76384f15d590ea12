use Rattle.std.proofs.Common.{◌≡◌, ℕ, ◌<◌, List, length, get_or, set, Some, None, Ok, Err, Option, refl, ap, sym, subst, ◌∙◌, arith, true, false}
use Rattle.state_machine.specs.declared.entry.Entry.{Entry}
use Rattle.disk_lru.specs.State.{EditValue}
use Rattle.store_world.specs.declared.events.StoreEvent.TheVariants as events
use Rattle.store_world.specs.declared.events.StoreReply.TheVariants as replies
use Rattle.store_world.specs.declared.events.Note.{Note}
use Rattle.store_world.specs.World.{Request, Requests, World, request_of}
use Rattle.store_world.specs.Knowledge.{knowledge_in}
use Rattle.disk_store.specs.StoreView.{MayStep, IsToken}
use Rattle.disk_store.specs.OpenView.{IsOpenStore}
use Rattle.std.proofs.lemmas.List.{get_or-set_same, get_or-set_other, length-set}
use Rattle.disk_table.specs.Table.{edit_of}
use Rattle.cache_folder.specs.Tables.{is_offered}
use Rattle.disk_lru.specs.State.{entries, edits}
use Rattle.store_world.specs.Laws.{CanBegin}
use Rattle.store_world.specs.Steps as steps
use Rattle.store_world.specs.Steps.{begun_with, new_edit, Transition}
use Rattle.disk_store.specs.DiskEvents.{BeginsAfterEvicting}
use Rattle.disk_store.specs.Requests.{change, begun_edit_if}
use Rattle.disk_store.proofs.Tokens.{keeps_tokens, none_own, others_same, change_is, with_it}
use Rattle.disk_store.proofs.OpenEvents.{own_request, own_now, own_token, key_is, after_event, begun_open, begin_ok, begin_err}
use Rattle.disk_store.proofs.open.OpenStore.begin.Goals as goal

pub invariant_of-self : goal.invariant_of-self
invariant_of-self g c =
    let w : World = record { off = false; disk = c.self.inside.disk; content = c.self.inside.told; requests = c.self.inside.requests } in
    let rs : Requests = c.self.inside.requests in
    let ts : List (Option EditValue) = c.self.inside.edits in
    let past : List (Entry Note) = c.args.history.now.value in
    let may : MayStep w past c.args.who events.Begin = subst (λ (v : World). MayStep v past c.args.who events.Begin) (sym c.self.view_is) c.requires in
    let request : Request = may.permitted.request in
    let is = own_request w past c.args.who request may.sound may.permitted.knows in
    let rs' : Requests = change c.args.who (begun_edit_if false) rs in
    subst (λ (q : Requests). IsOpenStore c.self.inside.disk q ts c.self.inside.maximum) (sym c.begin.ensures) (record {
      tokens_agree = keeps_tokens c.self.inside.disk c.self.inside.disk rs rs' ts ts c.args.who c.self.invariant.tokens_agree c.self.invariant.tokens_agree.places
          (λ other apart. others_same c.args.who other (begun_edit_if false) rs apart) (λ other apart. refl) (λ other request edit apart is has open_. refl)
          (none_own c.self.inside.disk rs' (get_or ts c.args.who None) c.args.who (begun_with None request) (own_now c.args.who (begun_edit_if false) request rs is) refl);
      maximum_is = c.self.invariant.maximum_is;
    })

pub evict_and_begin-requires : goal.evict_and_begin-requires
evict_and_begin-requires g c = λ gone between evicts.
    let w : World = record { off = false; disk = c.self.inside.disk; content = c.self.inside.told; requests = c.self.inside.requests } in
    let past : List (Entry Note) = c.args.history.now.value in
    let may : MayStep w past c.args.who events.Begin = subst (λ (v : World). MayStep v past c.args.who events.Begin) (sym c.self.view_is) c.requires in
    let is = own_request w past c.args.who may.permitted.request may.sound may.permitted.knows in
    let key = key_is c.in-Some.key may.permitted.request (request_of c.args.who c.self.inside.requests) is (sym c.in-Some.is ∙ c.key_of.ensures) in
    subst (λ k. CanBegin k between) (sym key) (c.holders_may_call.ensures.begin w (knowledge_in past) c.args.who gone between may.permitted may.sound evicts)

pub invariant_of-self-in-Ok : goal.invariant_of-self-in-Ok
invariant_of-self-in-Ok g c =
    let w : World = record { off = false; disk = c.self.inside.disk; content = c.self.inside.told; requests = c.self.inside.requests } in
    let rs : Requests = c.self.inside.requests in
    let ts : List (Option EditValue) = c.self.inside.edits in
    let past : List (Entry Note) = c.args.history.now.value in
    let who : ℕ = c.args.who in
    let new = c.evict_and_begin.new.disk in
    let edit : EditValue = c.in-Ok.edit in
    let may : MayStep w past who events.Begin = subst (λ (v : World). MayStep v past who events.Begin) (sym c.self.view_is) c.requires in
    let request : Request = may.permitted.request in
    let is : request_of who rs ≡ Some request = own_request w past who request may.sound may.permitted.knows in
    let key : c.in-Some.key ≡ request.key = key_is c.in-Some.key request (request_of who rs) is (sym c.in-Some.is ∙ c.key_of.ensures) in
    let absent : is_offered request.key (entries w.disk.cache) ≡ false = ap (λ k. is_offered k (entries w.disk.cache)) (sym key) ∙ sym c.has.ensures.offered ∙ c.if-has.false in
    let begins : BeginsAfterEvicting c.in-Some.key w.disk (Ok edit) new = subst (λ r. BeginsAfterEvicting c.in-Some.key w.disk r new) c.in-Ok.is c.evict_and_begin.ensures in
    let opened = begun_open c.in-Some.key w.disk edit new begins in
    let rs' : Requests = change who (begun_edit_if true) rs in
    let ts' : List (Option EditValue) = set ts who (Some edit) in
    let z : World = record { off = false; disk = new; content = c.self.inside.told; requests = rs' } in
    let left = ap (λ (q : Requests). (let v : World = record { off = false; disk = new; content = c.self.inside.told; requests = q } in v)) (change_is who (begun_edit_if true) request rs is) in
    let step : Transition w who events.Begin replies.Done z =
    with_it (λ (r : Request). steps.Begin (is_offered r.key (entries w.disk.cache)) w who r replies.Done z) (request_of who rs) request is (begin_ok w who request c.in-Some.key edit new z key absent begins left) in
    let same : edit.key ≡ request.key = opened.0 ∙ key in
    let room : who < length ts = omega (arith, may.served, c.self.invariant.tokens_agree.places) in
    let token : IsToken new (begun_with (Some new_edit) request) new_edit (Some edit) = record {
      token = edit;
      is = refl;
      key = same;
      closed = opened.1.0;
      number = λ open_. ap (λ k. edit_of k (edits new.cache)) (sym same) ∙ opened.1.1;
    } in
    subst (λ (q : Requests). IsOpenStore new q c.put.new.self c.self.inside.maximum) (sym c.begin-in-Ok.ensures)
    (subst (λ (l : List (Option EditValue)). IsOpenStore new rs' l c.self.inside.maximum) (sym c.put.ensures)
    (after_event events.Begin w z past who replies.Done ts ts' c.self.inside.maximum (c.each_event_keeps_numbers.ensures events.Begin) (c.each_event_keeps_settings.ensures events.Begin) may step c.self.invariant
    (length-set ts who (Some edit) ∙ c.self.invariant.tokens_agree.places)
    (λ other apart. others_same who other (begun_edit_if true) rs apart)
    (λ other apart. get_or-set_other ts who other (Some edit) None apart)
    (own_token new rs' who (begun_with (Some new_edit) request) new_edit (get_or ts' who None) (own_now who (begun_edit_if true) request rs is) refl
    (subst (IsToken new (begun_with (Some new_edit) request) new_edit) (sym (get_or-set_same ts who (Some edit) None room)) token))))

pub invariant_of-self-in-Err : goal.invariant_of-self-in-Err
invariant_of-self-in-Err g c =
    let w : World = record { off = false; disk = c.self.inside.disk; content = c.self.inside.told; requests = c.self.inside.requests } in
    let rs : Requests = c.self.inside.requests in
    let ts : List (Option EditValue) = c.self.inside.edits in
    let past : List (Entry Note) = c.args.history.now.value in
    let who : ℕ = c.args.who in
    let new = c.evict_and_begin.new.disk in
    let may : MayStep w past who events.Begin = subst (λ (v : World). MayStep v past who events.Begin) (sym c.self.view_is) c.requires in
    let request : Request = may.permitted.request in
    let is : request_of who rs ≡ Some request = own_request w past who request may.sound may.permitted.knows in
    let key : c.in-Some.key ≡ request.key = key_is c.in-Some.key request (request_of who rs) is (sym c.in-Some.is ∙ c.key_of.ensures) in
    let absent : is_offered request.key (entries w.disk.cache) ≡ false = ap (λ k. is_offered k (entries w.disk.cache)) (sym key) ∙ sym c.has.ensures.offered ∙ c.if-has.false in
    let begins : BeginsAfterEvicting c.in-Some.key w.disk (Err c.in-Err.fault) new = subst (λ r. BeginsAfterEvicting c.in-Some.key w.disk r new) c.in-Err.is c.evict_and_begin.ensures in
    let rs' : Requests = change who (begun_edit_if false) rs in
    let z : World = record { off = false; disk = new; content = c.self.inside.told; requests = rs' } in
    let left = ap (λ (q : Requests). (let v : World = record { off = false; disk = new; content = c.self.inside.told; requests = q } in v)) (change_is who (begun_edit_if false) request rs is) in
    let step : Transition w who events.Begin (replies.Fault c.in-Err.fault) z =
    with_it (λ (r : Request). steps.Begin (is_offered r.key (entries w.disk.cache)) w who r (replies.Fault c.in-Err.fault) z) (request_of who rs) request is (begin_err w who request c.in-Some.key c.in-Err.fault new z key absent begins left) in
    subst (λ (q : Requests). IsOpenStore new q ts c.self.inside.maximum) (sym c.begin-in-Err.ensures)
    (after_event events.Begin w z past who (replies.Fault c.in-Err.fault) ts ts c.self.inside.maximum (c.each_event_keeps_numbers.ensures events.Begin) (c.each_event_keeps_settings.ensures events.Begin) may step c.self.invariant
    c.self.invariant.tokens_agree.places
    (λ other apart. others_same who other (begun_edit_if false) rs apart)
    (λ other apart. refl)
    (none_own new rs' (get_or ts who None) who (begun_with None request) (own_now who (begun_edit_if false) request rs is) refl))
