use Rattle.std.proofs.Common.{◌≡◌, ℕ, List, get_or, set, Some, None, Option, refl, ap, sym, subst, ◌∙◌, false}
use Rattle.state_machine.specs.declared.entry.Entry.{Entry}
use Rattle.disk_lru.specs.State.{EditValue}
use Rattle.store_world.specs.declared.events.StoreEvent.TheVariants as events
use Rattle.store_world.specs.declared.events.Note.{Note}
use Rattle.store_world.specs.World.{SeatEdit, Request, Requests, World, request_of}
use Rattle.disk_store.specs.StoreView.{MayStep}
use Rattle.disk_store.specs.OpenView.{IsOpenStore}
use Rattle.std.proofs.lemmas.List.{get_or-set_other, length-set}
use Rattle.store_world.specs.Steps as steps
use Rattle.store_world.specs.Steps.{with_edit, done, Transition}
use Rattle.disk_store.specs.Requests.{change}
use Rattle.disk_store.proofs.Tokens.{none_own, others_same, change_is}
use Rattle.disk_store.proofs.OpenEvents.{own_request, own_now, after_event, taken_token, token_key, token_open, no_token, with_both, commit_step}
use Rattle.disk_store.proofs.open.OpenStore.commit.Goals as goal

pub unreachable-requires : goal.unreachable-requires
unreachable-requires g c =
    let w : World = record { off = false; disk = c.self.inside.disk; content = c.self.inside.told; requests = c.self.inside.requests } in
    let past : List (Entry Note) = c.args.history.now.value in
    let may : MayStep w past c.args.who events.Commit = subst (λ (v : World). MayStep v past c.args.who events.Commit) (sym c.self.view_is) c.requires in
    let own = may.permitted.0.holds in
    let is = own_request w past c.args.who own.request may.sound own.knows in
    no_token w.disk own.request own.edit (get_or c.self.inside.edits c.args.who None) (c.self.invariant.tokens_agree.each c.args.who own.request own.edit is own.has) (sym c.take.ensures.result ∙ c.in_default.is)

pub commit_and_evict-result-requires : goal.commit_and_evict-result-requires
commit_and_evict-result-requires g c =
    let w : World = record { off = false; disk = c.self.inside.disk; content = c.self.inside.told; requests = c.self.inside.requests } in
    let past : List (Entry Note) = c.args.history.now.value in
    let may : MayStep w past c.args.who events.Commit = subst (λ (v : World). MayStep v past c.args.who events.Commit) (sym c.self.view_is) c.requires in
    let own = may.permitted.0.holds in
    let is = own_request w past c.args.who own.request may.sound own.knows in
    let token = taken_token w.disk own.request own.edit (get_or c.self.inside.edits c.args.who None) c.in-Some.edit (c.self.invariant.tokens_agree.each c.args.who own.request own.edit is own.has) (sym c.take.ensures.result ∙ c.in-Some.is) in
    token_open w.disk own.request own.edit c.in-Some.edit token may.permitted.0.open_

pub invariant_of-self : goal.invariant_of-self
invariant_of-self g c =
    let w : World = record { off = false; disk = c.self.inside.disk; content = c.self.inside.told; requests = c.self.inside.requests } in
    let rs : Requests = c.self.inside.requests in
    let ts : List (Option EditValue) = c.self.inside.edits in
    let past : List (Entry Note) = c.args.history.now.value in
    let who : ℕ = c.args.who in
    let new = c.commit_and_evict-result.new.disk in
    let result = c.commit_and_evict-result.result in
    let may : MayStep w past who events.Commit = subst (λ (v : World). MayStep v past who events.Commit) (sym c.self.view_is) c.requires in
    let own = may.permitted.0.holds in
    let is : request_of who rs ≡ Some own.request = own_request w past who own.request may.sound own.knows in
    let token = taken_token w.disk own.request own.edit (get_or ts who None) c.in-Some.edit (c.self.invariant.tokens_agree.each who own.request own.edit is own.has) (sym c.take.ensures.result ∙ c.in-Some.is) in
    let rs' : Requests = change who (with_edit None) rs in
    let z : World = record { off = false; disk = new; content = c.self.inside.told; requests = rs' } in
    let left = ap (λ (q : Requests). (let v : World = record { off = false; disk = new; content = c.self.inside.told; requests = q } in v)) (change_is who (with_edit None) own.request rs is) in
    let step : Transition w who events.Commit (done result) z =
    with_both w who own.request own.edit (λ (r : Request) (e : SeatEdit). steps.Commit w who r (done result) z) is own.has
    (commit_step w who own.request c.in-Some.edit.key result new (done result) z (token_key w.disk own.request own.edit c.in-Some.edit token) c.commit_and_evict-result.ensures refl left) in
    subst (λ (q : Requests). IsOpenStore new q c.take.new.self c.self.inside.maximum) (sym c.end.ensures)
    (subst (λ (l : List (Option EditValue)). IsOpenStore new rs' l c.self.inside.maximum) (sym c.take.ensures.table)
    (after_event events.Commit w z past who (done result) ts (set ts who None) c.self.inside.maximum (c.each_event_keeps_numbers.ensures events.Commit) (c.each_event_keeps_settings.ensures events.Commit) may step c.self.invariant
    (length-set ts who None ∙ c.self.invariant.tokens_agree.places)
    (λ other apart. others_same who other (with_edit None) rs apart)
    (λ other apart. get_or-set_other ts who other None None apart)
    (none_own new rs' (get_or (set ts who None) who None) who (with_edit None own.request) (own_now who (with_edit None) own.request rs is) refl)))

pub returns : goal.returns
returns g c =
    let w : World = record { off = false; disk = c.self.inside.disk; content = c.self.inside.told; requests = c.self.inside.requests } in
    let rs : Requests = c.self.inside.requests in
    let past : List (Entry Note) = c.args.history.now.value in
    let who : ℕ = c.args.who in
    let new = c.commit_and_evict-result.new.disk in
    let result = c.commit_and_evict-result.result in
    let may : MayStep w past who events.Commit = subst (λ (v : World). MayStep v past who events.Commit) (sym c.self.view_is) c.requires in
    let own = may.permitted.0.holds in
    let is : request_of who rs ≡ Some own.request = own_request w past who own.request may.sound own.knows in
    let token = taken_token w.disk own.request own.edit (get_or c.self.inside.edits who None) c.in-Some.edit (c.self.invariant.tokens_agree.each who own.request own.edit is own.has) (sym c.take.ensures.result ∙ c.in-Some.is) in
    let z : World = record { off = false; disk = new; content = c.self.inside.told; requests = c.end.new.self } in
    let left = ap (λ (q : Requests). (let v : World = record { off = false; disk = new; content = c.self.inside.told; requests = q } in v)) (c.end.ensures ∙ change_is who (with_edit None) own.request rs is) in
    subst (λ (v : World). Transition v who events.Commit c.done.result z) c.self.view_is
    (with_both w who own.request own.edit (λ (r : Request) (e : SeatEdit). steps.Commit w who r c.done.result z) is own.has
    (commit_step w who own.request c.in-Some.edit.key result new c.done.result z (token_key w.disk own.request own.edit c.in-Some.edit token) c.commit_and_evict-result.ensures c.done.ensures left))
