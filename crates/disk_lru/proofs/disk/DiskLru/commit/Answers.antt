use Rattle.std.proofs.Common.{◌≡◌, ℕ, Bool, List, sym, ap, subst, ◌∙◌, is_ok}
use Rattle.cache_folder.specs.Offered.{edit_name}
use Rattle.cache_folder.specs.Images.{IfKnown}
use Rattle.cache_folder.specs.Sound.{text_at}
use Rattle.disk_lru.specs.Calls.{commit_steps}
use Rattle.disk_lru.specs.Past.{DiskState}
use Rattle.disk_lru.specs.Staying.{HasEntry}
use Rattle.disk_lru.proofs.Results.{ok_of}
use Rattle.disk_lru.proofs.Promises.{promise_after}
use Rattle.disk_lru.proofs.disk.DiskLru.commit.Goals as goal

pub invariant_of-self : goal.invariant_of-self
invariant_of-self g c = promise_after (record { cache = c.self.inside.cache; past = c.self.inside.past.value }) c.of-before.result.value c.commit-result.new.self c.note.new.past.value (λ s. commit_steps c.into_parts-key.result.0) c.is_err.result c.into_parts-key.result.0 c.self.invariant c.of-before.ensures c.note.ensures
    (λ no'. c.commit-result.ensures.makes (ok_of c.commit-result.result (sym c.is_err.ensures.value ∙ no'))) (λ yes'. (c.commit-result.ensures.fails (sym c.is_err.ensures.value ∙ yes')).call.passage)

pub invariant_of-self-2 : goal.invariant_of-self-2
invariant_of-self-2 g c = promise_after (record { cache = c.self.inside.cache; past = c.self.inside.past.value }) c.of-before.result.value c.commit-result.new.self c.note.new.past.value (λ s. commit_steps c.into_parts-key.result.0) c.is_err.result c.into_parts-key.result.0 c.self.invariant c.of-before.ensures c.note.ensures
    (λ no'. c.commit-result.ensures.makes (ok_of c.commit-result.result (sym c.is_err.ensures.value ∙ no'))) (λ yes'. (c.commit-result.ensures.fails (sym c.is_err.ensures.value ∙ yes')).call.passage)

pub returns-clause-stored : goal.returns-clause-stored
returns-clause-stored g c = λ ok.
    let key_is : c.into_parts-key.result.0 ≡ c.args.edit.key = ap (λ (p : List ℕ × ℕ × Bool). p.0) c.into_parts-key.ensures.parts in
    subst (λ (d : DiskState). IfKnown d.cache.history (λ h. IfKnown c.commit-result.new.self.history (λ k. HasEntry (c.args.edit.key, text_at h.held (edit_name c.args.edit.key)) k.held c.commit-result.new.self))) c.self.view_is
    (subst (λ key. IfKnown c.self.inside.cache.history (λ h. IfKnown c.commit-result.new.self.history (λ k. HasEntry (key, text_at h.held (edit_name key)) k.held c.commit-result.new.self))) key_is
    (c.commit-result.ensures.stored (ap is_ok c.in_ok-result.was)))
