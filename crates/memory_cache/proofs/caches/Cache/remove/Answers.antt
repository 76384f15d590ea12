use Rattle.std.proofs.Common.{◌≡◌, ℕ, true, false, cond, eqb, List, [], ◌∷◌, rules, refl, ap, ◌∙◌}
use Rattle.std.specs.Prelude.{not, ◌||◌}
use Rattle.std.proofs.lemmas.Fn.{filter_same}
use Rattle.memory_cache.specs.Cache.{CacheValue, has_number, without}
use Rattle.memory_cache.proofs.caches.Cache.remove.Goals as goal

pub returns-clause-left : goal.returns-clause-left
returns-clause-left c =
    let same = filter_same _ (λ (item : ℕ × ℕ). not (eqb item.0 c.args.number)) _ (λ x b f r. search rules) _ _ c.retain.ensures.filtered in
    let kept : c.retain.new.self.items ≡ without c.args.number c.self.inside.items.items = same in
    let seen : CacheValue → CacheValue = λ v. record { maximum = v.maximum; items = without c.args.number v.items } in
    ap (λ l. record { maximum = c.self.inside.maximum; items = l }) kept ∙ ap seen c.self.view_is

-- a number that was taken out is not there
gone : (number : ℕ) (items : List (ℕ × ℕ)) → has_number number (without number items) ≡ false
gone number [] = refl
gone number (item ∷ items) = elim (eqb item.0 number) as (λ t. eqb item.0 number ≡ t → has_number number (cond (not t) (item ∷ without number items) (without number items)) ≡ false) [
  | true ↦ λ e. gone number items
  | false ↦ λ e. ap (λ t. t || has_number number (without number items)) e ∙ gone number items
] refl

pub returns-clause-gone : goal.returns-clause-gone
returns-clause-gone c =
    let same = filter_same _ (λ (item : ℕ × ℕ). not (eqb item.0 c.args.number)) _ (λ x b f r. search rules) _ _ c.retain.ensures.filtered in
    let kept : c.retain.new.self.items ≡ without c.args.number c.self.inside.items.items = same in
    ap (has_number c.args.number) kept ∙ gone c.args.number c.self.inside.items.items
