use Rattle.std.proofs.Common.{ℕ, ◌≤◌, length, List, eqb, ap, sym, subst, ◌∙◌, arith}
use Rattle.std.specs.List.{list_any}
use Rattle.std.specs.FinSet.{contains, remove, from_list, contains-from_list_nat}
use Rattle.active_resources.specs.Actives.{Numbers, ActiveValue, Fits}
use Rattle.active_resources.specs.ActiveView.{AllApart}
use Rattle.active_resources.specs.inside.Numbers.{others}
use Rattle.active_resources.proofs.Sets.{apart-others, few-others, set-others, fits-fewer, within-remove}
use Rattle.active_resources.proofs.actives.Active.deactivate_same.Goals as goal

pub invariant_of-self : goal.invariant_of-self
invariant_of-self c =
    let ks : List ℕ = c.self.inside.numbers.items in
    let few : length (others c.args.number ks) ≤ length ks = few-others c.args.number ks in
    record {
      apart = subst AllApart (sym c.take_out.ensures.items) (apart-others c.args.number ks c.self.invariant.apart);
      few = omega (arith, few, c.self.invariant.few, ap (λ (l : List ℕ). length l) c.take_out.ensures.items);
      reserved = omega (arith, c.self.invariant.reserved, c.take_out.ensures.capacity);
    }

pub returns-clause-found : goal.returns-clause-found
returns-clause-found c =
    c.contains-found.ensures.value ∙ ap (list_any (λ y. eqb y c.args.number)) c.deref.ensures.value ∙ sym (contains-from_list_nat c.self.inside.numbers.items c.args.number)
    ∙ ap (λ (v : ActiveValue). contains v.numbers c.args.number) c.self.view_is

pub returns-clause-left : goal.returns-clause-left
returns-clause-left c =
    let ks : List ℕ = c.self.inside.numbers.items in
    ap (λ (s : Numbers). record { room = c.self.inside.room; numbers = s }) (ap from_list c.take_out.ensures.items ∙ set-others c.args.number ks)
    ∙ ap (λ (v : ActiveValue). record v { numbers = remove v.numbers c.args.number }) c.self.view_is

pub returns-clause-fits : goal.returns-clause-fits
returns-clause-fits c = λ keys fits.
    let ks : List ℕ = c.self.inside.numbers.items in
    let old : Fits keys (from_list ks) = subst (λ (v : ActiveValue). Fits keys v.numbers) (sym c.self.view_is) fits in
    subst (Fits keys) (sym (ap from_list c.take_out.ensures.items ∙ set-others c.args.number ks))
    (fits-fewer keys (from_list ks) (remove (from_list ks) c.args.number) old (λ n has. (within-remove (from_list ks) c.args.number n has).1))
