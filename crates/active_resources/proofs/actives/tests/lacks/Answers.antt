use Rattle.std.proofs.Common.{◌≡◌, ℕ, false, List, length, eqb, ap, sym, ◌∙◌, arith}
use Rattle.std.specs.List.{list_any}
use Rattle.std.specs.FinSet.{contains, len, contains-from_list_nat}
use Rattle.active_resources.specs.Actives.{ActiveValue}
use Rattle.active_resources.proofs.Sets.{len-apart, not_of}
use Rattle.active_resources.proofs.actives.tests.lacks.Goals as goal

pub returns-then-len-active-clause-room : goal.returns-then-len-active-clause-room
returns-then-len-active-clause-room c is =
    let ks : List ℕ = c.active.inside.numbers.items in
    let room : c.active.inside.room ≡ c.args.active.now.room = ap (λ (v : ActiveValue). v.room) c.active.view_is in
    let few : length ks ≡ len c.args.active.now.numbers = sym (len-apart ks c.active.invariant.apart) ∙ ap (λ (v : ActiveValue). len v.numbers) c.active.view_is in
    omega (arith, few, room, c.if-len-active.true, c.len.ensures, c.active.inside.numbers.ok)

pub returns-then-len-active-clause-absent : goal.returns-then-len-active-clause-absent
returns-then-len-active-clause-absent c is =
    let ks : List ℕ = c.active.inside.numbers.items in
    let lacks : c.contains.result ≡ false = not_of c.contains.result is in
    ap (λ (v : ActiveValue). contains v.numbers c.args.number) (sym c.active.view_is) ∙ contains-from_list_nat ks c.args.number
    ∙ ap (list_any (λ y. eqb y c.args.number)) (sym c.deref.ensures.value) ∙ sym c.contains.ensures.value ∙ lacks
