use Rattle.std.proofs.Common.{◌≡◌, ℕ, ◌+◌, ◌<◌, ◌≤◌, ◌∷◌, ◌++◌, [], length, List, Option, Some, None, cond, false, eqb, ap, sym, subst, ◌∙◌, arith}
use Rattle.std.specs.Prelude.{◌↔◌}
use Rattle.std.specs.List.{find, list_any}
use Rattle.std.specs.FinSet.{contains, insert, len, from_list, contains-from_list_nat}
use Rattle.std.proofs.lemmas.List.{length-append}
use Rattle.cache_key.specs.Key.{Key}
use Rattle.active_resources.specs.Actives.{Numbers, ActiveValue, Fits, IsActiveAt, without}
use Rattle.active_resources.specs.ActiveView.{AllApart}
use Rattle.active_resources.specs.inside.Numbers.{has_key, left_of}
use Rattle.active_resources.proofs.Sets.{known-list, found-it, found-none, set-left, set-push, apart-left, few-left, absent-left, apart-push, len-apart, fits-activate}
use Rattle.active_resources.proofs.actives.Active.activate.Goals as goal

pub first_with-replaced-requires : goal.first_with-replaced-requires
first_with-replaced-requires g c =
    record { known = known-list (g.R.KeyOf.keys c.args.keys.now) c.self.inside.numbers.items c.deref.result.now c.args.self.now.numbers (ap (λ (v : ActiveValue). v.numbers) c.self.view_is) c.deref.ensures.value c.requires.fits }

it : goal.returns-clause-it
it g c =
    let keys = g.R.KeyOf.keys c.args.keys.now in
    subst (λ (wanted : Option Key). (other : ℕ) → (c.first_with-replaced.result ≡ Some other) ↔ IsActiveAt keys wanted c.args.self.now.numbers other) (sym c.key.ensures.key)
    (found-it c.same_key_is_equality.ensures keys c.key.result.now c.self.inside.numbers.items c.args.self.now.numbers (ap (λ (v : ActiveValue). v.numbers) c.self.view_is) c.requires.fits
    c.first_with-replaced.result (c.first_with-replaced.ensures ∙ ap (find (has_key keys c.key.result.now)) c.deref.ensures.value))

pub returns-clause-it : goal.returns-clause-it
returns-clause-it g c = it g c

pub returns-clause-none : goal.returns-clause-none
returns-clause-none g c =
    let keys = g.R.KeyOf.keys c.args.keys.now in
    subst (λ (wanted : Option Key). (c.first_with-replaced.result ≡ None) ↔ ((other : ℕ) → ¬ (IsActiveAt keys wanted c.args.self.now.numbers other))) (sym c.key.ensures.key)
    (found-none c.same_key_is_equality.ensures keys c.key.result.now c.self.inside.numbers.items c.args.self.now.numbers (ap (λ (v : ActiveValue). v.numbers) c.self.view_is)
    c.first_with-replaced.result (c.first_with-replaced.ensures ∙ ap (find (has_key keys c.key.result.now)) c.deref.ensures.value))

-- there is room for one more
fits_one : (g : _) (c : goal.After-push g) → length c.self.inside.numbers.items < c.self.inside.room
fits_one g c =
    let ks : List ℕ = c.self.inside.numbers.items in
    let room : len (from_list ks) < c.self.inside.room = subst (λ (v : ActiveValue). len v.numbers < v.room) (sym c.self.view_is) c.requires.room in
    let size : len (from_list ks) ≡ length ks = len-apart ks c.self.invariant.apart in
    omega (arith, room, size)

-- the list afterwards
pushed : (g : _) (c : goal.After-push g) → c.push.new.self.items ≡ left_of c.first_with-replaced.result c.self.inside.numbers.items ++ c.args.number ∷ []
pushed g c =
    let ks : List ℕ = c.self.inside.numbers.items in
    let r : Option ℕ = c.first_with-replaced.result in
    let fit = fits_one g c in
    let few : length (left_of r ks) ≤ length ks = few-left r ks in
    let size : length c.take_out_replaced.new.numbers.items ≡ length (left_of r ks) = ap (λ (l : List ℕ). length l) c.take_out_replaced.ensures.items in
    let ok = c.push.ensures.succeeds (omega (arith, fit, few, size, c.self.invariant.reserved, c.take_out_replaced.ensures.capacity, c.take_out_replaced.new.numbers.ok)) in
    c.push.ensures.items
    ∙ ap (λ b. cond b (c.take_out_replaced.new.numbers.items ++ c.args.number ∷ []) c.take_out_replaced.new.numbers.items) ok
    ∙ ap (λ (l : List ℕ). l ++ c.args.number ∷ []) c.take_out_replaced.ensures.items

set_is : (g : _) (c : goal.After-push g) → from_list c.push.new.self.items ≡ insert (without c.first_with-replaced.result (from_list c.self.inside.numbers.items)) c.args.number
set_is g c =
    ap from_list (pushed g c) ∙ set-push c.args.number (left_of c.first_with-replaced.result c.self.inside.numbers.items)
    ∙ ap (λ (s : Numbers). insert s c.args.number) (set-left c.first_with-replaced.result c.self.inside.numbers.items)

pub invariant_of-self : goal.invariant_of-self
invariant_of-self g c =
    let ks : List ℕ = c.self.inside.numbers.items in
    let r : Option ℕ = c.first_with-replaced.result in
    let left : List ℕ = left_of r ks in
    let lacks : list_any (λ y. eqb y c.args.number) ks ≡ false =
    sym (contains-from_list_nat ks c.args.number) ∙ subst (λ (v : ActiveValue). contains v.numbers c.args.number ≡ false) (sym c.self.view_is) c.requires.absent in
    let apart = apart-push c.args.number left (absent-left r ks c.args.number lacks) (apart-left r ks c.self.invariant.apart) in
    let few : length left ≤ length ks = few-left r ks in
    let one_more : length (left ++ c.args.number ∷ []) ≡ length left + 1 = length-append left (c.args.number ∷ []) in
    let size : length c.push.new.self.items ≡ length (left ++ c.args.number ∷ []) = ap (λ (l : List ℕ). length l) (pushed g c) in
    let fit = fits_one g c in
    record {
      apart = subst AllApart (sym (pushed g c)) apart;
      few = omega (arith, few, one_more, size, fit);
      reserved = omega (arith, c.self.invariant.reserved, c.take_out_replaced.ensures.capacity, c.push.ensures.capacity);
    }

pub returns-clause-active : goal.returns-clause-active
returns-clause-active g c =
    ap (λ (s : Numbers). record { room = c.self.inside.room; numbers = s }) (set_is g c)
    ∙ ap (λ (v : ActiveValue). record v { numbers = insert (without c.first_with-replaced.result v.numbers) c.args.number }) c.self.view_is

pub returns-clause-fits : goal.returns-clause-fits
returns-clause-fits g c =
    let keys = g.R.KeyOf.keys c.args.keys.now in
    subst (Fits keys) (sym (set_is g c ∙ ap (λ (v : ActiveValue). insert (without c.first_with-replaced.result v.numbers) c.args.number) c.self.view_is))
    (fits-activate keys c.args.self.now.numbers c.first_with-replaced.result c.args.number c.requires.fits c.requires.known (it g c))
