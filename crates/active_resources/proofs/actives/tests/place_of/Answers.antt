use Rattle.std.proofs.Common.{◌≡◌, ℕ, List, length, Some, refl, ap, sym, ◌∙◌, arith}
use Rattle.std.specs.Option.{option_map}
use Rattle.std.specs.Ordering.{nat_cmp, eq_by_cmp}
use Rattle.std.specs.FinMap.{find, nat_cmp-IsAntisymmetric}
use Rattle.std.proofs.lemmas.Cmp.{nat_cmp_total}
use Rattle.std.proofs.lemmas.Option.{slice_get_read, slice_get_past}
use Rattle.cache_key.specs.Key.{Key}
use Rattle.finite_maps.specs.MapLaws.{key_itself}
use Rattle.finite_maps.specs.Walks.{find-here, find-end}
use Rattle.active_resources.proofs.actives.tests.place_of.Goals as goal

pub returns-then-entries-i : goal.returns-then-entries-i
returns-then-entries-i c =
    let es : List (ℕ × Key) = c.args.entries.now in
    let e : ℕ × Key = c.index-entries-i.result in
    let here : e.0 ≡ c.args.number = ap (λ (x : ℕ × Key). x.0) c.index-entries-i.is ∙ c.if-entries-i.true in
    let ties = ap (λ q. eq_by_cmp nat_cmp q e.0) (sym here) ∙ key_itself nat_cmp_total nat_cmp-IsAntisymmetric e.0 in
    let found : find nat_cmp c.args.number es ≡ Some e.1 = sym c.loop-i.invariant ∙ find-here nat_cmp c.args.number es c.loop-i.i e c.loop-i-test.true c.index-entries-i.is ties in
    slice_get_read es (length es) c.loop-i.i e refl c.loop-i-test.true c.index-entries-i.is ∙ ap (λ n. Some (n, e.1)) here ∙ sym (ap (option_map (λ key. (c.args.number, key))) found)

pub returns : goal.returns
returns c =
    let es : List (ℕ × Key) = c.args.entries.now in
    let found = sym c.loop-i.invariant ∙ find-end nat_cmp c.args.number es c.loop-i.i c.loop-i-test.false in
    slice_get_past es (length es) (omega arith) ∙ sym (ap (option_map (λ key. (c.args.number, key))) found)
