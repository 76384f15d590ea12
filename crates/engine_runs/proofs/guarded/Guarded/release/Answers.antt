use Rattle.std.proofs.Common.{◌≡◌, ℕ, ◌<◌, List, length, get_or, set, Some, Option, slice_get, refl, sym, subst, arith}
use Rattle.std.proofs.lemmas.Option.{slice_get_read}
use Rattle.engine_shared.specs.Tokens.{HoldValue}
use Rattle.engine_runs.specs.Guarded.{IsGuarded}
use Rattle.engine_runs.proofs.Guarding.{emptied, released}
use Rattle.engine_runs.proofs.guarded.Guarded.release.Goals as goal

taken : (hs : List (Option HoldValue)) (place : ℕ) (found : Option HoldValue) (load : HoldValue) → place < length hs → found ≡ get_or hs place found → Some load ≡ found → slice_get hs place ≡ Some (Some load)
taken hs place found load less is took = slice_get_read hs (length hs) place (Some load) refl less (subst (λ o. o ≡ get_or hs place o) (sym took) is)

pub invariant_of-self : goal.invariant_of-self
invariant_of-self c =
    let hs = c.self.inside.holds.items in
    subst (λ o. IsGuarded c.self.inside.engine (set hs c.args.number o) c.self.inside.pass) (sym c.take.ensures.after) (emptied c.self.inside.engine c.args.number hs c.self.inside.pass c.self.invariant)

pub invariant_of-self-2 : goal.invariant_of-self-2
invariant_of-self-2 c =
    let hs = c.self.inside.holds.items in
    let less : c.args.number < length hs = omega arith in
    let there = taken hs c.args.number c.index_mut.result.now c.in-Some.hold less c.index_mut.ensures.value c.in-Some.ensures.value in
    subst (λ o. IsGuarded c.release.new.self (set hs c.args.number o) c.self.inside.pass) (sym c.in-Some.ensures.after)
    (released c.calls_tell_what_they_add.ensures.stay c.calls_leave_the_rest.ensures.others c.calls_leave_the_rest.ensures.stay c.self.inside.engine c.release.new.self c.args.number c.in-Some.hold hs c.self.inside.pass there c.release.ensures.entry c.self.invariant)
