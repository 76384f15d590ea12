use Rattle.std.proofs.Common.{◌≡◌, ℕ, ◌<◌, length, get_or, set, Some, None, Option, refl, ap, sym, subst, ◌∙◌, arith}
use Rattle.std.specs.Prelude.{slice_get}
use Rattle.std.proofs.lemmas.Option.{slice_get_read}
use Rattle.engine_shared.specs.Tokens.{HoldValue}
use Rattle.engine_views.specs.Held.{Holds, Held, loads_in}
use Rattle.engine_views.specs.Owner.{HasJust}
use Rattle.engine_views.proofs.Just.{held_there, place_released}
use Rattle.engine_views.proofs.holds.EngineViews.let_go.Goals as goal

taken : (hs : Holds) (place : ℕ) (found : Option HoldValue) (load : HoldValue) → place < length hs → found ≡ get_or hs place found → Some load ≡ found → slice_get hs place ≡ Some (Some load)
taken hs place found load less is took = slice_get_read hs (length hs) place (Some load) refl less (subst (λ o. o ≡ get_or hs place o) (sym took) is)

pub release-requires : goal.release-requires
release-requires g c =
    let hs = c.self.inside.holds.items in
    let less : c.args.place < length hs = omega (arith, c.requires.place, ap (λ (h : Held). length h.holds) c.self.view_is) in
    let there = taken hs c.args.place c.index_mut.result.now c.in-Some.load less c.index_mut.ensures.value c.in-Some.ensures.value in
    let caller = g.E.EngineCalls.caller in
    record { load = held_there (caller c.args.engine.now) hs c.args.place c.in-Some.load (subst (λ (h : Held). HasJust (caller c.args.engine.now) (loads_in h.holds)) (sym c.self.view_is) c.requires.just) there }

pub returns-clause-lets_go : goal.returns-clause-lets_go
returns-clause-lets_go g c =
    let hs = c.self.inside.holds.items in
    let less : c.args.place < length hs = omega (arith, c.requires.place, ap (λ (h : Held). length h.holds) c.self.view_is) in
    let there = taken hs c.args.place c.index_mut.result.now c.in-Some.load less c.index_mut.ensures.value c.in-Some.ensures.value in
    record {
      hold = Some c.in-Some.load;
      was = subst (λ (h : Held). slice_get h.holds c.args.place ≡ Some (Some c.in-Some.load)) c.self.view_is there;
      released = c.release.ensures.entry;
      holds_are = ap (λ o. set hs c.args.place o) c.in-Some.ensures.after ∙ ap (λ (h : Held). set h.holds c.args.place None) c.self.view_is;
    }

pub returns-clause-just : goal.returns-clause-just
returns-clause-just g c =
    let hs = c.self.inside.holds.items in
    let caller = g.E.EngineCalls.caller in
    let less : c.args.place < length hs = omega (arith, c.requires.place, ap (λ (h : Held). length h.holds) c.self.view_is) in
    let there = taken hs c.args.place c.index_mut.result.now c.in-Some.load less c.index_mut.ensures.value c.in-Some.ensures.value in
    let just : HasJust (caller c.args.engine.now) (loads_in hs) = subst (λ (h : Held). HasJust (caller c.args.engine.now) (loads_in h.holds)) (sym c.self.view_is) c.requires.just in
    subst (λ o. HasJust (caller c.release.new.self) (loads_in (set hs c.args.place o))) (sym c.in-Some.ensures.after)
    (place_released c.laws_of_moves.ensures (caller c.args.engine.now) (caller c.release.new.self) hs c.args.place c.in-Some.load just there c.release.ensures.entry)
