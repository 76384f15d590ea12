use Rattle.std.proofs.Common.{◌≡◌, ℕ, ◌<◌, length, get_or, set, Some, None, Option, refl, sym, subst, arith}
use Rattle.std.specs.Prelude.{slice_get}
use Rattle.std.proofs.lemmas.Grind.{common_steps}
use Rattle.std.proofs.lemmas.Option.{slice_get_within, get_or_from_slice_get}
use Rattle.engine_shared.specs.Tokens.{HoldValue}
use Rattle.engine_views.specs.Held.{Holds, Held, loads_in}
use Rattle.engine_views.specs.Owner.{HasJust}
use Rattle.engine_views.proofs.Just.{place_begun, not_full}
use Rattle.engine_views.proofs.holds.EngineViews.begin.Goals as goal

-- nothing was there
none_old : (hs : Holds) (place : ℕ) (found : Option HoldValue) (old : HoldValue) → slice_get hs place ≡ Some None → found ≡ get_or hs place found → Some old ≡ found → ⊥
none_old hs place found old free is was =
    let none : get_or hs place found ≡ None = get_or_from_slice_get hs place None found free in
    absurd cc

pub returns-in_default-clause-begins : goal.returns-in_default-clause-begins
returns-in_default-clause-begins g c =
    let hs = c.self.inside.holds.items in
    let caller = g.E.EngineCalls.caller in
    let free : slice_get hs c.args.place ≡ Some None = subst (λ (h : Held). slice_get h.holds c.args.place ≡ Some None) (sym c.self.view_is) c.requires.free in
    let just : HasJust (caller c.args.engine.now) (loads_in hs) = subst (λ (h : Held). HasJust (caller c.args.engine.now) (loads_in h.holds)) (sym c.self.view_is) c.requires.just in
    absurd (not_full (caller c.args.engine.now) hs c.args.place just free c.self.invariant.1 (c.in_default.ensures.full.0 refl))

pub returns-in_default-clause-just : goal.returns-in_default-clause-just
returns-in_default-clause-just g c =
    let hs = c.self.inside.holds.items in
    let caller = g.E.EngineCalls.caller in
    let free : slice_get hs c.args.place ≡ Some None = subst (λ (h : Held). slice_get h.holds c.args.place ≡ Some None) (sym c.self.view_is) c.requires.free in
    let just : HasJust (caller c.args.engine.now) (loads_in hs) = subst (λ (h : Held). HasJust (caller c.args.engine.now) (loads_in h.holds)) (sym c.self.view_is) c.requires.just in
    absurd (not_full (caller c.args.engine.now) hs c.args.place just free c.self.invariant.1 (c.in_default.ensures.full.0 refl))

pub index_mut-requires : goal.index_mut-requires
index_mut-requires g c =
    let free : slice_get c.self.inside.holds.items c.args.place ≡ Some None = subst (λ (h : Held). slice_get h.holds c.args.place ≡ Some None) (sym c.self.view_is) c.requires.free in
    let less : c.args.place < length c.self.inside.holds.items = slice_get_within c.self.inside.holds.items c.args.place None free in
    grind (arith, common_steps)

pub release-requires : goal.release-requires
release-requires g c =
    let hs = c.self.inside.holds.items in
    let free : slice_get hs c.args.place ≡ Some None = subst (λ (h : Held). slice_get h.holds c.args.place ≡ Some None) (sym c.self.view_is) c.requires.free in
    absurd (none_old hs c.args.place c.index_mut.result.now c.in-Some.old free c.index_mut.ensures.value c.in-Some.ensures.value)

pub returns-in-Some-clause-begins : goal.returns-in-Some-clause-begins
returns-in-Some-clause-begins g c =
    let hs = c.self.inside.holds.items in
    let free : slice_get hs c.args.place ≡ Some None = subst (λ (h : Held). slice_get h.holds c.args.place ≡ Some None) (sym c.self.view_is) c.requires.free in
    absurd (none_old hs c.args.place c.index_mut.result.now c.in-Some.old free c.index_mut.ensures.value c.in-Some.ensures.value)

pub returns-in-Some-clause-just : goal.returns-in-Some-clause-just
returns-in-Some-clause-just g c =
    let hs = c.self.inside.holds.items in
    let free : slice_get hs c.args.place ≡ Some None = subst (λ (h : Held). slice_get h.holds c.args.place ≡ Some None) (sym c.self.view_is) c.requires.free in
    absurd (none_old hs c.args.place c.index_mut.result.now c.in-Some.old free c.index_mut.ensures.value c.in-Some.ensures.value)

pub returns-clause-just : goal.returns-clause-just
returns-clause-just g c =
    let hs = c.self.inside.holds.items in
    let caller = g.E.EngineCalls.caller in
    let free : slice_get hs c.args.place ≡ Some None = subst (λ (h : Held). slice_get h.holds c.args.place ≡ Some None) (sym c.self.view_is) c.requires.free in
    let just : HasJust (caller c.args.engine.now) (loads_in hs) = subst (λ (h : Held). HasJust (caller c.args.engine.now) (loads_in h.holds)) (sym c.self.view_is) c.requires.just in
    let made = c.in-Ok.ensures.entry in
    subst (λ o. HasJust (caller c.load.new.self) (loads_in (set hs c.args.place o))) (sym c.replace.ensures.after)
    (place_begun c.laws_of_moves.ensures c.each_history_is_sound.ensures.sound (caller c.args.engine.now) (caller c.load.new.self) hs c.args.place c.in-Ok.load c.args.spec made.0 just free made.1 made.2 c.in-Ok.ensures.number c.in-Ok.ensures.load)
