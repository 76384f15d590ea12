use Rattle.std.proofs.Common.{◌≡◌, ◌≢◌, ◌<◌, length, slice_get, Some, None, Option, MatchOption, Bor, refl, sym, ap, subst, ◌∙◌, arith}
use Rattle.std.specs.Option.{option_copied}
use Rattle.std.proofs.lemmas.Option.{slice_get_read}
use Rattle.request_tracker.specs.declared.views.ViewState.TheVariants.{Complete}
use Rattle.request_tracker.specs.Moves.{state_at}
use Rattle.engine_shared.specs.Tokens.{HoldValue}
use Rattle.engine_views.specs.Held.{Held}
use Rattle.engine_views.specs.Following.{IsHoldAt, IsShown}
use Rattle.engine_views.proofs.Showing.{hold_of_view, shown_of, some_held, told}
use Rattle.engine_views.proofs.holds.EngineViews.shown.Goals as goal

pub returns-in-Complete : goal.returns-in-Complete
returns-in-Complete c caller outcome s v follows view_is =
    let holds = c.self.inside.holds.items in
    let place = c.args.place in
    let now = c.args.self.now in
    let less : place < length holds = omega (arith, c.requires, c.self.invariant.0, ap (λ (h : Held). length h.tracked.views) c.self.view_is) in
    let at : slice_get now.holds place ≡ Some c.index.result.now = sym (ap (λ (h : Held). slice_get h.holds place) c.self.view_is) ∙ slice_get_read holds (length holds) place c.index.result.now refl less c.index.ensures in
    let is = hold_of_view caller outcome place s.views now.holds v c.index.result.now follows.holds view_is at in
    let state : Some c.state.result.now ≡ state_at place now.tracked.views = c.state.ensures ∙ ap (λ (h : Held). state_at place h.tracked.views) c.self.view_is in
    let complete : v.view.state ≡ Complete = told caller outcome s now place v c.state.result.now follows view_is state ∙ c.in-Complete.is in
    elim c.as_ref.result as (λ (r : Option (Bor HoldValue)). option_copied r ≡ c.index.result.now → MatchOption r (v.view.state ≢ Complete) (λ load. IsShown caller outcome v load.now)) [
      | None ↦ λ e. absurd (some_held caller outcome v complete (subst (IsHoldAt caller outcome v.view.state v.last) (sym e) is))
      | Some load ↦ λ e. shown_of caller outcome v load.now complete (subst (IsHoldAt caller outcome v.view.state v.last) (sym e) is)
    ] c.as_ref.ensures.value

pub returns-in_default : goal.returns-in_default
returns-in_default c caller outcome s v follows view_is complete =
    let now = c.args.self.now in
    let state : Some c.state.result.now ≡ state_at c.args.place now.tracked.views = c.state.ensures ∙ ap (λ (h : Held). state_at c.args.place h.tracked.views) c.self.view_is in
    c.in_default.not-Complete (sym (told caller outcome s now c.args.place v c.state.result.now follows view_is state) ∙ complete)
