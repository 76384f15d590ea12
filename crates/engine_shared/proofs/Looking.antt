-- What is told of the picture that a load shows.
use Rattle.std.proofs.Common.{◌≡◌, ℕ, List, Some, None, Option, ap, sym, subst, ◌∙◌}
use Rattle.std.specs.Prelude.{IfSome}
use Rattle.std.specs.Option.{option_map}
use Rattle.std.specs.FinMap.{get}
use Rattle.finite_maps.specs.MapLaws.{not_Some, same_Some}
use Rattle.bitmap_kind.specs.Picture.{Picture}
use Rattle.load_table.specs.declared.loads.LoadState.TheVariants.{Waiting, Ready, Failed}
use Rattle.engine_world.specs.declared.events.Event.{Event}
use Rattle.engine_world.specs.declared.events.Event.TheVariants as events
use Rattle.engine_world.specs.declared.events.NotedReply.{NotedReply}
use Rattle.engine_world.specs.declared.events.NotedReply.TheVariants as replies
use Rattle.engine_world.specs.declared.events.Shape.{Shape}
use Rattle.engine_world.specs.World.{LoadState, Resource, World}
use Rattle.engine_world.specs.Steps.{shape_of, piece_from, shown}
use Rattle.engine_world.specs.Steps as steps
use Rattle.engine_world.specs.Laws.{IsRelease}
use Rattle.engine_shared.specs.Tokens.{HoldValue}
use Rattle.engine_shared.specs.Caller.{Caller, shown_by, IsCall, HasReadyLoad}
use Rattle.engine_shared.specs.CallLaws.{LooksAtIt, ReadsIt}

by_resource : (reply : Picture → NotedReply) (o : Option Resource) (picture : Picture) → option_map (λ (resource : Resource). resource.picture) o ≡ Some picture → steps.shown_by reply o ≡ reply picture
by_resource reply None picture e = absurd (not_Some e)
by_resource reply (Some resource) picture e = ap reply (same_Some resource.picture picture e)

shown_is : (w : World) (reply : Picture → NotedReply) (state : Option LoadState) (picture : Picture) → shown_by w state ≡ Some picture → shown w reply state ≡ reply picture
shown_is w reply None picture e = absurd (not_Some e)
shown_is w reply (Some (Waiting j)) picture e = absurd (not_Some e)
shown_is w reply (Some (Ready r)) picture e = by_resource reply (get w.resources r) picture e
shown_is w reply (Some (Failed cause)) picture e = absurd (not_Some e)

-- what is answered, where the world before the answer is the one after it
pub answered : (old new : Caller) (hold : HoldValue) (event : Event) (given : NotedReply) (reply : Picture → NotedReply) (has : HasReadyLoad old hold) (call : IsCall old event given new) → (IsRelease (old.who, hold.number) old.who event → ⊥)
    → given ≡ shown call.before reply (get call.before.loads (old.who, hold.number)) → new.world ≡ call.before → given ≡ reply has.picture
answered old new hold event given reply has call not is same =
    let now : shown_by new.world (get new.world.loads (new.who, hold.number)) ≡ Some has.picture = call.pictures hold.number (has.load, has.is, has.ready) not ∙ has.shows in
    let here : shown_by call.before (get call.before.loads (old.who, hold.number)) ≡ Some has.picture =
    subst (λ (w : World). shown_by w (get w.loads (old.who, hold.number)) ≡ Some has.picture) same
    (subst (λ k. shown_by new.world (get new.world.loads (k, hold.number)) ≡ Some has.picture) call.who now) in
    is ∙ shown_is call.before reply (get call.before.loads (old.who, hold.number)) has.picture here

abbrev shape_in : Shape → NotedReply → Shape
shape_in d (replies.Shape shape) = shape
shape_in d reply = d

abbrev piece_in : List ℕ → NotedReply → List ℕ
piece_in d (replies.Piece piece) = piece
piece_in d reply = d

pub looks_at_it : LooksAtIt
looks_at_it old new hold shape has call =
    let is = answered old new hold (events.Look hold.number) (replies.Shape shape) (λ picture. replies.Shape (shape_of picture)) has call (λ is. is) call.step.0 call.step.1 in
    subst (λ o. IfSome o (λ picture. shape ≡ shape_of picture)) (sym has.shows) (ap (shape_in shape) is)

pub reads_it : ReadsIt
reads_it old new hold at piece has call =
    let is = answered old new hold (events.Read hold.number at) (replies.Piece piece) (λ picture. replies.Piece (piece_from at picture)) has call (λ is. is) call.step.0 call.step.1 in
    subst (λ o. IfSome o (λ picture. piece ≡ piece_from at picture)) (sym has.shows) (ap (piece_in piece) is)
