use Rattle.std.proofs.Common.{◌≡◌, Some, ap, sym, ◌∙◌}
use Rattle.std.specs.Prelude.{is_some, take, drop}
use Rattle.std.specs.FinMap.{get}
use Rattle.finite_maps.specs.MapLaws.{same_Some}
use Rattle.engine_resource.specs.Resource.{ResourceValue}
use Rattle.load_table.specs.declared.loads.LoadState.TheVariants.{Ready}
use Rattle.bitmap_kind.specs.Picture.{Picture, BitmapValue}
use Rattle.engine_world.specs.declared.events.NotedReply.TheVariants as notes
use Rattle.engine_world.specs.World.{Resource, World}
use Rattle.engine_world.specs.Steps.{piece_from, shown, shown_by}
use Rattle.engine_core.proofs.Joins.{held_there}
use Rattle.engine_core.proofs.tables.Tables.read.Goals as goal

pub get-requires : goal.get-requires
get-requires c =
    let told : Some c.state.result.now ≡ Some (Ready c.requires.r) = sym c.state.ensures ∙ ap (λ (v : World). get v.loads (c.args.who, c.args.number)) c.self.view_is ∙ c.requires.ready in
    let same : c.in-Ready.r ≡ c.requires.r = cc in
    let held = held_there c.self.inside c.args.self.now c.requires.r c.requires.resource c.self.view_is c.requires.there in
    ap is_some (ap (get c.self.inside.resources.resources) same ∙ held.1)

pub returns-in-Ready-clause-shown : goal.returns-in-Ready-clause-shown
returns-in-Ready-clause-shown c =
    let told : Some c.state.result.now ≡ Some (Ready c.requires.r) = sym c.state.ensures ∙ ap (λ (v : World). get v.loads (c.args.who, c.args.number)) c.self.view_is ∙ c.requires.ready in
    let same : c.in-Ready.r ≡ c.requires.r = cc in
    let held = held_there c.self.inside c.args.self.now c.requires.r c.requires.resource c.self.view_is c.requires.there in
    let is : c.get.result.now ≡ held.0 = same_Some _ _ (sym c.get.ensures.resource ∙ ap (get c.self.inside.resources.resources) same ∙ held.1) in
    let picture : c.bitmap.result.now.picture ≡ c.requires.resource.picture = ap (λ (b : BitmapValue). b.picture) (c.bitmap.ensures ∙ ap (λ (r : ResourceValue). r.bitmap) is) ∙ ap (λ (r : Resource). r.picture) held.2 in
    ap notes.Piece (c.piece_of.ensures.bytes ∙ ap (λ bytes. take 4096 (drop c.args.at bytes)) (c.bytes.ensures.value ∙ ap (λ (p : Picture). p.bytes) picture))
    ∙ sym (ap (shown c.args.self.now (λ picture. notes.Piece (piece_from c.args.at picture))) c.requires.ready ∙ ap (shown_by (λ picture. notes.Piece (piece_from c.args.at picture))) c.requires.there)
