use Rattle.std.proofs.Common.{◌≡◌, ℕ, List, Some, ap, sym, ◌∙◌, arith}
use Rattle.std.specs.Prelude.{slice_get}
use Rattle.std.specs.FinMap.{get}
use Rattle.std.proofs.lemmas.Option.{slice_get_within, get_or_from_slice_get}
use Rattle.cache_key.specs.Key.{Key}
use Rattle.active_resources.proofs.Keyed.{stands}
use Rattle.active_resources.proofs.actives.tests.KeysKeyOf.key.Goals as goal

pub index-requires : goal.index-requires
index-requires c =
    let es : List (ℕ × Key) = c.self.inside.entries.items in
    let at : (key : Key) × (slice_get es c.place_of-place.result ≡ Some (c.args.number, key)) × (get c.args.self.now c.args.number ≡ Some key) =
    stands c.deref.result.now es c.args.self.now c.args.number c.place_of-place.result c.deref.ensures.value c.self.view_is c.place_of-place.ensures c.requires.known in
    omega (arith, slice_get_within es c.place_of-place.result (c.args.number, at.0) at.1, c.self.inside.entries.ok)

pub returns : goal.returns
returns c =
    let es : List (ℕ × Key) = c.self.inside.entries.items in
    let at : (key : Key) × (slice_get es c.place_of-place.result ≡ Some (c.args.number, key)) × (get c.args.self.now c.args.number ≡ Some key) =
    stands c.deref.result.now es c.args.self.now c.args.number c.place_of-place.result c.deref.ensures.value c.self.view_is c.place_of-place.ensures c.requires.known in
    let read : (c.args.number, at.0) ≡ c.index.result.now = sym (c.index.ensures ∙ get_or_from_slice_get es c.place_of-place.result (c.args.number, at.0) c.index.result.now at.1) in
    record { key = at.2 ∙ ap (λ (e : ℕ × Key). Some e.1) read }
