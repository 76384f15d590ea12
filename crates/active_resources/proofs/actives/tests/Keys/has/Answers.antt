use Rattle.std.proofs.Common.{◌<◌, List, ℕ, length, arith}
use Rattle.std.proofs.lemmas.Bool.{ltb-true}
use Rattle.cache_key.specs.Key.{Key}
use Rattle.active_resources.proofs.Keyed.{known}
use Rattle.active_resources.proofs.actives.tests.Keys.has.Goals as goal

pub returns : goal.returns
returns c is =
    let es : List (ℕ × Key) = c.self.inside.entries.items in
    let less : c.place_of.result < c.len.result = ltb-true c.place_of.result c.len.result is in
    let within : c.place_of.result < length es = omega (arith, less, c.len.ensures, c.self.inside.entries.ok) in
    known c.deref.result.now es c.args.self.now c.args.number c.place_of.result c.deref.ensures.value c.self.view_is c.place_of.ensures within
