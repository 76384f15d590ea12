use Rattle.std.proofs.Common.{ltb, ap, ◌∙◌, arith}
use Rattle.std.specs.List.{list_any}
use Rattle.std.proofs.lemmas.List.{take_all}
use Rattle.ppm_read.specs.Raw.{words}
use Rattle.ppm_read.proofs.RawSamples.{length-words}
use Rattle.ppm_read.proofs.raw.has_word_above.Goals as goal

pub returns : goal.returns
returns c = c.loop-index.invariant ∙ ap (list_any (ltb c.args.maximum)) (take_all c.loop-index.index (words c.args.row.now) (omega (arith, length-words c.args.row.now)))
