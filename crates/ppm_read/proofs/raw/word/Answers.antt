use Rattle.std.proofs.Common.{◌+◌, ◌*◌, sym, ◌∙◌}
use Rattle.ppm_read.proofs.RawSamples.{words-at}
use Rattle.ppm_read.proofs.raw.word.Goals as goal

pub returns : goal.returns
returns c = (λ i. 256 * c.from.ensures i + c.from-2.ensures i) ∙ sym (words-at c.args.row.now c.args.index c.requires)
