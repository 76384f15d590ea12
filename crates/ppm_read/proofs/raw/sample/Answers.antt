use Rattle.ppm_read.proofs.RawSamples.{word_inside}
use Rattle.ppm_read.proofs.raw.sample.Goals as goal

pub word-requires : goal.word-requires
word-requires c = word_inside c.args.maximum c.args.row.now c.args.index c.if-maximum-lt256.false c.requires
