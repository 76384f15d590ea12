use Rattle.std.proofs.Common.{◌/◌, arith}
use Rattle.bitmap_kind.proofs.Packing.{word_or}
use Rattle.bitmap_kind.proofs.pieces.rgb565_word.Goals as goal

pub returns : goal.returns
returns c = rw (c.from.ensures, c.from-2.ensures, c.from-3.ensures) (word_or (c.args.r / 8) (c.args.g / 4) (c.args.b / 8) (omega (arith, c.ranges.r.fits)) (omega (arith, c.ranges.g.fits)) (omega (arith, c.ranges.b.fits)))
