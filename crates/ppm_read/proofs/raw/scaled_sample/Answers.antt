use Rattle.std.proofs.Common.{arith}
use Rattle.ppm_read.specs.Raw.{raw_samples}
use Rattle.ppm_read.proofs.Samples.{none_above}
use Rattle.ppm_read.proofs.Pixels.{scaled_at}
use Rattle.ppm_read.proofs.raw.scaled_sample.Goals as goal

pub scaled_by-requires-clause-within : goal.scaled_by-requires-clause-within
scaled_by-requires-clause-within c =
    omega (arith, none_above c.args.scale.maximum (raw_samples c.args.scale.maximum c.args.row.now) c.args.index c.requires.within c.requires.inside, c.sample.ensures)

pub returns : goal.returns
returns c = scaled_at c.args.scale.maximum (raw_samples c.args.scale.maximum c.args.row.now) c.args.index c.sample.result _ c.requires.inside c.sample.ensures c.scaled_by.ensures
