use Rattle.std.proofs.Common.{◌≡◌, ltb, take}
use Rattle.std.specs.List.{list_any}
use Rattle.ppm_read.proofs.raw.has_byte_above.Given as goal

abbrev pub invariant-loop-sample : goal.invariant-loop-sample
invariant-loop-sample l = l.above ≡ list_any (ltb l.maximum) (take l.sample-index l.row)
