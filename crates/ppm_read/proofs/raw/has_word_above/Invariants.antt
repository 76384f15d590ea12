use Rattle.std.proofs.Common.{◌≡◌, ltb, take}
use Rattle.std.specs.List.{list_any}
use Rattle.ppm_read.specs.Raw.{words}
use Rattle.ppm_read.proofs.raw.has_word_above.Given as goal

abbrev pub invariant-loop-index : goal.invariant-loop-index
invariant-loop-index l = l.above ≡ list_any (ltb l.maximum) (take l.index (words l.row))
