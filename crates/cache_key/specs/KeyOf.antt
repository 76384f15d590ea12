-- Keys by numbers, as a table of resources shows them.
use Rattle.std.specs.Ordering.{nat_cmp}
use Rattle.std.specs.FinMap as map
use Rattle.cache_key.specs.Key.{Key}

-- a key for each of finitely many numbers
abbrev pub KeyMap : Type 0
KeyMap = map.FinMap nat_cmp Key
