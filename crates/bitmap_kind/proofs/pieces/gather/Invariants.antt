use Rattle.std.proofs.Common.{◌≡◌, ◌+◌, ◌*◌, take, drop}
use Rattle.std.specs.List.{flat_map}
use Rattle.bitmap_kind.proofs.pieces.gather.Given as goal

abbrev pub invariant-loop-i : goal.invariant-loop-i
invariant-loop-i g l = take (l.i * g.row.N) l.into ≡ flat_map (λ x. take g.row.N (drop ((l.from + x) * g.row.N) l.bytes)) (take l.i l.columns)
