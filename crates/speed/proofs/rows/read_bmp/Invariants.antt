use Rattle.std.proofs.Common.{◌≡◌, ◌*◌, length}
use Rattle.speed.proofs.rows.read_bmp.Given as goal

abbrev pub invariant-loop : goal.invariant-loop
invariant-loop l = length l.row ≡ 4 * l.rows.width
