use Rattle.printed_lines.proofs.Texts.{err_is, stopped_adding, added_then, unadded}
use Rattle.printed_lines.proofs.pixels.PixelsLine.piece.Goals as goal

pub returns-in_err-make_room : goal.returns-in_err-make_room
returns-in_err-make_room g c = stopped_adding (err_is c.from_residual.result c.from_residual.ensures.1) c.in_err-make_room.ensures

pub returns-in_err-push_hex : goal.returns-in_err-push_hex
returns-in_err-push_hex g c =
    added_then c.in_ok-make_room.ensures (unadded (err_is c.from_residual-in_err-push_hex.result c.from_residual-in_err-push_hex.ensures.1))
