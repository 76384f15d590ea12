use Rattle.std.proofs.Common.{◌-◌, take, ap, ◌∙◌, arith}
use Rattle.script_lines.proofs.Parts.{copied_front}
use Rattle.script_lines.proofs.pieces.LineReader.make_room.Goals as goal

pub returns-clause-pending : goal.returns-clause-pending
returns-clause-pending c =
    let s = c.args.self.now in
    ap (take (s.to - s.from)) c.copy_within.ensures.items ∙ copied_front s.buffer.items s.from s.to (omega arith) (omega arith)
