use Rattle.std.proofs.Common.{◌≡◌, ◌+◌, ◌-◌, ◌≤◌, take, drop, arith}
use Rattle.script_lines.proofs.Parts.{part_front, part_rest, part_after}
use Rattle.script_lines.proofs.pieces.LineReader.give.Goals as goal

pub returns : goal.returns
returns c =
    let s = c.args.self.now in
    let fits : s.from + (c.args.count + c.args.feed) ≤ s.to = part_after s.buffer.items s.from s.to (c.args.count + c.args.feed) (omega arith) c.requires.pending in
    let front : drop s.from (take (s.from + c.args.count) s.buffer.items) ≡ take c.args.count (drop s.from (take s.to s.buffer.items)) = part_front s.buffer.items s.from s.to c.args.count (omega arith) (omega arith) in
    let rest : drop (s.from + c.args.count + c.args.feed) (take s.to s.buffer.items) ≡ drop (c.args.count + c.args.feed) (drop s.from (take s.to s.buffer.items)) = part_rest s.buffer.items s.from s.to _ (c.args.count + c.args.feed) (omega arith) (omega arith) (omega arith) in
    λ i. record { pending = rest i; line = front i; room = s.room - (c.args.count + c.args.feed) }
