use Rattle.std.proofs.Common.{◌<◌, ◌++◌, length, take, ap, ◌∙◌, arith}
use Rattle.std.proofs.lemmas.List.{length-take-le}
use Rattle.script_lines.proofs.Parts.{part_back}
use Rattle.script_lines.proofs.pieces.LineReader.fill.Goals as goal

pub returns-clause-fills : goal.returns-clause-fills
returns-clause-fills g c =
    let s = c.make_room.new.self in
    let count = c.in_ok-count.count in
    let into = c.read.new.into in
    let fits = c.in_ok-count.ensures.bound.0 in
    let room : 0 < length into = omega (arith, c.read.auto.into, c.make_room.ensures.to, c.requires) in (
      take count into,
      part_back s.buffer.items c.deref_mut.result.now into s.from s.to count s.buffer.len _ c.deref_mut.ensures.value (omega arith) (omega arith) (omega (arith, c.read.auto.into, ap length c.deref_mut.ensures.value, s.buffer.ok.0)) fits ∙ ap (λ l. l ++ take count into) c.make_room.ensures.pending,
      length-take-le count into fits,
      c.in_ok-count.ensures.bytes.0,
      λ none. c.in_ok-count.ensures.bytes.1 none room,
    )
