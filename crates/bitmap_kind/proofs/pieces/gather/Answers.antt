use Rattle.std.proofs.Common.{◌≡◌, ◌+◌, ◌-◌, ◌*◌, ◌≤◌, length, take, drop, get_or, ap, ◌∙◌, arith}
use Rattle.std.proofs.lemmas.List.Elements.{All-get_or}
use Rattle.bitmap_kind.specs.Places.{length-piece}
use Rattle.bitmap_kind.proofs.Gathering.{gather_more}
use Rattle.bitmap_kind.proofs.pieces.gather.Goals as goal

pub loop-i-preserved : goal.loop-i-preserved
loop-i-preserved g c =
    let i = c.loop-i.i in
    let n = g.row.N in
    let bytes = c.args.bytes.now in
    let place = (c.args.from + get_or c.args.columns.now i 0) * n in
    let size : place + n - place ≡ n = omega arith in
    let piece = c.copy_from_slice-in-loop-i.ensures.after ∙ c.copy_from_slice.ensures.after ∙ ap (λ k. take k (drop place bytes)) size in
    gather_more (λ x. take n (drop ((c.args.from + x) * n) bytes)) c.args.columns.now c.loop-i.into c.copy_from_slice-in-loop-i.new.self i n (i * n + n - i * n) (omega arith) (c.loop-i.auto.into ∙ c.requires.room) (ap length piece ∙ length-piece bytes place n (All-get_or (λ x. (c.args.from + x) * n + n ≤ length bytes) c.args.columns.now i 0 (omega arith) c.requires.columns)) piece c.loop-i.invariant
