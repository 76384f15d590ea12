use Rattle.std.proofs.Common.{ℕ, ◌++◌, ◌∷◌, [], take, drop, sym, ap, subst, ◌∙◌, arith, Ok, Err}
use Rattle.std.proofs.lemmas.List.{take_all}
use Rattle.hex.specs.Hex.{encode_lower}
use Rattle.printed_lines.specs.Printed.{pixels_start}
use Rattle.printed_lines.specs.Writes.{Adds}
use Rattle.printed_lines.proofs.Texts.{err_is, encode_more, encode_parts, same_piece, parts_text, begun, added_then, added_part, added_last, more_added, of_text}
use Rattle.printed_lines.proofs.pixels.write_pixels_line.Goals as goal

pub loop-at-init : goal.loop-at-init
loop-at-init g c = record { inside = omega arith; so_far = begun c.in_ok-line.ensures }

pub loop-at-preserved : goal.loop-at-preserved
loop-at-preserved g c =
    let bytes = c.bytes-bytes.result.now in
    let at = c.loop-at.at in
    let count = c.min-count.result in
    let piece = subst (λ l. Adds g.W.Sink (c.loop-at.out, c.loop-at.line) (c.piece.new.out, c.piece.new.self) (encode_lower l) (Ok tt)) (same_piece bytes at count) c.in_ok-piece.ensures in
    record {
      inside = omega (arith, c.min-count.ensures);
      so_far = more_added (encode_more bytes at count) (added_then c.loop-at.invariant.so_far piece);
    }

pub returns-in_err-piece : goal.returns-in_err-piece
returns-in_err-piece g c =
    let bytes = c.bytes-bytes.result.now in
    let at = c.loop-at.at in
    let count = c.min-count.result in
    let before = encode_lower (take at bytes) in
    let now = encode_lower (take count (drop at bytes)) in
    let behind = encode_lower (drop count (drop at bytes)) in
    let start = pixels_start c.args.view.now in
    let piece = subst (λ l. Adds g.W.Sink (c.loop-at.out, c.loop-at.line) (c.piece.new.out, c.piece.new.self) (encode_lower l) (Err c.in_err-piece.field-0.0)) (same_piece bytes at count) c.in_err-piece.ensures in
    let same = err_is c.from_residual-in_err-piece.result c.from_residual-in_err-piece.ensures.1 in
    of_text
    (parts_text start before now behind (10 ∷ []) ∙ ap (λ l. start ++ l ++ 10 ∷ []) (sym (encode_parts bytes at count) ∙ ap encode_lower c.bytes-bytes.ensures.value))
    (added_part (behind ++ 10 ∷ []) same (added_then c.loop-at.invariant.so_far piece))

pub returns : goal.returns
returns g c =
    let bytes = c.bytes-bytes.result.now in
    let start = pixels_start c.args.view.now in
    let all = ap encode_lower (take_all c.loop-at.at bytes (omega arith) ∙ c.bytes-bytes.ensures.value) in
    of_text (ap (λ l. start ++ l ++ 10 ∷ []) all) (added_last (10 ∷ []) c.loop-at.invariant.so_far c.end.ensures)
