use Rattle.std.proofs.Common.{◌+◌, ◌++◌, take, drop, ◌∷◌, sym, ap, ◌∙◌}
use Rattle.std.proofs.lemmas.List.{take-append-drop, drop_more}
use Rattle.script_lines.proofs.pieces.line_feed_in.Goals as goal

pub returns-then-byte-eq10 : goal.returns-then-byte-eq10
returns-then-byte-eq10 c =
    let bytes = c.args.bytes.now in
    let at = c.loop-at.at in (
      c.loop-at-test.true,
      sym (take-append-drop at bytes) ∙ ap (λ l. take at bytes ++ l) (drop_more bytes at 0 c.loop-at-test.true ∙ ap (λ b. b ∷ drop (at + 1) bytes) c.if-byte-eq10.true),
      c.loop-at.invariant,
    )
