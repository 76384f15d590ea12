use Rattle.std.proofs.Common.{◌≡◌, ℕ, ◌+◌, ◌-◌, inl, inr, List, ◌++◌, length, take, drop, false, sym, ap, subst, ◌∙◌, arith, append-nil}
use Rattle.std.proofs.lemmas.List.{length-take-le}
use Rattle.std.specs.Io.KnownBytes.{prepend_known, Keeps}
use Rattle.script_lines.specs.Commands.{line_of}
use Rattle.script_lines.specs.Script.{lines_within}
use Rattle.script_lines.specs.inside.Pieces.{Pieces, lines_before, has_line_feed, IsNextLine, BeginsBad}
use Rattle.script_lines.proofs.Parts.{length_part, empty_list}
use Rattle.script_lines.specs.inside.LineView.{pieces_of}
use Rattle.script_lines.proofs.SaidLines.{given_line, given_bad, given_end, read_more, found_bad, part_bad}
use Rattle.script_lines.proofs.pieces.LineReader.next.Goals.{then-count-gt-LINE_LIMIT-via-then-count-gt-LINE_LIMIT, then-count-gt-LINE_LIMIT-via-else-count-gt-LINE_LIMIT+then-count-self, then-count-gt-LINE_LIMIT-2-via-then-count-gt-LINE_LIMIT-2, then-count-gt-LINE_LIMIT-2-via-else-count-gt-LINE_LIMIT-2+then-count-self-2}
use Rattle.script_lines.proofs.pieces.LineReader.next.Goals as goal

pub returns-then-count-gt-LINE_LIMIT-clause-next : goal.returns-then-count-gt-LINE_LIMIT-clause-next
returns-then-count-gt-LINE_LIMIT-clause-next g c =
    let room = c.args.self.now.room in
    let pending = c.pending.result.now in
    let line = take c.in-Some.count pending in
    let found = c.in-Some.ensures in
    let size : length line ≡ c.in-Some.count = length-take-le c.in-Some.count pending (omega (arith, found.0)) in
    given_bad room _ _ _ c.pieces.invariant.same (subst (λ p. (more : List ℕ) → BeginsBad (lines_within room (p ++ more))) c.pending.ensures
    (found_bad room pending line _ found.1 found.2 (elim c.then-count-gt-LINE_LIMIT.branch [
      | then-count-gt-LINE_LIMIT-via-then-count-gt-LINE_LIMIT w ↦ inl (omega (arith, w.if-count-gt-LINE_LIMIT.true, size))
      | then-count-gt-LINE_LIMIT-via-else-count-gt-LINE_LIMIT+then-count-self w ↦ inr (omega (arith, w.if-count-self.true, size, c.pieces.invariant.room))
    ])))

pub returns-in-Some-clause-next : goal.returns-in-Some-clause-next
returns-in-Some-clause-next g c =
    let before = c.pieces.invariant in
    let pending = c.pending.result.now in
    let count = c.in-Some.count in
    let line = take count pending in
    let found = c.in-Some.ensures in
    let size : length line ≡ count = length-take-le count pending (omega (arith, found.0)) in
    let room = c.args.self.now.room in
    let value : Pieces = record { pending = drop (count + 1) pending; line = line; room = c.pieces.self.room - (count + 1) } in
    let gave = c.give.ensures ∙ (λ i. record { pending = drop (count + 1) (sym c.pending.ensures i); line = take count (sym c.pending.ensures i); room = c.pieces.self.room - (count + 1) }) in
    let left = g.I.Input.left c.pieces.input in
    let text = prepend_known (pieces_of c.args.self.now).pending (g.I.Input.left c.args.input.now) in
    subst (λ (v : Pieces). IsNextLine (lines_before (pieces_of c.args.self.now) (g.I.Input.left c.args.input.now)) (line_of v.line) (lines_before v left)) (sym gave)
    (given_line room value.room text left pending line (drop (count + 1) pending) (subst (λ p. Keeps text (prepend_known p left)) (sym c.pending.ensures) before.same) found.1 found.2 (omega (arith, size, before.room, c.if-count-self.false)) (omega (arith, size, before.room)))

pub returns-then-count-gt-LINE_LIMIT-2-clause-next : goal.returns-then-count-gt-LINE_LIMIT-2-clause-next
returns-then-count-gt-LINE_LIMIT-2-clause-next g c =
    let room = c.args.self.now.room in
    let pending = c.pending.result.now in
    let s = c.pieces.self in
    let size : length pending ≡ s.to - s.from = ap length c.pending.ensures ∙ length_part s.buffer.items s.from s.to (omega arith) in
    given_bad room _ _ _ c.pieces.invariant.same (subst (λ p. (more : List ℕ) → BeginsBad (lines_within room (p ++ more))) c.pending.ensures
    (part_bad room pending c.in_default.ensures (elim c.then-count-gt-LINE_LIMIT-2.branch [
      | then-count-gt-LINE_LIMIT-2-via-then-count-gt-LINE_LIMIT-2 w ↦ inl (omega (arith, size, w.if-count-gt-LINE_LIMIT-2.true))
      | then-count-gt-LINE_LIMIT-2-via-else-count-gt-LINE_LIMIT-2+then-count-self-2 w ↦ inr (omega (arith, size, w.if-count-self-2.true, c.pieces.invariant.room))
    ])))

pub returns-then-read-eq0-clause-next : goal.returns-then-read-eq0-clause-next
returns-then-read-eq0-clause-next g c =
    let before = c.pieces.invariant in
    let s = c.pieces.self in
    let text = prepend_known (pieces_of c.args.self.now).pending (g.I.Input.left c.args.input.now) in
    let fills = c.in_ok-read.ensures.fills in
    let old = drop s.from (take s.to s.buffer.items) in
    let new = drop c.fill.new.self.from (take c.fill.new.self.to c.fill.new.self.buffer.items) in
    let same : new ≡ old = fills.1 ∙ ap (λ l. old ++ l) (empty_list fills.0 (fills.2 ∙ c.if-read-eq0.true)) ∙ append-nil old in
    let none : has_line_feed new ≡ false = ap has_line_feed (same ∙ sym c.pending.ensures) ∙ c.in_default.ensures in
    let size : length new ≡ s.to - s.from = ap length same ∙ length_part s.buffer.items s.from s.to (omega arith) in
    given_end c.give_last.result c.args.self.now.room _ text (g.I.Input.left c.fill.new.input) new _ _ (read_more text _ _ old new fills.0 before.same fills.1 fills.3) (fills.4 c.if-read-eq0.true) none (omega (arith, size, before.room, c.if-count-self-2.false)) c.give_last.ensures.last
