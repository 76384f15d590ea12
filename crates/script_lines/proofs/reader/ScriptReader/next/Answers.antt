use Rattle.std.proofs.Common.{◌≡◌, ◌+◌, Ok, sym, ap, subst, ◌∙◌}
use Rattle.std.specs.Io.KnownBytes.{prepend_known}
use Rattle.script_lines.specs.declared.commands.Line.TheVariants.{Says}
use Rattle.script_lines.specs.Commands.{line_of}
use Rattle.script_lines.specs.inside.Pieces.{lines_before, IsNextLine, LineGives}
use Rattle.script_lines.specs.inside.LineView.{pieces_of}
use Rattle.script_lines.proofs.Kept.{SaysKept, line_kept}
use Rattle.script_lines.proofs.SaidScripts.{gave_command}
use Rattle.script_lines.proofs.reader.ScriptReader.next.Goals as goal

pub returns-in-Says-clause-gives : goal.returns-in-Says-clause-gives
returns-in-Says-clause-gives g c =
    let old = lines_before (pieces_of c.lines.self-inside.pieces) (g.I.Input.left c.lines.input) in
    let new = lines_before (pieces_of c.next.new.self) (g.I.Input.left c.next.new.input) in
    let line = (pieces_of c.next.new.self).line in
    let gave : IsNextLine old (line_of line) new = subst (λ next. LineGives (Ok next) line old new) c.in-Line.is c.in_ok-next.ensures.next in
    let says : line_of line ≡ Says c.in-Says.command = sym (ap line_of c.line.ensures) ∙ sym c.in_ok-line_of.ensures ∙ c.in-Says.is in
    gave_command _ c.lines.self-inside.pieces.room c.next.new.self.room c.lines.self-inside.lines (prepend_known (pieces_of c.lines.self-inside.pieces).pending (g.I.Input.left c.lines.input)) (prepend_known (pieces_of c.next.new.self).pending (g.I.Input.left c.next.new.input)) c.in-Says.command c.lines.invariant.same (subst (λ l. IsNextLine old l new) says gave)

pub returns-in-Says-clause-kept : goal.returns-in-Says-clause-kept
returns-in-Says-clause-kept g c =
    let line = (pieces_of c.next.new.self).line in
    let says : line_of line ≡ Says c.in-Says.command = sym (ap line_of c.line.ensures) ∙ sym c.in_ok-line_of.ensures ∙ c.in-Says.is in
    subst SaysKept says (line_kept line)
