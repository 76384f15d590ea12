use Rattle.std.proofs.Common.{ap, ◌∙◌}
use Rattle.script_lines.specs.Reading.{ahead}
use Rattle.script_lines.specs.inside.Pieces.{Pieces}
use Rattle.script_lines.proofs.SaidScripts.{opens}
use Rattle.script_lines.proofs.reader.ScriptReader.new.Goals as goal

pub returns-clause-script : goal.returns-clause-script
returns-clause-script c left =
    ap (λ (p : Pieces). ahead (record { pending = p.pending; room = p.room; lines = 0; line = 0 }) left) c.in_ok-new.ensures ∙ opens left
