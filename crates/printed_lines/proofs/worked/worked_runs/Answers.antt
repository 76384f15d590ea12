use Rattle.std.specs.Prelude.{refl}
use Rattle.std.specs.Fmt.{digits}
use Rattle.hex.specs.Hex.{encode_with}
use Rattle.printed_lines.proofs.worked.worked_runs.Goals as goal

pub returns-clause-bad_line : goal.returns-clause-bad_line
unfolding digits encode_with
returns-clause-bad_line c = refl

pub returns-clause-whole : goal.returns-clause-whole
unfolding digits encode_with
returns-clause-whole c = refl
