use Rattle.std.specs.Prelude.{refl}
use Rattle.std.specs.Fmt.{digits}
use Rattle.hex.specs.Hex.{encode_with}
use Rattle.printed_lines.proofs.worked.worked_failures.Goals as goal

pub returns-clause-missing : goal.returns-clause-missing
unfolding digits encode_with
returns-clause-missing c = refl

pub returns-clause-unknown : goal.returns-clause-unknown
unfolding digits encode_with
returns-clause-unknown c = refl

pub returns-clause-unknown_too : goal.returns-clause-unknown_too
unfolding digits encode_with
returns-clause-unknown_too c = refl

pub returns-clause-compressed : goal.returns-clause-compressed
unfolding digits encode_with
returns-clause-compressed c = refl

pub returns-clause-sample : goal.returns-clause-sample
unfolding digits encode_with
returns-clause-sample c = refl

pub returns-clause-waiting : goal.returns-clause-waiting
unfolding digits encode_with
returns-clause-waiting c = refl
