use Rattle.std.proofs.Common.{◌≡◌, ℕ, List, Result, Ok, Err}
use Rattle.ppm_read.specs.declared.fault.PpmFault.{PpmFault}
use Rattle.picture_rows.specs.FullPicture.{FullPicture}
use Rattle.ppm_read.specs.Full.{full_picture}
use Rattle.ppm_read.specs.Breaking.{IsOutcome}
use Rattle.ppm_read.proofs.Spelled.{spelled_from_read, read_from_spelled}
use Rattle.ppm_read.proofs.Outcomes.{breaks_from_read, read_from_breaks}
use Rattle.ppm_read.proofs.grammar.every_text_has_its_outcome.Goals as goal

given_outcome : (text : List ℕ) (outcome : Result FullPicture PpmFault) → full_picture text ≡ outcome → IsOutcome text outcome
given_outcome text (Ok picture) e = spelled_from_read text picture e
given_outcome text (Err fault) e = breaks_from_read text fault e

outcome_given : (text : List ℕ) (outcome : Result FullPicture PpmFault) → IsOutcome text outcome → full_picture text ≡ outcome
outcome_given text (Ok picture) is = read_from_spelled text picture is
outcome_given text (Err fault) is = read_from_breaks text fault is

pub returns : goal.returns
returns c = λ text outcome. (given_outcome text outcome, outcome_given text outcome)
