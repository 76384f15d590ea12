use Rattle.std.proofs.Common.{◌≡◌, ℕ, List, Result, Ok, Err}
use Rattle.ppm_read.specs.declared.fault.PpmFault.{PpmFault}
use Rattle.ppm_read.specs.declared.header.Head.{Head}
use Rattle.ppm_read.specs.Header.{head_of}
use Rattle.ppm_read.specs.Breaking.{IsHeaderOutcome}
use Rattle.ppm_read.proofs.HeaderFaults.{head_err}
use Rattle.ppm_read.proofs.Outcomes.{header_fails, header_from_read, read_from_header}
use Rattle.ppm_read.proofs.grammar.every_text_has_its_header.Goals as goal

given_outcome : (text : List ℕ) (outcome : Result Head PpmFault) → head_of text ≡ outcome → IsHeaderOutcome text outcome
given_outcome text (Ok head) e = header_from_read text head e
given_outcome text (Err fault) e = head_err text fault e

outcome_given : (text : List ℕ) (outcome : Result Head PpmFault) → IsHeaderOutcome text outcome → head_of text ≡ outcome
outcome_given text (Ok head) has = read_from_header text head has
outcome_given text (Err fault) breaks = header_fails text fault breaks

pub returns : goal.returns
returns c = λ text outcome. (given_outcome text outcome, outcome_given text outcome)
