use Rattle.engine_shared.proofs.Answering.{loads_are_answered, collects_are_answered, looks_are_answered, reads_are_answered, takes_are_answered}
use Rattle.engine_shared.proofs.laws.calls_are_answered.Goals as goal

pub returns : goal.returns
returns c = record {
  loads = loads_are_answered;
  collects = collects_are_answered c.engine_laws.ensures;
  looks = looks_are_answered;
  reads = reads_are_answered;
  takes = takes_are_answered;
}
