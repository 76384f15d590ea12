use Rattle.decode_job.proofs.Calling.{asking_goes_on, taking_goes_on, wanting_goes_on, giving_goes_on, calls_join}
use Rattle.decode_job.proofs.laws.calls_go_on.Goals as goal

pub returns : goal.returns
returns c =
    let owns = c.own_entries_append.ensures in
    let join = c.steps_append.ensures.join in
    record {
      asking = asking_goes_on owns join;
      taking = taking_goes_on owns join;
      wanting = wanting_goes_on owns join;
      giving = giving_goes_on owns join;
      join = calls_join owns join;
    }
