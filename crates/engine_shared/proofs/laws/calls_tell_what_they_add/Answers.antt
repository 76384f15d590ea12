use Rattle.engine_shared.specs.inside.EngineLaws.{EngineLaws}
use Rattle.engine_shared.proofs.Following.{full_exactly, loads_are_own, jobs_are_own, takes_another, ready_loads_show, loads_stay, ready_loads_stay}
use Rattle.engine_shared.proofs.Looking.{looks_at_it, reads_it}
use Rattle.engine_shared.proofs.Answering.{takes_as_asked}
use Rattle.engine_shared.proofs.laws.calls_tell_what_they_add.Goals as goal

pub returns : goal.returns
returns c =
    let laws : EngineLaws = c.engine_laws.ensures in
    record {
      full = full_exactly laws;
      loads = loads_are_own laws;
      jobs = jobs_are_own laws;
      takes = takes_another laws c.taken_bitmaps_were_free.ensures.another;
      asked = takes_as_asked;
      ready = ready_loads_show laws;
      looks = looks_at_it;
      reads = reads_it;
      stay = loads_stay laws;
      stay_ready = ready_loads_stay laws;
    }
