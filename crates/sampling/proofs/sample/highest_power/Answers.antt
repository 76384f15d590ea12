use Rattle.std.proofs.Common.{sym, ◌∙◌}
use Rattle.std.proofs.lemmas.Nat.{one_shl}
use Rattle.sampling.proofs.Powers.{highest_power_is}
use Rattle.sampling.proofs.sample.highest_power.Goals as goal

pub returns : goal.returns
returns c =
    let bounds = c.ilog2.ensures in
    one_shl c.ilog2.result 32 bounds.bound ∙ sym (highest_power_is c.args.number c.ilog2.result bounds.power_le bounds.next_power_gt)
