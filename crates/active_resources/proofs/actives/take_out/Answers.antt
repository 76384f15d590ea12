use Rattle.std.proofs.Common.{ℕ, rules, eqb}
use Rattle.std.specs.Prelude.{not}
use Rattle.std.proofs.lemmas.Fn.{filter_same}
use Rattle.active_resources.proofs.actives.take_out.Goals as goal

pub returns-clause-items : goal.returns-clause-items
returns-clause-items c = filter_same _ (λ (n : ℕ). not (eqb n c.args.number)) _ (λ x b f r. search rules) _ _ c.retain.ensures.filtered
