use Rattle.script_lines.proofs.AnyOrder.{in_any_order}
use Rattle.script_lines.proofs.laws.further_words_in_any_order.Goals as goal

pub returns : goal.returns
returns c = in_any_order
