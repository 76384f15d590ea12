use Rattle.std.proofs.Common.{sym, ◌∙◌}
use Rattle.script_lines.proofs.Numbers.{whole_digits}
use Rattle.script_lines.proofs.words.number_within.Goals as goal

pub value_of-requires : goal.value_of-requires
value_of-requires c = whole_digits c.args.word.now (sym c.is_whole.ensures ∙ c.if-not-is_whole.false)
