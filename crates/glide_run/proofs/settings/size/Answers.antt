use Rattle.std.proofs.Common.{ap, sym, ◌∙◌}
use Rattle.script_lines.specs.Words.{is_whole}
use Rattle.glide_run.proofs.Sizes.{too_large}
use Rattle.glide_run.proofs.settings.size.Goals as goal

pub returns-in_default : goal.returns-in_default
returns-in_default c = too_large c.args.word.now c.parse.result (ap is_whole (sym c.as_bytes.ensures.value) ∙ sym c.is_whole.ensures ∙ c.if-not-is_whole.false) c.parse.ensures.value.0 c.in_default.not-Ok
