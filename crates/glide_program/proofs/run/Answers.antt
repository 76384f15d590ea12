use Rattle.std.proofs.Common.{◌≡◌, Option, None, map, subst}
use Rattle.std.specs.Prelude.{IfNone}
use Rattle.glide_run.specs.Settings.{settings}
use Rattle.glide_program.proofs.run.Goals as goal

refused : {A : Type 0} (asked : Option A) (P : Type 0) → IfNone asked P → asked ≡ None → P
refused asked P h none = subst (λ o. IfNone o P) none h

pub returns-clause-refused : goal.returns-clause-refused
returns-clause-refused c = λ none. (refused (settings (map (λ word. word.now) c.args.words.now)) _ c.glide_alone.ensures.refused none).status_is
