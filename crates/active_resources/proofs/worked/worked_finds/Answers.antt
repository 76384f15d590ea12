use Rattle.std.proofs.Common.{◌≡◌, [], ◌∷◌, Some, refl, ap, arith}
use Rattle.cache_key.specs.Worked.{red_key}
use Rattle.active_resources.specs.Worked.{entries}
use Rattle.active_resources.proofs.Listed.{width_in, holds-listed, lacks-unlisted, lacks-other}
use Rattle.active_resources.proofs.worked.worked_finds.Goals as goal

pub returns-clause-active : goal.returns-clause-active
returns-clause-active c = holds-listed entries (Some red_key) (1 ∷ 2 ∷ []) 1 refl refl

pub returns-clause-not_active : goal.returns-clause-not_active
returns-clause-not_active c = lacks-unlisted entries (Some red_key) (2 ∷ []) 1 refl

pub returns-clause-other_key : goal.returns-clause-other_key
returns-clause-other_key c = lacks-other entries (Some red_key) (1 ∷ 2 ∷ []) 2 (λ e. let no : 3 ≡ 2 = ap width_in e in omega (arith, no))
