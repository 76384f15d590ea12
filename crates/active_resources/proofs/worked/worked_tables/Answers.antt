use Rattle.std.proofs.Common.{◌≡◌, [], ◌∷◌, refl, ap, arith}
use Rattle.active_resources.specs.Worked.{entries}
use Rattle.active_resources.proofs.Listed.{width_in, can-listed, cannot-alike, cannot-unknown}
use Rattle.active_resources.proofs.worked.worked_tables.Goals as goal

pub returns-clause-apart : goal.returns-clause-apart
returns-clause-apart c = can-listed entries (1 ∷ 2 ∷ []) (refl, (refl, tt)) (
  (λ e. refl, (λ e. let no : 2 ≡ 3 = ap width_in e in absurd (omega (arith, no)), tt)),
  ((λ e. let no : 3 ≡ 2 = ap width_in e in absurd (omega (arith, no)), (λ e. refl, tt)), tt),
)

pub returns-clause-one_key : goal.returns-clause-one_key
returns-clause-one_key c = cannot-alike entries (1 ∷ 3 ∷ []) 1 3 refl refl refl (λ e. omega (arith, e))

pub returns-clause-no_key : goal.returns-clause-no_key
returns-clause-no_key c = cannot-unknown entries (9 ∷ []) 9 refl (λ e. cc)
