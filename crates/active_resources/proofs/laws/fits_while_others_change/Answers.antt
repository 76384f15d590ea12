use Rattle.std.specs.FinMap.{nat_cmp-IsAntisymmetric}
use Rattle.std.specs.FinSet.{contains}
use Rattle.std.proofs.lemmas.Cmp.{nat_cmp_total}
use Rattle.finite_maps.specs.MapLaws.{get-insert_other, get-remove_other}
use Rattle.active_resources.proofs.Sets.{fits-same, other_member}
use Rattle.active_resources.proofs.laws.fits_while_others_change.Goals as goal

pub returns-clause-same : goal.returns-clause-same
returns-clause-same c keys changed numbers fits same = fits-same keys changed numbers fits same

pub returns-clause-inserted : goal.returns-clause-inserted
returns-clause-inserted c keys numbers number key fits absent =
    fits-same keys (Rattle.std.specs.FinMap.insert keys number key) numbers fits (λ n has. get-insert_other nat_cmp_total nat_cmp-IsAntisymmetric keys number key n (other_member numbers number n absent has))

pub returns-clause-removed : goal.returns-clause-removed
returns-clause-removed c keys numbers number fits absent =
    fits-same keys (Rattle.std.specs.FinMap.remove keys number) numbers fits (λ n has. get-remove_other nat_cmp_total nat_cmp-IsAntisymmetric keys number n (other_member numbers number n absent has))
