-- The order of loads, by owner and then by number, is total, and only equal names tie. It is plain mathematics.
use Rattle.std.specs.Ordering.{nat_cmp}
use Rattle.std.specs.Cmp.{IsTotalOrder, nat_cmp_total}
use Rattle.std.specs.FinMap.{IsAntisymmetric, nat_cmp-IsAntisymmetric}
use Rattle.std.proofs.lemmas.Cmp.{on_total, then_total}
use Rattle.std.proofs.lemmas.Map.Lookups.{exact_pairs}
use Rattle.load_table.specs.Loads.{LoadName, load_cmp}

pub load_total : IsTotalOrder load_cmp
load_total = then_total (on_total (λ (p : LoadName). p.0) nat_cmp_total) (on_total (λ (p : LoadName). p.1) nat_cmp_total)

pub load_same : IsAntisymmetric load_cmp
load_same = exact_pairs nat_cmp nat_cmp nat_cmp-IsAntisymmetric nat_cmp-IsAntisymmetric
