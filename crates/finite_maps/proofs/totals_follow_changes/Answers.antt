use Rattle.finite_maps.specs.MapLaws.{total-insert_new, total-insert_over, total-remove}
use Rattle.finite_maps.proofs.totals_follow_changes.Goals as goal

pub returns-clause-inserted : goal.returns-clause-inserted
returns-clause-inserted g c R o same f m k v none = total-insert_new o same f m k v none

pub returns-clause-replaced : goal.returns-clause-replaced
returns-clause-replaced g c R o same f m k u v is = total-insert_over o same f m k u v is

pub returns-clause-removed : goal.returns-clause-removed
returns-clause-removed g c R o same f m k v is = total-remove o same f m k v is
