use Rattle.std.proofs.Common.{Some, ap, sym, ◌∙◌}
use Rattle.std.specs.Prelude.{is_some}
use Rattle.std.specs.Option.{option_map}
use Rattle.std.specs.Ordering.{nat_cmp}
use Rattle.std.specs.FinMap.{get}
use Rattle.finite_maps.specs.MapLaws.{get-map_values}
use Rattle.resource_table.proofs.Keys.{key_in, keyed}
use Rattle.resource_table.proofs.resource_map.ResourceTableKeyOf.key.Goals as goal

pub get-requires : goal.get-requires
get-requires c = keyed (get c.args.self.now.resources c.args.number) (ap is_some (sym (get-map_values nat_cmp key_in c.args.self.now.resources c.args.number)) ∙ c.requires.known)

pub returns : goal.returns
returns c = record {
  key = get-map_values nat_cmp key_in c.args.self.now.resources c.args.number
      ∙ ap (option_map key_in) c.get.ensures.resource ∙ sym (ap Some c.key.ensures);
}
