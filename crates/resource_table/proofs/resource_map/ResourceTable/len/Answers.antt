use Rattle.std.proofs.Common.{◌≡◌, length, arith, ap, sym, ◌∙◌}
use Rattle.std.specs.FinMap.{len}
use Rattle.resource_table.specs.Resources.{ResourceTableValue}
use Rattle.resource_table.proofs.Entries.{length_is}
use Rattle.resource_table.proofs.resource_map.ResourceTable.len.Goals as goal

pub returns : goal.returns
returns c =
    let long : c.len.result ≡ length c.self.inside.entries.items = omega (arith, c.len.ensures, c.self.inside.entries.ok) in
    long ∙ sym (length_is c.self.inside.entries.items c.self.invariant.apart) ∙ ap (λ (v : ResourceTableValue). len v.resources) c.self.view_is
