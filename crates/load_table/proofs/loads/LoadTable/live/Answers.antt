use Rattle.std.proofs.Common.{List, ap, ◌∙◌}
use Rattle.std.specs.Prelude.{◌==◌, count_by}
use Rattle.load_table.specs.declared.loads.LoadEntry.{LoadEntry}
use Rattle.load_table.specs.Loads.{LoadsValue, owned}
use Rattle.load_table.proofs.Entries.{count_is}
use Rattle.load_table.proofs.loads.LoadTable.live.Goals as goal

pub returns : goal.returns
returns g c =
    c.owned_among.ensures ∙ ap (λ (l : List (LoadEntry g.row.C.Denot)). count_by (λ (e : LoadEntry g.row.C.Denot). e.owner == c.args.owner) l) c.deref.ensures.value
    ∙ count_is (λ name state. name.0 == c.args.owner) c.self.inside.entries.items c.self.invariant.apart
    ∙ ap (λ (v : LoadsValue g.row.C.Denot). owned c.args.owner v.loads) c.self.view_is
