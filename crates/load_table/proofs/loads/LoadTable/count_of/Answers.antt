use Rattle.std.proofs.Common.{List, ap, ◌∙◌}
use Rattle.std.specs.Prelude.{count_by}
use Rattle.load_table.specs.declared.loads.LoadEntry.{LoadEntry}
use Rattle.load_table.specs.Loads.{LoadsValue, ready_on, holders}
use Rattle.load_table.proofs.Entries.{count_is}
use Rattle.load_table.proofs.loads.LoadTable.count_of.Goals as goal

pub returns : goal.returns
returns g c =
    c.holders_among.ensures ∙ ap (λ (l : List (LoadEntry g.row.C.Denot)). count_by (λ (e : LoadEntry g.row.C.Denot). ready_on c.args.resource e.state) l) c.deref.ensures.value
    ∙ count_is (λ name state. ready_on c.args.resource state) c.self.inside.entries.items c.self.invariant.apart
    ∙ ap (λ (v : LoadsValue g.row.C.Denot). holders c.args.resource v.loads) c.self.view_is
