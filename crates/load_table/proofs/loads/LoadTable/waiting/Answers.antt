use Rattle.std.proofs.Common.{List, ap, ◌∙◌}
use Rattle.std.specs.Prelude.{count_by}
use Rattle.load_table.specs.declared.loads.LoadEntry.{LoadEntry}
use Rattle.load_table.specs.Loads.{LoadsValue, waits_on, waiting}
use Rattle.load_table.proofs.Entries.{count_is}
use Rattle.load_table.proofs.loads.LoadTable.waiting.Goals as goal

pub returns : goal.returns
returns g c =
    c.waiting_among.ensures ∙ ap (λ (l : List (LoadEntry g.row.C.Denot)). count_by (λ (e : LoadEntry g.row.C.Denot). waits_on c.args.job e.state) l) c.deref.ensures.value
    ∙ count_is (λ name state. waits_on c.args.job state) c.self.inside.entries.items c.self.invariant.apart
    ∙ ap (λ (v : LoadsValue g.row.C.Denot). waiting c.args.job v.loads) c.self.view_is
