use Rattle.std.proofs.Common.{ap, sym}
use Rattle.std.specs.Option.{option_map}
use Rattle.request_tracker.specs.declared.views.View.{View}
use Rattle.request_tracker.proofs.Places.{view-is}
use Rattle.request_tracker.proofs.tracker.Tracker.state.Goals as goal

pub returns : goal.returns
returns g c =
    ap (option_map (λ (view : View g.row.C.Denot). view.state))
    (sym (view-is c.args.self.now c.self.inside.views.entries c.self.inside.paused c.args.place c.index.result.now c.self.view_is c.index.ensures))
