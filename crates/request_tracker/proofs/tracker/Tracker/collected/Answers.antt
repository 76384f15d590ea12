use Rattle.request_tracker.specs.declared.views.View.{View}
use Rattle.request_tracker.specs.Table.{collected}
use Rattle.request_tracker.proofs.Places.{changed-is, count-changed}
use Rattle.request_tracker.proofs.tracker.Tracker.collected.Goals as goal

pub returns-clause-views : goal.returns-clause-views
returns-clause-views g c =
    changed-is c.args.self.now c.self.inside.views.entries c.self.inside.paused c.args.place c.index_mut.result.now c.collect.new.self
    (λ (view : View g.row.C.Denot). record view { state = collected c.args.failed view.state }) c.self.view_is c.index_mut.ensures.value c.collect.ensures

pub returns-clause-count : goal.returns-clause-count
returns-clause-count g c =
    count-changed c.args.self.now _ c.args.place (λ (view : View g.row.C.Denot). record view { state = collected c.args.failed view.state }) (returns-clause-views g c)
