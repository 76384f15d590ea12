use Rattle.std.proofs.Common.{◌≡◌, Some, ap, sym, ◌∙◌}
use Rattle.std.proofs.lemmas.Result.{IfOk-weaker}
use Rattle.std.specs.Option.{option_map}
use Rattle.cache_key.specs.declared.load_spec.LoadSpec.{LoadSpec}
use Rattle.request_tracker.specs.Moves.{view_at}
use Rattle.request_tracker.specs.Table.{request}
use Rattle.request_tracker.proofs.Places.{view-is}
use Rattle.request_tracker.proofs.tracker.Tracker.spec.Goals as goal

pub returns : goal.returns
returns g c =
    let view = c.index.result.now in
    let there = view-is c.args.self.now c.self.inside.views.entries c.self.inside.paused c.args.place view c.self.view_is c.index.ensures in
    IfOk-weaker c.request.result (λ spec. spec ≡ request view) (λ spec. Some spec ≡ option_map request (view_at c.args.place c.args.self.now.views))
    (λ spec is. ap Some is ∙ sym (ap (option_map request) there)) c.request.ensures
