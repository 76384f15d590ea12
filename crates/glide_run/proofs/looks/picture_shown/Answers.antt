use Rattle.std.proofs.Common.{◌≡◌, ◌+◌, ◌≤◌, length, take, ap, sym, subst, ◌∙◌, arith}
use Rattle.std.proofs.lemmas.List.{take_all}
use Rattle.sha2.specs.Sha256.{Holds, initial_hash_256, sha256}
use Rattle.printed_lines.specs.declared.lines.ShownPicture.{ShownPicture}
use Rattle.engine_world.specs.Steps.{shape_of}
use Rattle.engine_shared.specs.Caller.{picture_held}
use Rattle.engine_shared.specs.Answers.{IsPiece}
use Rattle.glide_run.proofs.Telling.{Looking, looked, read_on, told_whole, only_asked, same_picture, piece_few, piece_some, piece_told, bytes_more, if_is, is_if}
use Rattle.glide_run.proofs.looks.picture_shown.Goals as goal

pub loop-at-init : goal.loop-at-init
loop-at-init g c =
    let old = g.E.EngineCalls.caller c.args.engine.now in
    let load = c.args.load.now in
    let shape_is = if_is (λ picture. c.look-shape.result ≡ shape_of picture) (picture_held old load.number) c.requires.ready.picture c.requires.ready.shows c.look-shape.ensures.shape in
    record {
      looking = looked c.quiet_calls_leave_views.ensures.quiet c.calls_tell_what_they_add.ensures.stay_ready c.args.views.now load old (g.E.EngineCalls.caller c.look-shape.new.self) c.look-shape.result c.requires.on_walk c.requires.ready c.look-shape.ensures.entry shape_is;
      shape = λ picture e. if_is (λ picture. c.look-shape.result ≡ shape_of picture) (picture_held old load.number) picture e c.look-shape.ensures.shape;
      holds = λ picture e. c.new-hasher.ensures;
    }

pub read-piece-requires-clause-ready : goal.read-piece-requires-clause-ready
read-piece-requires-clause-ready g c = c.loop-at.invariant.looking.ready

pub read-piece-requires-clause-at : goal.read-piece-requires-clause-at
read-piece-requires-clause-at g c =
    let p = c.loop-at.invariant.looking in
    is_if (λ picture. c.loop-at.at ≤ length picture.bytes) (picture_held (g.E.EngineCalls.caller c.loop-at.engine) c.args.load.now.number) p.picture p.shows (omega (arith, p.inside, p.long_is))

pub shared_ref_as_front-update : goal.shared_ref_as_front-update
shared_ref_as_front-update g c =
    let p = c.loop-at.invariant.looking in
    let is = if_is (λ picture. IsPiece c.loop-at.at picture c.read-piece.result) (picture_held (g.E.EngineCalls.caller c.loop-at.engine) c.args.load.now.number) p.picture p.shows c.read-piece.ensures.piece in
    omega (arith, is.count, piece_few c.loop-at.at p.picture)

pub overflow_add-at : goal.overflow_add-at
overflow_add-at g c =
    let p = c.loop-at.invariant.looking in
    let is = if_is (λ picture. IsPiece c.loop-at.at picture c.read-piece.result) (picture_held (g.E.EngineCalls.caller c.loop-at.engine) c.args.load.now.number) p.picture p.shows c.read-piece.ensures.piece in
    let next = read_on c.quiet_calls_leave_views.ensures.quiet c.calls_tell_what_they_add.ensures.stay_ready c.args.views.now c.args.load.now c.look-shape.result.length c.loop-at.at (g.E.EngineCalls.caller c.args.engine.now) (g.E.EngineCalls.caller c.loop-at.engine) (g.E.EngineCalls.caller c.read-piece.new.self) c.read-piece.result p c.read-piece.ensures.entry is in
    omega (arith, next.inside)

pub loop-at-smaller : goal.loop-at-smaller
loop-at-smaller g c =
    let p = c.loop-at.invariant.looking in
    let is = if_is (λ picture. IsPiece c.loop-at.at picture c.read-piece.result) (picture_held (g.E.EngineCalls.caller c.loop-at.engine) c.args.load.now.number) p.picture p.shows c.read-piece.ensures.piece in
    omega (arith, is.count, p.long_is, c.loop-at-test.true, piece_some c.loop-at.at p.picture (omega (arith, p.long_is, c.loop-at-test.true)))

pub loop-at-preserved : goal.loop-at-preserved
loop-at-preserved g c =
    let p = c.loop-at.invariant.looking in
    let old = g.E.EngineCalls.caller c.args.engine.now in
    let load = c.args.load.now in
    let is = if_is (λ picture. IsPiece c.loop-at.at picture c.read-piece.result) (picture_held (g.E.EngineCalls.caller c.loop-at.engine) load.number) p.picture p.shows c.read-piece.ensures.piece in
    record {
      looking = read_on c.quiet_calls_leave_views.ensures.quiet c.calls_tell_what_they_add.ensures.stay_ready c.args.views.now load c.look-shape.result.length c.loop-at.at old (g.E.EngineCalls.caller c.loop-at.engine) (g.E.EngineCalls.caller c.read-piece.new.self) c.read-piece.result p c.read-piece.ensures.entry is;
      shape = c.loop-at.invariant.shape;
      holds = λ picture e.
          let same = same_picture c.args.views.now load c.look-shape.result.length c.loop-at.at old (g.E.EngineCalls.caller c.loop-at.engine) p picture e in
          let its = subst (λ x. IsPiece c.loop-at.at x c.read-piece.result) same is in
          subst (Holds initial_hash_256 c.update.new.self.core) (sym (bytes_more c.loop-at.at picture c.read-piece.result its)) (c.update.ensures (take c.loop-at.at picture.bytes) (c.loop-at.invariant.holds picture e));
    }

pub returns-clause-shown : goal.returns-clause-shown
returns-clause-shown g c = λ picture e.
    let p = c.loop-at.invariant.looking in
    let shape = c.loop-at.invariant.shape picture e in
    let same = same_picture c.args.views.now c.args.load.now c.look-shape.result.length c.loop-at.at (g.E.EngineCalls.caller c.args.engine.now) (g.E.EngineCalls.caller c.loop-at.engine) p picture e in
    let digest = c.finalize.ensures (take c.loop-at.at picture.bytes) (c.loop-at.invariant.holds picture e) in
    let all = take_all c.loop-at.at picture.bytes (omega (arith, p.long_is, ap (λ x. length x.bytes) same, c.loop-at-test.false)) in
    let is = digest ∙ ap sha256 all in
    (λ i. let s : ShownPicture = record { width = (shape i).width; height = (shape i).height; config = (shape i).config; digest = is i } in s)

pub returns-clause-told : goal.returns-clause-told
returns-clause-told g c = told_whole c.args.views.now c.args.load.now c.look-shape.result.length c.loop-at.at (g.E.EngineCalls.caller c.args.engine.now) (g.E.EngineCalls.caller c.loop-at.engine) c.loop-at.invariant.looking c.loop-at-test.false

pub returns-clause-asks : goal.returns-clause-asks
returns-clause-asks g c = only_asked c.args.views.now c.args.load.now c.look-shape.result.length c.loop-at.at (g.E.EngineCalls.caller c.args.engine.now) (g.E.EngineCalls.caller c.loop-at.engine) c.loop-at.invariant.looking
