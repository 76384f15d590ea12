use Rattle.std.proofs.Common.{◌≡◌, ◌+◌, ◌++◌, ◌∷◌, [], ◌≤◌, length, take, drop, Ok, Err, ap, sym, subst, ◌∙◌, arith}
use Rattle.std.proofs.lemmas.List.{take_all}
use Rattle.hex.specs.Hex.{encode_lower}
use Rattle.printed_lines.specs.Printed.{pixels_start}
use Rattle.printed_lines.specs.Writes.{Adds}
use Rattle.engine_world.specs.Steps.{shape_of, piece_from}
use Rattle.engine_shared.specs.Caller.{picture_held}
use Rattle.engine_shared.specs.Answers.{IsPiece}
use Rattle.glide_run.proofs.Texts.{err_is, encode-append, encode_parts, parts_text, unwritten, begun, added_then, added_part, added_last, more_added, of_text}
use Rattle.glide_run.proofs.Telling.{Looking, looked, read_on, told_whole, only_asked, asks_none, same_picture, piece_few, piece_some, piece_told, piece_taken, bytes_more, if_is, is_if, on_ok}
use Rattle.glide_run.proofs.looks.write_pixels.Goals as goal

pub returns-in_err-line-clause-writes : goal.returns-in_err-line-clause-writes
returns-in_err-line-clause-writes g c = λ picture e. unwritten (err_is c.from_residual.result c.from_residual.ensures.1)

pub returns-in_err-line-clause-asks : goal.returns-in_err-line-clause-asks
returns-in_err-line-clause-asks g c = asks_none c.args.views.now (g.E.EngineCalls.caller c.args.engine.now)

pub loop-at-init : goal.loop-at-init
loop-at-init g c =
    let old = g.E.EngineCalls.caller c.args.engine.now in
    let load = c.args.load.now in
    let shape_is = if_is (λ picture. c.look-length.result ≡ shape_of picture) (picture_held old load.number) c.requires.ready.picture c.requires.ready.shows c.look-length.ensures.shape in
    record {
      looking = looked c.quiet_calls_leave_views.ensures.quiet c.calls_tell_what_they_add.ensures.stay_ready c.args.views.now load old (g.E.EngineCalls.caller c.look-length.new.self) c.look-length.result c.requires.on_walk c.requires.ready c.look-length.ensures.entry shape_is;
      so_far = λ picture e. begun c.in_ok-line.ensures;
    }

pub read-piece-requires-clause-ready : goal.read-piece-requires-clause-ready
read-piece-requires-clause-ready g c = c.loop-at.invariant.looking.ready

pub read-piece-requires-clause-at : goal.read-piece-requires-clause-at
read-piece-requires-clause-at g c =
    let p = c.loop-at.invariant.looking in
    is_if (λ picture. c.loop-at.at ≤ length picture.bytes) (picture_held (g.E.EngineCalls.caller c.loop-at.engine) c.args.load.now.number) p.picture p.shows (omega (arith, p.inside, p.long_is))

pub overflow_add-at : goal.overflow_add-at
overflow_add-at g c =
    let p = c.loop-at.invariant.looking in
    let is = if_is (λ picture. IsPiece c.loop-at.at picture c.read-piece.result) (picture_held (g.E.EngineCalls.caller c.loop-at.engine) c.args.load.now.number) p.picture p.shows c.read-piece.ensures.piece in
    let next = read_on c.quiet_calls_leave_views.ensures.quiet c.calls_tell_what_they_add.ensures.stay_ready c.args.views.now c.args.load.now c.look-length.result.length c.loop-at.at (g.E.EngineCalls.caller c.args.engine.now) (g.E.EngineCalls.caller c.loop-at.engine) (g.E.EngineCalls.caller c.read-piece.new.self) c.read-piece.result p c.read-piece.ensures.entry is in
    omega (arith, next.inside)

pub loop-at-smaller : goal.loop-at-smaller
loop-at-smaller g c =
    let p = c.loop-at.invariant.looking in
    let is = if_is (λ picture. IsPiece c.loop-at.at picture c.read-piece.result) (picture_held (g.E.EngineCalls.caller c.loop-at.engine) c.args.load.now.number) p.picture p.shows c.read-piece.ensures.piece in
    omega (arith, is.count, p.long_is, c.loop-at-test.true, piece_some c.loop-at.at p.picture (omega (arith, p.long_is, c.loop-at-test.true)))

pub loop-at-preserved : goal.loop-at-preserved
loop-at-preserved g c =
    let p = c.loop-at.invariant.looking in
    let old = g.E.EngineCalls.caller c.args.engine.now in
    let load = c.args.load.now in
    let is = if_is (λ picture. IsPiece c.loop-at.at picture c.read-piece.result) (picture_held (g.E.EngineCalls.caller c.loop-at.engine) load.number) p.picture p.shows c.read-piece.ensures.piece in
    record {
      looking = read_on c.quiet_calls_leave_views.ensures.quiet c.calls_tell_what_they_add.ensures.stay_ready c.args.views.now load c.look-length.result.length c.loop-at.at old (g.E.EngineCalls.caller c.loop-at.engine) (g.E.EngineCalls.caller c.read-piece.new.self) c.read-piece.result p c.read-piece.ensures.entry is;
      so_far = λ picture e.
          let same = same_picture c.args.views.now load c.look-length.result.length c.loop-at.at old (g.E.EngineCalls.caller c.loop-at.engine) p picture e in
          let its = subst (λ x. IsPiece c.loop-at.at x c.read-piece.result) same is in
          more_added (ap encode_lower (bytes_more c.loop-at.at picture c.read-piece.result its) ∙ encode-append (take c.loop-at.at picture.bytes) (take c.read-piece.result.count c.read-piece.result.bytes))
          (added_then (c.loop-at.invariant.so_far picture e) c.in_ok-piece.ensures);
    }

pub returns-in_err-piece-clause-writes : goal.returns-in_err-piece-clause-writes
returns-in_err-piece-clause-writes g c = λ picture e.
    let p = c.loop-at.invariant.looking in
    let old = g.E.EngineCalls.caller c.args.engine.now in
    let load = c.args.load.now in
    let is = if_is (λ picture. IsPiece c.loop-at.at picture c.read-piece.result) (picture_held (g.E.EngineCalls.caller c.loop-at.engine) load.number) p.picture p.shows c.read-piece.ensures.piece in
    let its = subst (λ x. IsPiece c.loop-at.at x c.read-piece.result) (same_picture c.args.views.now load c.look-length.result.length c.loop-at.at old (g.E.EngineCalls.caller c.loop-at.engine) p picture e) is in
    let bytes = picture.bytes in
    let at = c.loop-at.at in
    let count = c.read-piece.result.count in
    let before = encode_lower (take at bytes) in
    let now = encode_lower (take count (drop at bytes)) in
    let behind = encode_lower (drop count (drop at bytes)) in
    let start = pixels_start c.args.name.now in
    let piece = subst (λ l. Adds g.W.Sink (c.loop-at.out, c.loop-at.line) (c.piece.new.out, c.piece.new.self) (encode_lower l) (Err c.in_err-piece.field-0.0)) (piece_taken at picture c.read-piece.result its) c.in_err-piece.ensures in
    let same = err_is c.from_residual-in_err-piece.result c.from_residual-in_err-piece.ensures.1 in
    of_text (parts_text start before now behind (10 ∷ []) ∙ ap (λ l. start ++ l ++ 10 ∷ []) (sym (encode_parts bytes at count)))
    (added_part (behind ++ 10 ∷ []) same (added_then (c.loop-at.invariant.so_far picture e) piece))

pub returns-in_err-piece-clause-asks : goal.returns-in_err-piece-clause-asks
returns-in_err-piece-clause-asks g c =
    let p = c.loop-at.invariant.looking in
    let old = g.E.EngineCalls.caller c.args.engine.now in
    let load = c.args.load.now in
    let is = if_is (λ picture. IsPiece c.loop-at.at picture c.read-piece.result) (picture_held (g.E.EngineCalls.caller c.loop-at.engine) load.number) p.picture p.shows c.read-piece.ensures.piece in
    let now = g.E.EngineCalls.caller c.read-piece.new.self in
    only_asked c.args.views.now load c.look-length.result.length (c.loop-at.at + c.read-piece.result.count) old now
    (read_on c.quiet_calls_leave_views.ensures.quiet c.calls_tell_what_they_add.ensures.stay_ready c.args.views.now load c.look-length.result.length c.loop-at.at old (g.E.EngineCalls.caller c.loop-at.engine) now c.read-piece.result p c.read-piece.ensures.entry is)

pub returns-clause-writes : goal.returns-clause-writes
returns-clause-writes g c = λ picture e.
    let p = c.loop-at.invariant.looking in
    let same = same_picture c.args.views.now c.args.load.now c.look-length.result.length c.loop-at.at (g.E.EngineCalls.caller c.args.engine.now) (g.E.EngineCalls.caller c.loop-at.engine) p picture e in
    let start = pixels_start c.args.name.now in
    let all = ap encode_lower (take_all c.loop-at.at picture.bytes (omega (arith, p.long_is, ap (λ x. length x.bytes) same, c.loop-at-test.false))) in
    of_text (ap (λ l. start ++ l ++ 10 ∷ []) all) (added_last (10 ∷ []) (c.loop-at.invariant.so_far picture e) c.end.ensures)

pub returns-clause-told : goal.returns-clause-told
returns-clause-told g c = on_ok _ c.end.result (told_whole c.args.views.now c.args.load.now c.look-length.result.length c.loop-at.at (g.E.EngineCalls.caller c.args.engine.now) (g.E.EngineCalls.caller c.loop-at.engine) c.loop-at.invariant.looking c.loop-at-test.false)

pub returns-clause-asks : goal.returns-clause-asks
returns-clause-asks g c = only_asked c.args.views.now c.args.load.now c.look-length.result.length c.loop-at.at (g.E.EngineCalls.caller c.args.engine.now) (g.E.EngineCalls.caller c.loop-at.engine) c.loop-at.invariant.looking

pub returns-in_err-line-clause-cause : goal.returns-in_err-line-clause-cause
returns-in_err-line-clause-cause g c = (returns-in_err-line-clause-writes g c c.requires.ready.picture c.requires.ready.shows).cause

pub returns-in_err-piece-clause-cause : goal.returns-in_err-piece-clause-cause
returns-in_err-piece-clause-cause g c = (returns-in_err-piece-clause-writes g c c.requires.ready.picture c.requires.ready.shows).cause

pub returns-clause-cause : goal.returns-clause-cause
returns-clause-cause g c = (returns-clause-writes g c c.requires.ready.picture c.requires.ready.shows).cause
