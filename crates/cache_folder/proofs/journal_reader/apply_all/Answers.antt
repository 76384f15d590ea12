use Rattle.std.proofs.Common.{rules, ◌+◌, [], ◌++◌, take, drop, length, sym, ap, ◌∙◌, arith}
use Rattle.std.proofs.lemmas.List.{length-take-le}
use Rattle.std.proofs.lemmas.Result.{err_from_is_err_and}
use Rattle.cache_folder.specs.Starts.{table_from}
use Rattle.cache_folder.proofs.Pieces.{piece_left, nothing_left, bad_piece}
use Rattle.cache_folder.proofs.journal_reader.apply_all.Goals as goal

pub returns-then-count-eq0-clause-applies : goal.returns-then-count-eq0-clause-applies
returns-then-count-eq0-clause-applies g c = λ h e text is size.
    let piece = c.in_ok-count.ensures.piece h (c.pieces.invariant.same ∙ e) text is size in
    absurd (omega (arith, piece.some, c.if-count-eq0.true))

pub returns-in_err-apply_piece-clause-applies : goal.returns-in_err-apply_piece-clause-applies
returns-in_err-apply_piece-clause-applies g c =
    let p = err_from_is_err_and c.from_residual-in_err-apply_piece.result c.from_residual-in_err-apply_piece.ensures.1 in
    rw (p.1, p.2) (λ h e text is size.
    let piece = c.in_ok-count.ensures.piece h (c.pieces.invariant.same ∙ e) text is size in
    bad_piece (record { table = c.args.table.now.table; replay = c.args.replay.now; left = text })
    (record { table = c.pieces.table.table; replay = c.pieces.replay; left = take c.in_ok-count.count c.read_piece.new.buffer })
    (record { table = c.apply_piece.new.table.table; replay = c.apply_piece.new.replay; left = [] })
    (record { table = c.apply_piece.new.table.table; replay = c.apply_piece.new.replay; left = [] }) (drop (c.pieces.at + c.in_ok-count.count) text) c.in_err-apply_piece.field-0.0
    (λ more. c.pieces.invariant.applies h e text is size more
    ∙ ap (table_from c.pieces.table.table c.pieces.replay) (sym (piece_left text c.pieces.at c.in_ok-count.count c.read_piece.new.buffer more piece.piece_is)))
    c.in_err-apply_piece.ensures.applies)

pub returns-in_err-apply_piece-clause-cause : goal.returns-in_err-apply_piece-clause-cause
returns-in_err-apply_piece-clause-cause g c =
    let p = err_from_is_err_and c.from_residual-in_err-apply_piece.result c.from_residual-in_err-apply_piece.ensures.1 in
    rw (p.1, p.2) record {
      later = omega (arith, c.in_ok-count.ensures.cause.later, c.pieces.invariant.later);
      rose = λ failed. absurd (c.in_err-apply_piece.ensures.memory failed);
    }

pub pieces-preserved : goal.pieces-preserved
pieces-preserved g c = record {
  within = c.in_ok-count.ensures.within;
  read = c.in_ok-apply_piece.ensures.read (search rules) ∙ ap (λ n. n + length (take c.in_ok-count.count c.read_piece.new.buffer)) c.pieces.invariant.read ∙ ap (λ n. c.pieces.at + n) (length-take-le c.in_ok-count.count c.read_piece.new.buffer (omega (arith, c.in_ok-count.ensures.fits, c.read_piece.array_long)));
  free = c.apply_piece.ensures.free;
  same = c.in_ok-count.ensures.same ∙ c.pieces.invariant.same;
  later = omega (arith, c.in_ok-count.ensures.cause.later, c.pieces.invariant.later);
  applies = λ h e text is size more.
      let piece = c.in_ok-count.ensures.piece h (c.pieces.invariant.same ∙ e) text is size in
      c.pieces.invariant.applies h e text is size more
      ∙ ap (table_from c.pieces.table.table c.pieces.replay) (sym (piece_left text c.pieces.at c.in_ok-count.count c.read_piece.new.buffer more piece.piece_is))
      ∙ c.in_ok-apply_piece.ensures.applies (drop (c.pieces.at + c.in_ok-count.count) text ++ more);
}

pub returns-clause-applies : goal.returns-clause-applies
returns-clause-applies g c = λ h e text is size more.
    c.pieces.invariant.applies h e text is size more
    ∙ ap (table_from c.pieces.table.table c.pieces.replay) (nothing_left text c.pieces.at more (omega (arith, size, c.pieces-test.false)))
