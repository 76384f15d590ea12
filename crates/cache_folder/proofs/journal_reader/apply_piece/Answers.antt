use Rattle.std.proofs.Common.{rules, ◌≡◌, [], length, drop, ap, arith, length-drop}
use Rattle.cache_folder.proofs.journal_reader.apply_piece.Goals as goal

pub returns-clause-read : goal.returns-clause-read
returns-clause-read c = λ ok.
    let used : drop c.apply_next.new.at c.args.piece.now ≡ [] = c.in_ok-apply_next.ensures.applies.0 (search rules) in
    omega (arith, simp length-drop at (ap length used))
