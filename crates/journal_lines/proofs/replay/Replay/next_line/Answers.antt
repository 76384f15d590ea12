use Rattle.std.proofs.Common.{◌≡◌, ℕ, ◌+◌, List, [], ◌∷◌, ◌++◌, drop, sym, ap, subst, ◌∙◌}
use Rattle.std.proofs.lemmas.List.{drop-drop}
use Rattle.journal_lines.specs.Journal.{Lacks}
use Rattle.journal_lines.specs.Replay.{Tells}
use Rattle.journal_lines.proofs.Pieces.{no_newline, before_newline, at_newline, tells_front}
use Rattle.journal_lines.proofs.replay.Replay.next_line.Goals as goal

pub go_on-requires-clause-lacks : goal.go_on-requires-clause-lacks
go_on-requires-clause-lacks c = no_newline c.split_at.result.1.now (c.in-None.ensures)

pub end_line-line-requires-clause-lacks : goal.end_line-line-requires-clause-lacks
end_line-line-requires-clause-lacks c = subst (Lacks 10) (sym c.split_at-in-Some.ensures.front) (before_newline c.split_at.result.1.now c.in-Some.end (c.in-Some.ensures))

pub returns-in-Some-clause-tells : goal.returns-in-Some-clause-tells
returns-in-Some-clause-tells c =
    let left = c.split_at.result.1.now in
    let front = c.split_at-in-Some.result.0.now in
    let rest : List ℕ = drop (c.in-Some.end + 1) left in
    let whole : (front ++ 10 ∷ []) ++ rest ≡ drop c.args.at.now c.args.piece.now = ap (λ l. (l ++ 10 ∷ []) ++ rest) c.split_at-in-Some.ensures.front ∙ sym (at_newline left c.in-Some.end (c.in-Some.ensures)) ∙ c.split_at.ensures.back in
    let behind : rest ≡ drop (c.args.at.now + (c.in-Some.end + 1)) c.args.piece.now = ap (drop (c.in-Some.end + 1)) c.split_at.ensures.back ∙ drop-drop (c.in-Some.end + 1) c.args.at.now c.args.piece.now in
    subst (λ l. Tells c.args.self.now (drop c.args.at.now c.args.piece.now) c.end_line-line.new.self l c.end_line-line.result) behind
    (subst (λ l. Tells c.args.self.now l c.end_line-line.new.self rest c.end_line-line.result) whole
    (tells_front c.args.self.now c.end_line-line.new.self (front ++ 10 ∷ []) rest c.end_line-line.result c.end_line-line.ensures.some c.end_line-line.ensures.tells))
