use Rattle.std.proofs.Common.{◌≡◌, ℕ, ◌+◌, ◌-◌, ◌<◌, length, get_or, sym, ◌∙◌, arith, rules}
use Rattle.std.proofs.lemmas.Bool.{eqb-false}
use Rattle.transforms.proofs.moves.move_columns.Goals as goal

pub move_run-requires-clause-from_columns : goal.move_run-requires-clause-from_columns
move_run-requires-clause-from_columns c =
    let places = c.args.places.now in
    let some : length places ≡ 0 → ⊥ = eqb-false (length places) 0 (sym c.is_empty.ensures ∙ c.if-not-is_empty.true) in
    let near : (i : ℕ) → i < length places → get_or places i 0 ≡ get_or places 0 0 + i = search rules in
    let last : get_or places (length places - 1) 0 < c.args.source.now.picture.width = c.requires.from_columns (length places - 1) 0 (omega arith) in
    omega (arith, near (length places - 1) (omega arith))
