use Rattle.std.proofs.Common.{◌≡◌, ℕ, ◌+◌, ◌<◌, Bool, false, cond, List, ◌∷◌, length, drop, get_or, sym, ap, ◌∙◌}
use Rattle.std.proofs.lemmas.List.{drop_more}
use Rattle.ppm_read.specs.Number.{is_white, begins_comment, after_gap, after_comment}
use Rattle.ppm_read.proofs.number.gap_length.Goals as goal

-- a gap ends where neither a white byte nor a comment comes
stops : (c : ℕ) (rest : List ℕ) (w b : Bool) → is_white c ≡ w → begins_comment c ≡ b → w ≡ false → b ≡ false → after_gap (c ∷ rest) ≡ c ∷ rest
stops c rest w b e f nowhite none =
    ap (λ v. cond v (after_gap rest) (cond (begins_comment c) (after_comment rest) (c ∷ rest))) (e ∙ nowhite)
    ∙ ap (λ v. cond v (after_comment rest) (c ∷ rest)) (f ∙ none)

stops_at : (text : List ℕ) (i : ℕ) (inside w b : Bool) → i < length text → inside ≡ false → w ≡ is_white (get_or text i 0) → w ≡ false → b ≡ begins_comment (get_or text i 0) → b ≡ false
    → cond inside (after_comment (drop i text)) (after_gap (drop i text)) ≡ after_gap text → drop i text ≡ after_gap text
stops_at text i inside w b lt outside e nowhite f none so_far =
    let rest : List ℕ = drop (i + 1) text in
    let here : drop i text ≡ get_or text i 0 ∷ rest = drop_more text i 0 lt in
    here ∙ sym (stops (get_or text i 0) rest w b (sym e) (sym f) nowhite none) ∙ ap after_gap (sym here)
    ∙ sym (ap (λ v. cond v (after_comment (drop i text)) (after_gap (drop i text))) outside) ∙ so_far

pub returns-then-not-is_white-clause-after : goal.returns-then-not-is_white-clause-after
returns-then-not-is_white-clause-after c =
    stops_at c.args.text.now c.loop-at.at c.loop-at.in_comment _ _ c.loop-at-test.true c.if-in_comment.false c.is_white.ensures c.if-not-is_white.true c.begins_comment.ensures c.if-begins_comment.false c.loop-at.invariant
