use Rattle.std.proofs.Common.{◌≡◌, ◌+◌, ◌*◌, ◌/◌, ◌++◌, true, false, length, min, get_or, sym, ap, ap₂, ◌∙◌, subst, arith}
use Rattle.sampling.specs.Sampled.{sampled_side, sampled_row}
use Rattle.sampling.specs.SumsView.{lanes_of}
use Rattle.sampling.specs.BoxValue.{BoxValue, Holds}
use Rattle.sampling.proofs.Boxes.{row_given, holds_given}
use Rattle.sampling.proofs.box_rows.BoxRows.out.Goals as goal

pub returns-clause-row : goal.returns-clause-row
returns-clause-row c pixels rest holds =
    let s = c.self.inside in
    let invariant = c.self.invariant in
    let full : s.full ≡ true = ap (λ (v : BoxValue). v.full) c.self.view_is ∙ c.requires.waits in
    let waits = invariant.placed.waits full in
    let count : c.min.result * c.min-2.result ≡ min s.sample s.width * min s.sample s.height = ap₂ ◌*◌ c.min.ensures c.min-2.ensures in
    let size : length c.means.new.into ≡ 4 * sampled_side s.width s.sample = c.means.auto.into ∙ c.requires.row ∙ ap (λ (v : BoxValue). 4 * sampled_side v.width v.sample) (sym c.self.view_is) in
    subst (λ (v : BoxValue). c.means.new.into ≡ sampled_row v.width v.height v.sample (pixels ++ rest) v.given) c.self.view_is
    (row_given s.width s.height s.sample s.pushed s.given s.full (lanes_of s.sums) c.means.new.into pixels rest invariant.wide invariant.high invariant.sampled waits.0 waits.1 size
    (λ k below. c.means.ensures.means.means k (omega (arith, invariant.lanes)) ∙ ap (λ n. (get_or (lanes_of s.sums) k 0 + n / 2) / n) count)
    (subst (λ (v : BoxValue). Holds v pixels) (sym c.self.view_is) holds))

pub returns-clause-pixels : goal.returns-clause-pixels
returns-clause-pixels c pixels holds =
    let s = c.self.inside in
    let full : s.full ≡ true = ap (λ (v : BoxValue). v.full) c.self.view_is ∙ c.requires.waits in
    let waits = c.self.invariant.placed.waits full in
    holds_given s.width s.height s.sample s.pushed s.given s.full false (lanes_of s.sums) (lanes_of c.means.new.self) pixels _ waits.1 c.means.ensures.means.cleared
    (subst (λ (v : BoxValue). Holds v pixels) (sym c.self.view_is) holds)
