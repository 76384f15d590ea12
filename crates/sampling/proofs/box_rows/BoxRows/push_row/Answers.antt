use Rattle.std.proofs.Common.{◌≡◌, ℕ, ◌+◌, ◌-◌, ◌*◌, ◌<◌, ◌↔◌, false, IsTrue, cond, length, min, get_or, sym, ap, ◌∙◌, subst, arith}
use Rattle.sampling.specs.Sampled.{sampled_side}
use Rattle.sampling.specs.Lanes.{AddsRow}
use Rattle.sampling.specs.SumsView.{lanes_of, limit_of}
use Rattle.sampling.specs.BoxValue.{BoxValue, Holds, EndsBlocks}
use Rattle.sampling.specs.BoxView.{IsPlaced}
use Rattle.sampling.proofs.Tiles.{tiled}
use Rattle.sampling.proofs.Boxes.{placed_more, given_at_last, holds_more, room_more, sums_bound}
use Rattle.sampling.proofs.box_rows.BoxRows.push_row.Goals as goal

pub add_row-requires-clause-pixels : goal.add_row-requires-clause-pixels
add_row-requires-clause-pixels c =
    let s = c.self.inside in
    let wide = ap (λ (v : BoxValue). v.width) c.self.view_is in
    let columns = c.min-columns.ensures in
    let blocks = c.sampled_side-blocks.ensures in
    let across = (tiled s.width s.sample c.self.invariant.wide c.self.invariant.sampled).fits in
    rw (columns, blocks) (omega (arith, c.requires.row))

pub add_row-requires-clause-room : goal.add_row-requires-clause-room
add_row-requires-clause-room c k =
    let s = c.self.inside in
    let open_ : s.full ≡ false = ap (λ (v : BoxValue). v.full) c.self.view_is ∙ c.requires.none_waits in
    let placed = c.self.invariant.placed in
    rw c.min-columns.ensures (room_more (min s.sample s.width) (min s.sample s.height) s.pushed s.given _ (limit_of s.sums) placed.begun (placed.open_ open_) (c.self.invariant.bound k) c.self.invariant.room)

pub invariant_of-self : goal.invariant_of-self
invariant_of-self c =
    let s = c.self.inside in
    let invariant = c.self.invariant in
    let more : s.pushed < s.height = omega (arith, ap (λ (v : BoxValue). v.pushed) c.self.view_is, ap (λ (v : BoxValue). v.height) c.self.view_is, c.requires.more) in
    let open_ : s.full ≡ false = ap (λ (v : BoxValue). v.full) c.self.view_is ∙ c.requires.none_waits in
    let ends = c.ends_blocks-self-inside.ensures in
    let adds : AddsRow (lanes_of s.sums) (lanes_of c.add_row.new.self) c.args.row.now (min s.sample s.width) (sampled_side s.width s.sample) =
    subst (λ (n : ℕ). AddsRow (lanes_of s.sums) (lanes_of c.add_row.new.self) c.args.row.now n (sampled_side s.width s.sample)) c.min-columns.ensures
    (subst (λ (n : ℕ). AddsRow (lanes_of s.sums) (lanes_of c.add_row.new.self) c.args.row.now c.min-columns.result n) c.sampled_side-blocks.ensures c.add_row.ensures.sums) in
    let small : (i : ℕ) → get_or c.args.row.now i 0 < 256 = λ i. omega (arith, c.type_inv.row i) in
    let begun = invariant.placed.begun in
    let rows = min s.sample s.height in
    let one_more : s.pushed + 1 - rows * s.given ≡ s.pushed - rows * s.given + 1 = omega arith in
    record {
      wide = invariant.wide;
      high = invariant.high;
      sampled = invariant.sampled;
      placed = placed_more s.height s.sample s.pushed s.given s.full _ invariant.high invariant.sampled invariant.placed more open_ ends.0 ends.1;
      lanes = c.add_row.ensures.sums.size ∙ invariant.lanes;
      bound = λ k. rw one_more (sums_bound (lanes_of s.sums) (lanes_of c.add_row.new.self) c.args.row.now (min s.sample s.width) (sampled_side s.width s.sample) (s.pushed - rows * s.given) adds invariant.lanes small invariant.bound k);
      room = rw c.add_row.ensures.limit invariant.room;
    }

pub returns-clause-full : goal.returns-clause-full
returns-clause-full c =
    subst (λ (v : BoxValue). IsTrue c.ends_blocks-self-inside.result ↔ EndsBlocks v.height v.sample (v.pushed + 1) v.given) c.self.view_is c.ends_blocks-self-inside.ensures

pub returns-clause-pixels : goal.returns-clause-pixels
returns-clause-pixels c pixels holds =
    let s = c.self.inside in
    let invariant = c.self.invariant in
    let more : s.pushed < s.height = omega (arith, ap (λ (v : BoxValue). v.pushed) c.self.view_is, ap (λ (v : BoxValue). v.height) c.self.view_is, c.requires.more) in
    let adds : AddsRow (lanes_of s.sums) (lanes_of c.add_row.new.self) c.args.row.now (min s.sample s.width) (sampled_side s.width s.sample) =
    subst (λ (n : ℕ). AddsRow (lanes_of s.sums) (lanes_of c.add_row.new.self) c.args.row.now n (sampled_side s.width s.sample)) c.min-columns.ensures
    (subst (λ (n : ℕ). AddsRow (lanes_of s.sums) (lanes_of c.add_row.new.self) c.args.row.now c.min-columns.result n) c.sampled_side-blocks.ensures c.add_row.ensures.sums) in
    let row : length c.args.row.now ≡ 4 * s.width = c.requires.row ∙ ap (λ (v : BoxValue). 4 * v.width) (sym c.self.view_is) in
    holds_more s.width s.height s.sample s.pushed s.given s.full c.ends_blocks-self-inside.result (lanes_of s.sums) (lanes_of c.add_row.new.self) pixels c.args.row.now
    invariant.wide invariant.high invariant.sampled invariant.placed.begun more row adds (subst (λ (v : BoxValue). Holds v pixels) (sym c.self.view_is) holds)

pub returns-clause-last : goal.returns-clause-last
returns-clause-last c last =
    let s = c.self.inside in
    let invariant = c.self.invariant in
    let more : s.pushed < s.height = omega (arith, ap (λ (v : BoxValue). v.pushed) c.self.view_is, ap (λ (v : BoxValue). v.height) c.self.view_is, c.requires.more) in
    let open_ : s.full ≡ false = ap (λ (v : BoxValue). v.full) c.self.view_is ∙ c.requires.none_waits in
    let ends = c.ends_blocks-self-inside.ensures in
    let placed = placed_more s.height s.sample s.pushed s.given s.full _ invariant.high invariant.sampled invariant.placed more open_ ends.0 ends.1 in
    let end : s.pushed + 1 ≡ s.height = ap (λ (v : BoxValue). v.pushed + 1) c.self.view_is ∙ last ∙ ap (λ (v : BoxValue). v.height) (sym c.self.view_is) in
    let at_end = subst (λ (p : ℕ). IsPlaced (min s.sample s.height) s.height (sampled_side s.height s.sample) p s.given c.ends_blocks-self-inside.result) end placed in
    subst (λ (v : BoxValue). v.given + cond c.ends_blocks-self-inside.result 1 0 ≡ sampled_side v.height v.sample) c.self.view_is
    (given_at_last s.height s.sample s.given c.ends_blocks-self-inside.result invariant.high invariant.sampled at_end)
