use Rattle.std.proofs.Common.{◌≡◌, ◌+◌, ◌*◌, ◌≤◌, ◌++◌, length, sym, ap, ◌∙◌, refl, arith, rules}
use Rattle.std.proofs.Math.Nat.{mul-le-mul_left}
use Rattle.std.proofs.lemmas.List.{with_items_is}
use Rattle.std.proofs.lemmas.Slice.{pushed}
use Rattle.std.specs.Vec.{with_items}
use Rattle.sampling.proofs.Runs.{run_skips, run_gives}
use Rattle.sampling.proofs.picture.sampled_picture.Goals as goal
use Rattle.sampling.proofs.picture.sampled_picture.Goals.{then-push_row+in_ok-extend_from_slice, else-push_row}

pub slice_bounds-push_row-end : goal.slice_bounds-push_row-end
slice_bounds-push_row-end c =
    let next : c.loop-y.y + 1 ≤ c.args.height = omega arith in
    let grown = mul-le-mul_left c.args.width next in
    let room : 4 * c.args.width * c.loop-y.y + 4 * c.args.width ≤ length c.args.pixels.now = omega (arith, c.requires.pixels) in
    search rules

pub loop-y-preserved : goal.loop-y-preserved
loop-y-preserved c = elim c.if-push_row.branch [
  | then-push_row+in_ok-extend_from_slice w ↦
      let row = c.loop-y.row in
      let picture = c.loop-y.picture.items in
      let into = w.out.new.into in
      let same : length into ≡ length row.items = w.out.auto.into ∙ ap length w.deref_mut.ensures.value in
      let row_is : (with_items row into).items ≡ into = with_items_is row into (same ∙ sym row.ok.0) in
      let grown : w.extend_from_slice.new.self.items ≡ picture ++ into =
      pushed w.deref.result.now refl w.in_ok-extend_from_slice.was w.extend_from_slice.ensures.items ∙ ap (λ xs. picture ++ xs) (w.deref.ensures.value ∙ row_is) in
      rw (w.rows-is, w.row-is, w.picture-is, row_is)
      (run_gives c.args.width c.args.height c.args.sample c.loop-y.y _ _ c.args.pixels.now row.items picture into w.extend_from_slice.new.self.items c.loop-y.rows c.push_row.new.self w.out.new.self c.loop-y.invariant (omega arith) (omega arith)
      w.if-push_row.ensures.state w.if-push_row.ensures.pixels w.if-push_row.ensures.last
      w.out.ensures.row w.out.ensures.state w.out.ensures.pixels same grown)
  | else-push_row w ↦
      rw (w.rows-is, w.row-is, w.picture-is)
      (run_skips c.args.width c.args.height c.args.sample c.loop-y.y _ _ c.args.pixels.now c.loop-y.row.items c.loop-y.picture.items c.loop-y.rows c.push_row.new.self c.loop-y.invariant (omega arith) (omega arith)
      w.if-push_row.ensures.state w.if-push_row.ensures.pixels w.if-push_row.ensures.last)
]
