use Rattle.std.proofs.Common.{◌≡◌, ℕ, ◌+◌, ◌++◌, List, take, drop, refl, sym, ap, subst, ◌∙◌, Ok, arith}
use Rattle.std.specs.List.{concat}
use Rattle.std.proofs.lemmas.List.{take-append-drop}
use Rattle.std.proofs.lemmas.List.Folds.{concat-append}
use Rattle.sampling.specs.BoxValue.{BoxValue}
use Rattle.sampling.specs.Sampled.{sampled_side, sampled_picture}
use Rattle.picture_rows.specs.RowsLeft.{RowStep}
use Rattle.image_format.specs.inside.Rows.{rows_by}
use Rattle.image_format.specs.inside.Filled.{IsSampled}
use Rattle.image_format.proofs.Filling.{rest_of, next_rest, rows_done, fills, keeps_twice, few_rows}
use Rattle.image_format.proofs.SampledRows.{sampled_none, first_rows}
use Rattle.image_format.proofs.raster.put_sampled_rows.Goals as goal

pub rows-init : goal.rows-init
rows-init c =
    let all = rows_by c.args.rows.now in
    let fresh = c.requires.fresh in
    let boxes = c.args.boxes.now in
    let picture = c.args.bitmap.now.picture in
    record {
      left = subst (λ (n : ℕ). all ≡ rest_of all n) (sym fresh.pushed) refl;
      below = omega (arith, fresh.pushed);
      boxes = refl;
      given = sym fresh.given;
      shape = refl;
      sampled = subst (λ (n : ℕ). IsSampled boxes picture (concat (take n all.rows)) (concat (drop n all.rows))) (sym fresh.pushed)
          (sampled_none boxes picture (concat all.rows) fresh c.is_whole.ensures c.requires.wide c.requires.high);
      row = c.requires.row;
    }

pub overflow_add-y : goal.overflow_add-y
overflow_add-y c =
    let before = c.rows.invariant in
    let all = rows_by c.args.rows.now in
    let into = c.next_row.new.into in
    let put = c.put_sampled_row-y in
    let step = subst (λ b. RowStep (rows_by c.rows.rows) (Ok b) into (rows_by c.next_row.new.self)) c.if-branch.true c.in_ok-next_row.ensures in
    let next = next_rest all (rows_by c.rows.rows) (rows_by c.next_row.new.self) c.rows.boxes.pushed into before.left step in
    let sampled = put.ensures.sampled (concat (take c.rows.boxes.pushed all.rows)) (concat (drop (c.rows.boxes.pushed + 1) all.rows))
    (subst (λ (l : List ℕ). IsSampled c.rows.boxes c.rows.bitmap.picture (concat (take c.rows.boxes.pushed all.rows)) l) next.3 before.sampled) in
    let given = ap (λ (b : BoxValue). b.given) put.ensures.pushes in
    let few = few_rows put.new.bitmap.picture.width put.new.bitmap.picture.height sampled.filled.bitmap.size in
    omega (arith, before.given, given, sampled.filled.within, few)

pub rows-preserved : goal.rows-preserved
rows-preserved c =
    let before = c.rows.invariant in
    let all = rows_by c.args.rows.now in
    let into = c.next_row.new.into in
    let put = c.put_sampled_row-y in
    let step = subst (λ b. RowStep (rows_by c.rows.rows) (Ok b) into (rows_by c.next_row.new.self)) c.if-branch.true c.in_ok-next_row.ensures in
    let next = next_rest all (rows_by c.rows.rows) (rows_by c.next_row.new.self) c.rows.boxes.pushed into before.left step in
    let sampled = put.ensures.sampled (concat (take c.rows.boxes.pushed all.rows)) (concat (drop (c.rows.boxes.pushed + 1) all.rows))
    (subst (λ (l : List ℕ). IsSampled c.rows.boxes c.rows.bitmap.picture (concat (take c.rows.boxes.pushed all.rows)) l) next.3 before.sampled) in
    let pushes = put.ensures.pushes in
    let pushed : put.new.boxes.pushed ≡ c.rows.boxes.pushed + 1 = ap (λ (b : BoxValue). b.pushed) pushes in
    let wide : put.new.boxes.width ≡ c.args.boxes.now.width = ap (λ (b : BoxValue). b.width) pushes ∙ ap (λ (b : BoxValue). b.width) before.boxes in
    let high : put.new.boxes.height ≡ c.args.boxes.now.height = ap (λ (b : BoxValue). b.height) pushes ∙ ap (λ (b : BoxValue). b.height) before.boxes in
    let sample : put.new.boxes.sample ≡ c.args.boxes.now.sample = ap (λ (b : BoxValue). b.sample) pushes ∙ ap (λ (b : BoxValue). b.sample) before.boxes in
    let read : IsSampled put.new.boxes put.new.bitmap.picture (concat (take (c.rows.boxes.pushed + 1) all.rows)) (concat (drop (c.rows.boxes.pushed + 1) all.rows)) =
    subst (λ (l : List ℕ). IsSampled put.new.boxes put.new.bitmap.picture l (concat (drop (c.rows.boxes.pushed + 1) all.rows))) (sym next.2) sampled in
    record {
      left = next.0 ∙ ap (rest_of all) (sym pushed);
      below = omega (arith, next.1, pushed);
      boxes = λ i. record { width = wide i; height = high i; sample = sample i; pushed = put.new.boxes.pushed; given = put.new.boxes.given; full = put.new.boxes.full; sums = put.new.boxes.sums };
      given = ap (λ n. n + put.result) before.given ∙ sym (ap (λ (b : BoxValue). b.given) pushes);
      shape = keeps_twice c.args.bitmap.now c.rows.bitmap put.new.bitmap before.shape put.ensures.shape;
      sampled = subst (λ (n : ℕ). IsSampled put.new.boxes put.new.bitmap.picture (concat (take n all.rows)) (concat (drop n all.rows))) (sym pushed) read;
      row = put.auto.row ∙ c.next_row.auto.into ∙ before.row;
    }

pub returns-clause-fills : goal.returns-clause-fills
returns-clause-fills c =
    let before = c.rows.invariant in
    let all = rows_by c.args.rows.now in
    let boxes = c.rows.boxes in
    let n = c.rows.boxes.pushed in
    let step = subst (λ b. RowStep (rows_by c.rows.rows) (Ok b) c.next_row.new.into (rows_by c.next_row.new.self)) c.if-branch.false c.in_ok-next_row.ensures in
    let done = rows_done c.args.boxes.now.height n all (rows_by c.rows.rows) c.requires.count before.left before.below step.0 step.1 in
    let wide : boxes.width ≡ c.args.boxes.now.width = ap (λ (b : BoxValue). b.width) before.boxes in
    let high : boxes.height ≡ c.args.boxes.now.height = ap (λ (b : BoxValue). b.height) before.boxes in
    let sample : boxes.sample ≡ c.args.boxes.now.sample = ap (λ (b : BoxValue). b.sample) before.boxes in
    let given : boxes.given ≡ sampled_side boxes.height boxes.sample = before.sampled.last (done.1 ∙ sym high) in
    let parts : concat (take n all.rows) ++ concat (drop n all.rows) ≡ concat all.rows = sym (concat-append (take n all.rows) (drop n all.rows)) ∙ ap concat (take-append-drop n all.rows) in (
      done.0,
      fills c.args.bitmap.now c.rows.bitmap boxes.given _ _ before.shape before.sampled.filled (given ∙ sym before.sampled.high)
          (ap (λ l. first_rows boxes l boxes.given) parts
          ∙ ap (first_rows boxes (concat all.rows)) given
          ∙ (λ i. sampled_picture (wide i) (high i) (sample i) (concat all.rows))),
    )
