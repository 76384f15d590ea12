use Rattle.std.proofs.Common.{◌≡◌, ℕ, ◌*◌, cond, true, false, refl, sym, ap, ◌∙◌}
use Rattle.std.proofs.lemmas.Bool.{lt-ltb, le-ltb}
use Rattle.transforms.specs.Sizes.{is_wider, target_size, source_column, source_row, scaled_place, cropped_place}
use Rattle.transforms.proofs.Lines.{follows_as, column-uncropped, row-uncropped}
use Rattle.transforms.proofs.axes.axes.Goals as goal

pub returns-then-from-clause-rows : goal.returns-then-from-clause-rows
returns-then-from-clause-rows c =
    let w = c.args.source.0 in
    let h = c.args.source.1 in
    let W = c.args.wanted.0 in
    let H = c.args.wanted.1 in
    let wider : is_wider w h W H ≡ true = lt-ltb (W * h) (w * H) (rw (c.from.ensures, c.from-in-Crop.ensures, c.from-in-Crop-2.ensures, c.from-in-Crop-3.ensures) at c.if-from.true) in
    follows_as c.scaled.result _ H h (scaled_place h H) (source_row w h c.args.transform W H)
    (ap (λ (s : ℕ × ℕ). s.1) c.requires.size ∙ ap (λ t. (target_size w h t W H).1) c.in-Crop.is)
    (λ k. sym (ap (λ t. source_row w h t W H k) c.in-Crop.is ∙ ap (λ b. cond b (scaled_place h H k) (cropped_place h w H W k)) wider)) c.scaled.ensures

pub returns-else-from-clause-rows : goal.returns-else-from-clause-rows
returns-else-from-clause-rows c =
    let w = c.args.source.0 in
    let h = c.args.source.1 in
    let W = c.args.wanted.0 in
    let H = c.args.wanted.1 in
    let narrow : is_wider w h W H ≡ false = le-ltb (W * h) (w * H) (rw (c.from.ensures, c.from-in-Crop.ensures, c.from-in-Crop-2.ensures, c.from-in-Crop-3.ensures) at c.if-from.false) in
    follows_as c.cropped-in-Crop.result _ H h (cropped_place h w H W) (source_row w h c.args.transform W H)
    (ap (λ (s : ℕ × ℕ). s.1) c.requires.size ∙ ap (λ t. (target_size w h t W H).1) c.in-Crop.is)
    (λ k. sym (ap (λ t. source_row w h t W H k) c.in-Crop.is ∙ ap (λ b. cond b (scaled_place h H k) (cropped_place h w H W k)) narrow)) c.cropped-in-Crop.ensures

pub returns-in_default-clause-columns : goal.returns-in_default-clause-columns
returns-in_default-clause-columns c =
    let w = c.args.source.0 in
    let h = c.args.source.1 in
    let W = c.args.wanted.0 in
    let H = c.args.wanted.1 in
    follows_as c.scaled-in_default.result _ _ w (scaled_place w c.args.target.0) (source_column w h c.args.transform W H) refl
    (λ k. ap (λ (s : ℕ × ℕ). scaled_place w s.0 k) c.requires.size ∙ sym (column-uncropped c.args.transform w h W H k c.requires.source.wide c.in_default.not-Crop)) c.scaled-in_default.ensures

pub returns-in_default-clause-rows : goal.returns-in_default-clause-rows
returns-in_default-clause-rows c =
    let w = c.args.source.0 in
    let h = c.args.source.1 in
    let W = c.args.wanted.0 in
    let H = c.args.wanted.1 in
    follows_as c.scaled-in_default-2.result _ _ h (scaled_place h c.args.target.1) (source_row w h c.args.transform W H) refl
    (λ k. ap (λ (s : ℕ × ℕ). scaled_place h s.1 k) c.requires.size ∙ sym (row-uncropped c.args.transform w h W H k c.requires.source.high c.in_default.not-Crop)) c.scaled-in_default-2.ensures
