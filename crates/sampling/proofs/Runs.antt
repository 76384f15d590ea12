-- A run over the rows of a picture.
use Rattle.std.proofs.Common.{◌≡◌, ℕ, ◌+◌, ◌*◌, List, ◌++◌, true, false, length, take, drop, sym, ap, ap₂, ◌∙◌, arith}
use Rattle.std.proofs.lemmas.List.{take-append-drop}
use Rattle.std.proofs.Math.Seq.{take-add}
use Rattle.sampling.proofs.BlockLists.{pieces_more}
use Rattle.std.specs.List.{flat_map, range_with_len}
use Rattle.sampling.specs.Sampled.{sampled_side, sampled_row}
use Rattle.sampling.specs.BoxValue.{BoxValue, Holds}

-- the first y rows were pushed, and the rows of the sampled picture that were given stand in `picture`
pub record IsRun (width height sample : ℕ) (pixels : List ℕ) (y : ℕ) (rows : BoxValue) (row picture : List ℕ) : Type 0 where
  pub width_is : rows.width ≡ width
  pub height_is : rows.height ≡ height
  pub sample_is : rows.sample ≡ sample
  pub pushed_is : rows.pushed ≡ y
  pub open_ : rows.full ≡ false
  pub holds : Holds rows (take (4 * (width * y)) pixels)
  pub row_size : length row ≡ 4 * sampled_side width sample
  pub given : picture ≡ flat_map (sampled_row width height sample pixels) (range_with_len 0 rows.given)
  pub last : y ≡ height → rows.given ≡ sampled_side height sample

-- the pixels of one row more
take_row : (pixels : List ℕ) (width y n at : ℕ) → n ≡ 4 * width → at ≡ 4 * (width * y) → take (4 * (width * (y + 1))) pixels ≡ take (4 * (width * y)) pixels ++ take n (drop at pixels)
take_row pixels width y n at size place =
    ap (λ m. take m pixels) (let e : 4 * (width * (y + 1)) ≡ 4 * (width * y) + n = omega arith in e)
    ∙ take-add (4 * (width * y)) n pixels
    ∙ ap (λ m. take (4 * (width * y)) pixels ++ take n (drop m pixels)) (sym place)

-- a row after which none waits
pub run_skips : (width height sample y n at : ℕ) (pixels row picture : List ℕ) (rows next : BoxValue) → IsRun width height sample pixels y rows row picture
    → n ≡ 4 * width → at ≡ 4 * (width * y)
    → next ≡ record rows { pushed = rows.pushed + 1; full = false; sums = next.sums }
    → ((before : List ℕ) → Holds rows before → Holds next (before ++ take n (drop at pixels)))
    → (rows.pushed + 1 ≡ rows.height → rows.given + 0 ≡ sampled_side rows.height rows.sample)
    → IsRun width height sample pixels (y + 1) next row picture
run_skips width height sample y n at pixels row picture rows next before size place state holds last =
    let given : rows.given ≡ next.given = sym (ap (λ (v : BoxValue). v.given) state) in
    record {
      width_is = ap (λ (v : BoxValue). v.width) state ∙ before.width_is;
      height_is = ap (λ (v : BoxValue). v.height) state ∙ before.height_is;
      sample_is = ap (λ (v : BoxValue). v.sample) state ∙ before.sample_is;
      pushed_is = ap (λ (v : BoxValue). v.pushed) state ∙ ap (λ p. p + 1) before.pushed_is;
      open_ = ap (λ (v : BoxValue). v.full) state;
      holds = rw (take_row pixels width y n at size place) (holds (take (4 * (width * y)) pixels) before.holds);
      row_size = before.row_size;
      given = before.given ∙ ap (λ g. flat_map (sampled_row width height sample pixels) (range_with_len 0 g)) given;
      last = λ end.
          let sides = ap₂ sampled_side before.height_is before.sample_is in
          let at_last = last (ap (λ p. p + 1) before.pushed_is ∙ end ∙ sym before.height_is) in
          omega arith;
    }

-- a row after which one waits, and that one given
pub run_gives : (width height sample y n at : ℕ) (pixels row picture into longer : List ℕ) (rows mid next : BoxValue) → IsRun width height sample pixels y rows row picture
    → n ≡ 4 * width → at ≡ 4 * (width * y)
    → mid ≡ record rows { pushed = rows.pushed + 1; full = true; sums = mid.sums }
    → ((before : List ℕ) → Holds rows before → Holds mid (before ++ take n (drop at pixels)))
    → (rows.pushed + 1 ≡ rows.height → rows.given + 1 ≡ sampled_side rows.height rows.sample)
    → ((before rest : List ℕ) → Holds mid before → into ≡ sampled_row mid.width mid.height mid.sample (before ++ rest) mid.given)
    → next ≡ record mid { given = mid.given + 1; full = false; sums = next.sums }
    → ((before : List ℕ) → Holds mid before → Holds next before)
    → length into ≡ length row
    → longer ≡ picture ++ into
    → IsRun width height sample pixels (y + 1) next into longer
run_gives width height sample y n at pixels row picture into longer rows mid next before size place state holds last gives after keeps same grown =
    let so_far : Holds mid (take (4 * (width * (y + 1))) pixels) = rw (take_row pixels width y n at size place) (holds (take (4 * (width * y)) pixels) before.holds) in
    let mid_given : mid.given ≡ rows.given = ap (λ (v : BoxValue). v.given) state in
    let mid_width = ap (λ (v : BoxValue). v.width) state ∙ before.width_is in
    let mid_height = ap (λ (v : BoxValue). v.height) state ∙ before.height_is in
    let mid_sample = ap (λ (v : BoxValue). v.sample) state ∙ before.sample_is in
    let whole = take-append-drop (4 * (width * (y + 1))) pixels in
    let row_is : into ≡ sampled_row width height sample pixels (0 + rows.given) =
    gives (take (4 * (width * (y + 1))) pixels) (drop (4 * (width * (y + 1))) pixels) so_far
    ∙ ap (λ xs. sampled_row mid.width mid.height mid.sample xs mid.given) whole
    ∙ ap₂ (λ w h. sampled_row w h mid.sample pixels mid.given) mid_width mid_height
    ∙ ap₂ (λ s g. sampled_row width height s pixels g) mid_sample (mid_given ∙ (let e : rows.given ≡ 0 + rows.given = omega arith in e)) in
    let given : next.given ≡ rows.given + 1 = ap (λ (v : BoxValue). v.given) after ∙ ap (λ g. g + 1) mid_given in
    record {
      width_is = ap (λ (v : BoxValue). v.width) after ∙ mid_width;
      height_is = ap (λ (v : BoxValue). v.height) after ∙ mid_height;
      sample_is = ap (λ (v : BoxValue). v.sample) after ∙ mid_sample;
      pushed_is = ap (λ (v : BoxValue). v.pushed) after ∙ ap (λ (v : BoxValue). v.pushed) state ∙ ap (λ p. p + 1) before.pushed_is;
      open_ = ap (λ (v : BoxValue). v.full) after;
      holds = keeps (take (4 * (width * (y + 1))) pixels) so_far;
      row_size = same ∙ before.row_size;
      given = grown ∙ ap₂ ◌++◌ before.given row_is ∙ sym (pieces_more (sampled_row width height sample pixels) 0 rows.given)
          ∙ ap (λ g. flat_map (sampled_row width height sample pixels) (range_with_len 0 g)) (sym given);
      last = λ end.
          let sides = ap₂ sampled_side before.height_is before.sample_is in
          let at_last = last (ap (λ p. p + 1) before.pushed_is ∙ end ∙ sym before.height_is) in
          omega arith;
    }
