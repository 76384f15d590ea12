-- The steps of rows that are sampled.
use Rattle.std.proofs.Common.{◌≡◌, ℕ, ◌+◌, ◌-◌, ◌*◌, ◌/◌, ◌%◌, ◌<◌, ◌≤◌, zero, suc, List, replicate, Bool, true, false, ◌++◌, length, min, sum, get_or, sym, ap, ap₂, ◌∙◌, refl, subst, inl, inr, cond, length-append, arith}
use Rattle.std.proofs.Math.Nat.{mul-le-mul_left, mul-le-mul_right, le_of_mul-le-mul_left, lt_of_mul-lt-mul_left}
use Rattle.std.proofs.lemmas.List.{get_or_past, get_or-replicate, length-replicate}
use Rattle.std.proofs.lemmas.Bool.{cases_lt, cases_eq, false≢true}
use Rattle.sampling.specs.Sampled.{sampled_side, block_side, block_at, sampled_channel, sampled_row}
use Rattle.sampling.specs.Lanes.{line_sum, AddsRow}
use Rattle.sampling.specs.BoxValue.{Holds, EndsBlocks}
use Rattle.sampling.specs.BoxView.{IsPlaced}
use Rattle.sampling.proofs.LineSums.{line_sum_more}
use Rattle.sampling.proofs.Tiles.{tiled}
use Rattle.sampling.proofs.BlockLists.{sum-block_more, block_stays, length-block, pixels_are}

-- the place after a push
pub placed_more : (height sample pushed given : ℕ) (full next : Bool) → 1 ≤ height → 1 ≤ sample → IsPlaced (min sample height) height (sampled_side height sample) pushed given full → pushed < height → full ≡ false
    → (next ≡ true → EndsBlocks height sample (pushed + 1) given) → (EndsBlocks height sample (pushed + 1) given → next ≡ true)
    → IsPlaced (min sample height) height (sampled_side height sample) (pushed + 1) given next
placed_more height sample pushed given full next high sampled placed more was_open ends is_end =
    let down = tiled height sample high sampled in
    let before = placed.open_ was_open in
    record {
      pushed_most = omega arith;
      given_most = placed.given_most;
      begun = omega (arith, placed.begun);
      waits = λ yes.
          let end = ends yes in
          (end.within, omega (arith, end.rows, down.start given end.within, down.block given end.within));
      open_ = λ no. elim (cases_lt given (sampled_side height sample)) [
        | inl within ↦ elim (cases_eq (pushed + 1) (min sample height * (given + 1))) [
          | inl same ↦
              let rows : pushed + 1 ≡ sample * given + block_side height sample (sample * given) = omega (arith, down.start given within, down.block given within) in
              absurd (false≢true (sym no ∙ is_end record { within = within; rows = rows }))
          | inr other ↦ omega arith
        ]
        | inr past ↦
            let all : given ≡ sampled_side height sample = omega (arith, placed.given_most) in
            let e = ap (λ y. min sample height * (y + 1)) all in
            omega (arith, down.most)
      ];
    }

-- after the last row all rows of the sampled picture are given, or the last one waits
pub given_at_last : (height sample given : ℕ) (full : Bool) → 1 ≤ height → 1 ≤ sample → IsPlaced (min sample height) height (sampled_side height sample) height given full
    → given + cond full 1 0 ≡ sampled_side height sample
given_at_last height sample given true high sampled placed =
    let down = tiled height sample high sampled in
    let waits = placed.waits refl in
    let some = down.some in
    let within : min sample height * sampled_side height sample ≤ min sample height * (given + 1) = omega (arith, down.fits, waits.1) in
    let less = le_of_mul-le-mul_left within some in
    omega (arith, waits.0)
given_at_last height sample given false high sampled placed =
    let down = tiled height sample high sampled in
    let below : min sample height * sampled_side height sample < min sample height * (given + 1) = omega (arith, down.fits, placed.open_ refl) in
    let less = lt_of_mul-lt-mul_left (min sample height) below in
    omega (arith, placed.given_most)

-- the sum of bytes of a row
line_sum-le : (row : List ℕ) (left columns channel : ℕ) → ((i : ℕ) → get_or row i 0 < 256) → line_sum row left columns channel ≤ 255 * columns
line_sum-le row left zero channel small = omega arith
line_sum-le row left (suc n) channel small =
    let next : n + 1 ≡ suc n = omega arith in
    let P : ℕ → Type 0 = λ m. line_sum row left m channel ≤ 255 * m in
    let step : P (n + 1) = omega (arith, line_sum_more row left n channel, line_sum-le row left n channel small, small (4 * (left + n) + channel)) in
    subst P next step

-- the sums stay below what so many rows of bytes give
pub sums_bound : (old new row : List ℕ) (columns blocks n : ℕ) → AddsRow old new row columns blocks → length old ≡ 4 * blocks → ((i : ℕ) → get_or row i 0 < 256)
    → ((k : ℕ) → get_or old k 0 ≤ 255 * (columns * n)) → (k : ℕ) → get_or new k 0 ≤ 255 * (columns * (n + 1))
sums_bound old new row columns blocks n adds lanes small bound k = elim (cases_lt k (4 * blocks)) [
  | inl within ↦
      let place : 4 * (k / 4) + k % 4 ≡ k = omega arith in
      let block : k / 4 < blocks = omega arith in
      let channel : k % 4 < 4 = omega arith in
      let grown = adds.sums (k / 4) (k % 4) block channel in
      let line = line_sum-le row (columns * (k / 4)) columns (k % 4) small in
      let old_at = ap (λ j. get_or old j 0) place in
      let new_at = ap (λ j. get_or new j 0) place in
      omega (arith, bound k)
  | inr past ↦ rw (get_or_past new k 0 (omega (arith, adds.size))) (omega arith)
]

-- a row more has room in the lanes
pub room_more : (columns rows pushed given sum limit : ℕ) → rows * given ≤ pushed → pushed < rows * (given + 1) → sum ≤ 255 * (columns * (pushed - rows * given)) → 255 * (columns * rows) + columns * rows / 2 < limit
    → sum + 255 * columns < limit
room_more columns rows pushed given sum limit begun open_ bound room =
    let n = pushed - rows * given in
    let few : n + 1 ≤ rows = omega arith in
    let grown = mul-le-mul_left columns few in
    omega arith

-- what holds of the pixels after a push
pub holds_more : (width height sample pushed given : ℕ) (full next : Bool) (sums grown pixels row : List ℕ) → 1 ≤ width → 1 ≤ height → 1 ≤ sample
    → min sample height * given ≤ pushed → pushed < height → length row ≡ 4 * width → AddsRow sums grown row (min sample width) (sampled_side width sample)
    → Holds record { width = width; height = height; sample = sample; pushed = pushed; given = given; full = full; sums = sums } pixels
    → Holds record { width = width; height = height; sample = sample; pushed = pushed + 1; given = given; full = next; sums = grown } (pixels ++ row)
holds_more width height sample pushed given full next sums grown pixels row wide high sampled begun more row_size adds holds =
    let across = tiled width sample wide sampled in
    let down = tiled height sample high sampled in
    let top : sample * given ≡ min sample height * given = down.begun given pushed begun more in
    record {
      size = length-append pixels row ∙ ap₂ ◌+◌ holds.size row_size ∙ omega arith;
      sums = λ x channel inside low.
          let columns = block_side width sample (sample * x) in
          let left = sample * x in
          let count = across.block x inside in
          let place = across.start x inside in
          let next_block = mul-le-mul_left (min sample width) (let less : x + 1 ≤ sampled_side width sample = omega arith in less) in
          let fits : left + columns ≤ width = omega (arith, across.fits, next_block) in
          let rows = pushed - sample * given in
          let one_more : pushed + 1 - sample * given ≡ rows + 1 = omega arith in
          adds.sums x channel inside low
          ∙ ap₂ ◌+◌ (holds.sums x channel inside low) (ap₂ (λ a b. line_sum row a b channel) (sym place) (sym count))
          ∙ sym (sum-block_more width pixels row left columns (sample * given) rows pushed channel holds.size fits low (omega arith))
          ∙ ap (λ n. sum (block_at width (pixels ++ row) left columns (sample * given) n channel)) (sym one_more);
    }

-- zeros at each place
get_or-zeros : (n k : ℕ) → get_or {A = ℕ} (replicate n 0) k 0 ≡ 0
get_or-zeros n k = elim (cases_lt k n) [
  | inl less ↦ get_or-replicate {A = ℕ} n k 0 0 less
  | inr past ↦ get_or_past {X = ℕ} (replicate n 0) k 0 (omega (arith, length-replicate {A = ℕ} n 0))
]

-- the row that waits is that of the sampled picture
pub row_given : (width height sample pushed given : ℕ) (full : Bool) (sums into pixels rest : List ℕ) → 1 ≤ width → 1 ≤ height → 1 ≤ sample
    → given < sampled_side height sample → pushed ≡ min sample height * (given + 1)
    → length into ≡ 4 * sampled_side width sample
    → ((k : ℕ) → k < 4 * sampled_side width sample → get_or into k 0 ≡ (get_or sums k 0 + min sample width * min sample height / 2) / (min sample width * min sample height))
    → Holds record { width = width; height = height; sample = sample; pushed = pushed; given = given; full = full; sums = sums } pixels
    → into ≡ sampled_row width height sample (pixels ++ rest) given
row_given width height sample pushed given full sums into pixels rest wide high sampled within ends size means holds =
    let across = tiled width sample wide sampled in
    let down = tiled height sample high sampled in
    pixels_are (λ x channel. sampled_channel width height sample (pixels ++ rest) x given channel) (sampled_side width sample) into size (λ x channel inside low.
    let columns = block_side width sample (sample * x) in
    let rows = block_side height sample (sample * given) in
    let left = sample * x in
    let top = sample * given in
    let across_count = across.block x inside in
    let place = across.start x inside in
    let next_block = mul-le-mul_left (min sample width) (let less : x + 1 ≤ sampled_side width sample = omega arith in less) in
    let fits : left + columns ≤ width = omega (arith, across.fits, next_block) in
    let down_count = down.block given within in
    let down_place = down.start given within in
    let so_far : pushed - top ≡ rows = omega arith in
    let last : top + rows ≤ pushed = omega arith in
    let block = block_at width (pixels ++ rest) left columns top rows channel in
    let stays : block ≡ block_at width pixels left columns top rows channel = block_stays width pixels rest left columns top rows pushed channel holds.size fits low last in
    let sum_is : get_or sums (4 * x + channel) 0 ≡ sum block =
    holds.sums x channel inside low ∙ ap (λ n. sum (block_at width pixels left columns top n channel)) so_far ∙ ap sum (sym stays) in
    let count : length block ≡ min sample width * min sample height = length-block width (pixels ++ rest) left columns top rows channel ∙ ap₂ ◌*◌ across_count down_count in
    means (4 * x + channel) (omega arith) ∙ ap₂ (λ a n. (a + n / 2) / n) sum_is (sym count))

-- after a row is given, no row of the next blocks is there
pub holds_given : (width height sample pushed given : ℕ) (full next : Bool) (sums cleared pixels : List ℕ) (lanes : ℕ) → pushed ≡ min sample height * (given + 1) → cleared ≡ replicate lanes 0
    → Holds record { width = width; height = height; sample = sample; pushed = pushed; given = given; full = full; sums = sums } pixels
    → Holds record { width = width; height = height; sample = sample; pushed = pushed; given = given + 1; full = next; sums = cleared } pixels
holds_given width height sample pushed given full next sums cleared pixels lanes ends zeros holds = record {
  size = holds.size;
  sums = λ x channel inside low.
      let grown = mul-le-mul_right (given + 1) (let less : min sample height ≤ sample = omega arith in less) in
      let none : pushed - sample * (given + 1) ≡ 0 = omega arith in
      ap (λ xs. get_or xs (4 * x + channel) 0) zeros
      ∙ get_or-zeros lanes (4 * x + channel)
      ∙ ap (λ n. sum (block_at width pixels (sample * x) (block_side width sample (sample * x)) (sample * (given + 1)) n channel)) (sym none);
}
