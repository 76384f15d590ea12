-- Sums of lines, pixel by pixel.
use Rattle.std.proofs.Common.{◌≡◌, ℕ, ◌+◌, ◌*◌, ◌<◌, ◌≤◌, List, map, sum, get_or, take, drop, get_or-take, get_or-drop, sym, ap, ◌∙◌, refl, arith}
use Rattle.std.specs.List.{range_with_len}
use Rattle.std.proofs.lemmas.List.FromFn.{map-range_with_len_more, length-map-range_with_len, get_or-map-range_with_len}
use Rattle.std.proofs.lemmas.List.{ext_get_or}
use Rattle.std.proofs.lemmas.List.Sums.{sum_by_push}
use Rattle.sampling.specs.Lanes.{line_sum}

-- one pixel more
pub line_sum_more : (row : List ℕ) (left columns channel : ℕ) → line_sum row left (columns + 1) channel ≡ line_sum row left columns channel + get_or row (4 * (left + columns) + channel) 0
line_sum_more row left columns channel =
    let number : ℕ → ℕ = λ column. get_or row (4 * column + channel) 0 in
    ap sum (map-range_with_len_more number left columns (left + columns) refl)
    ∙ sum_by_push (λ x. x) (map number (range_with_len left columns)) (number (left + columns))

-- the sum of a channel over the first pixels of a block, and its bound
pub record IsChannelSum (block : List ℕ) (columns channel sum : ℕ) : Type 0 where
  pub sum_is : sum ≡ line_sum block 0 columns channel
  pub bound : sum ≤ 255 * columns

pub IsChannelSum-none : (block : List ℕ) (channel : ℕ) → IsChannelSum block 0 channel 0
IsChannelSum-none block channel = record { sum_is = refl; bound = omega arith }

pub IsChannelSum_more : (block : List ℕ) (i channel sum number : ℕ) → IsChannelSum block i channel sum → number ≡ get_or block (4 * i + channel) 0 → number < 256 → IsChannelSum block (i + 1) channel (sum + number)
IsChannelSum_more block i channel sum number before is small = record {
  sum_is = omega (arith, line_sum_more block 0 i channel, before.sum_is, ap (λ j. get_or block j 0) (let e : 4 * i + channel ≡ 4 * (0 + i) + channel = omega arith in e));
  bound = omega (arith, before.bound);
}

-- two lists of numbers by place are one where they agree at each place
pub same_places : (f g : ℕ → ℕ) (a b n : ℕ) → ((i : ℕ) → i < n → f (a + i) ≡ g (b + i)) → map f (range_with_len a n) ≡ map g (range_with_len b n)
same_places f g a b n each =
    let left = length-map-range_with_len f a n in
    ext_get_or 0 _ _ (left ∙ sym (length-map-range_with_len g b n)) (λ i below.
    let less : i < n = omega arith in
    get_or-map-range_with_len f a n i (a + i) 0 less refl ∙ each i less ∙ sym (get_or-map-range_with_len g b n i (b + i) 0 less refl))

-- the sum of a part of a row, taken from that part alone
pub line_sum-part : (row : List ℕ) (left columns n at channel : ℕ) → channel < 4 → n ≡ 4 * columns → at ≡ 4 * left
    → line_sum (take n (drop at row)) 0 columns channel ≡ line_sum row left columns channel
line_sum-part row left columns n at channel low size place =
    ap sum (same_places (λ column. get_or (take n (drop at row)) (4 * column + channel) 0) (λ column. get_or row (4 * column + channel) 0) 0 left columns (λ i below.
    get_or-take n (drop at row) (4 * (0 + i) + channel) 0 (omega arith)
    ∙ get_or-drop at row (4 * (0 + i) + channel) 0
    ∙ ap (λ j. get_or row j 0) (let e : at + (4 * (0 + i) + channel) ≡ 4 * (left + i) + channel = omega arith in e)))
