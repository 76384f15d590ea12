-- The sampled picture under sample 1 is the picture.
use Rattle.std.proofs.Common.{◌≡◌, ℕ, ◌+◌, ◌-◌, ◌*◌, ◌<◌, ◌≤◌, List, [], ◌∷◌, length, get_or, take, drop, min, sym, ap, ◌∙◌, arith, zero-mul, map, get_or-take, get_or-drop, length-take, length-drop}
use Rattle.std.proofs.lemmas.Nat.{mul-le}
use Rattle.std.proofs.lemmas.List.{take_all}
use Rattle.sampling.specs.Sampled.{sampled_side, block_at, mean, sampled_channel, sampled_row, sampled_picture}
use Rattle.bitmap_kind.specs.Pieces.{all_pieces, same_pieces}
use Rattle.sampling.proofs.BlockLists.{pixels_are}
use Rattle.std.specs.List.{flat_map, range_with_len}

-- a row of a picture that has all its rows
length-row : (xs : List ℕ) (at k : ℕ) → at + k ≤ length xs → length (take k (drop at xs)) ≡ k
length-row xs at k fits = omega (arith, length-take {A = ℕ}, length-drop {A = ℕ})

side_one : (side : ℕ) → 1 ≤ side → sampled_side side 1 ≡ side
side_one side some = omega arith

mean_one : (v : ℕ) → mean (v ∷ []) ≡ v
mean_one v = omega arith

-- the one pixel of a block
channel_one : (w h : ℕ) (pixels : List ℕ) (x y channel : ℕ) → x < w → y < h → sampled_channel w h 1 pixels x y channel ≡ get_or pixels (4 * (y * w + x) + channel) 0
channel_one w h pixels x y channel across down =
    let left : 1 * x ≡ x = omega arith in
    let top : 1 * y ≡ y = omega arith in
    let columns : min 1 (w - 1 * x) ≡ 1 = omega arith in
    let rows : min 1 (h - 1 * y) ≡ 1 = omega arith in
    (λ i. mean (block_at w pixels (left i) (columns i) (top i) (rows i) channel)) ∙ mean_one (get_or pixels (4 * (y * w + x) + channel) 0)

-- a row of the picture
row_one : (w h : ℕ) (pixels : List ℕ) (y : ℕ) → 1 ≤ w → length pixels ≡ 4 * (w * h) → y < h → sampled_row w h 1 pixels y ≡ take (4 * w) (drop (y * (4 * w)) pixels)
row_one w h pixels y some size down =
    let last : (y + 1) * (4 * w) ≤ h * (4 * w) = mul-le (y + 1) (4 * w) h (4 * w) (omega arith) (omega arith) in
    let fits : y * (4 * w) + 4 * w ≤ length pixels = omega arith in
    let row : List ℕ = take (4 * w) (drop (y * (4 * w)) pixels) in
    ap (λ n. flat_map (λ x. map (sampled_channel w h 1 pixels x y) (0 ∷ 1 ∷ 2 ∷ 3 ∷ [])) (range_with_len 0 n)) (side_one w some)
    ∙ sym (pixels_are (λ x channel. sampled_channel w h 1 pixels x y channel) w row (length-row pixels (y * (4 * w)) (4 * w) fits) (λ x channel across low.
    let place : y * (4 * w) + (4 * x + channel) ≡ 4 * (y * w + x) + channel = omega arith in
    get_or-take (4 * w) (drop (y * (4 * w)) pixels) (4 * x + channel) 0 (omega arith)
    ∙ get_or-drop (y * (4 * w)) pixels (4 * x + channel) 0
    ∙ ap (λ k. get_or pixels k 0) place
    ∙ sym (channel_one w h pixels x y channel across down)))

pub picture_one : (w h : ℕ) (pixels : List ℕ) → 1 ≤ w → 1 ≤ h → length pixels ≡ 4 * (w * h) → sampled_picture w h 1 pixels ≡ pixels
picture_one w h pixels wide high size =
    ap (λ n. flat_map (sampled_row w h 1 pixels) (range_with_len 0 n)) (side_one h high)
    ∙ same_pieces (sampled_row w h 1 pixels) (λ y. take (4 * w) (drop (y * (4 * w)) pixels)) 0 h (λ y low below. row_one w h pixels y wide size (omega arith))
    ∙ all_pieces pixels (4 * w) 0 h
    ∙ ap (λ k. take (h * (4 * w)) (drop k pixels)) (zero-mul (4 * w))
    ∙ take_all (h * (4 * w)) pixels (omega arith)
