-- Blocks as lists of numbers, row by row.
use Rattle.std.proofs.Common.{◌≡◌, ℕ, ◌+◌, ◌*◌, ◌/◌, ◌%◌, ◌<◌, ◌≤◌, zero, suc, List, [], ◌∷◌, ◌++◌, length, map, sum, get_or, sym, ap, ap₂, ◌∙◌, refl, length-append, arith}
use Rattle.std.specs.List.{flat_map, range_with_len}
use Rattle.std.proofs.lemmas.List.{append-nil, map-id, ext_get_or, get_or_append_left, get_or-append-add, get_or-map}
use Rattle.std.proofs.lemmas.List.Concat.{flat_map-append}
use Rattle.std.proofs.lemmas.List.FromFn.{map-range_with_len_more, length-map-range_with_len}
use Rattle.std.proofs.lemmas.List.Sums.{sum_by-append}
use Rattle.std.proofs.lemmas.Nat.{mul-add-lt}
use Rattle.bitmap_kind.specs.Pieces.{same_pieces}
use Rattle.sampling.specs.Sampled.{channel_at, block_at}
use Rattle.sampling.specs.Lanes.{line_sum}
use Rattle.sampling.proofs.LineSums.{same_places}

-- one place more
range_more : (a n : ℕ) → range_with_len a (n + 1) ≡ range_with_len a n ++ (a + n) ∷ []
range_more a n = sym (map-id (range_with_len a (n + 1))) ∙ map-range_with_len_more (λ x. x) a n (a + n) refl ∙ ap (λ xs. xs ++ (a + n) ∷ []) (map-id (range_with_len a n))

-- one piece more
pub pieces_more : (f : ℕ → List ℕ) (a n : ℕ) → flat_map f (range_with_len a (n + 1)) ≡ flat_map f (range_with_len a n) ++ f (a + n)
pieces_more f a n = ap (flat_map f) (range_more a n) ∙ flat_map-append f (range_with_len a n) ((a + n) ∷ []) ∙ ap (λ xs. flat_map f (range_with_len a n) ++ xs) (append-nil (f (a + n)))

-- pieces of one length
pub length-pieces : (f : ℕ → List ℕ) (size a n : ℕ) → ((j : ℕ) → length (f j) ≡ size) → length (flat_map f (range_with_len a n)) ≡ size * n
length-pieces f size a zero each = omega arith
length-pieces f size a (suc n) each = length-append (f a) (flat_map f (range_with_len (a + 1) n)) ∙ ap₂ ◌+◌ (each a) (length-pieces f size (a + 1) n each) ∙ omega arith

-- how many pixels a block has
pub length-block : (width : ℕ) (pixels : List ℕ) (left columns top rows channel : ℕ) → length (block_at width pixels left columns top rows channel) ≡ columns * rows
length-block width pixels left columns top rows channel =
    length-pieces (λ row. map (λ column. channel_at width pixels column row channel) (range_with_len left columns)) columns top rows (λ row. length-map-range_with_len (λ column. channel_at width pixels column row channel) left columns)

-- a block among the rows pushed so far stays when more numbers follow
pub block_stays : (width : ℕ) (pixels more : List ℕ) (left columns top n p channel : ℕ) → length pixels ≡ 4 * (width * p) → left + columns ≤ width → channel < 4 → top + n ≤ p
    → block_at width (pixels ++ more) left columns top n channel ≡ block_at width pixels left columns top n channel
block_stays width pixels more left columns top n p channel size fits low above =
    let line : List ℕ → ℕ → List ℕ = λ numbers row. map (λ column. channel_at width numbers column row channel) (range_with_len left columns) in
    same_pieces (line (pixels ++ more)) (line pixels) top n (λ row first last.
    same_places (λ column. channel_at width (pixels ++ more) column row channel) (λ column. channel_at width pixels column row channel) left left columns (λ i below.
    let place : row * width + (left + i) < width * p = mul-add-lt row width (left + i) p (omega arith) (omega arith) in
    get_or_append_left pixels more 0 (4 * (row * width + (left + i)) + channel) (omega arith)))

-- the sum of a block grows by that of its pixels in the row that is pushed
pub sum-block_more : (width : ℕ) (pixels row : List ℕ) (left columns top n p channel : ℕ) → length pixels ≡ 4 * (width * p) → left + columns ≤ width → channel < 4 → top + n ≡ p
    → sum (block_at width (pixels ++ row) left columns top (n + 1) channel) ≡ sum (block_at width pixels left columns top n channel) + line_sum row left columns channel
sum-block_more width pixels row left columns top n p channel size fits low last =
    let line : ℕ → List ℕ = λ y. map (λ column. channel_at width (pixels ++ row) column y channel) (range_with_len left columns) in
    let new : line (top + n) ≡ map (λ column. get_or row (4 * column + channel) 0) (range_with_len left columns) =
    same_places (λ column. channel_at width (pixels ++ row) column (top + n) channel) (λ column. get_or row (4 * column + channel) 0) left left columns (λ i below.
    ap (λ j. get_or (pixels ++ row) j 0) (let e : 4 * ((top + n) * width + (left + i)) + channel ≡ length pixels + (4 * (left + i) + channel) = omega (arith, size, ap (λ z. z * width) last) in e)
    ∙ get_or-append-add pixels row (4 * (left + i) + channel) 0) in
    ap sum (pieces_more line top n)
    ∙ sum_by-append (λ x. x) (flat_map line (range_with_len top n)) (line (top + n))
    ∙ ap₂ ◌+◌ (ap sum (block_stays width pixels row left columns top n p channel size fits low (omega arith))) (ap sum new)

-- the channels in order
four : (channel : ℕ) → channel < 4 → get_or (0 ∷ 1 ∷ 2 ∷ 3 ∷ []) channel 0 ≡ channel
four zero low = refl
four (suc zero) low = refl
four (suc (suc zero)) low = refl
four (suc (suc (suc zero))) low = refl
four (suc (suc (suc (suc channel)))) low = absurd (omega arith)

-- a number of a row of pixels by its pixel and channel
get_or-pixels : (f : ℕ → ℕ → ℕ) (a n x channel : ℕ) → x < n → channel < 4 → get_or (flat_map (λ y. map (f y) (0 ∷ 1 ∷ 2 ∷ 3 ∷ [])) (range_with_len a n)) (4 * x + channel) 0 ≡ f (a + x) channel
get_or-pixels f a zero x channel below low = absurd (omega arith)
get_or-pixels f a (suc n) zero channel below low =
    let rest = flat_map (λ y. map (f y) (0 ∷ 1 ∷ 2 ∷ 3 ∷ [])) (range_with_len (a + 1) n) in
    get_or_append_left (map (f a) (0 ∷ 1 ∷ 2 ∷ 3 ∷ [])) rest 0 (4 * zero + channel) (omega arith)
    ∙ ap (λ j. get_or (map (f a) (0 ∷ 1 ∷ 2 ∷ 3 ∷ [])) j 0) (let e : 4 * zero + channel ≡ channel = omega arith in e)
    ∙ get_or-map (f a) (0 ∷ 1 ∷ 2 ∷ 3 ∷ []) channel 0 0 low
    ∙ ap₂ f (let e : a ≡ a + zero = omega arith in e) (four channel low)
get_or-pixels f a (suc n) (suc x) channel below low =
    let rest = flat_map (λ y. map (f y) (0 ∷ 1 ∷ 2 ∷ 3 ∷ [])) (range_with_len (a + 1) n) in
    ap (λ j. get_or (map (f a) (0 ∷ 1 ∷ 2 ∷ 3 ∷ []) ++ rest) j 0) (let e : 4 * suc x + channel ≡ 4 + (4 * x + channel) = omega arith in e)
    ∙ get_or-append-add (map (f a) (0 ∷ 1 ∷ 2 ∷ 3 ∷ [])) rest (4 * x + channel) 0
    ∙ get_or-pixels f (a + 1) n x channel (omega arith) low
    ∙ ap (λ z. f z channel) (let e : a + 1 + x ≡ a + suc x = omega arith in e)

-- a row of pixels is the list of its numbers
pub pixels_are : (f : ℕ → ℕ → ℕ) (n : ℕ) (numbers : List ℕ) → length numbers ≡ 4 * n → ((x channel : ℕ) → x < n → channel < 4 → get_or numbers (4 * x + channel) 0 ≡ f x channel)
    → numbers ≡ flat_map (λ x. map (f x) (0 ∷ 1 ∷ 2 ∷ 3 ∷ [])) (range_with_len 0 n)
pixels_are f n numbers size each =
    ext_get_or 0 _ _ (size ∙ sym (length-pieces (λ x. map (f x) (0 ∷ 1 ∷ 2 ∷ 3 ∷ [])) 4 0 n (λ j. refl))) (λ k below.
    let place : k ≡ 4 * (k / 4) + k % 4 = omega arith in
    let inside : k / 4 < n = omega arith in
    let low : k % 4 < 4 = omega arith in
    ap (λ j. get_or numbers j 0) place
    ∙ each (k / 4) (k % 4) inside low
    ∙ ap (λ z. f z (k % 4)) (let e : k / 4 ≡ 0 + k / 4 = omega arith in e)
    ∙ sym (get_or-pixels f 0 n (k / 4) (k % 4) inside low)
    ∙ ap (λ j. get_or (flat_map (λ x. map (f x) (0 ∷ 1 ∷ 2 ∷ 3 ∷ [])) (range_with_len 0 n)) j 0) (sym place))
