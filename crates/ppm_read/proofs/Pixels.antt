-- Pixels of samples, one after another.
use Rattle.std.proofs.Common.{◌≡◌, ℕ, zero, suc, ◌+◌, ◌*◌, ◌<◌, ◌≤◌, List, [], ◌∷◌, ◌++◌, length, take, drop, get_or, map, refl, sym, ap, ◌∙◌, arith, append_assoc, append-nil}
use Rattle.std.proofs.lemmas.List.{drop_more, drop-drop, drop-map, take-append-drop, take_all, drop_all, get_or-map, length-map}
use Rattle.ppm_read.specs.declared.header.Channels.{Channels}
use Rattle.ppm_read.specs.declared.header.Channels.TheVariants.{Grey, Colour}
use Rattle.picture_rows.specs.PixelBytes.{scaled}
use Rattle.ppm_read.specs.Raster.{channel_count, rgba}

-- the samples of one pixel and those behind them
rgba-first : (channels : Channels) (s : List ℕ) → channel_count channels ≤ length s → rgba channels s ≡ rgba channels (take (channel_count channels) s) ++ rgba channels (drop (channel_count channels) s)
rgba-first Grey [] le = absurd (omega arith)
rgba-first Grey (v ∷ s) le = refl
rgba-first Colour [] le = absurd (omega arith)
rgba-first Colour (r ∷ []) le = absurd (omega arith)
rgba-first Colour (r ∷ g ∷ []) le = absurd (omega arith)
rgba-first Colour (r ∷ g ∷ b ∷ s) le = refl

pub rgba-none : (channels : Channels) → rgba channels [] ≡ []
rgba-none Grey = refl
rgba-none Colour = refl

-- pixels one behind the other
pub rgba-append : (channels : Channels) (n : ℕ) (front back : List ℕ) → length front ≡ channel_count channels * n → rgba channels (front ++ back) ≡ rgba channels front ++ rgba channels back
rgba-append Grey n [] back e = refl
rgba-append Grey zero (v ∷ front) back e = absurd (omega arith)
rgba-append Grey (suc n) (v ∷ front) back e = ap (λ l. v ∷ v ∷ v ∷ 255 ∷ l) (rgba-append Grey n front back (omega arith))
rgba-append Colour zero [] back e = refl
rgba-append Colour zero (r ∷ rest) back e = absurd (omega arith)
rgba-append Colour (suc n) [] back e = absurd (omega arith)
rgba-append Colour (suc n) (r ∷ []) back e = absurd (omega arith)
rgba-append Colour (suc n) (r ∷ g ∷ []) back e = absurd (omega arith)
rgba-append Colour (suc n) (r ∷ g ∷ b ∷ rest) back e = ap (λ l. r ∷ g ∷ b ∷ 255 ∷ l) (rgba-append Colour n rest back (omega arith))

-- one pixel more in the buffer
pub row_more : (channels : Channels) (s old new pixel : List ℕ) (x : ℕ) → channel_count channels * (x + 1) ≤ length s
    → take (4 * (x + 1)) new ≡ take (4 * x) old ++ pixel
    → rgba channels (take (channel_count channels) (drop (channel_count channels * x) s)) ≡ pixel
    → take (4 * x) old ++ rgba channels (drop (channel_count channels * x) s) ≡ rgba channels s
    → take (4 * (x + 1)) new ++ rgba channels (drop (channel_count channels * (x + 1)) s) ≡ rgba channels s
row_more channels s old new pixel x le written is so_far =
    let k : ℕ = channel_count channels in
    let here : List ℕ = drop (k * x) s in
    let next : drop (k * (x + 1)) s ≡ drop k here = ap (λ n. drop n s) (omega arith) ∙ sym (drop-drop k (k * x) s) in
    let split : rgba channels here ≡ pixel ++ rgba channels (drop k here) =
    rgba-first channels here (omega (arith, Rattle.std.proofs.lemmas.List.length-drop (k * x) s)) ∙ ap (λ l. l ++ rgba channels (drop k here)) is in
    (λ i. written i ++ rgba channels (next i)) ∙ append_assoc (take (4 * x) old) pixel (rgba channels (drop k here)) ∙ ap (λ l. take (4 * x) old ++ l) (sym split) ∙ so_far

-- all pixels
pub row_all : (channels : Channels) (s into : List ℕ) (x : ℕ) → length s ≤ channel_count channels * x → length into ≤ 4 * x
    → take (4 * x) into ++ rgba channels (drop (channel_count channels * x) s) ≡ rgba channels s → into ≡ rgba channels s
row_all channels s into x none all so_far =
    let rest : rgba channels (drop (channel_count channels * x) s) ≡ [] = ap (rgba channels) (drop_all (channel_count channels * x) s none) ∙ rgba-none channels in
    sym (take_all (4 * x) into all) ∙ sym (append-nil (take (4 * x) into)) ∙ ap (λ l. take (4 * x) into ++ l) (sym rest) ∙ so_far

-- the samples of the pixel at x
drop_next : (xs : List ℕ) (i j : ℕ) → i < length xs → j ≡ i + 1 → drop i xs ≡ get_or xs i 0 ∷ drop j xs
drop_next xs i j lt e = drop_more xs i 0 lt ∙ ap (λ k. get_or xs i 0 ∷ drop k xs) (sym e)

pub grey_at : (s : List ℕ) (x : ℕ) → x < length s → rgba Grey (take 1 (drop (1 * x) s)) ≡ get_or s x 0 ∷ get_or s x 0 ∷ get_or s x 0 ∷ 255 ∷ []
grey_at s x lt = let e : 1 * x ≡ x = omega arith in ap (λ n. rgba Grey (take 1 (drop n s))) e ∙ ap (λ l. rgba Grey (take 1 l)) (drop_next s x (x + 1) lt refl)

pub colour_at : (s : List ℕ) (x : ℕ) → 3 * x + 2 < length s
    → rgba Colour (take 3 (drop (3 * x) s)) ≡ get_or s (3 * x) 0 ∷ get_or s (3 * x + 1) 0 ∷ get_or s (3 * x + 2) 0 ∷ 255 ∷ []
colour_at s x lt =
    let third = drop_next s (3 * x + 2) (3 * x + 3) (omega arith) (omega arith) in
    let second = drop_next s (3 * x + 1) (3 * x + 2) (omega arith) (omega arith) in
    let first = drop_next s (3 * x) (3 * x + 1) (omega arith) refl in
    ap (λ l. rgba Colour (take 3 l)) (first ∙ ap (λ l. get_or s (3 * x) 0 ∷ l) (second ∙ ap (λ l. get_or s (3 * x + 1) 0 ∷ l) third))

pub scaled_at : (m : ℕ) (s : List ℕ) (i v w : ℕ) → i < length s → v ≡ get_or s i 0 → w ≡ scaled m v → w ≡ get_or (map (scaled m) s) i 0
scaled_at m s i v w lt e f = f ∙ ap (scaled m) e ∙ sym (get_or-map (scaled m) s i 0 0 lt)

-- at the maximum 255 a sample stays
scaled-255 : (v : ℕ) → scaled 255 v ≡ v
scaled-255 v = omega arith

pub map-scaled-255 : (s : List ℕ) → map (scaled 255) s ≡ s
map-scaled-255 [] = refl
map-scaled-255 (v ∷ s) = λ i. scaled-255 v i ∷ map-scaled-255 s i

-- the pixel at x, by its kind
pub grey_pixel : (channels : Channels) (s : List ℕ) (x v : ℕ) → channels ≡ Grey → channel_count channels * (x + 1) ≤ length s → v ≡ get_or s x 0
    → rgba channels (take (channel_count channels) (drop (channel_count channels * x) s)) ≡ v ∷ v ∷ v ∷ 255 ∷ []
grey_pixel Grey s x v is le e = grey_at s x (omega arith) ∙ sym (ap (λ n. n ∷ n ∷ n ∷ 255 ∷ []) e)
grey_pixel Colour s x v is le e = cc

pub colour_pixel : (channels : Channels) (s : List ℕ) (x r g b : ℕ) → channels ≡ Colour → channel_count channels * (x + 1) ≤ length s → r ≡ get_or s (3 * x) 0 → g ≡ get_or s (3 * x + 1) 0 → b ≡ get_or s (3 * x + 2) 0
    → rgba channels (take (channel_count channels) (drop (channel_count channels * x) s)) ≡ r ∷ g ∷ b ∷ 255 ∷ []
colour_pixel Grey s x r g b is le e f h = cc
colour_pixel Colour s x r g b is le e f h = colour_at s x (omega arith) ∙ sym (λ i. e i ∷ f i ∷ h i ∷ 255 ∷ [])

-- where its samples are
pub grey_inside : (channels : Channels) (x n : ℕ) → channels ≡ Grey → channel_count channels * (x + 1) ≤ n → x < n
grey_inside Grey x n is le = omega arith
grey_inside Colour x n is le = cc

pub colour_inside : (channels : Channels) (x n : ℕ) → channels ≡ Colour → channel_count channels * (x + 1) ≤ n → 3 * x + 2 < n
colour_inside Grey x n is le = cc
colour_inside Colour x n is le = omega arith
