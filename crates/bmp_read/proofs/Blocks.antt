-- Lists one after the other, all of one length.
use Rattle.std.proofs.Common.{◌≡◌, ℕ, zero, suc, ◌+◌, ◌*◌, ◌<◌, List, [], ◌∷◌, ◌++◌, length, take, drop, get_or, map, refl, sym, ap, ◌∙◌, arith, length-append}
use Rattle.std.specs.List.{concat, flat_map, range_with_len}
use Rattle.std.proofs.Math.Seq.{take-append_seam, drop-append_seam}
use Rattle.std.proofs.lemmas.List.{drop-drop}
use Rattle.std.proofs.lemmas.List.FromFn.{get_or-map-range_with_len, length-map-range_with_len}
use Rattle.bmp_read.specs.Raster.{pixels}

-- the block of this number
pub block : (k : ℕ) (blocks : List (List ℕ)) (i : ℕ) → ((j : ℕ) → j < length blocks → length (get_or blocks j []) ≡ k) → i < length blocks
    → take k (drop (k * i) (concat blocks)) ≡ get_or blocks i []
block k [] i all lt = absurd (omega arith)
block k (x ∷ blocks) zero all lt =
    let long : k ≡ length x = sym (all 0 (omega arith)) in
    let none : k * zero ≡ 0 = omega arith in
    (λ i. take (long i) (drop (none i) (x ++ concat blocks))) ∙ take-append_seam x (concat blocks)
block k (x ∷ blocks) (suc i) all lt =
    let long : k ≡ length x = sym (all 0 (omega arith)) in
    let on : k * suc i ≡ k + k * i = omega arith in
    let back : drop k (x ++ concat blocks) ≡ concat blocks = ap (λ n. drop n (x ++ concat blocks)) long ∙ drop-append_seam x (concat blocks) in
    ap (λ n. take k (drop n (x ++ concat blocks))) on ∙ ap (take k) (sym (drop-drop (k * i) k (x ++ concat blocks))) ∙ ap (λ l. take k (drop (k * i) l)) back
    ∙ block k blocks i (λ j l. all (suc j) (omega arith)) (omega arith)

-- all blocks have this many elements
pub length-blocks : (k : ℕ) (blocks : List (List ℕ)) → ((j : ℕ) → j < length blocks → length (get_or blocks j []) ≡ k) → length (concat blocks) ≡ k * length blocks
length-blocks k [] all = omega arith
length-blocks k (x ∷ blocks) all =
    omega (arith, length-append x (concat blocks), all 0 (omega arith), length-blocks k blocks (λ j l. all (suc j) (omega arith)))

concat_map : (f : ℕ → List ℕ) (xs : List ℕ) → concat (map f xs) ≡ flat_map f xs
concat_map f [] = refl
concat_map f (x ∷ xs) = ap (λ l. f x ++ l) (concat_map f xs)

-- the pixel in a column
pub pixel_in : (f : ℕ → List ℕ) (width x : ℕ) → ((x : ℕ) → length (f x) ≡ 4) → x < width → take 4 (drop (4 * x) (pixels f width)) ≡ f x
pixel_in f width x four lt =
    let all : List (List ℕ) = map f (range_with_len 0 width) in
    let count : length all ≡ width = length-map-range_with_len f 0 width in
    let at : (j : ℕ) → j < width → get_or all j [] ≡ f j = λ j l. get_or-map-range_with_len f 0 width j j [] l (omega arith) in
    ap (λ l. take 4 (drop (4 * x) l)) (sym (concat_map f (range_with_len 0 width)))
    ∙ block 4 all x (λ j l. ap length (at j (omega (arith, count))) ∙ four j) (omega (arith, count))
    ∙ at x lt

pub length-pixels : (f : ℕ → List ℕ) (width : ℕ) → ((x : ℕ) → length (f x) ≡ 4) → length (pixels f width) ≡ 4 * width
length-pixels f width four =
    let all : List (List ℕ) = map f (range_with_len 0 width) in
    let count : length all ≡ width = length-map-range_with_len f 0 width in
    let at : (j : ℕ) → j < width → get_or all j [] ≡ f j = λ j l. get_or-map-range_with_len f 0 width j j [] l (omega arith) in
    ap length (sym (concat_map f (range_with_len 0 width)))
    ∙ length-blocks 4 all (λ j l. ap length (at j (omega (arith, count))) ∙ four j)
    ∙ ap (λ n. 4 * n) count
