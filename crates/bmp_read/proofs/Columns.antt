-- Pixels one behind the other.
use Rattle.std.proofs.Common.{◌≡◌, ℕ, zero, suc, ◌+◌, ◌*◌, List, [], ◌∷◌, ◌++◌, take, sym, ap, ◌∙◌, arith, add-one, append-nil}
use Rattle.std.specs.List.{flat_map, range_with_len}
use Rattle.std.proofs.lemmas.List.Concat.{flat_map-append}
use Rattle.bmp_read.specs.Raster.{pixels}

range_more : (a n : ℕ) → range_with_len a (suc n) ≡ range_with_len a n ++ (a + n) ∷ []
range_more a zero = let e : a ≡ a + zero = omega arith in ap (λ k. k ∷ []) e
range_more a (suc n) = let e : (a + 1) + n ≡ a + suc n = omega arith in ap (λ l. a ∷ l) (range_more (a + 1) n ∙ ap (λ k. range_with_len (a + 1) n ++ k ∷ []) e)

-- one column more
pub pixels-more : (pixel : ℕ → List ℕ) (x : ℕ) → pixels pixel (x + 1) ≡ pixels pixel x ++ pixel x
pixels-more pixel x =
    let e : 0 + x ≡ x = omega arith in
    ap (λ n. pixels pixel n) (add-one x) ∙ ap (flat_map pixel) (range_more 0 x) ∙ flat_map-append pixel (range_with_len 0 x) ((0 + x) ∷ []) ∙ ap (λ l. pixels pixel x ++ l) (append-nil (pixel (0 + x)) ∙ ap pixel e)

-- one column more in the buffer
pub column_more : (pixel : ℕ → List ℕ) (old new : List ℕ) (x : ℕ) (written : List ℕ) → take (4 * (x + 1)) new ≡ take (4 * x) old ++ written → written ≡ pixel x
    → take (4 * x) old ≡ pixels pixel x → take (4 * (x + 1)) new ≡ pixels pixel (x + 1)
column_more pixel old new x written e is so_far = e ∙ (λ i. so_far i ++ is i) ∙ sym (pixels-more pixel x)
