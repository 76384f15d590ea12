-- Masks and masked values, moved down to bit 0.
use Rattle.std.proofs.Common.{◌≡◌, ℕ, ◌^◌, ◌<◌, ◌≤◌, ◌&&◌, ◌||◌, Bool, true, false, eqb, ltb, refl, arith}
use Rattle.std.specs.Int.{w32, trailing_zeros}
use Rattle.std.proofs.lemmas.Nat.Bits.{bit_at-trailing_zeros}
use Rattle.std.proofs.lemmas.Bool.Decides.{nat_tests}
use Rattle.bmp_read.specs.declared.format.Masks.{Masks}
use Rattle.bmp_read.specs.Header.{moved_down, is_run, is_mask, are_masks}
use Rattle.bmp_read.specs.inside.ChannelScales.{is_narrow, are_narrow}

-- a mask that is not 0 has a 1 at bit 0 when it is moved down
pub mask_above_zero : (mask : ℕ) → 0 < mask → mask < 2 ^ 32 → 1 ≤ moved_down mask mask
mask_above_zero mask positive fits = omega (arith, (bit_at-trailing_zeros w32 mask positive fits).1)

both : (a b : Bool) → (a && b) ≡ true → (a ≡ true) × (b ≡ true)
both true b e = (refl, e)
both false b e = cc

together : (a b : Bool) → a ≡ true → b ≡ true → (a && b) ≡ true
together true b e f = f
together false b e f = cc

either : (a b : Bool) → b ≡ true → (a || b) ≡ true
either true b e = refl
either false b e = e

-- a mask of 16 bits has at most 16
below : (m : ℕ) → ltb m 65536 ≡ true → ltb (moved_down m m) 65536 ≡ true
below m e =
    let small : m < 65536 = grind (arith, nat_tests) in
    let less : moved_down m m ≤ m = Rattle.std.proofs.Math.Nat.div-le_self m (2 ^ trailing_zeros w32 m) in
    Rattle.std.proofs.lemmas.Bool.lt-ltb (moved_down m m) 65536 (omega (arith, small, less))

narrow : (m : ℕ) → is_mask 16 m ≡ true → is_narrow m ≡ true
narrow m e = either (eqb m 0) (ltb (moved_down m m) 65536) (below m (both (is_run m) (ltb m 65536) e).1)

pub narrow_masks : (masks : Masks) → are_masks 16 masks ≡ true → are_narrow masks ≡ true
narrow_masks masks e =
    let r = is_mask 16 masks.red in
    let g = is_mask 16 masks.green in
    let b = is_mask 16 masks.blue in
    let third = both ((r && g) && b) (is_mask 16 masks.alpha) e in
    let second = both (r && g) b third.0 in
    let first = both r g second.0 in
    let rg = together (is_narrow masks.red) (is_narrow masks.green) (narrow masks.red first.0) (narrow masks.green first.1) in
    let rgb = together (is_narrow masks.red && is_narrow masks.green) (is_narrow masks.blue) rg (narrow masks.blue second.1) in
    together ((is_narrow masks.red && is_narrow masks.green) && is_narrow masks.blue) (is_narrow masks.alpha) rgb (narrow masks.alpha third.1)
