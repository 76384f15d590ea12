-- Texts that are raw forms.
use Rattle.std.proofs.Common.{◌≡◌, ℕ, zero, suc, ◌+◌, ◌*◌, ◌^◌, ◌<◌, ◌≤◌, List, [], ◌∷◌, ◌++◌, length, drop, get_or, refl, sym, ap, subst, ◌∙◌, arith, codes}
use Rattle.std.specs.Int.{w32, to_le_bytes}
use Rattle.std.proofs.lemmas.Nat.{mul-le, le_bytes_4, from_le_bytes-to_le_bytes_4}
use Rattle.std.proofs.lemmas.List.{drop_more}
use Rattle.bitmap_kind.specs.declared.bitmaps.Config.{Config}
use Rattle.bitmap_kind.specs.declared.bitmaps.Config.TheVariants.{Argb8888, Rgb565, Alpha8}
use Rattle.bitmap_kind.specs.Picture.{Picture, IsSize, stored_size}
use Rattle.cache_key.specs.KeyBytes.{config_byte}
use Rattle.image_format.specs.RawForm.{raw_text, raw_picture, IsRawForm, IsRawSize, side_at}

-- a byte stands for one config
config_one : (a b : Config) → config_byte a ≡ config_byte b → a ≡ b
config_one Argb8888 Argb8888 e = refl
config_one Argb8888 Rgb565 e = absurd (omega (arith, e))
config_one Argb8888 Alpha8 e = absurd (omega (arith, e))
config_one Rgb565 Argb8888 e = absurd (omega (arith, e))
config_one Rgb565 Rgb565 e = refl
config_one Rgb565 Alpha8 e = absurd (omega (arith, e))
config_one Alpha8 Argb8888 e = absurd (omega (arith, e))
config_one Alpha8 Rgb565 e = absurd (omega (arith, e))
config_one Alpha8 Alpha8 e = refl

-- ---- what stands in a raw form

width_small : (w h : ℕ) → IsSize w h → w < 2 ^ 32
width_small w h size = let least : w * 1 ≤ w * h = mul-le w 1 w h (omega arith) size.high in omega (arith, size.most)

height_small : (w h : ℕ) → IsSize w h → h < 2 ^ 32
height_small w h size = let least : 1 * h ≤ w * h = mul-le 1 h w h size.wide (omega arith) in omega (arith, size.most)

pub width_there : (text : List ℕ) (p : Picture) → IsRawForm text p → side_at 5 text ≡ p.width
width_there text p form = ap (side_at 5) form.spelled ∙ from_le_bytes-to_le_bytes_4 p.width (width_small p.width p.height form.size)

pub height_there : (text : List ℕ) (p : Picture) → IsRawForm text p → side_at 9 text ≡ p.height
height_there text p form = ap (side_at 9) form.spelled ∙ from_le_bytes-to_le_bytes_4 p.height (height_small p.width p.height form.size)

pub config_there : (text : List ℕ) (p : Picture) (config : Config) → IsRawForm text p → get_or text 4 0 ≡ config_byte config → config ≡ p.config
config_there text p config form is = config_one config p.config (sym is ∙ ap (λ t. get_or t 4 0) form.spelled)

pub bytes_there : (text : List ℕ) (p : Picture) → IsRawForm text p → drop 13 text ≡ p.bytes
bytes_there text p form = ap (drop 13) form.spelled

pub one_picture : (text : List ℕ) (a b : Picture) → IsRawForm text a → IsRawForm text b → a ≡ b
one_picture text a b first second =
    let config : a.config ≡ b.config = config_there text b a.config second (ap (λ t. get_or t 4 0) first.spelled) in
    λ i. record {
      width = (sym (width_there text a first) ∙ width_there text b second) i;
      height = (sym (height_there text a first) ∙ height_there text b second) i;
      config = config i;
      bytes = (sym (bytes_there text a first) ∙ bytes_there text b second) i;
    }

pub raw_size : (text : List ℕ) (p : Picture) (config : Config) (width height count : ℕ) → IsRawForm text p → get_or text 4 0 ≡ config_byte config
    → width ≡ side_at 5 text → height ≡ side_at 9 text → 13 + count ≡ length text → IsRawSize config width height count
raw_size text p config width height count form is wide high all =
    let w : width ≡ p.width = wide ∙ width_there text p form in
    let h : height ≡ p.height = high ∙ height_there text p form in
    let k : config ≡ p.config = config_there text p config form is in
    let long : length text ≡ 13 + length p.bytes = ap length form.spelled ∙ omega arith in
    let same : count ≡ stored_size p.width p.height p.config = omega (arith, all, long, form.whole) in
    record {
      size = subst (λ (s : ℕ × ℕ). IsSize s.0 s.1) (λ i. (sym w i, sym h i)) form.size;
      whole = same ∙ (λ i. stored_size (sym w i) (sym h i) (sym k i));
    }

-- ---- what is a raw form

four_small : (a b c d : ℕ) → a < 256 → b < 256 → c < 256 → d < 256 → (i : ℕ) → get_or (a ∷ b ∷ c ∷ d ∷ []) i 0 < 256
four_small a b c d la lb lc ld zero = la
four_small a b c d la lb lc ld (suc zero) = lb
four_small a b c d la lb lc ld (suc (suc zero)) = lc
four_small a b c d la lb lc ld (suc (suc (suc zero))) = ld
four_small a b c d la lb lc ld (suc (suc (suc (suc i)))) = omega arith

-- the four bytes of a side, and the text after them
side_then : (text : List ℕ) (side at end : ℕ) → ((i : ℕ) → get_or text i 0 < 256) → end ≤ length text → end ≡ at + 4 → side ≡ side_at at text → drop at text ≡ to_le_bytes w32 side ++ drop end text
side_then text side at end small fits last is =
    let bytes : List ℕ = get_or text at 0 ∷ get_or text (at + 1) 0 ∷ get_or text (at + 2) 0 ∷ get_or text (at + 3) 0 ∷ [] in
    let spelled : to_le_bytes w32 side ≡ bytes = le_bytes_4 bytes side refl (four_small _ _ _ _ (small at) (small (at + 1)) (small (at + 2)) (small (at + 3))) is in
    let next : (i j : ℕ) → i < length text → j ≡ i + 1 → drop i text ≡ get_or text i 0 ∷ drop j text =
    λ i j lt e. drop_more text i 0 lt ∙ ap (λ k. get_or text i 0 ∷ drop k text) (sym e) in
    next at (at + 1) (omega arith) refl
    ∙ ap (λ l. get_or text at 0 ∷ l) (next (at + 1) (at + 2) (omega arith) (omega arith)
    ∙ ap (λ l. get_or text (at + 1) 0 ∷ l) (next (at + 2) (at + 3) (omega arith) (omega arith)
    ∙ ap (λ l. get_or text (at + 2) 0 ∷ l) (next (at + 3) end (omega arith) (omega arith))))
    ∙ ap (λ l. l ++ drop end text) (sym spelled)

pub is_raw : (text : List ℕ) (config : Config) (width height : ℕ) → ((i : ℕ) → get_or text i 0 < 256) → 13 ≤ length text → text ≡ codes "GLR1" ++ drop 4 text → get_or text 4 0 ≡ config_byte config
    → width ≡ side_at 5 text → height ≡ side_at 9 text → text ≡ raw_text (raw_picture config width height text)
is_raw text config width height small fits magic is wide high =
    let sides : drop 5 text ≡ to_le_bytes w32 width ++ to_le_bytes w32 height ++ drop 13 text =
    side_then text width 5 9 small (omega arith) refl wide ∙ ap (λ l. to_le_bytes w32 width ++ l) (side_then text height 9 13 small fits refl high) in
    magic
    ∙ ap (λ l. codes "GLR1" ++ l) (drop_more text 4 0 (omega arith))
    ∙ (λ i. codes "GLR1" ++ is i ∷ sides i)
