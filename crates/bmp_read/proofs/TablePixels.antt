-- Each pixel is that of the table.
use Rattle.std.proofs.Common.{◌≡◌, ℕ, zero, suc, ◌+◌, ◌-◌, ◌*◌, ◌/◌, ◌%◌, ◌^◌, ◌≤◌, ◌<◌, ◌||◌, Bool, true, false, cond, eqb, ltb, leb, List, [], ◌∷◌, length, take, drop, get_or, Result, Ok, Err, refl, sym, ap, ◌∙◌, arith}
use Rattle.std.specs.Int.{w16, w32, from_le_bytes}
use Rattle.std.specs.List.{concat}
use Rattle.std.proofs.lemmas.List.{get_or-take, drop-drop}
use Rattle.picture_rows.specs.Reading.{◌>>=◌}
use Rattle.picture_rows.specs.FullPicture.{FullPicture, full_of}
use Rattle.bmp_read.specs.declared.fault.BmpFault.{BmpFault}
use Rattle.bmp_read.specs.declared.fault.BmpFault.TheVariants.{BadSize, Truncated, BadMasks}
use Rattle.bmp_read.specs.declared.header.Head.{Head}
use Rattle.bmp_read.specs.declared.header.RowOrder.{RowOrder}
use Rattle.bmp_read.specs.declared.header.RowOrder.TheVariants.{TopFirst, BottomFirst}
use Rattle.bmp_read.specs.declared.format.Format.{Format}
use Rattle.bmp_read.specs.declared.format.Format.TheVariants.{Indexed1, Indexed4, Indexed8, Rgb555, Bgr24, Bgr32, Masked16, Masked32}
use Rattle.bmp_read.specs.declared.format.Masks.{Masks}
use Rattle.bmp_read.specs.declared.format.Palette.{Palette}
use Rattle.bmp_read.specs.Bytes.{u16_at, u32_at}
use Rattle.bmp_read.specs.Header.{stored_masks, are_masks, palette_count, size_at, masks_at, palette_at, indexed, masked, direct, format_of, head_of}
use Rattle.bmp_read.specs.Pixel.{bits_of, bgr_at, palette_colour, index1, index4, rgb555, masked_colour, pixel_at}
use Rattle.bmp_read.specs.Raster.{row_length, has_raster, stored_row, stored_index, row_at, last_rows}
use Rattle.bmp_read.specs.Full.{full_picture, full_picture_under}
use Rattle.bmp_read.specs.Rules.{unsigned}
use Rattle.bmp_read.specs.Table.{stored_pixel, rows_before, row_from, IsByTable}
use Rattle.bmp_read.proofs.Blocks.{block, length-blocks, pixel_in, length-pixels}
use Rattle.bmp_read.proofs.FirstBroken.{size_is, format_bits, head_parts}
use Rattle.bmp_read.proofs.Heads.{rule_ok, bind_ok}
use Rattle.bmp_read.proofs.RowSteps.{length-last_rows, by_raster}

-- ---- a pixel has four bytes

four_palette : (b : Bool) (palette : Palette) (text : List ℕ) (index : ℕ) → length (cond b (bgr_at (palette.start + 4 * index) text) (0 ∷ 0 ∷ 0 ∷ 255 ∷ [])) ≡ 4
four_palette true palette text index = refl
four_palette false palette text index = refl

four_bytes : (format : Format) (text row : List ℕ) (x : ℕ) → length (pixel_at format text row x) ≡ 4
four_bytes (Indexed1 palette) text row x = four_palette (ltb (index1 row x) palette.count) palette text (index1 row x)
four_bytes (Indexed4 palette) text row x = four_palette (ltb (index4 row x) palette.count) palette text (index4 row x)
four_bytes (Indexed8 palette) text row x = four_palette (ltb (get_or row x 0) palette.count) palette text (get_or row x 0)
four_bytes Rgb555 text row x = refl
four_bytes Bgr24 text row x = refl
four_bytes Bgr32 text row x = refl
four_bytes (Masked16 masks) text row x = refl
four_bytes (Masked32 masks) text row x = refl

-- ---- a stored row is the beginning of what stands in the text from its place on

u16_within : (n : ℕ) (bytes : List ℕ) (at : ℕ) → at + 1 < n → u16_at at (take n bytes) ≡ u16_at at bytes
u16_within n bytes at lt =
    let a = get_or-take n bytes at 0 (omega arith) in
    let b = get_or-take n bytes (at + 1) 0 lt in
    λ i. from_le_bytes w16 (a i ∷ b i ∷ [])

u32_within : (n : ℕ) (bytes : List ℕ) (at : ℕ) → at + 3 < n → u32_at at (take n bytes) ≡ u32_at at bytes
u32_within n bytes at lt =
    let a = get_or-take n bytes at 0 (omega arith) in
    let b = get_or-take n bytes (at + 1) 0 (omega arith) in
    let c = get_or-take n bytes (at + 2) 0 (omega arith) in
    let d = get_or-take n bytes (at + 3) 0 lt in
    λ i. from_le_bytes w32 (a i ∷ b i ∷ c i ∷ d i ∷ [])

bgr_within : (n : ℕ) (bytes : List ℕ) (at : ℕ) → at + 2 < n → bgr_at at (take n bytes) ≡ bgr_at at bytes
bgr_within n bytes at lt =
    let a = get_or-take n bytes at 0 (omega arith) in
    let b = get_or-take n bytes (at + 1) 0 (omega arith) in
    let c = get_or-take n bytes (at + 2) 0 lt in
    λ i. c i ∷ b i ∷ a i ∷ 255 ∷ []

within : (format : Format) (text bytes : List ℕ) (n w x : ℕ) → n ≡ (w * bits_of format + 31) / 32 * 4 → x < w → pixel_at format text (take n bytes) x ≡ pixel_at format text bytes x
within (Indexed1 palette) text bytes n w x e lt = ap (λ v. palette_colour palette text (v / 2 ^ (7 - x % 8) % 2)) (get_or-take n bytes (x / 8) 0 (omega (arith, e)))
within (Indexed4 palette) text bytes n w x e lt = ap (λ v. palette_colour palette text (v / 16 ^ (1 - x % 2) % 16)) (get_or-take n bytes (x / 2) 0 (omega (arith, e)))
within (Indexed8 palette) text bytes n w x e lt = ap (palette_colour palette text) (get_or-take n bytes x 0 (omega (arith, e)))
within Rgb555 text bytes n w x e lt = ap rgb555 (u16_within n bytes (2 * x) (omega (arith, e)))
within Bgr24 text bytes n w x e lt = bgr_within n bytes (3 * x) (omega (arith, e))
within Bgr32 text bytes n w x e lt = bgr_within n bytes (4 * x) (omega (arith, e))
within (Masked16 masks) text bytes n w x e lt = ap (masked_colour masks) (u16_within n bytes (2 * x) (omega (arith, e)))
within (Masked32 masks) text bytes n w x e lt = ap (masked_colour masks) (u32_within n bytes (4 * x) (omega (arith, e)))

-- ---- the table

masks_is : (info_size bits : ℕ) (text : List ℕ) (masks : Masks) → masks_at info_size bits text ≡ Ok masks → stored_masks info_size text ≡ masks
unfolding masks_at
masks_is info_size bits text masks e =
    let whole = rule_ok _ Truncated (cond (are_masks bits (stored_masks info_size text)) (Ok (stored_masks info_size text)) (Err BadMasks)) masks e in
    kept (are_masks bits (stored_masks info_size text)) whole.1 where
      kept : (b : Bool) → ◌≡◌ {A = Result Masks BmpFault} (cond b (Ok (stored_masks info_size text)) (Err BadMasks)) (Ok masks) → stored_masks info_size text ≡ masks
      kept true e = cc
      kept false e = cc

palette_is : (info_size bits : ℕ) (text : List ℕ) (palette : Palette) → palette_at info_size bits text ≡ Ok palette → record { start = 14 + info_size; count = palette_count bits (u32_at 46 text) } ≡ palette
unfolding palette_at
palette_is info_size bits text palette e =
    let made : Palette = record { start = 14 + info_size; count = palette_count bits (u32_at 46 text) } in
    let rule = rule_ok _ Truncated (Ok made) palette e in
    cc (rule.1)

by_masks : (b : Bool) (masks : Masks) (text row : List ℕ) (x : ℕ) → pixel_at (cond b (Masked16 masks) (Masked32 masks)) text row x ≡ cond b (masked_colour masks (u16_at (2 * x) row)) (masked_colour masks (u32_at (4 * x) row))
by_masks true masks text row x = refl
by_masks false masks text row x = refl

by_palette : (a b : Bool) (palette : Palette) (text row : List ℕ) (x : ℕ) → pixel_at (cond a (Indexed1 palette) (cond b (Indexed4 palette) (Indexed8 palette))) text row x
    ≡ cond a (palette_colour palette text (index1 row x)) (cond b (palette_colour palette text (index4 row x)) (palette_colour palette text (get_or row x 0)))
by_palette true b palette text row x = refl
by_palette false true palette text row x = refl
by_palette false false palette text row x = refl

by_colour : (a b : Bool) (text row : List ℕ) (x : ℕ) → pixel_at (cond a Rgb555 (cond b Bgr24 Bgr32)) text row x ≡ cond a (rgb555 (u16_at (2 * x) row)) (cond b (bgr_at (3 * x) row) (bgr_at (4 * x) row))
by_colour true b text row x = refl
by_colour false true text row x = refl
by_colour false false text row x = refl

-- the table, by whether there are masks, and whether a pixel has at most 8 bits
abbrev table : Bool → Bool → ℕ → Masks → Palette → List ℕ → List ℕ → ℕ → List ℕ
table with_masks small bits masks palette text row x =
    cond with_masks (cond (eqb bits 16) (masked_colour masks (u16_at (2 * x) row)) (masked_colour masks (u32_at (4 * x) row)))
    (cond small (cond (eqb bits 1) (palette_colour palette text (index1 row x)) (cond (eqb bits 4) (palette_colour palette text (index4 row x)) (palette_colour palette text (get_or row x 0))))
    (cond (eqb bits 16) (rgb555 (u16_at (2 * x) row)) (cond (eqb bits 24) (bgr_at (3 * x) row) (bgr_at (4 * x) row))))

by_kind : (with_masks small : Bool) (info_size bits : ℕ) (text row : List ℕ) (x : ℕ) (format : Format)
    → cond with_masks (masks_at info_size bits text >>= (λ masks. Ok (masked bits masks))) (cond small (palette_at info_size bits text >>= (λ palette. Ok (indexed bits palette))) (Ok (direct bits))) ≡ Ok format
    → pixel_at format text row x ≡ table with_masks small bits (stored_masks info_size text) record { start = 14 + info_size; count = palette_count bits (u32_at 46 text) } text row x
by_kind true small info_size bits text row x format read =
    let found = bind_ok (masks_at info_size bits text) (λ masks. Ok (masked bits masks)) format read in
    let is : masked bits found.0 ≡ format = cc (found.2) in
    sym (ap (λ format. pixel_at format text row x) is) ∙ by_masks (eqb bits 16) found.0 text row x
    ∙ ap (λ masks. cond (eqb bits 16) (masked_colour masks (u16_at (2 * x) row)) (masked_colour masks (u32_at (4 * x) row))) (sym (masks_is info_size bits text found.0 found.1))
by_kind false true info_size bits text row x format read =
    let found = bind_ok (palette_at info_size bits text) (λ palette. Ok (indexed bits palette)) format read in
    let is : indexed bits found.0 ≡ format = cc (found.2) in
    sym (ap (λ format. pixel_at format text row x) is) ∙ by_palette (eqb bits 1) (eqb bits 4) found.0 text row x
    ∙ ap (λ palette. cond (eqb bits 1) (palette_colour palette text (index1 row x)) (cond (eqb bits 4) (palette_colour palette text (index4 row x)) (palette_colour palette text (get_or row x 0)))) (sym (palette_is info_size bits text found.0 found.1))
by_kind false false info_size bits text row x format read =
    let is : direct bits ≡ format = cc in
    sym (ap (λ format. pixel_at format text row x) is) ∙ by_colour (eqb bits 16) (eqb bits 24) text row x

by_format : (text row : List ℕ) (x : ℕ) (format : Format) → format_of (u32_at 14 text) (u32_at 30 text) (u16_at 28 text) text ≡ Ok format → pixel_at format text row x ≡ stored_pixel text row x
unfolding format_of
by_format text row x format read = by_kind (eqb (u32_at 30 text) 3) (leb (u16_at 28 text) 8) (u32_at 14 text) (u16_at 28 text) text row x format read

-- ---- what the fields say of a header

by_order : (above : Bool) (width height n y : ℕ) (found : ℕ × ℕ × RowOrder) → cond {A = Result (ℕ × ℕ × RowOrder) BmpFault} above (Ok (width, height, BottomFirst)) (Ok (width, 2 ^ 32 - height, TopFirst)) ≡ Ok found
    → stored_index found.2 n y ≡ cond above (n - 1 - y) y
by_order true width height n y found e = let order : BottomFirst ≡ found.2 = cc in sym (ap (λ o. stored_index o n y) order)
by_order false width height n y found e = let order : TopFirst ≡ found.2 = cc in sym (ap (λ o. stored_index o n y) order)

order_is : (text : List ℕ) (found : ℕ × ℕ × RowOrder) (n y : ℕ) → size_at text ≡ Ok found → stored_index found.2 n y ≡ cond (ltb (u32_at 22 text) (2 ^ 31)) (n - 1 - y) y
unfolding size_at
order_is text found n y e =
    let width : ℕ = u32_at 18 text in
    let height : ℕ = u32_at 22 text in
    let signed : Result (ℕ × ℕ × RowOrder) BmpFault = cond (ltb height (2 ^ 31)) (Ok (width, height, BottomFirst)) (Ok (width, 2 ^ 32 - height, TopFirst)) in
    let first = rule_ok (eqb width 0 || leb (2 ^ 31) width) BadSize (cond (eqb height 0 || eqb height (2 ^ 31)) (Err BadSize) signed) found e in
    let second = rule_ok (eqb height 0 || eqb height (2 ^ 31)) BadSize signed found first.1 in
    by_order (ltb height (2 ^ 31)) width height n y found second.1

record ByFields (text : List ℕ) (head : Head) : Type 0 where
  wide : head.width ≡ u32_at 18 text
  high : head.height ≡ unsigned (u32_at 22 text)
  start : head.raster_start ≡ u32_at 10 text
  bits : bits_of head.format ≡ u16_at 28 text
  order : (n y : ℕ) → stored_index head.order n y ≡ cond (ltb (u32_at 22 text) (2 ^ 31)) (n - 1 - y) y
  pixel : (row : List ℕ) (x : ℕ) → pixel_at head.format text row x ≡ stored_pixel text row x

by_fields : (text : List ℕ) (head : Head) → head_of text ≡ Ok head → ByFields text head
by_fields text head e =
    let parts = head_parts text head e in
    let size = size_is text parts.size parts.size_read in
    let format : head.format ≡ parts.format = sym (ap (λ head. head.format) parts.is) in
    record {
      wide = sym (ap (λ head. head.width) parts.is) ∙ sym size.0;
      high = sym (ap (λ head. head.height) parts.is) ∙ sym size.1;
      start = sym (ap (λ head. head.raster_start) parts.is);
      bits = ap bits_of format ∙ format_bits (u32_at 14 text) (u32_at 30 text) (u16_at 28 text) text parts.format parts.depth parts.format_read;
      order = λ n y. ap (λ o. stored_index o n y) (sym (ap (λ head. head.order) parts.is)) ∙ order_is text parts.size n y parts.size_read;
      pixel = λ row x. ap (λ format. pixel_at format text row x) format ∙ by_format text row x parts.format parts.format_read;
    }

-- ---- the picture

the_row : (head : Head) (text : List ℕ) (n y : ℕ) → n ≤ head.height → y < n → get_or (last_rows head text n) y [] ≡ row_at head text (head.height - n + y)
the_row head text zero y le lt = absurd (omega arith)
the_row head text (suc below) zero le lt = let same : head.height - 1 - below ≡ head.height - suc below + 0 = omega arith in ap (row_at head text) same
the_row head text (suc below) (suc y) le lt =
    let same : head.height - below + y ≡ head.height - suc below + suc y = omega arith in
    the_row head text below y (omega arith) (omega arith) ∙ ap (row_at head text) same

long_row : (head : Head) (text : List ℕ) (above : ℕ) → length (row_at head text above) ≡ 4 * head.width
unfolding row_at
long_row head text above =
    let row : List ℕ = stored_row head text (stored_index head.order head.height above) in
    length-pixels (pixel_at head.format text row) head.width (four_bytes head.format text row)

row_pixel : (head : Head) (text : List ℕ) (above x : ℕ) → x < head.width
    → take 4 (drop (4 * x) (row_at head text above)) ≡ pixel_at head.format text (stored_row head text (stored_index head.order head.height above)) x
unfolding row_at
row_pixel head text above x lt =
    let row : List ℕ = stored_row head text (stored_index head.order head.height above) in
    pixel_in (pixel_at head.format text row) head.width x (four_bytes head.format text row) lt

place_is : (start length_ index : ℕ) (text : List ℕ) → drop (length_ * index) (drop start text) ≡ drop (start + length_ * index) text
place_is start length_ index text = drop-drop (length_ * index) start text

row_in_text : (head : Head) (text : List ℕ) (above x : ℕ) → ByFields text head → x < head.width
    → pixel_at head.format text (stored_row head text (stored_index head.order head.height above)) x ≡ stored_pixel text (row_from text above) x
row_in_text head text above x is lt =
    let size : ℕ = row_length head in
    let index : ℕ = stored_index head.order head.height above in
    let index_is : index ≡ rows_before text above = is.order head.height above ∙ ap (λ n. cond (ltb (u32_at 22 text) (2 ^ 31)) (n - 1 - above) above) is.high in
    let from : drop (head.raster_start + size * index) text ≡ row_from text above = λ i. drop (is.start i + (is.wide i * is.bits i + 31) / 32 * 4 * index_is i) text in
    within head.format text (drop (size * index) (drop head.raster_start text)) size head.width x refl lt
    ∙ ap (λ row. pixel_at head.format text row x) (place_is head.raster_start size index text ∙ from)
    ∙ is.pixel (row_from text above) x

inside : (a b : FullPicture) → ◌≡◌ {A = Result FullPicture BmpFault} (Ok a) (Ok b) → a ≡ b
inside a b e = cc

whole : (head : Head) (text : List ℕ) (picture : FullPicture) (b : Bool) → full_of (head.width, head.height) (by_raster head head.height text b) ≡ Ok picture
    → record { width = head.width; height = head.height; pixels = concat (last_rows head text head.height) } ≡ picture
whole head text picture true e = inside record { width = head.width; height = head.height; pixels = concat (last_rows head text head.height) } picture e
whole head text picture false e = cc

by_head : (text : List ℕ) (head : Head) → ByFields text head → IsByTable text record { width = head.width; height = head.height; pixels = concat (last_rows head text head.height) }
by_head text head is =
    let h : ℕ = head.height in
    let rows : List (List ℕ) = last_rows head text h in
    let count : length rows ≡ h = length-last_rows head text h in
    let row : (y : ℕ) → y < h → get_or rows y [] ≡ row_at head text y = λ y lt. the_row head text h y (omega arith) lt ∙ ap (row_at head text) (omega arith) in
    let long : (y : ℕ) → y < length rows → length (get_or rows y []) ≡ 4 * head.width = λ y lt. ap length (row y (omega (arith, count))) ∙ long_row head text y in
    record {
      wide = is.wide;
      high = is.high;
      count = length-blocks (4 * head.width) rows long ∙ ap (λ n. 4 * head.width * n) count;
      pixel = λ x y across down.
          ap (λ l. take 4 (drop (4 * x) l)) (block (4 * head.width) rows y long (omega (arith, count)) ∙ row y down)
          ∙ row_pixel head text y x across ∙ row_in_text head text y x is across;
    }

pub by_table : (text : List ℕ) (picture : FullPicture) → full_picture text ≡ Ok picture → IsByTable text picture
by_table text picture e =
    let read = bind_ok (head_of text) (λ head. full_picture_under head text) picture e in
    let is = whole read.0 text picture (has_raster read.0 text) read.2 in
    Rattle.std.proofs.Common.subst (IsByTable text) is (by_head text read.0 (by_fields text read.0 read.1))
