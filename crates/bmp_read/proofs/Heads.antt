-- What the rules of the headers say of a head.
use Rattle.std.proofs.Common.{◌≡◌, ◌⊎◌, inl, inr, ℕ, ◌+◌, ◌-◌, ◌*◌, ◌^◌, ◌≤◌, ◌<◌, ◌||◌, Bool, true, false, cond, eqb, ltb, leb, List, length, get_or, Result, Ok, Err, refl, sym, ap, subst, ◌∙◌, arith}
use Rattle.std.proofs.Math.Nat.{eq-or-lt_of_le}
use Rattle.std.proofs.lemmas.Bool.Decides.{nat_tests}
use Rattle.bmp_read.specs.declared.fault.BmpFault.{BmpFault}
use Rattle.bmp_read.specs.declared.fault.BmpFault.TheVariants.{BadSize, BadMasks, Truncated}
use Rattle.bmp_read.specs.declared.header.Head.{Head}
use Rattle.bmp_read.specs.declared.header.RowOrder.{RowOrder}
use Rattle.bmp_read.specs.declared.header.RowOrder.TheVariants.{TopFirst, BottomFirst}
use Rattle.bmp_read.specs.declared.format.Format.{Format}
use Rattle.bmp_read.specs.declared.format.Format.TheVariants.{Indexed1, Indexed4, Indexed8, Rgb555, Bgr24, Bgr32, Masked16, Masked32}
use Rattle.bmp_read.specs.declared.format.Masks.{Masks}
use Rattle.bmp_read.specs.declared.format.Palette.{Palette}
use Rattle.picture_rows.specs.Reading.{◌>>=◌}
use Rattle.bmp_read.specs.Bytes.{u32_at}
use Rattle.bmp_read.specs.Header.{IsSide, HasSides, info_size_at, size_at, depth_at, stored_masks, are_masks, masks_at, palette_count, palette_at, indexed, masked, direct, format_of, head_of}
use Rattle.bmp_read.specs.Pixel.{IsPaletteInside, IsFormatIn}

-- a part that is read
pub bind_ok : {A B : Type 0} (r : Result A BmpFault) (f : A → Result B BmpFault) (y : B) → (r >>= f) ≡ Ok y → (x : A) × (r ≡ Ok x) × (f x ≡ Ok y)
bind_ok (Ok x) f y e = (x, refl, e)
bind_ok (Err d) f y e = cc

-- a rule that holds
pub rule_ok : {A : Type 0} (broken : Bool) (d : BmpFault) (r : Result A BmpFault) (y : A) → cond broken (Err d) r ≡ Ok y → (broken ≡ false) × (r ≡ Ok y)
rule_ok true d r y e = cc
rule_ok false d r y e = (refl, e)

-- bytes make a number of 32 bits
u32_at-bound : (at : ℕ) (text : List ℕ) → ((i : ℕ) → get_or text i 0 < 256) → u32_at at text < 2 ^ 32
u32_at-bound at text bytes = omega (arith, bytes at, bytes (at + 1), bytes (at + 2), bytes (at + 3))

-- the size by the sign of the height
abbrev by_sign : ℕ → ℕ → Bool → Result (ℕ × ℕ × RowOrder) BmpFault
by_sign width height true = Ok (width, height, BottomFirst)
by_sign width height false = Ok (width, 2 ^ 32 - height, TopFirst)

by_sign-is : (width height : ℕ) (above : Bool) → cond above (Ok (width, height, BottomFirst)) (Ok (width, 2 ^ 32 - height, TopFirst)) ≡ by_sign width height above
by_sign-is width height true = refl
by_sign-is width height false = refl

above_least : (height : ℕ) → 2 ^ 31 ≤ height → (height ≡ 2 ^ 31 → ⊥) → 2 ^ 31 < height
above_least height large least = by (eq-or-lt_of_le large) where
  by : (2 ^ 31 ≡ height) ⊎ (2 ^ 31 < height) → 2 ^ 31 < height
  by (inl is) = absurd (least (sym is))
  by (inr more) = more

sides_by_sign : (width height : ℕ) (above : Bool) (found : ℕ × ℕ × RowOrder) → IsSide width → ltb height (2 ^ 31) ≡ above → 0 < height → height < 2 ^ 32 → (height ≡ 2 ^ 31 → ⊥) → by_sign width height above ≡ Ok found → IsSide found.0 × IsSide found.1
sides_by_sign width height true found wide test positive bound least e =
    let w : width ≡ found.0 = cc in
    let h : height ≡ found.1 = cc in
    let small : height < 2 ^ 31 = grind (arith, nat_tests) in
    ((omega (arith, wide.0), omega (arith, wide.1)), (omega arith, omega arith))
sides_by_sign width height false found wide test positive bound least e =
    let w : width ≡ found.0 = cc in
    let h : 2 ^ 32 - height ≡ found.1 = cc in
    let large : 2 ^ 31 ≤ height = grind (arith, nat_tests) in
    let more : 2 ^ 31 < height = above_least height large least in
    ((omega (arith, wide.0), omega (arith, wide.1)), (omega arith, omega arith))

is_wide : (width : ℕ) → (eqb width 0 || leb (2 ^ 31) width) ≡ false → IsSide width
is_wide width e = (grind (arith, nat_tests), grind (arith, nat_tests))

not_zero : (height : ℕ) → (eqb height 0 || eqb height (2 ^ 31)) ≡ false → 0 < height
not_zero height e = grind (arith, nat_tests)

not_least : (height : ℕ) → (eqb height 0 || eqb height (2 ^ 31)) ≡ false → height ≡ 2 ^ 31 → ⊥
not_least height e is = grind (arith, nat_tests)

-- the sides that are read are sides
sides : (text : List ℕ) (found : ℕ × ℕ × RowOrder) → ((i : ℕ) → get_or text i 0 < 256) → size_at text ≡ Ok found → IsSide found.0 × IsSide found.1
unfolding size_at
sides text found bytes e =
    let width : ℕ = u32_at 18 text in
    let height : ℕ = u32_at 22 text in
    let signed : Result (ℕ × ℕ × RowOrder) BmpFault = cond (ltb height (2 ^ 31)) (Ok (width, height, BottomFirst)) (Ok (width, 2 ^ 32 - height, TopFirst)) in
    let first = rule_ok (eqb width 0 || leb (2 ^ 31) width) BadSize (cond (eqb height 0 || eqb height (2 ^ 31)) (Err BadSize) signed) found e in
    let second = rule_ok (eqb height 0 || eqb height (2 ^ 31)) BadSize signed found first.1 in
    sides_by_sign width height (ltb height (2 ^ 31)) found (is_wide width first.0) refl (not_zero height second.0) (u32_at-bound 22 text bytes) (not_least height second.0) (sym (by_sign-is width height (ltb height (2 ^ 31))) ∙ second.1)

inside : (n end : ℕ) → ltb n end ≡ false → end ≤ n
inside n end e = grind (arith, nat_tests)

-- a palette that is read lies inside the text
palette_inside : (info_size bits : ℕ) (text : List ℕ) (palette : Palette) → palette_at info_size bits text ≡ Ok palette → IsPaletteInside palette text
unfolding palette_at
palette_inside info_size bits text palette e =
    let start : ℕ = 14 + info_size in
    let count : ℕ = palette_count bits (u32_at 46 text) in
    let rule = rule_ok (ltb (length text) (start + 4 * count)) Truncated (Ok record { start = start; count = count }) palette e in
    let made : Palette = record { start = start; count = count } in
    let is : made ≡ palette = cc (rule.1) in
    subst (λ palette. IsPaletteInside palette text) is (inside (length text) (start + 4 * count) rule.0)

masked_in : (b : Bool) (bits : ℕ) (masks : Masks) (text : List ℕ) → eqb bits 16 ≡ b → are_masks bits masks ≡ true → IsFormatIn (cond b (Masked16 masks) (Masked32 masks)) text
masked_in true bits masks text e are = let is : bits ≡ 16 = grind (arith, nat_tests) in ap (λ n. are_masks n masks) (sym is) ∙ are
masked_in false bits masks text e are = tt

-- masks that are read are masks
are_read : (info_size bits : ℕ) (text : List ℕ) (masks : Masks) → masks_at info_size bits text ≡ Ok masks → are_masks bits masks ≡ true
unfolding masks_at
are_read info_size bits text masks e =
    let stored = stored_masks info_size text in
    let whole = rule_ok _ Truncated (cond (are_masks bits stored) (Ok stored) (Err BadMasks)) masks e in
    kept (are_masks bits stored) stored refl whole.1 where
      kept : (b : Bool) (stored : Masks) → are_masks bits stored ≡ b → ◌≡◌ {A = Result Masks BmpFault} (cond b (Ok stored) (Err BadMasks)) (Ok masks) → are_masks bits masks ≡ true
      kept true stored are e = let is : stored ≡ masks = cc in ap (are_masks bits) (sym is) ∙ are
      kept false stored are e = cc

no_direct_palette : (a b : Bool) (text : List ℕ) → IsFormatIn (cond a Rgb555 (cond b Bgr24 Bgr32)) text
no_direct_palette true b text = tt
no_direct_palette false true text = tt
no_direct_palette false false text = tt

indexed_palette : (a b : Bool) (palette : Palette) (text : List ℕ) → IsPaletteInside palette text → IsFormatIn (cond a (Indexed1 palette) (cond b (Indexed4 palette) (Indexed8 palette))) text
indexed_palette true b palette text h = h
indexed_palette false true palette text h = h
indexed_palette false false palette text h = h

by_kind : (by_masks by_palette : Bool) (info_size bits : ℕ) (text : List ℕ) (format : Format)
    → cond by_masks (masks_at info_size bits text >>= (λ masks. Ok (masked bits masks)))
    (cond by_palette (palette_at info_size bits text >>= (λ palette. Ok (indexed bits palette))) (Ok (direct bits))) ≡ Ok format → IsFormatIn format text
by_kind true by_palette info_size bits text format e =
    let read = bind_ok (masks_at info_size bits text) (λ masks. Ok (masked bits masks)) format e in
    let is : masked bits read.0 ≡ format = cc (read.2) in
    subst (λ format. IsFormatIn format text) is (masked_in (eqb bits 16) bits read.0 text refl (are_read info_size bits text read.0 read.1))
by_kind false true info_size bits text format e =
    let read = bind_ok (palette_at info_size bits text) (λ palette. Ok (indexed bits palette)) format e in
    let is : indexed bits read.0 ≡ format = cc (read.2) in
    subst (λ format. IsFormatIn format text) is (indexed_palette (eqb bits 1) (eqb bits 4) read.0 text (palette_inside info_size bits text read.0 read.1))
by_kind false false info_size bits text format e =
    let is : direct bits ≡ format = cc in
    subst (λ format. IsFormatIn format text) is (no_direct_palette (eqb bits 16) (eqb bits 24) text)

format_palette : (info_size compression bits : ℕ) (text : List ℕ) (format : Format) → format_of info_size compression bits text ≡ Ok format → IsFormatIn format text
unfolding format_of
format_palette info_size compression bits text format e = by_kind (eqb compression 3) (leb bits 8) info_size bits text format e

-- the facts of a head that rows need
pub head_facts : (text : List ℕ) (head : Head) → ((i : ℕ) → get_or text i 0 < 256) → head_of text ≡ Ok head → HasSides head × IsFormatIn head.format text
unfolding head_of
head_facts text head bytes e =
    let one = bind_ok (info_size_at text) _ head e in
    let two = bind_ok (size_at text) _ head one.2 in
    let three = bind_ok (depth_at text) _ head two.2 in
    let four = bind_ok (format_of one.0 three.0.0 three.0.1 text) _ head three.2 in
    let is : record { width = two.0.0; height = two.0.1; order = two.0.2; format = four.0; raster_start = u32_at 10 text } ≡ head = cc (four.2) in
    let height : two.0.1 ≡ head.height = ap (λ head. head.height) is in
    let format : four.0 ≡ head.format = ap (λ head. head.format) is in
    let width : two.0.0 ≡ head.width = ap (λ head. head.width) is in
    let both = sides text two.0 bytes two.1 in
    let has : HasSides head = record { wide = (omega (arith, width, both.0.0), omega (arith, width, both.0.1)); high = (omega (arith, height, both.1.0), omega (arith, height, both.1.1)) } in
    (has, subst (λ format. IsFormatIn format text) format (format_palette one.0 three.0.0 three.0.1 text four.0 four.1))
