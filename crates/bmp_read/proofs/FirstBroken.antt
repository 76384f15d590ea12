-- The fault of a text is that of the first rule that it breaks.
use Rattle.std.proofs.Common.{◌≡◌, ℕ, ◌+◌, ◌-◌, ◌*◌, ◌/◌, ◌^◌, ◌||◌, ◌&&◌, not, Bool, true, false, cond, eqb, ltb, leb, List, [], ◌∷◌, ◌++◌, length, Result, Ok, Err, Some, None, refl, sym, ap, ◌∙◌, arith}
use Rattle.std.specs.declared.option.Option.{Option}
use Rattle.std.proofs.lemmas.Bool.Decides.{nat_tests}
use Rattle.bmp_read.specs.declared.fault.BmpFault.{BmpFault}
use Rattle.bmp_read.specs.declared.fault.BmpFault.TheVariants.{BadMagic, BadHeader, BadSize, Compressed, BadDepth, BadMasks, Truncated}
use Rattle.bmp_read.specs.declared.header.Head.{Head}
use Rattle.bmp_read.specs.declared.header.RowOrder.{RowOrder}
use Rattle.bmp_read.specs.declared.header.RowOrder.TheVariants.{TopFirst, BottomFirst}
use Rattle.bmp_read.specs.declared.format.Format.{Format}
use Rattle.bmp_read.specs.declared.format.Format.TheVariants.{Indexed1, Indexed4, Indexed8, Rgb555, Bgr24, Bgr32, Masked16, Masked32}
use Rattle.bmp_read.specs.declared.format.Masks.{Masks}
use Rattle.bmp_read.specs.declared.format.Palette.{Palette}
use Rattle.picture_rows.specs.Reading.{◌>>=◌, unless_fault, fault_of}
use Rattle.bmp_read.specs.Bytes.{u16_at, u32_at}
use Rattle.bmp_read.specs.Header.{begins_bm, is_info_size, is_depth, stored_masks, are_masks, palette_count, info_size_at, size_at, depth_at, masks_at, palette_at, indexed, masked, direct, format_of, head_of}
use Rattle.bmp_read.specs.Pixel.{bits_of}
use Rattle.picture_rows.specs.RowsLeft.{RowsLeft}
use Rattle.bmp_read.specs.Raster.{has_raster, last_rows}
use Rattle.bmp_read.specs.Full.{full_picture, full_picture_under, rows_under}
use Rattle.bmp_read.specs.Rules.{Rule, unsigned, raster_end, header_rules, raster_rule, rules, first_broken}
use Rattle.bmp_read.proofs.Heads.{rule_ok, bind_ok}

-- one rule in front of others
next : {A : Type 0} (broken kept : Bool) (d : BmpFault) (r : Result A BmpFault) (others : Option BmpFault) → broken ≡ not kept → fault_of r ≡ others
    → fault_of (cond broken (Err d) r) ≡ cond kept others (Some d)
next true true d r others e h = cc
next true false d r others e h = refl
next false true d r others e h = h
next false false d r others e h = cc

-- the last rule
last : {A : Type 0} (kept : Bool) (d : BmpFault) (x : A) → fault_of (cond kept (Ok x) (Err d)) ≡ first_broken (record { kept = kept; fault = d } ∷ [])
last true d x = refl
last false d x = refl

not-ltb : (n m : ℕ) → ltb n m ≡ not (leb m n)
not-ltb n m = grind (arith, nat_tests)

-- rules behind others
kept_first : (kept : Bool) (d : BmpFault) (front all back : Option BmpFault) → (front ≡ None → all ≡ back) → cond kept front (Some d) ≡ None → cond kept all (Some d) ≡ back
kept_first true d front all back h e = h e
kept_first false d front all back h e = cc

some_first : (kept : Bool) (d : BmpFault) (front all : Option BmpFault) (other : BmpFault) → (front ≡ Some other → all ≡ Some other) → cond kept front (Some d) ≡ Some other → cond kept all (Some d) ≡ Some other
some_first true d front all other h e = h e
some_first false d front all other h e = e

none_before : (front back : List Rule) → first_broken front ≡ None → first_broken (front ++ back) ≡ first_broken back
none_before [] back e = refl
none_before (rule ∷ front) back e = kept_first rule.kept rule.fault (first_broken front) (first_broken (front ++ back)) (first_broken back) (none_before front back) e

some_before : (front back : List Rule) (d : BmpFault) → first_broken front ≡ Some d → first_broken (front ++ back) ≡ Some d
some_before [] back d e = cc
some_before (rule ∷ front) back d e = some_first rule.kept rule.fault (first_broken front) (first_broken (front ++ back)) d (some_before front back d) e

bind_fault : {A B : Type 0} (r : Result A BmpFault) (f : A → Result B BmpFault) (front back : List Rule) → fault_of r ≡ first_broken front
    → ((x : A) → r ≡ Ok x → fault_of (f x) ≡ first_broken back) → fault_of (r >>= f) ≡ first_broken (front ++ back)
bind_fault (Ok x) f front back e h = h x refl ∙ sym (none_before front back (sym e))
bind_fault (Err d) f front back e h = sym (some_before front back d (sym e))

-- the headers' rules, group by group
abbrev info_rules : List ℕ → List Rule
info_rules text =
    record { kept = begins_bm text; fault = BadMagic }
    ∷ record { kept = leb 18 (length text); fault = Truncated }
    ∷ record { kept = is_info_size (u32_at 14 text); fault = BadHeader }
    ∷ record { kept = leb (14 + u32_at 14 text) (length text); fault = Truncated }
    ∷ record { kept = eqb (u16_at 26 text) 1; fault = BadHeader }
    ∷ []

info_fault : (text : List ℕ) → fault_of (info_size_at text) ≡ first_broken (info_rules text)
unfolding info_size_at
info_fault text =
    let size : ℕ = u32_at 14 text in
    let planes : Bool = eqb (u16_at 26 text) 1 in
    let five : Result ℕ BmpFault = cond (not planes) (Err BadHeader) (Ok size) in
    let four : Result ℕ BmpFault = cond (ltb (length text) (14 + size)) (Err Truncated) five in
    let three : Result ℕ BmpFault = cond (not (is_info_size size)) (Err BadHeader) four in
    let two : Result ℕ BmpFault = cond (ltb (length text) 18) (Err Truncated) three in
    next (not (begins_bm text)) (begins_bm text) BadMagic two _ refl
    (next (ltb (length text) 18) (leb 18 (length text)) Truncated three _ (not-ltb (length text) 18)
    (next (not (is_info_size size)) (is_info_size size) BadHeader four _ refl
    (next (ltb (length text) (14 + size)) (leb (14 + size) (length text)) Truncated five _ (not-ltb (length text) (14 + size))
    (next (not planes) planes BadHeader (Ok size) None refl refl))))

-- the size that is read is the first field of the info header
pub info_is : (text : List ℕ) (size : ℕ) → info_size_at text ≡ Ok size → u32_at 14 text ≡ size
unfolding info_size_at
info_is text size e =
    let stored : ℕ = u32_at 14 text in
    let five : Result ℕ BmpFault = cond (not (eqb (u16_at 26 text) 1)) (Err BadHeader) (Ok stored) in
    let four : Result ℕ BmpFault = cond (ltb (length text) (14 + stored)) (Err Truncated) five in
    let three : Result ℕ BmpFault = cond (not (is_info_size stored)) (Err BadHeader) four in
    let two : Result ℕ BmpFault = cond (ltb (length text) 18) (Err Truncated) three in
    let a = rule_ok (not (begins_bm text)) BadMagic two size e in
    let b = rule_ok (ltb (length text) 18) Truncated three size a.1 in
    let c = rule_ok (not (is_info_size stored)) BadHeader four size b.1 in
    let d = rule_ok (ltb (length text) (14 + stored)) Truncated five size c.1 in
    let f = rule_ok (not (eqb (u16_at 26 text) 1)) BadHeader (Ok stored) size d.1 in
    cc (f.1)

abbrev size_rules : List ℕ → List Rule
size_rules text =
    record { kept = ltb 0 (u32_at 18 text) && ltb (u32_at 18 text) (2 ^ 31); fault = BadSize }
    ∷ record { kept = not (eqb (u32_at 22 text) 0 || eqb (u32_at 22 text) (2 ^ 31)); fault = BadSize }
    ∷ []

both_read : {A : Type 0} (b : Bool) (x y : A) → fault_of {F = BmpFault} {A = A} (cond b (Ok x) (Ok y)) ≡ None
both_read true x y = refl
both_read false x y = refl

narrow : (n m : ℕ) → (eqb n 0 || leb m n) ≡ not (ltb 0 n && ltb n m)
narrow n m = grind (arith, nat_tests)

not_not : (b : Bool) → b ≡ not (not b)
not_not true = refl
not_not false = refl

size_fault : (text : List ℕ) → fault_of (size_at text) ≡ first_broken (size_rules text)
unfolding size_at
size_fault text =
    let width : ℕ = u32_at 18 text in
    let height : ℕ = u32_at 22 text in
    let none : Bool = eqb height 0 || eqb height (2 ^ 31) in
    let signed : Result (ℕ × ℕ × RowOrder) BmpFault = cond (ltb height (2 ^ 31)) (Ok (width, height, BottomFirst)) (Ok (width, 2 ^ 32 - height, TopFirst)) in
    next (eqb width 0 || leb (2 ^ 31) width) (ltb 0 width && ltb width (2 ^ 31)) BadSize (cond none (Err BadSize) signed) _ (narrow width (2 ^ 31))
    (next none (not none) BadSize signed None (not_not none) (both_read (ltb height (2 ^ 31)) (width, height, BottomFirst) (width, 2 ^ 32 - height, TopFirst)))

by_sign_is : (width height : ℕ) (above : Bool) (found : ℕ × ℕ × RowOrder) → cond {A = Result (ℕ × ℕ × RowOrder) BmpFault} above (Ok (width, height, BottomFirst)) (Ok (width, 2 ^ 32 - height, TopFirst)) ≡ Ok found
    → (width ≡ found.0) × (cond above height (2 ^ 32 - height) ≡ found.1)
by_sign_is width height true found e = (cc, cc)
by_sign_is width height false found e = (cc, cc)

pub size_is : (text : List ℕ) (found : ℕ × ℕ × RowOrder) → size_at text ≡ Ok found → (u32_at 18 text ≡ found.0) × (unsigned (u32_at 22 text) ≡ found.1)
unfolding size_at
size_is text found e =
    let width : ℕ = u32_at 18 text in
    let height : ℕ = u32_at 22 text in
    let signed : Result (ℕ × ℕ × RowOrder) BmpFault = cond (ltb height (2 ^ 31)) (Ok (width, height, BottomFirst)) (Ok (width, 2 ^ 32 - height, TopFirst)) in
    let first = rule_ok (eqb width 0 || leb (2 ^ 31) width) BadSize (cond (eqb height 0 || eqb height (2 ^ 31)) (Err BadSize) signed) found e in
    let second = rule_ok (eqb height 0 || eqb height (2 ^ 31)) BadSize signed found first.1 in
    by_sign_is width height (ltb height (2 ^ 31)) found second.1

abbrev depth_rules : List ℕ → List Rule
depth_rules text =
    record { kept = eqb (u32_at 30 text) 0 || eqb (u32_at 30 text) 3; fault = Compressed (u32_at 30 text) }
    ∷ record { kept = is_depth (u32_at 30 text) (u16_at 28 text); fault = BadDepth }
    ∷ []

depth_fault : (text : List ℕ) → fault_of (depth_at text) ≡ first_broken (depth_rules text)
unfolding depth_at
depth_fault text =
    let compression : ℕ = u32_at 30 text in
    let known : Bool = eqb compression 0 || eqb compression 3 in
    let right : Bool = is_depth compression (u16_at 28 text) in
    next (not known) known (Compressed compression) (cond right (Ok (compression, u16_at 28 text)) (Err BadDepth)) _ refl (last right BadDepth (compression, u16_at 28 text))

kept_is : {A : Type 0} (kept : Bool) (x y : A) (d : BmpFault) → cond kept (Ok x) (Err d) ≡ Ok y → (kept ≡ true) × (x ≡ y)
kept_is true x y d e = (refl, cc)
kept_is false x y d e = cc

pub depth_is : (text : List ℕ) (found : ℕ × ℕ) → depth_at text ≡ Ok found → (is_depth (u32_at 30 text) (u16_at 28 text) ≡ true) × ((u32_at 30 text, u16_at 28 text) ≡ found)
unfolding depth_at
depth_is text found e =
    let compression : ℕ = u32_at 30 text in
    let right : Bool = is_depth compression (u16_at 28 text) in
    let known = rule_ok (not (eqb compression 0 || eqb compression 3)) (Compressed compression) (cond right (Ok (compression, u16_at 28 text)) (Err BadDepth)) found e in
    kept_is right (compression, u16_at 28 text) found BadDepth known.1

abbrev format_rules : List ℕ → List Rule
format_rules text =
    let info_size = u32_at 14 text in
    let bits = u16_at 28 text in
    let compression = u32_at 30 text in
    record { kept = not (eqb compression 3 && eqb info_size 40) || leb 66 (length text); fault = Truncated }
    ∷ record { kept = not (eqb compression 3) || are_masks bits (stored_masks info_size text); fault = BadMasks }
    ∷ record { kept = not (leb bits 8) || leb (14 + info_size + 4 * palette_count bits (u32_at 46 text)) (length text); fault = Truncated }
    ∷ []

-- the masks' rules, or the palette's, or none
abbrev by_kind : {A B C : Type 0} → Bool → Bool → Bool → Bool → Bool → Bool → A → (A → C) → B → (B → C) → C → Result C BmpFault
by_kind with_masks behind short right small cut masks f palette g other =
    cond with_masks (cond (behind && short) (Err Truncated) (cond right (Ok masks) (Err BadMasks)) >>= (λ masks. Ok (f masks)))
    (cond small (cond cut (Err Truncated) (Ok palette) >>= (λ palette. Ok (g palette))) (Ok other))

kind_fault : {A B C : Type 0} (with_masks behind long right small inside : Bool) (masks : A) (f : A → C) (palette : B) (g : B → C) (other : C) → (with_masks ≡ true → small ≡ false)
    → fault_of (by_kind with_masks behind (not long) right small (not inside) masks f palette g other)
    ≡ first_broken (record { kept = not (with_masks && behind) || long; fault = Truncated } ∷ record { kept = not with_masks || right; fault = BadMasks } ∷ record { kept = not small || inside; fault = Truncated } ∷ [])
kind_fault true true true true true inside masks f palette g other h = cc (h refl)
kind_fault true true true true false inside masks f palette g other h = refl
kind_fault true true true false small inside masks f palette g other h = refl
kind_fault true true false right small inside masks f palette g other h = refl
kind_fault true false long true true inside masks f palette g other h = cc (h refl)
kind_fault true false long true false inside masks f palette g other h = refl
kind_fault true false long false small inside masks f palette g other h = refl
kind_fault false behind long right true true masks f palette g other h = refl
kind_fault false behind long right true false masks f palette g other h = refl
kind_fault false behind long right false inside masks f palette g other h = refl

-- with masks a pixel has 16 or 32 bits
wide : (compression bits : ℕ) → is_depth compression bits ≡ true → eqb compression 3 ≡ true → leb bits 8 ≡ false
wide compression bits depth e = grind (arith, nat_tests)

format_fault : (text : List ℕ) → is_depth (u32_at 30 text) (u16_at 28 text) ≡ true
    → fault_of (format_of (u32_at 14 text) (u32_at 30 text) (u16_at 28 text) text) ≡ first_broken (format_rules text)
unfolding format_of masks_at palette_at
format_fault text depth =
    let info_size : ℕ = u32_at 14 text in
    let bits : ℕ = u16_at 28 text in
    let compression : ℕ = u32_at 30 text in
    let count : ℕ = palette_count bits (u32_at 46 text) in
    let palette : Palette = record { start = 14 + info_size; count = count } in
    ap (λ short. fault_of (by_kind (eqb compression 3) (eqb info_size 40) short (are_masks bits (stored_masks info_size text)) (leb bits 8) (ltb (length text) (14 + info_size + 4 * count)) (stored_masks info_size text) (masked bits) palette (indexed bits) (direct bits)))
    (not-ltb (length text) 66)
    ∙ ap (λ cut. fault_of (by_kind (eqb compression 3) (eqb info_size 40) (not (leb 66 (length text))) (are_masks bits (stored_masks info_size text)) (leb bits 8) cut (stored_masks info_size text) (masked bits) palette (indexed bits) (direct bits)))
    (not-ltb (length text) (14 + info_size + 4 * count))
    ∙ kind_fault (eqb compression 3) (eqb info_size 40) (leb 66 (length text)) (are_masks bits (stored_masks info_size text)) (leb bits 8) (leb (14 + info_size + 4 * count) (length text))
    (stored_masks info_size text) (masked bits) palette (indexed bits) (direct bits) (wide compression bits depth)

-- a format has the bits that the header says
masked_bits : (bits : ℕ) (masks : Masks) (b : Bool) → eqb bits 16 ≡ b → (b ≡ false → bits ≡ 32) → bits_of (cond b (Masked16 masks) (Masked32 masks)) ≡ bits
masked_bits bits masks true e h = grind (arith, nat_tests)
masked_bits bits masks false e h = sym (h refl)

direct_bits : (bits : ℕ) (a b : Bool) → eqb bits 16 ≡ a → eqb bits 24 ≡ b → (a ≡ false → b ≡ false → bits ≡ 32) → bits_of (cond a Rgb555 (cond b Bgr24 Bgr32)) ≡ bits
direct_bits bits true b e f h = grind (arith, nat_tests)
direct_bits bits false true e f h = grind (arith, nat_tests)
direct_bits bits false false e f h = sym (h refl refl)

indexed_bits : (bits : ℕ) (palette : Palette) (a b : Bool) → eqb bits 1 ≡ a → eqb bits 4 ≡ b → (a ≡ false → b ≡ false → bits ≡ 8) → bits_of (cond a (Indexed1 palette) (cond b (Indexed4 palette) (Indexed8 palette))) ≡ bits
indexed_bits bits palette true b e f h = grind (arith, nat_tests)
indexed_bits bits palette false true e f h = grind (arith, nat_tests)
indexed_bits bits palette false false e f h = sym (h refl refl)

pub masked_depth : (compression bits : ℕ) → is_depth compression bits ≡ true → eqb compression 3 ≡ true → eqb bits 16 ≡ false → bits ≡ 32
masked_depth compression bits depth e f = grind (arith, nat_tests)

pub direct_depth : (compression bits : ℕ) → is_depth compression bits ≡ true → leb bits 8 ≡ false → eqb bits 16 ≡ false → eqb bits 24 ≡ false → bits ≡ 32
direct_depth compression bits depth e f g = grind (arith, nat_tests)

pub indexed_depth : (compression bits : ℕ) → is_depth compression bits ≡ true → leb bits 8 ≡ true → eqb bits 1 ≡ false → eqb bits 4 ≡ false → bits ≡ 8
indexed_depth compression bits depth e f g = grind (arith, nat_tests)

kind_bits : (info_size compression bits : ℕ) (text : List ℕ) (with_masks small : Bool) (format : Format) → is_depth compression bits ≡ true → eqb compression 3 ≡ with_masks → leb bits 8 ≡ small
    → cond with_masks (masks_at info_size bits text >>= (λ masks. Ok (masked bits masks))) (cond small (palette_at info_size bits text >>= (λ palette. Ok (indexed bits palette))) (Ok (direct bits))) ≡ Ok format
    → bits_of format ≡ bits
kind_bits info_size compression bits text true small format depth e f read =
    let found = bind_ok (masks_at info_size bits text) (λ masks. Ok (masked bits masks)) format read in
    let is : masked bits found.0 ≡ format = cc (found.2) in
    sym (ap bits_of is) ∙ masked_bits bits found.0 (eqb bits 16) refl (masked_depth compression bits depth e)
kind_bits info_size compression bits text false true format depth e f read =
    let found = bind_ok (palette_at info_size bits text) (λ palette. Ok (indexed bits palette)) format read in
    let is : indexed bits found.0 ≡ format = cc (found.2) in
    sym (ap bits_of is) ∙ indexed_bits bits found.0 (eqb bits 1) (eqb bits 4) refl refl (indexed_depth compression bits depth f)
kind_bits info_size compression bits text false false format depth e f read =
    let is : direct bits ≡ format = cc in
    sym (ap bits_of is) ∙ direct_bits bits (eqb bits 16) (eqb bits 24) refl refl (direct_depth compression bits depth f)

pub format_bits : (info_size compression bits : ℕ) (text : List ℕ) (format : Format) → is_depth compression bits ≡ true → format_of info_size compression bits text ≡ Ok format → bits_of format ≡ bits
unfolding format_of
format_bits info_size compression bits text format depth read = kind_bits info_size compression bits text (eqb compression 3) (leb bits 8) format depth refl refl read

-- the raster's rule
unless : {A : Type 0} (fault : Option BmpFault) (x : A) → fault_of (unless_fault fault x) ≡ fault
unless None x = refl
unless (Some d) x = refl

rows_fault : (head : Head) (rows : List (List ℕ)) (b : Bool)
    → (cond {A = RowsLeft BmpFault} b record { width = head.width; rows = rows; fault = None } record { width = head.width; rows = []; fault = Some Truncated }).fault ≡ first_broken (record { kept = b; fault = Truncated } ∷ [])
rows_fault head rows true = refl
rows_fault head rows false = refl

raster_fault : (head : Head) (text : List ℕ) → fault_of (full_picture_under head text) ≡ first_broken (record { kept = has_raster head text; fault = Truncated } ∷ [])
raster_fault head text =
    let left : RowsLeft BmpFault = rows_under head text in
    unless left.fault _ ∙ rows_fault head (last_rows head text head.height) (has_raster head text)

raster_is : (text : List ℕ) (head : Head) (width bits height : ℕ) → width ≡ head.width → bits_of head.format ≡ bits → height ≡ head.height → head.raster_start ≡ u32_at 10 text
    → has_raster head text ≡ leb (raster_end (u32_at 10 text) width bits height) (length text)
raster_is text head width bits height w b h start =
    λ i. leb (start i + (sym w i * b i + 31) / 32 * 4 * sym h i) (length text)

-- the steps of the headers
abbrev with_format : List ℕ → ℕ × ℕ × RowOrder → Format → Result Head BmpFault
with_format text size format = Ok record { width = size.0; height = size.1; order = size.2; format = format; raster_start = u32_at 10 text }

abbrev with_depth : List ℕ → ℕ → ℕ × ℕ × RowOrder → ℕ × ℕ → Result Head BmpFault
with_depth text info_size size depth = format_of info_size depth.0 depth.1 text >>= with_format text size

abbrev with_size : List ℕ → ℕ → ℕ × ℕ × RowOrder → Result Head BmpFault
with_size text info_size size = depth_at text >>= with_depth text info_size size

abbrev with_info : List ℕ → ℕ → Result Head BmpFault
with_info text info_size = size_at text >>= with_size text info_size

head_fault : (text : List ℕ) → fault_of (head_of text) ≡ first_broken (info_rules text ++ (size_rules text ++ (depth_rules text ++ (format_rules text ++ []))))
unfolding head_of
head_fault text =
    bind_fault (info_size_at text) (with_info text) (info_rules text) (size_rules text ++ (depth_rules text ++ (format_rules text ++ []))) (info_fault text)
    (λ info_size i. bind_fault (size_at text) (with_size text info_size) (size_rules text) (depth_rules text ++ (format_rules text ++ [])) (size_fault text)
    (λ size s. bind_fault (depth_at text) (with_depth text info_size size) (depth_rules text) (format_rules text ++ []) (depth_fault text)
    (λ depth d.
    let right = depth_is text depth d in
    let same : fault_of (format_of info_size depth.0 depth.1 text) ≡ fault_of (format_of (u32_at 14 text) (u32_at 30 text) (u16_at 28 text) text) =
    sym (λ k. fault_of (format_of (info_is text info_size i k) (right.1 k).0 (right.1 k).1 text)) in
    bind_fault (format_of info_size depth.0 depth.1 text) (with_format text size) (format_rules text) [] (same ∙ format_fault text right.0) (λ format f. refl))))

-- what was read in turn of a text that has a head
pub record HeadParts (text : List ℕ) (head : Head) : Type 0 where
  pub size : ℕ × ℕ × RowOrder
  pub size_read : size_at text ≡ Ok size
  pub depth : is_depth (u32_at 30 text) (u16_at 28 text) ≡ true
  pub format : Format
  pub format_read : format_of (u32_at 14 text) (u32_at 30 text) (u16_at 28 text) text ≡ Ok format
  pub is : record { width = size.0; height = size.1; order = size.2; format = format; raster_start = u32_at 10 text } ≡ head

pub head_parts : (text : List ℕ) (head : Head) → head_of text ≡ Ok head → HeadParts text head
unfolding head_of
head_parts text head e =
    let one = bind_ok (info_size_at text) (with_info text) head e in
    let two = bind_ok (size_at text) (with_size text one.0) head one.2 in
    let three = bind_ok (depth_at text) (with_depth text one.0 two.0) head two.2 in
    let four = bind_ok (format_of one.0 three.0.0 three.0.1 text) (with_format text two.0) head three.2 in
    let info = info_is text one.0 one.1 in
    let depth = depth_is text three.0 three.1 in
    record {
      size = two.0;
      size_read = two.1;
      depth = depth.0;
      format = four.0;
      format_read = (λ k. format_of (info k) (depth.1 k).0 (depth.1 k).1 text) ∙ four.1;
      is = cc (four.2);
    }

-- the raster of a head ends where its rule says
end_is : (text : List ℕ) (head : Head) → head_of text ≡ Ok head → has_raster head text ≡ leb (raster_end (u32_at 10 text) (u32_at 18 text) (u16_at 28 text) (unsigned (u32_at 22 text))) (length text)
end_is text head e =
    let parts = head_parts text head e in
    let size = size_is text parts.size parts.size_read in
    let bits : bits_of parts.format ≡ u16_at 28 text =
    format_bits (u32_at 14 text) (u32_at 30 text) (u16_at 28 text) text parts.format parts.depth parts.format_read in
    raster_is text head (u32_at 18 text) (u16_at 28 text) (unsigned (u32_at 22 text)) (size.0 ∙ ap (λ head. head.width) parts.is) (ap bits_of (sym (ap (λ head. head.format) parts.is)) ∙ bits)
    (size.1 ∙ ap (λ head. head.height) parts.is) (sym (ap (λ head. head.raster_start) parts.is))

-- the fault of a header is that of the first of its rules that is broken
pub header_first : (text : List ℕ) → fault_of (head_of text) ≡ first_broken (header_rules text)
unfolding header_rules
header_first text = head_fault text

-- A text has no picture exactly where it breaks a rule, and its fault is that of the first.
pub fault_first : (text : List ℕ) → fault_of (full_picture text) ≡ first_broken (rules text)
unfolding raster_rule
fault_first text =
    bind_fault (head_of text) (λ head. full_picture_under head text) (header_rules text) (raster_rule text ∷ []) (header_first text)
    (λ head e. raster_fault head text ∙ ap (λ inside. first_broken (record { kept = inside; fault = Truncated } ∷ [])) (end_is text head e))
