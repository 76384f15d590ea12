-- The rules of Windows bitmaps in one list, each for itself and in the order in which they are tried.
-- Which they are comes from the BMP headers of Windows; their names and their order are this project's
-- own.
use Rattle.std.specs.Prelude.{ℕ, ◌+◌, ◌-◌, ◌*◌, ◌/◌, ◌^◌, Bool, not, ◌&&◌, ◌||◌, ◌==◌, nat_le, nat_lt, List, [], ◌∷◌, ◌++◌, length, if◌then◌else◌, Some, None}
use Rattle.std.specs.declared.option.Option.{Option}
use Rattle.bmp_read.specs.declared.fault.BmpFault.{BmpFault}
use Rattle.bmp_read.specs.declared.fault.BmpFault.TheVariants.{BadMagic, BadHeader, BadSize, Compressed, BadDepth, BadMasks, Truncated}
use Rattle.bmp_read.specs.Bytes.{u16_at, u32_at}
use Rattle.bmp_read.specs.Header.{begins_bm, is_info_size, side_limit, is_depth, stored_masks, are_masks, palette_count}

-- whether a text keeps the rule, and the fault of one that does not
pub record Rule : Type 0 where
  pub kept : Bool
  pub fault : BmpFault

abbrev pub rule : Bool → BmpFault → Rule
rule kept fault = record { kept = kept; fault = fault }

-- a signed number of 32 bits without its sign
abbrev pub unsigned : ℕ → ℕ
unsigned n = if nat_lt n side_limit then n else 2 ^ 32 - n

-- where the raster ends: it has so many rows of a multiple of four bytes
abbrev pub raster_end : ℕ → ℕ → ℕ → ℕ → ℕ
raster_end start width bits height = start + (width * bits + 31) / 32 * 4 * height

-- the rules of the headers, from the fields at their places
unfoldable pub header_rules : List ℕ → List Rule
header_rules text =
    let info_size = u32_at 14 text in
    let width = u32_at 18 text in
    let height = u32_at 22 text in
    let bits = u16_at 28 text in
    let compression = u32_at 30 text in
    let palette = palette_count bits (u32_at 46 text) in
    rule (begins_bm text) BadMagic
    ∷ rule (nat_le 18 (length text)) Truncated
    ∷ rule (is_info_size info_size) BadHeader
    ∷ rule (nat_le (14 + info_size) (length text)) Truncated
    ∷ rule (u16_at 26 text == 1) BadHeader
    ∷ rule (nat_lt 0 width && nat_lt width side_limit) BadSize
    ∷ rule (not (height == 0 || height == side_limit)) BadSize
    ∷ rule (compression == 0 || compression == 3) (Compressed compression)
    ∷ rule (is_depth compression bits) BadDepth
    ∷ rule (not (compression == 3 && info_size == 40) || nat_le 66 (length text)) Truncated
    ∷ rule (not (compression == 3) || are_masks bits (stored_masks info_size text)) BadMasks
    ∷ rule (not (nat_le bits 8) || nat_le (14 + info_size + 4 * palette) (length text)) Truncated
    ∷ []

-- the raster's rule: it lies inside the text
unfoldable pub raster_rule : List ℕ → Rule
raster_rule text =
    let end = raster_end (u32_at 10 text) (u32_at 18 text) (u16_at 28 text) (unsigned (u32_at 22 text)) in
    rule (nat_le end (length text)) Truncated

-- all rules: those of the headers stand before the raster's
abbrev pub rules : List ℕ → List Rule
rules text = header_rules text ++ raster_rule text ∷ []

-- the fault of the first rule that is broken, if one is
abbrev pub first_broken : List Rule → Option BmpFault
first_broken [] = None
first_broken (rule ∷ others) = if rule.kept then first_broken others else Some rule.fault
