-- A raw row, as its definition has it.
use Rattle.std.proofs.Common.{◌≡◌, ℕ, ◌*◌, ◌<◌, ◌≤◌, Bool, true, false, leb, ltb, List, length, take, drop, map, min, Result, Ok, Err, refl, sym, ap, ◌∙◌, arith}
use borrow.Author.Tests.{le-leb, lt-leb}
use Rattle.std.specs.List.{list_any}
use Rattle.std.proofs.lemmas.List.{take_min, drop_min, length-take}
use Rattle.ppm_read.specs.declared.fault.PpmFault.{PpmFault}
use Rattle.ppm_read.specs.declared.fault.PpmFault.TheVariants.{SampleAbove, Truncated}
use Rattle.ppm_read.specs.declared.header.Format.{Format}
use Rattle.ppm_read.specs.declared.header.Format.TheVariants.{Raw}
use Rattle.ppm_read.specs.declared.header.Head.{Head}
use Rattle.picture_rows.specs.Reading.{◌>>=◌}
use Rattle.picture_rows.specs.PixelBytes.{scaled}
use Rattle.ppm_read.specs.Raster.{samples_at, channel_count, rgba, pixels_at, row_at}
use Rattle.ppm_read.specs.Raw.{sample_length, raw_samples}
use Rattle.ppm_read.proofs.RawSamples.{outcome, all_at, samples_at-raw, length-raw_samples}

-- samples as pixels
abbrev as_pixels : Head → Result (List ℕ × List ℕ) PpmFault → Result (List ℕ × List ℕ) PpmFault
as_pixels head read = read >>= (λ samples. Ok (rgba head.channels (map (scaled head.maximum) samples.0), samples.1))

-- the samples and the bytes of a row
abbrev pub row_samples : Head → ℕ
row_samples head = channel_count head.channels * head.width

abbrev pub row_length : Head → ℕ
row_length head = sample_length head.maximum * row_samples head

row_at-raw : (head : Head) (last : Bool) (text : List ℕ) → head.format ≡ Raw → row_at head last text ≡ as_pixels head (all_at head.maximum (row_samples head) text)
unfolding pixels_at
row_at-raw head last text is =
    ap (λ (f : Format). as_pixels head (samples_at f head.maximum last (row_samples head) text)) is ∙ ap (as_pixels head) (samples_at-raw head.maximum last (row_samples head) text)

-- what the code knows of a row that it has split off
pub record IsFront (head : Head) (text row : List ℕ) : Type 0 where
  pub front : row ≡ take (row_length head) text
  pub size : length row ≡ min (row_length head) (length text)

-- how many bytes the code wants
pub wanted_is : (head : Head) (a b : ℕ) → a ≡ sample_length head.maximum → b ≡ channel_count head.channels → a * (b * head.width) ≡ row_length head
wanted_is head a b e f = λ i. e i * (f i * head.width)

pub front_of : (head : Head) (text row : List ℕ) (a b n : ℕ) → a ≡ sample_length head.maximum → b ≡ channel_count head.channels → n ≡ min (a * (b * head.width)) (length text) → row ≡ take n text → IsFront head text row
front_of head text row a b n e f least split =
    let whole : row ≡ take (row_length head) text = split ∙ ap (λ k. take k text) least ∙ take_min (a * (b * head.width)) text ∙ ap (λ k. take k text) (wanted_is head a b e f) in
    record { front = whole; size = ap length whole ∙ length-take (row_length head) text }

settled : (head : Head) (last : Bool) (text row : List ℕ) (any fits : Bool) → head.format ≡ Raw → IsFront head text row → any ≡ list_any (ltb head.maximum) (raw_samples head.maximum row) → leb (row_length head) (length text) ≡ fits
    → row_at head last text ≡ as_pixels head (outcome any fits (raw_samples head.maximum row) (drop (row_length head) text))
settled head last text row any fits is row_is e f =
    let above : list_any (ltb head.maximum) (raw_samples head.maximum (take (row_length head) text)) ≡ any =
    sym (e ∙ ap (λ r. list_any (ltb head.maximum) (raw_samples head.maximum r)) row_is.front) in
    row_at-raw head last text is ∙ (λ i. as_pixels head (outcome (above i) (f i) (raw_samples head.maximum (sym row_is.front i)) (drop (row_length head) text)))

pub raw_above : (head : Head) (last : Bool) (text row : List ℕ) (any : Bool) → head.format ≡ Raw → IsFront head text row → any ≡ list_any (ltb head.maximum) (raw_samples head.maximum row) → any ≡ true → row_at head last text ≡ Err SampleAbove
raw_above head last text row any is row_is e found = settled head last text row true (leb (row_length head) (length text)) is row_is (sym found ∙ e) refl

pub raw_short : (head : Head) (last : Bool) (text row : List ℕ) (any : Bool) → head.format ≡ Raw → IsFront head text row → any ≡ list_any (ltb head.maximum) (raw_samples head.maximum row) → any ≡ false → length row < row_length head
    → row_at head last text ≡ Err Truncated
raw_short head last text row any is row_is e none lt =
    settled head last text row false false is row_is (sym none ∙ e) (lt-leb (row_length head) (length text) (omega (arith, row_is.size)))

pub raw_whole : (head : Head) (last : Bool) (text row into rest : List ℕ) (any : Bool) (a b n : ℕ) → head.format ≡ Raw → IsFront head text row → any ≡ list_any (ltb head.maximum) (raw_samples head.maximum row) → any ≡ false
    → a ≡ sample_length head.maximum → b ≡ channel_count head.channels → n ≡ min (a * (b * head.width)) (length text) → row_length head ≤ length row
    → into ≡ rgba head.channels (map (scaled head.maximum) (raw_samples head.maximum row)) → rest ≡ drop n text → row_at head last text ≡ Ok (into, rest)
raw_whole head last text row into rest any a b n is row_is e none f g least le written back =
    let whole : rest ≡ drop (row_length head) text = back ∙ ap (λ k. drop k text) least ∙ drop_min (a * (b * head.width)) text ∙ ap (λ k. drop k text) (wanted_is head a b f g) in
    settled head last text row false true is row_is (sym none ∙ e) (le-leb (row_length head) (length text) (omega (arith, row_is.size)))
    ∙ sym (λ i. Ok (written i, whole i))

-- how many samples a whole row has
pub samples_whole : (head : Head) (text row : List ℕ) → IsFront head text row → row_length head ≤ length row → length (raw_samples head.maximum row) ≡ row_samples head
samples_whole head text row row_is le = length-raw_samples head.maximum (row_samples head) row (omega (arith, row_is.size))
