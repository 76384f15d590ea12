-- A picture that is read is spelled, and one that is spelled is read.
use Rattle.std.proofs.Common.{◌≡◌, ℕ, ◌-◌, ◌*◌, ◌<◌, ◌&&◌, Bool, true, false, eqb, List, ◌++◌, length, drop, Ok, Some, None, refl, sym, ap, ◌∙◌, arith, mul_assoc}
use Rattle.std.proofs.Math.Seq.{drop-append_seam}
use Rattle.std.proofs.lemmas.List.{length-append}
use Rattle.std.specs.List.{concat}
use Rattle.std.specs.declared.option.Option.{Option}
use Rattle.ppm_read.specs.declared.fault.PpmFault.{PpmFault}
use Rattle.ppm_read.specs.declared.header.Channels.{Channels}
use Rattle.ppm_read.specs.declared.header.Channels.TheVariants.{Grey, Colour}
use Rattle.ppm_read.specs.declared.header.Format.{Format}
use Rattle.ppm_read.specs.declared.header.Format.TheVariants.{Plain, Raw}
use Rattle.ppm_read.specs.declared.header.Head.{Head}
use Rattle.picture_rows.specs.Reading.{◌>>=◌, unless_fault}
use Rattle.ppm_read.specs.Header.{head_of}
use Rattle.ppm_read.specs.Raster.{channel_count, rows_of}
use Rattle.picture_rows.specs.FullPicture.{FullPicture}
use Rattle.ppm_read.specs.Full.{rows_under, full_picture_under, full_picture}
use Rattle.ppm_read.specs.Spelling.{AreSamples, MayFollow, IsSpelled}
use Rattle.ppm_read.proofs.Chains.{bind_ok, inside}
use Rattle.ppm_read.proofs.Headers.{header_front, header_spelled, placed, BeginsRaster, starts_gap, starts_white}
use Rattle.ppm_read.proofs.Rasters.{Ends, row_count, rows_front, rows_spelled, samples_first, some_product}

unless_ok : {A : Type 0} (o : Option PpmFault) (x y : A) → unless_fault o x ≡ Ok y → (o ≡ None) × (x ≡ y)
unless_ok None x y e = (refl, inside x y e)
unless_ok (Some d) x y e = cc

-- where the raster is
pub raster_at_start : (text header rest : List ℕ) (start : ℕ) → text ≡ header ++ rest → start ≡ length text - length rest → drop start text ≡ rest
raster_at_start text header rest start spelled e =
    let place : start ≡ length header = omega (arith, ap length spelled, length-append header rest) in
    (λ i. drop (place i) (spelled i)) ∙ drop-append_seam header rest

pub channels_some : (channels : Channels) → 0 < channel_count channels
channels_some Grey = omega arith
channels_some Colour = omega arith

follows_of : (f : Format) (rest : List ℕ) → Ends f true rest → MayFollow f rest
follows_of Plain rest ends = ends.0
follows_of Raw rest ends = tt

ends_of : (f : Format) (rest : List ℕ) → MayFollow f rest → Ends f true rest
ends_of Plain rest follows = (follows, and_false (eqb (length rest) 0)) where
  and_false : (b : Bool) → (b && false) ≡ false
  and_false true = refl
  and_false false = refl
ends_of Raw rest follows = tt

begins_raster : (f : Format) (m : ℕ) (s bytes rest : List ℕ) → 0 < length s → AreSamples f m s bytes → BeginsRaster f (bytes ++ rest)
begins_raster Plain m s bytes rest lt are = starts_gap (bytes ++ rest) (starts_white (bytes ++ rest) (samples_first m s bytes rest lt are))
begins_raster Raw m s bytes rest lt are = tt

-- a picture that is read
pub spelled_from_read : (text : List ℕ) (picture : FullPicture) → full_picture text ≡ Ok picture → IsSpelled picture text
spelled_from_read text picture e =
    let read = bind_ok (head_of text) (λ head. full_picture_under head text) picture e in
    let head : Head = read.0 in
    let front = header_front text head read.1 in
    let back : drop head.raster_start text ≡ front.rest = raster_at_start text front.header front.rest head.raster_start front.spelled front.start in
    let whole = unless_ok (rows_under head text).fault _ picture read.2 in
    let fine = ap (λ t. (rows_of head head.height t).fault) (sym back) ∙ whole.0 in
    let rows = rows_front head head.height front.rest fine in
    let some : 0 < row_count head = some_product (channel_count head.channels) head.width (channels_some head.channels) front.is_header.wide in
    record {
      head = head;
      samples = rows.samples;
      header = front.header;
      raster = rows.bytes;
      rest = rows.rest;
      is_header = front.is_header;
      are_samples = rows.are;
      count = rows.count ∙ mul_assoc (channel_count head.channels) head.width head.height;
      follows = follows_of head.format rows.rest (rows.ends some front.is_header.high);
      spelled = front.spelled ∙ ap (λ l. front.header ++ l) rows.spelled;
      width = sym (ap (λ (p : FullPicture). p.width) whole.1);
      height = sym (ap (λ (p : FullPicture). p.height) whole.1);
      pixels = sym (ap (λ (p : FullPicture). p.pixels) whole.1) ∙ ap (λ t. concat (rows_of head head.height t).rows) back ∙ rows.pixels;
    }

-- a picture that is spelled
pub read_from_spelled : (text : List ℕ) (picture : FullPicture) → IsSpelled picture text → full_picture text ≡ Ok picture
read_from_spelled text picture is =
    let head : Head = placed is.head is.header in
    let back : List ℕ = is.raster ++ is.rest in
    let some : 0 < row_count head = some_product (channel_count head.channels) head.width (channels_some head.channels) is.is_header.wide in
    let count : length is.samples ≡ row_count head * head.height = is.count ∙ sym (mul_assoc (channel_count head.channels) head.width head.height) in
    let any : 0 < length is.samples = omega (arith, count, some_product (row_count head) head.height some is.is_header.high) in
    let read = header_spelled is.head is.header back is.is_header (begins_raster is.head.format is.head.maximum is.samples is.raster is.rest any is.are_samples) in
    let rows = rows_spelled head head.height is.samples is.raster is.rest some is.are_samples count (ends_of is.head.format is.rest is.follows) in
    ap full_picture is.spelled
    ∙ ap (λ r. r >>= (λ head. full_picture_under head (is.header ++ back))) read
    ∙ ap (λ t. unless_fault (rows_of head head.height t).fault record { width = head.width; height = head.height; pixels = concat (rows_of head head.height t).rows }) (drop-append_seam is.header back)
    ∙ (λ i. unless_fault (rows.fine i) record { width = sym is.width i; height = sym is.height i; pixels = (rows.pixels ∙ sym is.pixels) i })
