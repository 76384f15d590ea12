-- Each text has the outcome that its grammar says.
use Rattle.std.proofs.Common.{◌≡◌, ◌⊎◌, inl, inr, ℕ, ◌<◌, true, List, ◌++◌, length, drop, Result, Ok, Err, Some, None, sym, ap, subst, ◌∙◌, arith, length-append}
use Rattle.std.proofs.Math.Seq.{drop-append_seam}
use Rattle.std.specs.List.{concat}
use Rattle.std.specs.declared.option.Option.{Option}
use Rattle.ppm_read.specs.declared.fault.PpmFault.{PpmFault}
use Rattle.ppm_read.specs.declared.header.Format.{Format}
use Rattle.ppm_read.specs.declared.header.Format.TheVariants.{Plain, Raw}
use Rattle.ppm_read.specs.declared.header.Head.{Head}
use Rattle.picture_rows.specs.Reading.{◌>>=◌, unless_fault}
use Rattle.ppm_read.specs.Header.{head_of}
use Rattle.ppm_read.specs.Raster.{channel_count, samples_at, rows_of}
use Rattle.ppm_read.specs.Full.{rows_under, full_picture_under, full_picture}
use Rattle.ppm_read.specs.Breaking.{BeginsSamples, sample_count, HeaderBreaks, Breaks, HasHeader, no_magic, in_width, in_height, no_size, in_maximum, no_maximum, no_end, in_header, in_raster}
use Rattle.ppm_read.proofs.Chains.{bind_err, bind_fails}
use Rattle.ppm_read.proofs.Headers.{header_front, header_spelled, placed, BeginsRaster}
use Rattle.ppm_read.proofs.HeaderFaults.{head_err, magic_fails, width_fails, height_fails, size_breaks, maximum_fails, maximum_breaks, end_fails}
use Rattle.ppm_read.proofs.Parts.{goes_stops, stops_goes}
use Rattle.ppm_read.proofs.RasterFaults.{fault_of, rows_fault, samples_err, samples_break}
use Rattle.ppm_read.proofs.Rasters.{row_count, some_product}
use Rattle.ppm_read.proofs.Spelled.{raster_at_start, channels_some}

begins_raster : (f : Format) (rest : List ℕ) → BeginsSamples f rest → BeginsRaster f rest
begins_raster Plain rest goes = let stops = goes_stops rest goes in record { stops = stops.0; whole = stops.1 }
begins_raster Raw rest goes = tt

begins_samples : (f : Format) (rest : List ℕ) → BeginsRaster f rest → BeginsSamples f rest
begins_samples Plain rest starts = stops_goes rest starts.stops starts.whole
begins_samples Raw rest starts = tt

-- a raster that is not read
unless_err : {A : Type 0} (o : Option PpmFault) (x : A) (d : PpmFault) → unless_fault o x ≡ Err d → o ≡ Some d
unless_err None x d e = cc
unless_err (Some c) x d e = cc

fault_err : (r : Result (List ℕ × List ℕ) PpmFault) (d : PpmFault) → fault_of r ≡ Some d → r ≡ Err d
fault_err (Ok x) d e = cc
fault_err (Err c) d e = cc

raster_err : (text : List ℕ) (f : PpmFault) (head : Head) → head_of text ≡ Ok head → full_picture_under head text ≡ Err f → Breaks text f
raster_err text f head is e =
    let front = header_front text head is in
    let back : drop head.raster_start text ≡ front.rest = raster_at_start text front.header front.rest head.raster_start front.spelled front.start in
    let some : 0 < row_count head = some_product (channel_count head.channels) head.width (channels_some head.channels) front.is_header.wide in
    let fault : (rows_of head head.height front.rest).fault ≡ Some f = ap (λ t. (rows_of head head.height t).fault) (sym back) ∙ unless_err (rows_under head text).fault _ f e in
    let read = fault_err (samples_at head.format head.maximum true (sample_count head) front.rest) f (sym (rows_fault head head.height front.rest some) ∙ fault) in
    let broken = samples_err head.format head.maximum true (sample_count head) front.rest f read in
    in_raster f head broken.samples front.header broken.bytes broken.rest front.is_header
    (subst (BeginsSamples head.format) broken.spelled (begins_samples head.format front.rest front.begins))
    broken.are broken.few broken.may (front.spelled ∙ ap (λ l. front.header ++ l) broken.spelled) broken.breaks

-- what is wrong with a text that has no picture
pub breaks_from_read : (text : List ℕ) (f : PpmFault) → full_picture text ≡ Err f → Breaks text f
breaks_from_read text f e = by (bind_err (head_of text) (λ head. full_picture_under head text) f e) where
  by : (head_of text ≡ Err f) ⊎ ((head : Head) × (head_of text ≡ Ok head) × (full_picture_under head text ≡ Err f)) → Breaks text f
  by (inl e) = in_header f (head_err text f e)
  by (inr (head, is, e)) = raster_err text f head is e

-- a text that breaks a rule has no picture
raster_fails : (text : List ℕ) (f : PpmFault) (head : Head) (header rest : List ℕ) → text ≡ header ++ rest → head_of (header ++ rest) ≡ Ok (placed head header) → 0 < row_count head
    → samples_at head.format head.maximum true (sample_count head) rest ≡ Err f → full_picture text ≡ Err f
raster_fails text f head header rest spelled read some broken =
    let there : Head = placed head header in
    let fault : (rows_of there there.height rest).fault ≡ Some f = rows_fault there there.height rest some ∙ ap fault_of broken in
    ap full_picture spelled
    ∙ ap (λ r. r >>= (λ head. full_picture_under head (header ++ rest))) read
    ∙ ap (λ t. unless_fault (rows_of there there.height t).fault record { width = there.width; height = there.height; pixels = concat (rows_of there there.height t).rows }) (drop-append_seam header rest)
    ∙ ap (λ o. unless_fault o record { width = there.width; height = there.height; pixels = concat (rows_of there there.height rest).rows }) fault

from_head : (text : List ℕ) (f : PpmFault) → head_of text ≡ Err f → full_picture text ≡ Err f
from_head text f e = bind_fails (head_of text) (λ head. full_picture_under head text) f e

pub header_fails : (text : List ℕ) (f : PpmFault) → HeaderBreaks text f → head_of text ≡ Err f
header_fails text f (no_magic none) = magic_fails text none
header_fails text f (in_width g kind rest has breaks) = width_fails text g kind rest has breaks
header_fails text f (in_height g kind w rest has breaks) = height_fails text g kind w rest has breaks
header_fails text f (no_size kind w h rest has none) = size_breaks text kind w h rest has none
header_fails text f (in_maximum g kind w h rest has wide high breaks) = maximum_fails text g kind w h rest has wide high breaks
header_fails text f (no_maximum kind m rest has wrong) = maximum_breaks text kind m rest has wrong
header_fails text f (no_end channels m rest has low most none) = end_fails text channels m rest has low most none

pub read_from_breaks : (text : List ℕ) (f : PpmFault) → Breaks text f → full_picture text ≡ Err f
read_from_breaks text f (in_header g breaks) = from_head text g (header_fails text g breaks)
read_from_breaks text f (in_raster g head samples header raster rest is begins are few may spelled breaks) =
    let some : 0 < row_count head = some_product (channel_count head.channels) head.width (channels_some head.channels) is.wide in
    raster_fails text g head header (raster ++ rest) spelled (header_spelled head header (raster ++ rest) is (begins_raster head.format (raster ++ rest) begins)) some
    (samples_break head.format head.maximum true (sample_count head) samples raster rest g are few may breaks)

-- the header that a text begins with
pub header_from_read : (text : List ℕ) (head : Head) → head_of text ≡ Ok head → HasHeader text head
header_from_read text head e =
    let front = header_front text head e in
    record {
      header = front.header;
      rest = front.rest;
      is_header = front.is_header;
      begins = begins_samples head.format front.rest front.begins;
      spelled = front.spelled;
      start = omega (arith, front.start, ap length front.spelled, length-append front.header front.rest);
    }

pub read_from_header : (text : List ℕ) (head : Head) → HasHeader text head → head_of text ≡ Ok head
read_from_header text head has =
    ap head_of has.spelled ∙ header_spelled head has.header has.rest has.is_header (begins_raster head.format has.rest has.begins)
    ∙ ap (λ n. Ok (record head { raster_start = n })) (sym has.start)
