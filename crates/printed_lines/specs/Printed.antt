-- The lines that a run prints, and their texts. They are this project's own; docs/SCRIPT.md has them in a table.
use Rattle.std.specs.Prelude.{ℕ, Bool, true, false, List, [], ◌∷◌, ◌++◌, Some, None, codes}
use Rattle.std.specs.declared.option.Option.{Option}
use Rattle.std.specs.Fmt.{decimal}
use Rattle.hex.specs.Hex.{encode_lower}
use Rattle.sha2.specs.Sha256.{sha256}
use Rattle.bitmap_kind.specs.declared.bitmaps.Config.{Config}
use Rattle.bitmap_kind.specs.declared.bitmaps.Config.TheVariants.{Argb8888, Rgb565, Alpha8}
use Rattle.bitmap_kind.specs.Picture.{Picture}
use Rattle.ppm_read.specs.declared.fault.PpmFault.{PpmFault}
use Rattle.ppm_read.specs.declared.fault.PpmFault.TheVariants as ppm_faults
use Rattle.bmp_read.specs.declared.fault.BmpFault.{BmpFault}
use Rattle.bmp_read.specs.declared.fault.BmpFault.TheVariants as bmp_faults
use Rattle.image_format.specs.declared.refusal.Refusal.{Refusal}
use Rattle.image_format.specs.declared.refusal.Refusal.TheVariants as refusals
use Rattle.load_cause.specs.declared.causes.Cause.{Cause}
use Rattle.load_cause.specs.declared.causes.Cause.TheVariants as causes
use Rattle.printed_lines.specs.declared.lines.ShownPicture.{ShownPicture}
use Rattle.printed_lines.specs.declared.words.PlainState.{PlainState}
use Rattle.printed_lines.specs.declared.words.PlainState.TheVariants.{Failed, Waiting, Paused, Cleared}

-- A printed line says of a view one of these things.
pub data PrintedLine : Type 0 where
  PixelsLine : (view : List ℕ) (picture : Picture) → PrintedLine
  ShownLine : (view : List ℕ) (picture : Picture) → PrintedLine
  FailedLine : (view : List ℕ) (cause : Cause) → PrintedLine
  WaitingLine : (view : List ℕ) → PrintedLine
  PausedLine : (view : List ℕ) → PrintedLine
  ClearedLine : (view : List ℕ) → PrintedLine

-- ---- why a view failed

-- why a text has no picture, in the words of the Netpbm reader's faults
abbrev pub ppm_text : PpmFault → List ℕ
ppm_text ppm_faults.BadMagic = codes "unknown"
ppm_text ppm_faults.BadNumber = codes "bad-number"
ppm_text ppm_faults.BadSize = codes "bad-size"
ppm_text ppm_faults.BadMaximum = codes "bad-maximum"
ppm_text ppm_faults.SampleAbove = codes "sample-above"
ppm_text ppm_faults.Truncated = codes "truncated"

-- and in those of the reader of Windows bitmaps
abbrev pub bmp_text : BmpFault → List ℕ
bmp_text bmp_faults.BadMagic = codes "unknown"
bmp_text bmp_faults.BadHeader = codes "bad-header"
bmp_text bmp_faults.BadSize = codes "bad-size"
bmp_text (bmp_faults.Compressed number) = codes "compressed " ++ decimal number
bmp_text bmp_faults.BadDepth = codes "bad-depth"
bmp_text bmp_faults.BadMasks = codes "bad-masks"
bmp_text bmp_faults.Truncated = codes "truncated"

-- faults of the two readers with one name have one word
abbrev pub refusal_text : Refusal → List ℕ
refusal_text refusals.Unknown = codes "unknown"
refusal_text (refusals.Ppm fault) = ppm_text fault
refusal_text (refusals.Bmp fault) = bmp_text fault
refusal_text refusals.TooLarge = codes "too-large"

abbrev pub cause_text : Cause → List ℕ
cause_text causes.Missing = codes "missing"
cause_text (causes.Refused refusal) = codes "refused " ++ refusal_text refusal
cause_text causes.Source = codes "source"
cause_text causes.Memory = codes "memory"
cause_text causes.Uncached = codes "uncached"

-- ---- pictures

-- a config as a script's word
abbrev pub config_word : Config → List ℕ
config_word Argb8888 = codes "argb"
config_word Rgb565 = codes "rgb565"
config_word Alpha8 = codes "alpha"

-- what a `shown` line says of a picture: its size in pixels, its config, and the SHA-256 (FIPS 180-4) of its
-- stored bytes
abbrev pub shown_of : Picture → ShownPicture
shown_of picture = record {
  width = picture.width;
  height = picture.height;
  config = picture.config;
  digest = sha256 picture.bytes;
}

-- `shown W H CONFIG `
abbrev pub shown_words : ShownPicture → List ℕ
shown_words shown =
    codes "shown " ++ decimal shown.width ++ 32 ∷ decimal shown.height
    ++ 32 ∷ config_word shown.config ++ 32 ∷ []

-- ---- a line

-- the view that a line is of
abbrev pub line_view : PrintedLine → List ℕ
line_view (PixelsLine view picture) = view
line_view (ShownLine view picture) = view
line_view (FailedLine view cause) = view
line_view (WaitingLine view) = view
line_view (PausedLine view) = view
line_view (ClearedLine view) = view

-- what a line says of it, before the hex of a picture
abbrev pub line_words : PrintedLine → List ℕ
line_words (PixelsLine view picture) = codes "pixels "
line_words (ShownLine view picture) = shown_words (shown_of picture)
line_words (FailedLine view cause) = codes "failed " ++ cause_text cause
line_words (WaitingLine view) = codes "waiting"
line_words (PausedLine view) = codes "paused"
line_words (ClearedLine view) = codes "cleared"

-- the bytes whose hex it says: those that are stored, or their digest
abbrev pub line_bytes : PrintedLine → List ℕ
line_bytes (PixelsLine view picture) = picture.bytes
line_bytes (ShownLine view picture) = (shown_of picture).digest
line_bytes line = []

-- a whole line: the view's name, what is said of it, hex in lower case, and a line feed
abbrev pub line_text : PrintedLine → List ℕ
line_text line = line_view line ++ 32 ∷ line_words line ++ encode_lower (line_bytes line) ++ 10 ∷ []

abbrev pub lines_text : List PrintedLine → List ℕ
lines_text [] = []
lines_text (line ∷ lines) = line_text line ++ lines_text lines

-- the line that names a bad line of the script
abbrev pub bad_line_text : ℕ → List ℕ
bad_line_text number = codes "glide: bad script line " ++ decimal number ++ 10 ∷ []

-- the lines of views, and then the number of the script's line that is bad, if one is
abbrev pub run_text : List PrintedLine → Option ℕ → List ℕ
run_text lines None = lines_text lines
run_text lines (Some number) = lines_text lines ++ bad_line_text number

-- ---- lines by what they are printed from

-- the line of a view in a state in which it shows no picture
abbrev pub plain_line : List ℕ → PlainState → PrintedLine
plain_line view (Failed cause) = FailedLine view cause
plain_line view Waiting = WaitingLine view
plain_line view Paused = PausedLine view
plain_line view Cleared = ClearedLine view

-- the `shown` line that says this
abbrev pub shown_text : List ℕ → ShownPicture → List ℕ
shown_text view shown = view ++ 32 ∷ shown_words shown ++ encode_lower shown.digest ++ 10 ∷ []

-- what stands before the hex of a `pixels` line
abbrev pub pixels_start : List ℕ → List ℕ
pixels_start view = view ++ codes " pixels "

-- ---- failures

-- a line `VIEW failed ..`
abbrev pub says_failed : PrintedLine → Bool
says_failed (FailedLine view cause) = true
says_failed line = false

-- a line `VIEW failed source`
abbrev pub says_failed_source : PrintedLine → Bool
says_failed_source (FailedLine view causes.Source) = true
says_failed_source line = false
