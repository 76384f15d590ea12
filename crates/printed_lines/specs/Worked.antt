-- A view, two pictures and a refused one, on which the texts of lines are computed where the tests are proved.
use Rattle.std.specs.Prelude.{ℕ, List, [], ◌∷◌, codes}
use Rattle.bitmap_kind.specs.Picture.{Picture}
use Rattle.bitmap_kind.specs.declared.bitmaps.Config.TheVariants.{Argb8888, Alpha8}
use Rattle.image_format.specs.declared.refusal.Refusal.{Refusal}
use Rattle.load_cause.specs.declared.causes.Cause.TheVariants.{Refused}
use Rattle.printed_lines.specs.Printed.{PrintedLine, FailedLine}

abbrev pub a : List ℕ
a = codes "a"

-- a red pixel and a blue one
abbrev pub red : Picture
red = record {
  width = 2;
  height = 1;
  config = Argb8888;
  bytes = 255 ∷ 0 ∷ 0 ∷ 255 ∷ 0 ∷ 0 ∷ 255 ∷ 255 ∷ [];
}

-- the bytes of FIPS 180-4's own example
abbrev pub abc : Picture
abc = record { width = 3; height = 1; config = Alpha8; bytes = codes "abc" }

-- the line of a view whose text was refused
abbrev pub refused : Refusal → PrintedLine
refused refusal = FailedLine a (Refused refusal)
