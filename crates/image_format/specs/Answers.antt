-- What the calls answer and leave, in the words of the pictures.
use Rattle.std.specs.Prelude.{◌≡◌, ⊤, Ok, Err, Result}
use Rattle.bitmap_kind.specs.Picture.{Picture, BitmapValue}
use Rattle.image_format.specs.declared.refusal.Refusal.{Refusal}
use Rattle.image_format.specs.declared.decoding.DecodeFault.{DecodeFault}
use Rattle.image_format.specs.declared.decoding.DecodeFault.TheVariants as faults

-- What was decoded is this picture, or this refusal comes, unless memory is wanting.
abbrev pub Decodes : {A : Type 0} → Result Picture Refusal → Result A DecodeFault → Picture → Type 0
Decodes wanted (Ok done) picture = wanted ≡ Ok picture
Decodes wanted (Err (faults.Refused refusal)) picture = wanted ≡ Err refusal
Decodes wanted (Err faults.Memory) picture = ⊤

-- Nothing but the stored bytes has changed: number, allocation, sides, config and spare bytes stay.
abbrev pub KeepsShape : BitmapValue → BitmapValue → Type 0
KeepsShape old new = new ≡ record old { picture = record old.picture { bytes = new.picture.bytes } }
