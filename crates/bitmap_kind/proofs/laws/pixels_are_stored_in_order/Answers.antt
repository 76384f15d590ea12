use Rattle.bitmap_kind.proofs.Packing.{length-stored, stored-append}
use Rattle.bitmap_kind.proofs.laws.pixels_are_stored_in_order.Goals as goal

pub returns : goal.returns
returns c = record { size = length-stored; order = stored-append }
