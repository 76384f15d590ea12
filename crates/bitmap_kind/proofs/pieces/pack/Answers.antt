use Rattle.std.proofs.Common.{sym, ap, ◌∙◌}
use Rattle.bitmap_kind.specs.Stored.{stored}
use Rattle.bitmap_kind.proofs.Packing.{stored-argb}
use Rattle.bitmap_kind.proofs.pieces.pack.Goals as goal

pub returns-in-Argb8888 : goal.returns-in-Argb8888
returns-in-Argb8888 c =
    c.copy_from_slice.ensures.after ∙ sym (stored-argb c.args.rgba.now c.args.count c.requires.pixels) ∙ sym (ap (λ k. stored k c.args.rgba.now) c.in-Argb8888.is)
