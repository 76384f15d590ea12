use Rattle.std.proofs.Common.{◌≡◌, ◌+◌, ◌*◌, ◌/◌, ◌%◌, ◌++◌, ◌∷◌, [], get_or, length, drop, ◌∙◌, ap, arith}
use Rattle.std.proofs.Math.Nat.{mod-eq_of_lt}
use Rattle.std.proofs.lemmas.Slice.{take-put_mid}
use Rattle.bitmap_kind.specs.declared.bitmaps.Config.TheVariants.{Rgb565}
use Rattle.bitmap_kind.specs.Stored.{packed, stored}
use Rattle.bitmap_kind.proofs.Packing.{stored_more}
use Rattle.bitmap_kind.proofs.pieces.pack_rgb565.Goals as goal

pub loop-x-preserved : goal.loop-x-preserved
loop-x-preserved c =
    let x = c.loop-x.x in
    let rgba = c.args.rgba.now in
    let piece : c.copy_from_slice.new.self ≡ packed Rgb565 (get_or rgba (4 * x) 0) (get_or rgba (4 * x + 1) 0) (get_or rgba (4 * x + 2) 0) (get_or rgba (4 * x + 3) 0) =
    c.copy_from_slice.ensures.after ∙ c.to_le_bytes.ensures ∙ ap (λ n. c.rgb565_word-word.result % 256 ∷ n ∷ []) (mod-eq_of_lt (omega (arith, c.rgb565_word-word.type_inv))) ∙ ap (λ n. n % 256 ∷ n / 256 ∷ []) c.rgb565_word-word.ensures in
    ap (λ l. l ++ stored Rgb565 (drop (4 * (x + 1)) rgba)) (take-put_mid (2 * x) _ c.loop-x.into c.copy_from_slice.new.self (2 * (x + 1)) (omega (arith, ap length piece)) (omega (arith, c.requires.room)))
    ∙ stored_more Rgb565 rgba _ _ x (omega (arith, c.requires.pixels)) piece c.loop-x.invariant
