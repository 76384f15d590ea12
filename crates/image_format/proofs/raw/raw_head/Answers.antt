use Rattle.std.proofs.Common.{◌≡◌, ◌-◌, length, Some, ap, ◌∙◌, arith, refl, length-drop, true, false, codes}
use Rattle.std.proofs.lemmas.Bool.{false≢true}
use Rattle.std.proofs.lemmas.Bool.Decides.{Decides-eqb}
use Rattle.std.proofs.lemmas.Slice.Eq.{starts_is}
use Rattle.bitmap_kind.specs.Picture.{Picture}
use Rattle.image_format.specs.RawForm.{IsRawSize}
use Rattle.image_format.proofs.RawTexts.{one_picture, raw_size, is_raw}
use Rattle.image_format.proofs.raw.raw_head.Goals as goal

pub returns-then-not-is_raw_size-clause-found : goal.returns-then-not-is_raw_size-clause-found
returns-then-not-is_raw_size-clause-found c picture form =
    let bytes = c.args.bytes.now in
    let no : false ≡ true = c.if-not-is_raw_size.ensures.1 (raw_size bytes picture _ _ _ (length bytes - 13) form c.in_ok-config.ensures.config c.side_at-width.ensures c.side_at-height.ensures (omega arith)) in
    absurd (false≢true no)

pub returns-clause-form : goal.returns-clause-form
returns-clause-form c =
    let bytes = c.args.bytes.now in
    let fits : IsRawSize c.in_ok-config.config c.side_at-width.result c.side_at-height.result (length bytes - 13) = c.if-not-is_raw_size.ensures.0 refl in
    record {
      size = fits.size;
      whole = length-drop 13 bytes ∙ fits.whole;
      spelled = is_raw bytes c.in_ok-config.config _ _ (λ i. (c.type_inv.bytes i).fits) (omega arith) ((starts_is Decides-eqb bytes (codes "GLR1") true c.if-not-starts_with.ensures.value).0 refl) c.in_ok-config.ensures.config c.side_at-width.ensures c.side_at-height.ensures;
    }

pub returns-clause-found : goal.returns-clause-found
returns-clause-found c picture form = ap (λ (p : Picture). Some (p.config, p.width, p.height)) (one_picture c.args.bytes.now _ picture (returns-clause-form c) form)
