use Rattle.std.proofs.Common.{◌+◌, ◌-◌, ◌++◌, length, take, refl, ap, ◌∙◌}
use Rattle.std.specs.Str.{bytes_eq}
use Rattle.disk_store.proofs.Fronts.{front, has_front}
use Rattle.disk_store.proofs.envelopes.is_envelope.Goals as goal

pub returns : goal.returns
returns c =
    c.eq.ensures
    ∙ ap (bytes_eq (take (length c.args.bytes.now + 12) c.args.text.now))
    (c.as_slice.ensures.value ∙ c.in_ok-add_front.ensures ∙ ap (λ l. l ++ front c.args.bytes.now (length c.args.text.now - (length c.args.bytes.now + 12))) c.in_ok-front.ensures.items)
    ∙ has_front c.args.bytes.now c.args.text.now (length c.args.text.now - (length c.args.bytes.now + 12)) refl
