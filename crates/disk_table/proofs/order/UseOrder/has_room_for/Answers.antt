use Rattle.std.proofs.Common.{◌≤◌, ◌<◌, sym, ap, ◌∙◌, arith, length}
use Rattle.std.specs.Prelude.{is_some}
use Rattle.std.proofs.lemmas.Bool.{lt-ltb}
use Rattle.disk_table.proofs.Entries.{fits_few, fits_full}
use Rattle.disk_table.proofs.order.UseOrder.has_room_for.Goals as goal

pub returns-then-len-lt-MOST_KEYS-clause-room : goal.returns-then-len-lt-MOST_KEYS-clause-room
returns-then-len-lt-MOST_KEYS-clause-room c = λ clean.
    let few : length c.args.self.now < 16400 = omega (arith, c.len.ensures.len, c.if-len-lt-MOST_KEYS.true) in
    lt-ltb _ _ c.if-len-lt-MOST_KEYS.true ∙ sym (fits_few c.args.key.now clean c.args.self.now 16400 few)

pub returns-else-len-lt-MOST_KEYS-clause-room : goal.returns-else-len-lt-MOST_KEYS-clause-room
returns-else-len-lt-MOST_KEYS-clause-room c = λ clean.
    let many : 16400 ≤ length c.args.self.now = omega (arith, c.len.ensures.len, c.if-len-lt-MOST_KEYS.false) in
    c.is_some.ensures ∙ ap is_some c.find.ensures ∙ sym (fits_full c.args.key.now clean c.args.self.now 16400 c.len.ensures.few many)
