use Rattle.std.proofs.Common.{refl}
use Rattle.store_world.proofs.Entries.{entry_right}
use Rattle.store_world.proofs.laws.entries_are_right.Goals as goal

pub returns-clause-right : goal.returns-clause-right
returns-clause-right c content which key payload is has =
    let law = c.key_bytes_tell_apart.ensures in
    entry_right law.sized law.sources law.outcomes law.kinds content which key payload is has

pub returns-clause-only : goal.returns-clause-only
returns-clause-only c content which key payload is right = right which key payload is refl
