use Rattle.store_world.proofs.Entries.{payload_fits, payload_only, parts_apart}
use Rattle.store_world.proofs.laws.envelopes_are_read_as_written.Goals as goal

pub returns-clause-fits : goal.returns-clause-fits
returns-clause-fits c bytes payload = payload_fits bytes payload

pub returns-clause-only : goal.returns-clause-only
returns-clause-only c bytes text payload = payload_only bytes text payload

pub returns-clause-parts : goal.returns-clause-parts
returns-clause-parts c a b p q small_a small_b same = parts_apart c.key_bytes_tell_apart.ensures.sized a b p q small_a small_b same
