use Rattle.cache_key.proofs.Apart.{same_sized, sources, outcomes, kinds}
use Rattle.cache_key.proofs.laws.key_bytes_tell_apart.Goals as goal

pub returns-clause-sources : goal.returns-clause-sources
returns-clause-sources c a b is_a is_b same = sources a b is_a is_b same

pub returns-clause-outcomes : goal.returns-clause-outcomes
returns-clause-outcomes c a b is_a is_b same = outcomes a b is_a is_b same

pub returns-clause-kinds : goal.returns-clause-kinds
returns-clause-kinds c a b same = kinds a b same

pub returns-clause-sized : goal.returns-clause-sized
returns-clause-sized c a b r s small_a small_b same = same_sized a b r s small_a small_b same
