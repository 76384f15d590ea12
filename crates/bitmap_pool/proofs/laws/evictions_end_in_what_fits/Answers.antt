use Rattle.bitmap_pool.proofs.Evictions.{evictions_end, no_eviction}
use Rattle.bitmap_pool.proofs.laws.evictions_end_in_what_fits.Goals as goal

pub returns-clause-ends : goal.returns-clause-ends
returns-clause-ends g c room slots groups over = evictions_end room slots groups over

pub returns-clause-stays : goal.returns-clause-stays
returns-clause-stays g c room slots groups size count = no_eviction room slots groups size count
