use Rattle.std.proofs.Common.{◌≡◌, ◌≤◌, length}
use Rattle.cache_folder.specs.Offered.{offered}
use Rattle.cache_folder.specs.Images.{IfKnown}
use Rattle.disk_lru.specs.State.{entries, edits}
use Rattle.disk_lru.specs.inside.Evicting.{IsEvicting}
use Rattle.disk_lru.proofs.start.evict_all.Given as goal

abbrev pub invariant-over : goal.invariant-over
invariant-over g l = record {
  evicting : IfKnown l.fn.disk.past.entry (λ h. IsEvicting l.fn.disk.cache.maximum (offered h.held) l.disk);
  entry : l.disk.past.entry ≡ l.fn.disk.past.entry;
  handed : l.disk.past.handed ≡ l.fn.disk.past.handed;
  failed : l.disk.past.failed ≡ l.fn.disk.past.failed;
  maximum : l.disk.cache.maximum ≡ l.fn.disk.cache.maximum;
  edits : edits l.disk.cache ≡ edits l.fn.disk.cache;
  later : l.fn.disk.cache.faults ≤ l.disk.cache.faults;
}

abbrev pub decreases-over : goal.decreases-over
decreases-over g l = length (entries l.disk.cache)
