use Rattle.disk_store.proofs.disk.evict_and_begin.Goals as goal

pub begin-requires : goal.begin-requires
begin-requires g c = c.requires c.in_ok-evict_all.ensures.0 c.evict_all.new.disk c.in_ok-evict_all.ensures.1
