use Rattle.disk_lru.proofs.Promises.{promise_start}
use Rattle.disk_lru.proofs.disk.DiskLru.of_start.Goals as goal

pub invariant_of-result : goal.invariant_of-result
invariant_of-result g c = promise_start (g.F.Files.history c.args.before.now.value) c.args.cache c.started.result.value c.started.ensures c.requires.known c.requires.moments c.requires.list c.requires.answers
