use Rattle.std.proofs.Common.{ap, is_ok, is_err}
use Rattle.disk_lru.specs.Calls.{use_steps}
use Rattle.disk_lru.proofs.AfterReads.{makes_from, fails_from, fails_read}
use Rattle.disk_lru.proofs.cache.OpenCache.get.Goals as goal

pub returns-in_err-use_entry-in-Ok-Some-clause-fails : goal.returns-in_err-use_entry-in-Ok-Some-clause-fails
returns-in_err-use_entry-in-Ok-Some-clause-fails g c = λ failed. fails_from c.args.key.now (use_steps c.args.key.now) c.args.self.now c.read_value.new.self c.use_entry.new.self c.read_value.ensures.same (c.use_entry.ensures.fails (ap is_err c.in_err-use_entry-in-Ok-Some.was))

pub returns-in_ok-use_entry-in-Ok-Some-clause-makes : goal.returns-in_ok-use_entry-in-Ok-Some-clause-makes
returns-in_ok-use_entry-in-Ok-Some-clause-makes g c = λ some. makes_from c.args.key.now (use_steps c.args.key.now) c.args.self.now c.read_value.new.self c.use_entry.new.self c.read_value.ensures.same (c.use_entry.ensures.makes (ap is_ok c.in_ok-use_entry-in-Ok-Some.was))

pub returns-in-Err-clause-fails : goal.returns-in-Err-clause-fails
returns-in-Err-clause-fails g c = λ failed. fails_read c.calls_keep_others.ensures c.args.key.now (use_steps c.args.key.now) c.args.self.now c.read_value.new.self c.fail.new.self c.read_value.ensures.same c.fail.ensures.forgets c.fail.ensures.files.0
