use Rattle.store_world.proofs.Begins.{holders_begin, holders_write}
use Rattle.store_world.proofs.laws.holders_may_call.Goals as goal

pub returns-clause-begin : goal.returns-clause-begin
returns-clause-begin c = holders_begin

pub returns-clause-write : goal.returns-clause-write
returns-clause-write c = holders_write
