use Rattle.script_walk.proofs.BadCommands.{stops_at_bad_command}
use Rattle.script_walk.proofs.laws.walks_stop_at_the_first_bad_command.Goals as goal

pub returns : goal.returns
returns c = stops_at_bad_command
