use Rattle.store_world.proofs.Settings.{settings_law}
use Rattle.store_world.proofs.laws.each_event_keeps_settings.Goals as goal

pub returns : goal.returns
returns c event = settings_law event
