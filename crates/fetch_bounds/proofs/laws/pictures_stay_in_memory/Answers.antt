use Rattle.fetch_bounds.proofs.Remembered.{keeps_all_remembered, keeps_pictures}
use Rattle.fetch_bounds.proofs.laws.pictures_stay_in_memory.Goals as goal

pub returns-clause-among : goal.returns-clause-among
returns-clause-among c = keeps_all_remembered c.each_event_keeps_opening.ensures

pub returns-clause-stay : goal.returns-clause-stay
returns-clause-stay c = keeps_pictures
