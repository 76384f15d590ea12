use Rattle.cache_folder.proofs.Journaled.{offered_says, said_images, said_more}
use Rattle.cache_folder.proofs.Lists.{weaken}
use Rattle.cache_folder.proofs.laws.line_is_written_at_once.Goals as goal

pub returns-clause-before : goal.returns-clause-before
returns-clause-before c = λ f es s. offered_says (record { text = c.text_is_its_lines.ensures.text; unbroken = c.text_is_its_lines.ensures.unbroken }) f es s

pub returns-clause-images : goal.returns-clause-images
returns-clause-images c = λ f es line s good fits. weaken _ _ (λ x h. h.2) _ (said_images (record { text = c.text_is_its_lines.ensures.text; unbroken = c.text_is_its_lines.ensures.unbroken }) f es s line good fits)

pub returns-clause-last : goal.returns-clause-last
returns-clause-last c = λ f es line s good fits. said_more (record { text = c.text_is_its_lines.ensures.text; unbroken = c.text_is_its_lines.ensures.unbroken }) f es s line good fits
