use Rattle.std.proofs.Common.{◌≡◌, ◌-◌, List, ℕ, map, drop, length}
use Rattle.glide_run.specs.Settings.{nothing_said, and_words}
use Rattle.glide_run.proofs.settings.Settings.of_words.Given as goal

abbrev pub invariant-loop-at : goal.invariant-loop-at
invariant-loop-at l = (and_words nothing_said (map (λ word. word.now) l.words) ≡ and_words l.said (map (λ word. word.now) (drop l.at l.words)))

abbrev pub decreases-loop-at : goal.decreases-loop-at
decreases-loop-at l = length l.words - l.at
