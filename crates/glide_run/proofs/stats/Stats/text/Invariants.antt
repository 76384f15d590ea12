use Rattle.std.proofs.Common.{◌≡◌, ◌++◌, ◌∷◌, [], List, ℕ, codes, map, drop}
use Rattle.glide_run.specs.Stats.{stats_pairs, pairs_text}
use Rattle.glide_run.proofs.stats.Stats.text.Given as goal

abbrev pub invariant-loop-word : goal.invariant-loop-word
invariant-loop-word l =
    l.text.items ++ pairs_text (map (λ pair. (pair.0.now, pair.1)) (drop l.word-index l.word-items)) ≡ codes "stats" ++ pairs_text (stats_pairs l.self)
