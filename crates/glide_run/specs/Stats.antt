-- The line of the engine's totals, and what a run prints last. This project's own.
use Rattle.std.specs.Prelude.{ℕ, List, [], ◌∷◌, ◌++◌, if◌then◌else◌, Some, None, codes}
use Rattle.std.specs.declared.option.Option.{Option}
use Rattle.std.specs.Fmt.{decimal}
use Rattle.printed_lines.specs.Printed.{bad_line_text}
use Rattle.glide_run.specs.declared.settings.Settings.{Settings}
use Rattle.glide_run.specs.declared.stats.Stats.{Stats}

-- each number with its word, in the order of the line
abbrev pub stats_pairs : Stats → List (List ℕ × ℕ)
stats_pairs stats =
    (codes "loads", stats.totals.loads)
    ∷ (codes "active", stats.totals.active)
    ∷ (codes "memory", stats.totals.memory)
    ∷ (codes "joined", stats.totals.joined)
    ∷ (codes "started", stats.totals.started)
    ∷ (codes "takes", stats.totals.takes)
    ∷ (codes "reused", stats.totals.reused)
    ∷ (codes "made", stats.totals.made)
    ∷ (codes "decoding", stats.totals.decoding)
    ∷ (codes "held", stats.totals.held)
    ∷ (codes "cached", stats.totals.cached)
    ∷ (codes "pooled", stats.totals.pooled)
    ∷ (codes "recycled", stats.totals.recycled)
    ∷ (codes "fetches", stats.fetches)
    ∷ []

abbrev pub pair_text : List ℕ × ℕ → List ℕ
pair_text (word, number) = 32 ∷ word ++ 32 ∷ decimal number

abbrev pub pairs_text : List (List ℕ × ℕ) → List ℕ
pairs_text [] = []
pairs_text (pair ∷ pairs) = pair_text pair ++ pairs_text pairs

-- `stats`, and then each word and its number
abbrev pub stats_text : Stats → List ℕ
stats_text stats = codes "stats" ++ pairs_text (stats_pairs stats) ++ 10 ∷ []

-- what a run that obeyed its script prints last: the number of the bad line, or else the totals, where the words ask for them
abbrev pub ending_text : Settings → Option ℕ → Stats → List ℕ
ending_text settings (Some number) stats = bad_line_text number
ending_text settings None stats = if settings.stats then stats_text stats else []
