-- The further words of a load, in any order and at most one of each kind. This project's own; what they mean
-- is Glide's.
use Rattle.std.specs.Prelude.{◌≡◌, ℕ, ◌++◌, true, false, List, [], ◌∷◌, if◌then◌else◌, Some, None, codes}
use Rattle.std.specs.declared.option.Option.{Option}
use Rattle.std.specs.Option.{option_map, is_some}
use Rattle.std.specs.Str.{bytes_eq}
use Rattle.bitmap_kind.specs.declared.bitmaps.Rule.{Rule}
use Rattle.bitmap_kind.specs.declared.bitmaps.Rule.TheVariants as rules
use Rattle.cache_key.specs.declared.load_spec.Priority.{Priority}
use Rattle.cache_key.specs.declared.load_spec.Priority.TheVariants as priorities
use Rattle.cache_key.specs.declared.load_spec.Strategy.{Strategy}
use Rattle.cache_key.specs.declared.load_spec.Strategy.TheVariants as strategies
use Rattle.script_lines.specs.declared.settings.Further.{Further}
use Rattle.script_lines.specs.declared.settings.Further.TheVariants as further
use Rattle.script_lines.specs.declared.settings.Settings.{Settings}
use Rattle.script_lines.specs.Options.{◌>>=◌}

-- Glide's strategies AT_LEAST and AT_MOST of decoding
abbrev pub rule_named : List ℕ → Option Rule
rule_named word =
    if bytes_eq word (codes "atleast") then Some rules.AtLeast
    else if bytes_eq word (codes "atmost") then Some rules.AtMost
    else None

-- Glide's priorities
abbrev pub priority_named : List ℕ → Option Priority
priority_named word =
    if bytes_eq word (codes "immediate") then Some priorities.Immediate
    else if bytes_eq word (codes "high") then Some priorities.High
    else if bytes_eq word (codes "normal") then Some priorities.Normal
    else if bytes_eq word (codes "low") then Some priorities.Low
    else None

-- Glide's strategies ALL, DATA, RESOURCE, NONE and AUTOMATIC of the disk cache
abbrev pub strategy_named : List ℕ → Option Strategy
strategy_named word =
    if bytes_eq word (codes "all") then Some strategies.All
    else if bytes_eq word (codes "data") then Some strategies.Source
    else if bytes_eq word (codes "resource") then Some strategies.Results
    else if bytes_eq word (codes "nodisk") then Some strategies.Nowhere
    else if bytes_eq word (codes "auto") then Some strategies.Automatic
    else None

-- what is named first
abbrev pub or_else : {A : Type 0} → Option A → Option A → Option A
or_else None other = other
or_else (Some x) other = Some x

-- what a further word says; `skip` passes memory over, and `cached` lets only what is cached answer
abbrev pub further_named : List ℕ → Option Further
further_named word =
    if bytes_eq word (codes "skip") then Some further.Skip
    else if bytes_eq word (codes "cached") then Some further.Cached
    else or_else (option_map further.Rule (rule_named word))
    (or_else (option_map further.Priority (priority_named word))
    (option_map further.Strategy (strategy_named word)))

-- ---- what several words say together

abbrev pub no_settings : Settings
no_settings = record { rule = None; priority = None; strategy = None; skip = false; cached = false }

-- one thing more, where nothing of its kind was said
abbrev pub and_said : Settings → Further → Option Settings
and_said s (further.Rule rule) = if is_some s.rule then None else Some (record s { rule = Some rule })
and_said s (further.Priority priority) =
    if is_some s.priority then None else Some (record s { priority = Some priority })
and_said s (further.Strategy strategy) =
    if is_some s.strategy then None else Some (record s { strategy = Some strategy })
and_said s further.Skip = if s.skip then None else Some (record s { skip = true })
and_said s further.Cached = if s.cached then None else Some (record s { cached = true })

-- what all the words say, after what was said before them
abbrev pub and_words : Settings → List (List ℕ) → Option Settings
and_words s [] = Some s
and_words s (word ∷ words) = further_named word >>= λ said. and_said s said >>= λ s. and_words s words

abbrev pub settings_of : List (List ℕ) → Option Settings
settings_of words = and_words no_settings words

-- Two neighbours change places, and the words say the same: they may stand in any order.
abbrev pub InAnyOrder : Type 0
InAnyOrder = (before : List (List ℕ)) (a b : List ℕ) (after : List (List ℕ))
    → settings_of (before ++ a ∷ b ∷ after) ≡ settings_of (before ++ b ∷ a ∷ after)
