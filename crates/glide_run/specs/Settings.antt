-- What the words after the program's name ask for. This project's own.
use Rattle.std.specs.Prelude.{◌≡◌, ℕ, true, false, List, [], ◌∷◌, if◌then◌else◌, unwrap_or, Some, None, codes}
use Rattle.std.specs.declared.option.Option.{Option}
use Rattle.std.specs.Option.{option_map, is_some}
use Rattle.std.specs.Str.{bytes_eq}
use Rattle.script_lines.specs.Options.{◌>>=◌}
use Rattle.script_lines.specs.Words.{number_within}
use Rattle.glide_run.specs.declared.settings.Said.{Said}
use Rattle.glide_run.specs.declared.settings.Settings.{Settings}

-- the greatest size that a word may name, and what is taken where none is named, in bytes
abbrev pub size_limit : ℕ
size_limit = 4294967296

abbrev pub default_pool : ℕ
default_pool = 67108864

abbrev pub default_memory : ℕ
default_memory = 33554432

-- digits without a leading zero, or `0`, up to that size
abbrev pub size : List ℕ → Option ℕ
size word = number_within 0 size_limit word

-- ---- one thing more, where it was not said

abbrev pub with_pool : Said → ℕ → Option Said
with_pool said bytes = if is_some said.pool then None else Some (record said { pool = Some bytes })

abbrev pub with_memory : Said → ℕ → Option Said
with_memory said bytes = if is_some said.memory then None else Some (record said { memory = Some bytes })

abbrev pub with_stats : Said → Option Said
with_stats said = if said.stats then None else Some (record said { stats = true })

-- `--pool` and `--memory`, each with the number behind it
abbrev pub and_size : Said → (word number : List ℕ) → Option Said
and_size said word number =
    if bytes_eq word (codes "--pool") then size number >>= with_pool said
    else if bytes_eq word (codes "--memory") then size number >>= with_memory said
    else None

-- ---- all words

abbrev pub nothing_said : Said
nothing_said = record { pool = None; memory = None; stats = false }

-- `--stats` stands alone; any other word has a number behind it
abbrev pub and_words : Said → List (List ℕ) → Option Said
and_words said [] = Some said
and_words said (word ∷ []) = if bytes_eq word (codes "--stats") then with_stats said else None
and_words said (word ∷ next ∷ words) =
    if bytes_eq word (codes "--stats") then with_stats said >>= (λ more. and_words more (next ∷ words))
    else and_size said word next >>= (λ more. and_words more words)

abbrev pub filled : Said → Settings
filled said = record {
  pool = unwrap_or said.pool default_pool;
  memory = unwrap_or said.memory default_memory;
  stats = said.stats;
}

-- the settings that the words ask for, in any order and each at most once; None where they are refused
abbrev pub settings : List (List ℕ) → Option Settings
settings words = option_map filled (and_words nothing_said words)
