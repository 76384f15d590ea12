-- The part of a script whose effect exists: a load that says something of the disk cache, or asks the caches alone, is a bad
-- line until what it speaks of is there. This project's own.
use Rattle.std.specs.Prelude.{ℕ, Bool, true, false, not, ◌&&◌, List, [], ◌∷◌, if◌then◌else◌, Some}
use Rattle.std.specs.declared.option.Option.{Option}
use Rattle.cache_key.specs.declared.load_spec.LoadSpec.{LoadSpec}
use Rattle.cache_key.specs.declared.load_spec.Strategy.{Strategy}
use Rattle.cache_key.specs.declared.load_spec.Strategy.TheVariants.{Automatic}
use Rattle.script_lines.specs.declared.commands.Command.{Command}
use Rattle.script_lines.specs.declared.commands.Command.TheVariants.{Load}
use Rattle.script_lines.specs.Script.{Numbered, Script, with_first}

abbrev pub is_automatic : Strategy → Bool
is_automatic Automatic = true
is_automatic strategy = false

-- a load that says nothing of the disk cache, and lets the source answer, whatever its priority and whether it skips memory
abbrev pub is_built_load : LoadSpec → Bool
is_built_load spec = is_automatic spec.strategy && not spec.cached

abbrev pub is_built : Command → Bool
is_built (Load view spec sized) = is_built_load spec
is_built command = true

abbrev pub built_from : List Numbered → Option ℕ → Script
built_from [] bad = record { commands = []; bad = bad }
built_from (first ∷ others) bad =
    if is_built first.command then with_first first (built_from others bad)
    else record { commands = []; bad = Some first.line }

-- a script up to its first command that is not built, whose line is bad
abbrev pub built : Script → Script
built script = built_from script.commands script.bad
