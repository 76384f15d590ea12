-- Worked lines and scripts, on which the language itself is computed. This project's own.
use Rattle.std.specs.Prelude.{ℕ, Bool, true, false, List, [], ◌∷◌, ◌++◌, replicate, map, codes}
use Rattle.bitmap_kind.specs.declared.bitmaps.Config.TheVariants.{Argb8888}
use Rattle.bitmap_kind.specs.declared.bitmaps.Transform.TheVariants as transforms
use Rattle.bitmap_kind.specs.declared.bitmaps.Rule.TheVariants.{AtLeast}
use Rattle.cache_key.specs.Key.{Key}
use Rattle.cache_key.specs.declared.load_spec.LoadSpec.{LoadSpec}
use Rattle.cache_key.specs.declared.load_spec.Priority.TheVariants.{Normal}
use Rattle.cache_key.specs.declared.load_spec.Strategy.TheVariants.{Automatic}
use Rattle.script_lines.specs.declared.commands.Command.{Command}
use Rattle.script_lines.specs.declared.commands.Command.TheVariants.{Load}
use Rattle.script_lines.specs.declared.commands.Line.{Line}
use Rattle.script_lines.specs.declared.commands.Line.TheVariants.{Empty, Unreadable, Says}
use Rattle.script_lines.specs.Commands.{line_of}
use Rattle.script_lines.specs.Script.{Numbered}

-- the picture `red` of version `1`, wanted at 2 by 1 pixels
abbrev pub red_key : Key
red_key = record {
  url = codes "red";
  sig = codes "1";
  width = 2;
  height = 1;
  transform = transforms.Nothing;
  config = Argb8888;
  rule = AtLeast;
}

abbrev pub red : LoadSpec
red = record { key = red_key; strategy = Automatic; priority = Normal; skip = false; cached = false }

-- the same at no size
abbrev pub red_sizeless : LoadSpec
red_sizeless = record red { key = record red_key { width = 1; height = 1 } }

-- a load of it in view `a`
abbrev pub load_red : LoadSpec → Line
load_red spec = Says (Load (codes "a") spec true)

-- what the line says that loads it, with further words
abbrev pub said_with : List ℕ → Line
said_with further = line_of (codes "load a red 1 2 1 none argb" ++ further)

abbrev pub at_line : ℕ → Command → Numbered
at_line line command = record { line = line; command = command }

-- a load whose view's name, url and signature have so many bytes
abbrev pub long_load : (name url sig : ℕ) → List ℕ
long_load name url sig =
    codes "load " ++ replicate name 97 ++ codes " " ++ replicate url 117 ++ codes " " ++ replicate sig 115
    ++ codes " 2 1 none argb"

-- whether a line has one of the forms
abbrev pub is_read : Line → Bool
is_read Empty = true
is_read Unreadable = false
is_read (Says command) = true
