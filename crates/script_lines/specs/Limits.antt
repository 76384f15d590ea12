-- The limits of a script and its lines. They are this project's own. Those of a url, a signature and a wanted
-- side stand beside the key of a picture.
use Rattle.std.specs.Prelude.{ℕ}

-- the longest script, and the longest line without its ending, in bytes
abbrev pub script_limit : ℕ
script_limit = 1048576

abbrev pub line_limit : ℕ
line_limit = 2048

-- the longest name of a view, in bytes
abbrev pub name_limit : ℕ
name_limit = 32

-- the highest level of a trim
abbrev pub level_limit : ℕ
level_limit = 1000
