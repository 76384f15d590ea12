-- How many views there may be. The limit is this project's own.
use Rattle.std.specs.Prelude.{ℕ}

abbrev pub views_limit : ℕ
views_limit = 4096
