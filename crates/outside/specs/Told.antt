-- What several sources tell together. It is this project's own.
use Rattle.std.specs.Prelude.{◌≡◌, ◌≢◌, ◌↔◌, List, [], ◌∷◌, ⊤, Some}
use Rattle.std.specs.declared.option.Option.{Option}
use Rattle.outside.specs.Content.{Contents}

-- Each of these tells just this content.
abbrev pub EachTells : Contents → List (Option Contents) → Type 0
EachTells content [] = ⊤
EachTells content (first ∷ others) = (first ≡ Some content) × EachTells content others

-- There are some, and each tells just this content.
pub record AllTell (content : Contents) (said : List (Option Contents)) : Type 0 where
  pub some : said ≢ []
  pub each : EachTells content said

-- A content is known exactly where all tell it: nothing is known where there are none, where one tells nothing, or where
-- two tell different ones.
abbrev pub IsToldBy : List (Option Contents) → Option Contents → Type 0
IsToldBy said known = (content : Contents) → (known ≡ Some content) ↔ AllTell content said
