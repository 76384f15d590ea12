-- What a content gives a key.
use Rattle.std.specs.Prelude.{ℕ, List, Result}
use Rattle.std.specs.declared.option.Option.{Option}
use Rattle.std.specs.declared.cmp.Ordering.{Ordering}
use Rattle.std.specs.Option.{option_map}
use Rattle.std.specs.FinMap.{FinMap, get}
use Rattle.bitmap_kind.specs.Picture.{Picture}
use Rattle.cache_key.specs.Key.{Key}
use Rattle.cache_key.specs.KeyBytes.{address_of}
use Rattle.image_format.specs.declared.refusal.Refusal.{Refusal}
use Rattle.image_format.specs.Pictures.{picture_of}

-- what a text gives a key, if there is one: a picture, or a refusal
abbrev pub picture_at : Option (List ℕ) → Key → Option (Result Picture Refusal)
picture_at found key = option_map (λ text. picture_of text key) found

-- What a content gives a key: nothing, a picture, or a refusal. A content is a finite map from a url and
-- a signature to bytes, whatever their order in it.
abbrev pub picture_in : {order : List ℕ × List ℕ → List ℕ × List ℕ → Ordering} → FinMap order (List ℕ) → Key
    → Option (Result Picture Refusal)
picture_in content key = picture_at (get content (address_of key)) key
