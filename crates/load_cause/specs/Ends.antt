-- What a load of a key comes to where nothing disturbs it: its picture, or why there is none. It is this project's own.
use Rattle.std.specs.Prelude.{ℕ, List, Ok, Err, Some, None, Result}
use Rattle.std.specs.declared.option.Option.{Option}
use Rattle.std.specs.declared.cmp.Ordering.{Ordering}
use Rattle.std.specs.FinMap.{FinMap}
use Rattle.bitmap_kind.specs.Picture.{Picture}
use Rattle.cache_key.specs.Key.{Key}
use Rattle.image_format.specs.Content.{picture_in}
use Rattle.image_format.specs.declared.refusal.Refusal.{Refusal}
use Rattle.load_cause.specs.declared.causes.Cause.{Cause}
use Rattle.load_cause.specs.declared.causes.Cause.TheVariants.{Missing, Refused}

-- what a load comes to, by what its key is given: nothing, a refusal or a picture
abbrev pub end_of : Option (Result Picture Refusal) → Result Picture Cause
end_of None = Err Missing
end_of (Some (Err refusal)) = Err (Refused refusal)
end_of (Some (Ok picture)) = Ok picture

-- what a load of this key comes to under this content
abbrev pub end_in : {order : List ℕ × List ℕ → List ℕ × List ℕ → Ordering} → FinMap order (List ℕ) → Key → Result Picture Cause
end_in content key = end_of (picture_in content key)
