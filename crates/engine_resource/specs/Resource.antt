-- What contracts see of a resource. It is Glide's EngineResource, with a bitmap as its one kind of resource.
use Rattle.std.specs.Prelude.{ℕ, Bool}
use Rattle.bitmap_kind.specs.Picture.{BitmapValue}
use Rattle.cache_key.specs.Key.{Key}

-- The count is how often it was acquired less how often it was released.
pub record ResourceValue : Type 0 where
  pub bitmap : BitmapValue
  pub key : Key
  pub cacheable : Bool
  pub count : ℕ
