-- What a room for a key shows at first.
use Rattle.std.specs.Prelude.{[], false}
use Rattle.bitmap_kind.specs.declared.bitmaps.Config.TheVariants.{Argb8888}
use Rattle.bitmap_kind.specs.declared.bitmaps.Transform.TheVariants as transforms
use Rattle.bitmap_kind.specs.declared.bitmaps.Rule.TheVariants.{AtLeast}
use Rattle.cache_key.specs.Key.{Key}
use Rattle.cache_key.specs.declared.load_spec.LoadSpec.{LoadSpec}
use Rattle.cache_key.specs.declared.load_spec.Strategy.TheVariants.{Automatic}
use Rattle.cache_key.specs.declared.load_spec.Priority.TheVariants.{Normal}

-- empty texts, wanted at one pixel
abbrev pub empty_key : Key
empty_key = record {
  url = [];
  sig = [];
  width = 1;
  height = 1;
  transform = transforms.Nothing;
  config = Argb8888;
  rule = AtLeast;
}

-- a load of that key
abbrev pub empty_spec : LoadSpec
empty_spec = record {
  key = empty_key;
  strategy = Automatic;
  priority = Normal;
  skip = false;
  cached = false;
}
