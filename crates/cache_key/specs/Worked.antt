-- The keys of the worked examples.
use Rattle.std.specs.Prelude.{codes, replicate}
use Rattle.bitmap_kind.specs.declared.bitmaps.Config.TheVariants.{Alpha8}
use Rattle.bitmap_kind.specs.declared.bitmaps.Transform.TheVariants as transforms
use Rattle.bitmap_kind.specs.declared.bitmaps.Rule.TheVariants.{AtMost}
use Rattle.cache_key.specs.Key.{Key, url_limit, sig_limit, wanted_side_limit}

-- `red` of version `1`, wanted at 2 by 1 pixels
abbrev pub red_key : Key
red_key = record {
  url = codes "red";
  sig = codes "1";
  width = 2;
  height = 1;
  transform = transforms.Inside;
  config = Alpha8;
  rule = AtMost;
}

-- the key with the longest texts and sides
abbrev pub longest_key : Key
longest_key = record red_key {
  url = replicate url_limit 117;
  sig = replicate sig_limit 115;
  width = wanted_side_limit;
  height = wanted_side_limit;
}
