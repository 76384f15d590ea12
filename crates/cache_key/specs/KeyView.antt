-- How the fields of a key are seen.
use Rattle.cache_key.specs.Key.{Key}
use Rattle.cache_key.specs.declared.keys.EngineKey.TheInside.{Inside}

abbrev pub value_of : Inside → Key
value_of k = record {
  url = k.url;
  sig = k.sig;
  width = k.width;
  height = k.height;
  transform = k.transform;
  config = k.config;
  rule = k.rule;
}
