-- The truth of a run as a value. What it is, `IsTruthOf` says; here stands how it is found: a pair is right if
-- it is for each key that it may be the entry of, and of these there are finitely many. No code finds it: it
-- is there for contracts. It is this project's own.
use Rattle.std.specs.Prelude.{ℕ, zero, suc, ◌+◌, Bool, true, false, ◌&&◌, ◌||◌, not, nat_le, List, length, take, drop, Some, None, Ok, Err, Result, if◌then◌else◌}
use Rattle.std.specs.declared.option.Option.{Option}
use Rattle.std.specs.List.{list_all}
use Rattle.std.specs.FinMap.{get}
use Rattle.std.specs.Str.{bytes_eq}
use Rattle.outside.specs.Content.{Contents}
use Rattle.outside.specs.Files.{Folder, FolderHistory}
use Rattle.bitmap_kind.specs.Picture.{Picture}
use Rattle.bitmap_kind.specs.declared.bitmaps.Config.{Config}
use Rattle.bitmap_kind.specs.declared.bitmaps.Config.TheVariants.{Argb8888, Rgb565, Alpha8}
use Rattle.bitmap_kind.specs.declared.bitmaps.Transform.{Transform}
use Rattle.bitmap_kind.specs.declared.bitmaps.Transform.TheVariants as transforms
use Rattle.bitmap_kind.specs.declared.bitmaps.Rule.{Rule}
use Rattle.bitmap_kind.specs.declared.bitmaps.Rule.TheVariants.{AtLeast, AtMost}
use Rattle.cache_key.specs.declared.bytes.Which.{Which}
use Rattle.cache_key.specs.declared.bytes.Which.TheVariants.{SourceBytes, Outcome}
use Rattle.cache_key.specs.Key.{Key, url_limit, sig_limit, wanted_side_limit}
use Rattle.cache_key.specs.KeyBytes.{address_of}
use Rattle.image_format.specs.declared.refusal.Refusal.{Refusal}
use Rattle.image_format.specs.Content.{picture_in}
use Rattle.image_format.specs.RawForm.{raw_text}
use Rattle.cache_folder.specs.Offered.{offered}
use Rattle.disk_lru.specs.Past.{is_pair}
use Rattle.store_world.specs.Right.{Pair, entry_of}

-- ---- keys and payloads

-- whether a key is one of a load
abbrev pub is_key : Key → Bool
is_key key =
    nat_le (length key.url) url_limit && (nat_le (length key.sig) sig_limit
    && (nat_le 1 key.width && (nat_le 1 key.height
    && (nat_le key.width wanted_side_limit && nat_le key.height wanted_side_limit))))

abbrev pub is_text : List ℕ → Option (List ℕ) → Bool
is_text payload None = false
is_text payload (Some text) = bytes_eq payload text

abbrev pub is_raw : List ℕ → Option (Result Picture Refusal) → Bool
is_raw payload None = false
is_raw payload (Some (Err refusal)) = false
is_raw payload (Some (Ok picture)) = bytes_eq payload (raw_text picture)

-- whether the payload is what the content has for the key
abbrev pub is_payload : Contents → Which → Key → List ℕ → Bool
is_payload content SourceBytes key payload = is_text payload (get content (address_of key))
is_payload content Outcome key payload = is_raw payload (picture_in content key)

-- ---- the keys that a text may be the entry of

-- A guess: the kind, how long the key bytes are, and in them the url and the signature, and the other fields
-- of the key.
pub record Guess : Type 0 where
  pub which : Which
  pub bytes : ℕ
  pub url : ℕ
  pub sig : ℕ
  pub width : ℕ
  pub height : ℕ
  pub transform : Transform
  pub config : Config
  pub rule : Rule

-- the key and the payload of a text, where the guess is true
abbrev pub key_in : Guess → List ℕ → Key
key_in guess text =
    let texts = drop 5 (take guess.bytes (drop 8 text)) in record {
      url = take guess.url texts;
      sig = take guess.sig (drop (guess.url + 4) texts);
      width = guess.width;
      height = guess.height;
      transform = guess.transform;
      config = guess.config;
      rule = guess.rule;
    }

abbrev pub payload_in : Guess → List ℕ → List ℕ
payload_in guess text = drop (guess.bytes + 12) text

-- where the pair is the entry of this key, its payload is what the content has
abbrev pub is_right_for : Contents → Pair → Guess → Bool
is_right_for content pair guess =
    let key = key_in guess pair.1 in
    let payload = payload_in guess pair.1 in
    not (is_key key && is_pair pair (entry_of guess.which key payload))
    || is_payload content guess.which key payload

-- ---- all guesses

-- whether each number below the end passes
unfoldable pub each_below : ℕ → (ℕ → Bool) → Bool
each_below zero test = true
each_below (suc n) test = test n && each_below n test

unfoldable pub each_which : (Which → Bool) → Bool
each_which test = test SourceBytes && test Outcome

unfoldable pub each_transform : (Transform → Bool) → Bool
each_transform test =
    test transforms.Nothing && (test transforms.Fit && (test transforms.Crop && test transforms.Inside))

unfoldable pub each_config : (Config → Bool) → Bool
each_config test = test Argb8888 && (test Rgb565 && test Alpha8)

unfoldable pub each_rule : (Rule → Bool) → Bool
each_rule test = test AtLeast && test AtMost

-- whether each guess at a text of this length passes
abbrev pub each_guess : ℕ → (Guess → Bool) → Bool
each_guess size test =
    each_which (λ which. each_below size (λ bytes. each_below size (λ url. each_below size (λ sig.
    each_below (wanted_side_limit + 1) (λ width. each_below (wanted_side_limit + 1) (λ height.
    each_transform (λ transform. each_config (λ config. each_rule (λ rule. test (record {
      which = which;
      bytes = bytes;
      url = url;
      sig = sig;
      width = width;
      height = height;
      transform = transform;
      config = config;
      rule = rule;
    }))))))))))

-- ---- the truth

unfoldable pub is_right : Contents → Pair → Bool
is_right content pair = each_guess (length pair.1) (is_right_for content pair)

abbrev pub offers_right : Contents → Folder → Bool
offers_right content folder = list_all (is_right content) (offered folder)

-- The content that is told, where it is known what the files hold and all that they offer is right in it.
abbrev pub truth_of : Option Contents → Option FolderHistory → Option Contents
truth_of None files = None
truth_of (Some content) None = None
truth_of (Some content) (Some history) = if offers_right content history.held then Some content else None
