-- Which entries are right under a content. It is this project's own.
use Rattle.std.specs.Prelude.{◌≡◌, ◌↔◌, ◌⊎◌, ℕ, List, Some, None, Ok, ⊤}
use Rattle.std.specs.declared.option.Option.{Option}
use Rattle.std.specs.List.{AllByRecursion}
use Rattle.std.specs.FinMap.{get}
use Rattle.outside.specs.Content.{Contents}
use Rattle.outside.specs.Files.{Folder, FolderHistory}
use Rattle.bitmap_kind.specs.Picture.{Picture}
use Rattle.cache_key.specs.declared.bytes.Which.{Which}
use Rattle.cache_key.specs.declared.bytes.Which.TheVariants.{SourceBytes, Outcome}
use Rattle.cache_key.specs.Key.{Key, IsKey}
use Rattle.cache_key.specs.KeyBytes.{address_of, key_bytes_of}
use Rattle.cache_key.specs.FileKey.{file_key}
use Rattle.image_format.specs.Content.{picture_in}
use Rattle.image_format.specs.RawForm.{raw_text}
use Rattle.cache_folder.specs.Offered.{offered}
use Rattle.store_world.specs.Envelopes.{envelope}

-- a key of the disk cache, and the bytes of its file
abbrev pub Pair : Type 0
Pair = List ℕ × List ℕ

-- What a content has for a key: the bytes at its address, or the raw form of its picture.
abbrev pub IsPayload : Contents → Which → Key → List ℕ → Type 0
IsPayload content SourceBytes key payload = get content (address_of key) ≡ Some payload
IsPayload content Outcome key payload =
    (picture : Picture) × (picture_in content key ≡ Some (Ok picture)) × (payload ≡ raw_text picture)

-- the entry of a key: its file key, and the envelope of its key bytes with the payload
abbrev pub entry_of : Which → Key → List ℕ → Pair
entry_of which key payload =
    let bytes = key_bytes_of which key in (file_key bytes, envelope bytes payload)

-- Whatever key a pair is an entry of, its payload is what the content has for the key. A pair that is the
-- entry of no key says nothing, and is right.
abbrev pub IsRight : Contents → Pair → Type 0
IsRight content pair =
    (which : Which) (key : Key) (payload : List ℕ) → IsKey key → pair ≡ entry_of which key payload
    → IsPayload content which key payload

abbrev pub AreRight : Contents → List Pair → Type 0
AreRight content = AllByRecursion (IsRight content)

-- each pair that the folder offers is right
abbrev pub OffersRight : Contents → Folder → Type 0
OffersRight content folder = AreRight content (offered folder)

-- where the content is told, the pair is right
abbrev pub IsRightIn : Option Contents → Pair → Type 0
IsRightIn None pair = ⊤
IsRightIn (Some content) pair = IsRight content pair

-- it is known what the files hold, and what they offer is right
pub record HoldsRight (content : Contents) (files : Option FolderHistory) : Type 0 where
  pub history : FolderHistory
  pub known : files ≡ Some history
  pub right : OffersRight content history.held

-- where the content is told, the files hold what is right
abbrev pub HoldsRightIn : Option Contents → Option FolderHistory → Type 0
HoldsRightIn None files = ⊤
HoldsRightIn (Some content) files = HoldsRight content files

-- Truth: the sources tell this content, and the files hold what is right under it.
pub record IsTruth (told : Option Contents) (files : Option FolderHistory) (content : Contents) : Type 0 where
  pub told_is : told ≡ Some content
  pub holds : HoldsRight content files

-- what is true of a run, if anything is
abbrev pub IsTruthOf : Option Contents → Option FolderHistory → Option Contents → Type 0
IsTruthOf told files truth = (content : Contents) → (truth ≡ Some content) ↔ IsTruth told files content

-- ---- rightness can be decided

abbrev pub IsDecided : Type 0 → Type 0
IsDecided P = P ⊎ (P → ⊥)
