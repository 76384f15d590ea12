-- What a job asks of its source. It is this project's own.
use Rattle.std.specs.Prelude.{◌≡◌, ◌⊎◌, ℕ, ◌≤◌, Bool, false, List, [], ◌∷◌, ◌++◌, Some, None, ⊤, OnSome}
use Rattle.std.specs.declared.option.Option.{Option}
use Rattle.std.specs.FinMap.{get}
use Rattle.outside.specs.Content.{Address, Contents, counted}
use Rattle.outside.specs.Causes.{Rose}
use Rattle.outside.specs.declared.sources.Source.{Ghosts}
use Rattle.cache_key.specs.Key.{Key}
use Rattle.cache_key.specs.KeyBytes.{address_of}

-- what contracts see of a source at a moment: its content, the addresses at which it failed, and how
-- often it failed and was asked
pub record SourceView : Type 0 where
  pub content : Option Contents
  pub failed : List Address
  pub faults : ℕ
  pub fetched : ℕ

abbrev pub view_of : {S : Type 0} → Ghosts S → S → SourceView
view_of source s = record {
  content = source.content s;
  failed = source.failed s;
  faults = source.faults s;
  fetched = source.fetched s;
}

-- Where an engine speaks for a content, the source tells the same.
abbrev pub TellsContent : Option Contents → Option Contents → Type 0
TellsContent None told = ⊤
TellsContent (Some content) told = told ≡ Some content

-- Where the content is known, this is the text that it has for the key, or there is none.
abbrev pub HasText : Option Contents → Key → Option (List ℕ) → Type 0
HasText None key found = ⊤
HasText (Some content) key found = get content (address_of key) ≡ found

-- A source was asked for this key alone: its content is as it was, its count of faults did not fall, and
-- at most the key's own address is a failed one more, where the count rose.
pub record AskedAlone (key : Key) (old new : SourceView) : Type 0 where
  pub content : new.content ≡ old.content
  pub faults : old.faults ≤ new.faults
  pub failed : OnSome old.content
      ((new.failed ≡ old.failed)
      ⊎ ((new.failed ≡ old.failed ++ address_of key ∷ []) × Rose old.faults new.faults))

-- It was asked once.
abbrev pub WasFetched : SourceView → SourceView → Type 0
WasFetched old new = new.fetched ≡ counted old.fetched

-- A job that asks the caches alone asks its source nothing, and any other asks at most once.
pub record UsesSource (cached : Bool) (key : Key) (old new : SourceView) : Type 0 where
  pub alone : AskedAlone key old new
  pub once : (new.fetched ≡ old.fetched) ⊎ ((cached ≡ false) × WasFetched old new)

-- The source failed at this key's url and signature.
pub record FailedAt (key : Key) (old new : SourceView) : Type 0 where
  pub rose : Rose old.faults new.faults
  pub at : OnSome old.content (new.failed ≡ old.failed ++ address_of key ∷ [])
