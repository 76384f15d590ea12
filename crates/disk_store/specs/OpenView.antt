-- What an open store keeps. It is this project's own.
use Rattle.std.specs.Prelude.{◌≡◌, ℕ, List}
use Rattle.std.specs.declared.option.Option.{Option}
use Rattle.disk_lru.specs.State.{EditValue}
use Rattle.disk_lru.specs.Past.{DiskState}
use Rattle.store_world.specs.World.{Requests}
use Rattle.disk_store.specs.StoreView.{TokensAgree}

-- the edits that seats have are those of its disk cache, and it knows the greatest size of that
pub record IsOpenStore (disk : DiskState) (requests : Requests) (tokens : List (Option EditValue)) (maximum : ℕ) : Type 0 where
  pub tokens_agree : TokensAgree disk requests tokens
  pub maximum_is : maximum ≡ disk.cache.maximum
