-- What a seat of a test may do at its phase.
use Rattle.std.proofs.Common.{◌≡◌, ◌+◌, ◌<◌, ℕ, List, [], length, None, refl, subst, sym, arith}
use Rattle.std.specs.Prelude.{◌^◌}
use Rattle.std.specs.declared.option.Option.{Option}
use Rattle.outside.specs.Content.{Contents}
use Rattle.store_world.specs.declared.events.StoreEvent.TheVariants as events
use Rattle.store_world.specs.Knowledge.{Knowledge}
use Rattle.store_world.specs.Permits.{Permits}
use Rattle.store_world.specs.Right.{IsRightIn}
use Rattle.store_shared.specs.Holding.{editing, edit_of}

module _ (content : Option Contents) (known : Knowledge) (key : List ℕ) where
  -- it may write to an edit that has no bytes
  pub writes : (bytes : List ℕ) → known ≡ editing (edit_of []) key → length bytes < 2 ^ 40 → Permits content known (events.Write bytes)
  writes bytes knows short = (
    record {
      holds = record { request = _; edit = edit_of []; knows = knows; has = refl };
      open_ = refl;
    },
    (omega (arith, short)),
  )

  -- and commit one that was written to, where no content is told
  pub commits : (file : List ℕ) → known ≡ editing (edit_of file) key → content ≡ None → Permits content known events.Commit
  commits file knows untold = (
    record {
      holds = record { request = _; edit = edit_of file; knows = knows; has = refl };
      open_ = refl;
    },
    subst (λ c. IsRightIn c (key, file)) (sym untold) tt,
  )
