-- A key's active resource, and its cached one, are the only ones with the key.
use Rattle.std.proofs.Common.{◌≡◌, ℕ, ◌<◌, true, Some, None, refl, ap, sym, ◌∙◌, true≢false}
use Rattle.std.specs.Prelude.{List, find}
use Rattle.std.specs.FinSet as set
use Rattle.cache_key.specs.Key.{Key}
use Rattle.engine_world.specs.World.{Resources}
use Rattle.engine_world.specs.Places.{occurrences}
use Rattle.engine_world.specs.Moves.{has_key}
use Rattle.engine_world.specs.Sound.{KeysApart}
use Rattle.engine_world.specs.Laws.{FindsActive, FindsCached}
use Rattle.engine_world.specs.KeyedLaws.{has_key-found}
use Rattle.engine_world.specs.OccurrenceLaws.{find-passes, find-none, item_stands, stands_item}

module _ (resources : Resources) (key : Key) (numbers : List ℕ) (apart : KeysApart resources (λ r. 0 < occurrences r numbers)) where
  found_only : (r : ℕ) → 0 < occurrences r numbers → has_key resources key r ≡ true → find (has_key resources key) numbers ≡ Some r
  found_only r some has = elim (find (has_key resources key) numbers) as (λ o. find (has_key resources key) numbers ≡ o → o ≡ Some r) [
    | None ↦ λ e. absurd (true≢false (sym has ∙ find-none (has_key resources key) numbers r e some))
    | Some q ↦ λ e.
        let first = find-passes (has_key resources key) numbers q e in
        let a = has_key-found resources key q first.0 in
        let b = has_key-found resources key r has in
        ap Some (apart q r a.0 b.0 first.1 some a.1 b.1 (a.2 ∙ sym b.2))
  ] refl

pub finds_active : FindsActive
finds_active loads resources active are key r = (
  λ e. let first = find-passes (has_key resources key) (set.items active) r e in (stands_item active r first.1, first.0),
  λ is. found_only resources key (set.items active) (λ p q a b p_in q_in. are.apart p q a b (stands_item active p p_in) (stands_item active q q_in)) r (item_stands active r is.0) is.1,
)

pub finds_cached : FindsCached
finds_cached maximum resources cached are key r = (
  λ e. let first = find-passes (has_key resources key) cached r e in (first.1, first.0),
  λ is. found_only resources key cached are.apart r is.0 is.1,
)
