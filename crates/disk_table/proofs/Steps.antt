-- What each call of the hash map leaves of an order.
use Rattle.std.proofs.Common.{◌≡◌, ℕ, ◌+◌, ◌-◌, ◌≤◌, sym, ap, ◌∙◌, subst, arith, List, length, unwrap_or, None, Some, refl}
use Rattle.std.specs.Prelude.{reverse, IsSome}
use Rattle.std.specs.declared.option.Option.{Option}
use Rattle.std.specs.Map.{remove_entry}
use Rattle.std.specs.Str.{bytes_eq}
use Rattle.std.proofs.lemmas.List.{length-reverse}
use Rattle.lru.specs.LruCache.{LruCache, lru_cache, promoted, put_entries}
use Rattle.disk_table.specs.UseOrder.{value_at, without, newest, used, IsShort}
use Rattle.disk_table.specs.inside.Kept.{length_at, IsOrder}
use Rattle.disk_table.proofs.Entries.{length_newest, none_without}
use Rattle.disk_table.proofs.Listed.{at_key, put_known, put_new, taken_out, promoted_is, order_newest, order_without, order_used}

module _ (m new : LruCache (List ℕ) (Option ℕ)) (size : ℕ) (order : IsOrder m.entries m.cap size) (key : List ℕ) where
  -- the pair of a key for which there is room is put
  put_is : (v : Option ℕ) → length (newest key v (reverse m.entries)) ≤ 16400 → reverse (put_entries bytes_eq m key v) ≡ newest key v (reverse m.entries)
  put_is v room = cases (value_at key (reverse m.entries)) refl where
    cases : (o : Option (Option ℕ)) → value_at key (reverse m.entries) ≡ o → reverse (put_entries bytes_eq m key v) ≡ newest key v (reverse m.entries)
    cases None h =
        let without_is : length (without key (reverse m.entries)) ≡ length (reverse m.entries) = ap length (none_without key (reverse m.entries) h) in
        put_new key m order.once v (sym (at_key key m.entries order.once) ∙ h)
        (omega (arith, room, length_newest key v (reverse m.entries), without_is, order.cap_is, length-reverse m.entries))
    cases (Some w) h = put_known key m order.once v (subst IsSome (sym h ∙ at_key key m.entries order.once) refl)

  pub after_set : (v : Option ℕ) → length (newest key v (reverse m.entries)) ≤ 16400 → new ≡ lru_cache (put_entries bytes_eq m key v) m.cap
      → reverse new.entries ≡ newest key v (reverse m.entries)
  after_set v room is = ap (λ (c : LruCache (List ℕ) (Option ℕ)). reverse c.entries) is ∙ put_is v room

  pub order_set : (v : Option ℕ) (old added : ℕ) → IsShort v → old ≡ length_at key (reverse m.entries) → added ≡ unwrap_or v 0 → length (newest key v (reverse m.entries)) ≤ 16400
      → new ≡ lru_cache (put_entries bytes_eq m key v) m.cap → IsOrder new.entries new.cap (size - old + added)
  order_set v old added short was amount room is =
      let fits : length (without key (reverse m.entries)) + 1 ≤ 16400 = omega (arith, room, length_newest key v (reverse m.entries)) in
      let done = order_newest m.entries m.cap size order key new.entries v short fits (after_set v room is) in
      let cap : new.cap ≡ m.cap = ap (λ (c : LruCache (List ℕ) (Option ℕ)). c.cap) is in
      subst (λ n. IsOrder new.entries n (size - old + added)) (sym cap) (subst (IsOrder new.entries m.cap) (λ i. size - sym was i + sym amount i) done)

  -- the pair of a key is taken out
  pub after_pop : new ≡ lru_cache (remove_entry (bytes_eq key) m.entries) m.cap → reverse new.entries ≡ without key (reverse m.entries)
  after_pop is = ap (λ (c : LruCache (List ℕ) (Option ℕ)). reverse c.entries) is ∙ taken_out key m.entries order.once

  pub order_pop : (old : ℕ) → old ≡ length_at key (reverse m.entries) → new ≡ lru_cache (remove_entry (bytes_eq key) m.entries) m.cap → IsOrder new.entries new.cap (size - old)
  order_pop old was is =
      let done = order_without m.entries m.cap size order key new.entries (after_pop is) in
      let cap : new.cap ≡ m.cap = ap (λ (c : LruCache (List ℕ) (Option ℕ)). c.cap) is in
      subst (λ n. IsOrder new.entries n (size - old)) (sym cap) (subst (IsOrder new.entries m.cap) (λ i. size - sym was i) done)

  -- the pair of a key is made the most recent
  pub after_promote : new ≡ lru_cache (promoted (bytes_eq key) m.entries) m.cap → reverse new.entries ≡ used key (reverse m.entries)
  after_promote is = ap (λ (c : LruCache (List ℕ) (Option ℕ)). reverse c.entries) is ∙ promoted_is key m order.once

  pub order_promote : new ≡ lru_cache (promoted (bytes_eq key) m.entries) m.cap → IsOrder new.entries new.cap size
  order_promote is =
      let done = order_used m.entries m.cap size order key new.entries (after_promote is) in
      subst (λ n. IsOrder new.entries n size) (sym (ap (λ (c : LruCache (List ℕ) (Option ℕ)). c.cap) is)) done
