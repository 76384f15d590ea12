-- Calls of the disk cache that leave the edits as they are: a read, and evictions.
use Rattle.std.proofs.Common.{◌≡◌, ◌≢◌, ℕ, Bool, true, false, cond, List, [], ◌∷◌, Some, None, Ok, Err, Result, refl, sym, ap, subst, ◌∙◌, arith}
use Rattle.std.specs.Prelude.{IsSome, IfSome, ⊤, is_some, not, ◌&&◌, get_or, option_and_then}
use Rattle.std.specs.declared.option.Option.{Option}
use Rattle.std.specs.Option.{option_map}
use Rattle.std.specs.FinMap.{get}
use Rattle.std.specs.Str.{bytes_eq}
use Rattle.outside.specs.Files.{FolderHistory}
use Rattle.disk_table.specs.UseOrder.{Entries, IsOnce, without, value_at}
use Rattle.disk_table.specs.Table.{edit_of}
use Rattle.cache_folder.specs.Offered.{edit_name}
use Rattle.cache_folder.specs.Images.{IfKnown, WasKnown}
use Rattle.cache_folder.specs.Tables.{Kept, Table, mapped, kept_by, edit_at, len_at, is_offered, closed_at}
use Rattle.disk_lru.specs.declared.refusals.DiskFault.{DiskFault}
use Rattle.disk_lru.specs.State.{entries, edits}
use Rattle.disk_lru.specs.Calls.{Steps, CallOn, use_steps, drop_steps}
use Rattle.disk_lru.specs.Past.{DiskState}
use Rattle.disk_lru.specs.Trims.{Trims}
use Rattle.store_world.specs.DiskCalls.{Gets, next_eviction, Evicts, EvictsTo, EndsEvicting, EvictsAll}
use Rattle.store_world.specs.Sound.{keys_under_edit}
use Rattle.store_world.proofs.Tables.{Moved, moved_without, moved_used, same_if, ne_if, unsome}
use Rattle.store_world.proofs.Allowed.{Allows, nothing_handed, allows_then, allows_same, allows_passage}

pub record LeavesEdits (old new : DiskState) : Type 0 where
  pub lengths : (key : List ℕ) → edit_at key (entries new.cache) ≡ edit_at key (entries old.cache)
  pub once : IsOnce (entries old.cache) → IsOnce (entries new.cache)
  pub count : IsOnce (entries old.cache) → keys_under_edit (entries new.cache) ≡ keys_under_edit (entries old.cache)
  pub edits_are : edits new.cache ≡ edits old.cache

-- it leaves the edits and their files as they are, and hands nothing over
pub record QuietCall (old new : DiskState) : Type 0 where
  pub leaves : LeavesEdits old new
  pub known : WasKnown old.cache.history new.cache.history
  pub files : IfKnown old.cache.history (λ h. IfKnown new.cache.history (λ k.
      (other : List ℕ) → IsSome (edit_of other (edits old.cache)) → get k.held (edit_name other) ≡ get h.held (edit_name other)))
  pub allows : Allows nothing_handed old new

-- ---- edits that stay

leaves_same : (old new : DiskState) → entries new.cache ≡ entries old.cache → edits new.cache ≡ edits old.cache → LeavesEdits old new
leaves_same old new same edits_are = record { lengths = λ key. ap (edit_at key) same; once = λ o. subst IsOnce (sym same) o; count = λ o. ap keys_under_edit same; edits_are = edits_are }

-- a key whose edit stays
leaves_moved : (key : List ℕ) (old new : DiskState) → Moved key (edit_at key (entries old.cache)) (entries old.cache) (entries new.cache) → edits new.cache ≡ edits old.cache → LeavesEdits old new
leaves_moved key old new m edits_are = record {
  lengths = λ other. elim (bytes_eq key other) as (λ b. bytes_eq key other ≡ b → edit_at other (entries new.cache) ≡ edit_at other (entries old.cache)) [
    | true ↦ λ is. subst (λ q. edit_at q (entries new.cache) ≡ edit_at q (entries old.cache)) (sym (same_if other key is)) m.here
    | false ↦ λ is. m.others other (ne_if other key is)
  ] refl;
  once = λ o. m.once;
  count = λ o. omega (arith, m.count);
  edits_are = edits_are;
}

leaves_without : (key : List ℕ) (old new : DiskState) → IsOnce (entries old.cache) → edit_at key (entries old.cache) ≡ None → entries new.cache ≡ without key (entries old.cache) → edits new.cache ≡ edits old.cache → LeavesEdits old new
leaves_without key old new o none is edits_are =
    leaves_moved key old new (subst (Moved key (edit_at key (entries old.cache)) (entries old.cache)) (sym is) (subst (λ e. Moved key e (entries old.cache) (without key (entries old.cache))) (sym none) (moved_without key (entries old.cache) o))) edits_are

leaves_then : (a b c : DiskState) → LeavesEdits a b → LeavesEdits b c → LeavesEdits a c
leaves_then a b c x y = record {
  lengths = λ key. y.lengths key ∙ x.lengths key;
  once = λ o. y.once (x.once o);
  count = λ o. y.count (x.once o) ∙ x.count o;
  edits_are = y.edits_are ∙ x.edits_are;
}

-- ---- calls

pub quiet_then : (a b c : DiskState) → QuietCall a b → QuietCall b c → QuietCall a c
quiet_then a b c x y = record {
  leaves = leaves_then a b c x.leaves y.leaves;
  known = λ k is. let mid = y.known k is in x.known mid.0 mid.1;
  files = λ h is_h k is_k other open_.
      let mid = y.known k is_k in
      y.files mid.0 mid.1 k is_k other (subst (λ es. IsSome (edit_of other es)) (sym x.leaves.edits_are) open_) ∙ x.files h is_h mid.0 mid.1 other open_;
  allows = allows_then nothing_handed a b c x.allows y.allows;
}

same_history : (h k : FolderHistory) (other : List ℕ) → Some h ≡ Some k → get k.held (edit_name other) ≡ get h.held (edit_name other)
same_history h k other e = let same : k ≡ h = cc in ap (λ (j : FolderHistory). get j.held (edit_name other)) same

quiet_unchanged : (old new : DiskState) → new.cache.history ≡ old.cache.history → entries new.cache ≡ entries old.cache → edits new.cache ≡ edits old.cache → QuietCall old new
quiet_unchanged old new history entries_are edits_are = record {
  leaves = leaves_same old new entries_are edits_are;
  known = λ k is. (k, sym history ∙ is);
  files = λ h is_h k is_k other open_. same_history h k other (sym is_h ∙ sym history ∙ is_k);
  allows = allows_same old new history entries_are;
}

pub quiet_same : (old new : DiskState) → new ≡ old → QuietCall old new
quiet_same old new same = quiet_unchanged old new (ap (λ (d : DiskState). d.cache.history) same) (ap (λ (d : DiskState). entries d.cache) same) (ap (λ (d : DiskState). edits d.cache) same)

-- another key than one with no edit
under_edit_ne : (key other : List ℕ) (es : List (Option (List ℕ))) → edit_of key es ≡ None → IsSome (edit_of other es) → other ≢ key
under_edit_ne key other es none some same = let bad : false ≡ true = subst IsSome none (subst (λ k. IsSome (edit_of k es)) same some) in cc

quiet_call : (key : List ℕ) (meant made : Steps) (old new : DiskState) → edit_of key (edits old.cache) ≡ None → CallOn key meant made old.cache new.cache → LeavesEdits old new → Allows nothing_handed old new → QuietCall old new
quiet_call key meant made old new none call leaves allows = record {
  leaves = leaves;
  known = call.passage.known;
  files = λ h is_h k is_k other open_. call.others h is_h k is_k other (under_edit_ne key other (edits old.cache) none open_);
  allows = allows;
}

-- ---- a read

closed_none : (found : Option ℕ) (es : List (Option (List ℕ))) → found ≡ None → closed_at found es ≡ es
closed_none found es none = ap (λ o. closed_at o es) none

pub offered_closed : (key : List ℕ) (t : Table) → is_offered key t ≡ true → edit_at key t ≡ None
offered_closed key t e = unsome (edit_at key t) (and_not (is_some (len_at key t)) (is_some (edit_at key t)) e) where
  and_not : (a b : Bool) → a && not b ≡ true → b ≡ false
  and_not true true h = cc
  and_not true false h = refl
  and_not false b h = cc

pub got : (key : List ℕ) (old new : DiskState) (result : Result (Option (List ℕ)) DiskFault) → IsOnce (entries old.cache) → (edit_at key (entries old.cache) ≡ None → edit_of key (edits old.cache) ≡ None)
    → Gets key old result new → QuietCall old new
got key old new (Ok None) o closed g =
    let same = g.none refl in
    quiet_unchanged old new (ap (λ (d : DiskState). d.cache.history) same) (ap (λ (d : DiskState). entries d.cache) same) (ap (λ (d : DiskState). edits d.cache) same)
got key old new (Ok (Some bytes)) o closed g =
    let makes = g.makes refl in
    let none = offered_closed key (entries old.cache) (g.offered refl) in
    quiet_call key (use_steps key) (use_steps key) old new (closed none) makes.call
    (leaves_moved key old new (subst (Moved key (edit_at key (entries old.cache)) (entries old.cache)) (sym (g.ok refl)) (moved_used key (entries old.cache) o)) (g.edits_are refl))
    (allows_passage (use_steps key) old new makes.call.passage)
got key old new (Err fault) o closed g =
    let fails = g.fails refl in
    let none = offered_closed key (entries old.cache) (g.err refl) in
    quiet_call key (use_steps key) (drop_steps key) old new (closed none) fails.call
    (leaves_without key old new o none fails.forgets.entries_are (fails.forgets.edit.edits_are ∙ closed_none (edit_of key (edits old.cache)) (edits old.cache) (closed none)))
    (allows_passage (use_steps key) old new fails.call.passage)

-- ---- evictions

-- a key of no open edit has none in the table
pub closed_kept : (key : List ℕ) (es : List (Option (List ℕ))) (written : List ℕ) (t : Entries (Option ℕ)) → edit_of key es ≡ None → edit_at key (mapped (kept_by es written) t) ≡ None
closed_kept key es written [] none = refl
closed_kept key es written (e ∷ t) none = elim (bytes_eq key e.0) as (λ b. bytes_eq key e.0 ≡ b → option_and_then (λ (k : Kept). k.edit) (cond b (Some (kept_by es written e.0 e.1)) (value_at key (mapped (kept_by es written) t))) ≡ None) [
  | true ↦ λ is. subst (λ k. (kept_by es written k e.1).edit ≡ None) (sym (same_if e.0 key is)) (ap (option_map (λ number. get_or written number 0)) none)
  | false ↦ λ is. closed_kept key es written t none
] refl

pub evicted_key : (key : List ℕ) (old new : DiskState) (result : Result Bool DiskFault) → next_eviction old ≡ Some key → Evicts old result new → Trims key result old new
evicted_key key old new result is e = subst (λ o. IfSome o (λ k. Trims k result old new)) is e.key

trim_closed : (key : List ℕ) (old new : DiskState) (result : Result Bool DiskFault) → Trims key result old new → edit_at key (entries old.cache) ≡ None
trim_closed key old new result t = closed_kept key (edits old.cache) old.cache.table.written old.cache.table.table.entries t.closed

pub evicted_one : (key : List ℕ) (old new : DiskState) → IsOnce (entries old.cache) → next_eviction old ≡ Some key → Evicts old (Ok true) new → QuietCall old new
evicted_one key old new o is e =
    let t = evicted_key key old new (Ok true) is e in
    let makes = t.makes refl in
    quiet_call key (drop_steps key) (drop_steps key) old new t.closed makes.call
    (leaves_without key old new o (trim_closed key old new (Ok true) t) (t.gone refl) t.edits_are)
    (allows_passage (drop_steps key) old new makes.call.passage)

evicted_failed : (key : List ℕ) (fault : DiskFault) (old new : DiskState) → next_eviction old ≡ Some key → Evicts old (Err fault) new → QuietCall old new
evicted_failed key fault old new is e =
    let t = evicted_key key old new (Err fault) is e in
    let stays = t.stays refl in
    record {
      leaves = leaves_same old new stays.entries_are t.edits_are;
      known = stays.passage.known;
      files = λ h is_h k is_k other open_. stays.files h is_h k is_k other;
      allows = allows_passage (drop_steps key) old new stays.passage;
    }

pub some_next : {X : Type 0} (o : Option X) → IsSome o → (x : X) × (o ≡ Some x)
some_next None h = let bad = h in cc
some_next (Some x) h = (x, refl)

pub ended : (old new : DiskState) (result : Result ⊤ DiskFault) → EndsEvicting old result new → QuietCall old new
ended old new (Ok x) e = quiet_same old new (e.idle refl)
ended old new (Err fault) e = let next = some_next (next_eviction old) (e.err refl) in evicted_failed next.0 fault old new next.1 e

pub evicted_to : (gone : List (List ℕ)) (old new : DiskState) → IsOnce (entries old.cache) → EvictsTo gone old new → QuietCall old new
evicted_to [] old new o e = quiet_same old new e
evicted_to (key ∷ gone) old new o e =
    let first = evicted_one key old e.0 o e.1 e.2 in
    quiet_then old e.0 new first (evicted_to gone e.0 new (first.leaves.once o) e.3)

pub evicted : (gone : List (List ℕ)) (old new : DiskState) (result : Result ⊤ DiskFault) → IsOnce (entries old.cache) → EvictsAll gone old result new → QuietCall old new
evicted gone old new result o e = quiet_then old e.last new (evicted_to gone old e.last o e.evicts) (ended e.last new result e.ends)

-- ---- what evictions offer

one_allows : (key : List ℕ) (old new : DiskState) → next_eviction old ≡ Some key → Evicts old (Ok true) new → Allows nothing_handed old new
one_allows key old new is e = allows_passage (drop_steps key) old new ((evicted_key key old new (Ok true) is e).makes refl).call.passage

to_allows : (gone : List (List ℕ)) (old new : DiskState) → EvictsTo gone old new → Allows nothing_handed old new
to_allows [] old new e = (quiet_same old new e).allows
to_allows (key ∷ gone) old new e = allows_then nothing_handed old e.0 new (one_allows key old e.0 e.1 e.2) (to_allows gone e.0 new e.3)

pub evicted_allows : (gone : List (List ℕ)) (old new : DiskState) (result : Result ⊤ DiskFault) → EvictsAll gone old result new → Allows nothing_handed old new
evicted_allows gone old new result e = allows_then nothing_handed old e.last new (to_allows gone old e.last e.evicts) (ended e.last new result e.ends).allows
