-- A call after a read, which has changed nothing but the count of faults.
use Rattle.std.proofs.Common.{◌≡◌, ℕ, true, ◌&&◌, not, List, Some, None, refl, ap, subst, ◌∙◌, is_some, option_and_then}
use Rattle.std.specs.declared.option.Option.{Option}
use Rattle.disk_table.specs.UseOrder.{without, value_at, is_known}
use Rattle.disk_table.specs.Table.{edit_of}
use Rattle.cache_folder.specs.Tables.{Kept, Table, edit_at, is_offered, closed_at}
use Rattle.cache_folder.specs.Laws.{CacheLaws}
use Rattle.disk_lru.specs.State.{CacheState, entries, edits}
use Rattle.disk_lru.specs.Calls.{Steps, drop_steps, CallOn, Forgets, Makes, Fails}
use Rattle.disk_lru.proofs.Composed.{call_unready}
use Rattle.disk_lru.proofs.Fields.{rebuilds_none, fails_is}

-- a key that is offered is known
pub offered_known : (key : List ℕ) (t : Table) → is_offered key t ≡ true → is_known key t ≡ true
offered_known key t h = by (value_at key t) (edit_at key t) h where
  by : (o : Option Kept) (edit : Option ℕ) → (is_some (option_and_then (λ k. k.len) o) && not (is_some edit)) ≡ true → is_some o ≡ true
  by None edit h = cc
  by (Some k) edit h = refl

call_from : (key : List ℕ) (meant made : Steps) (old new : CacheState) (n : ℕ) → CallOn key meant made (record old { faults = n }) new → CallOn key meant made old new
call_from key meant made old new n x = record {
  passage = record { known = x.passage.known; moments = x.passage.moments; allows = x.passage.allows };
  list = x.list;
  others = x.others;
}

pub makes_from : (key : List ℕ) (steps : Steps) (old mid new : CacheState) → mid ≡ record old { faults = mid.faults } → Makes key steps mid new → Makes key steps old new
makes_from key steps old mid new same x =
    let y : Makes key steps (record old { faults = mid.faults }) new = subst (λ s. Makes key steps s new) same x in
    record { call = call_from key steps steps old new mid.faults y.call; offers_now = y.offers_now; answers = y.answers; settled = y.settled }

pub fails_from : (key : List ℕ) (steps : Steps) (old mid new : CacheState) → mid ≡ record old { faults = mid.faults } → Fails key steps mid new → Fails key steps old new
fails_from key steps old mid new same x =
    let y : Fails key steps (record old { faults = mid.faults }) new = subst (λ s. Fails key steps s new) same x in
    record {
      forgets = record { entries_are = y.forgets.entries_are; edit = record { edits_are = y.forgets.edit.edits_are; own = y.forgets.edit.own; others = y.forgets.edit.others }; due = y.forgets.due };
      call = call_from key steps (drop_steps key) old new mid.faults y.call;
      answers = y.answers;
    }

-- a read that failed, and the key forgotten
pub fails_read : (laws : CacheLaws) (key : List ℕ) (steps : Steps) (old mid new : CacheState) → mid ≡ record old { faults = mid.faults } → Forgets key mid new → new.history ≡ mid.history → Fails key steps old new
fails_read laws key steps old mid new same f files =
    let gone : entries new ≡ without key (entries old) = f.entries_are ∙ ap (λ (s : CacheState). without key (entries s)) same in
    fails_is laws key steps old new record {
      entries_are = gone;
      edit = record {
        edits_are = f.edit.edits_are ∙ ap (λ (s : CacheState). closed_at (edit_of key (edits s)) (edits s)) same;
        own = f.edit.own;
        others = λ other ne. f.edit.others other ne ∙ ap (λ (s : CacheState). edit_of other (edits s)) same;
      };
      due = f.due;
    } (call_unready laws key steps old old new (rebuilds_none old) (files ∙ ap (λ (s : CacheState). s.history) same) gone)
