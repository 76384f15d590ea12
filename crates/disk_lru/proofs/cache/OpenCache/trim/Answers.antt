use Rattle.std.proofs.Common.{refl, ap, ◌∙◌, is_ok, is_err}
use Rattle.disk_table.specs.UseOrder.{without, is_known}
use Rattle.disk_table.specs.Table.{edit_of}
use Rattle.cache_folder.specs.Tables.{closed_at}
use Rattle.disk_lru.specs.State.{edits}
use Rattle.disk_lru.specs.Calls.{drop_steps}
use Rattle.disk_lru.proofs.Composed.{makes_by, stays_unready, stays_after}
use Rattle.disk_lru.proofs.cache.OpenCache.trim.Goals as goal

pub trim_now-requires-clause-known : goal.trim_now-requires-clause-known
trim_now-requires-clause-known g c = ap (is_known c.args.key.now) c.rebuild_due.ensures.rebuilds.entries_are ∙ c.requires.known

pub returns-in_err-rebuild_due-clause-stays : goal.returns-in_err-rebuild_due-clause-stays
returns-in_err-rebuild_due-clause-stays g c = λ failed. stays_unready c.calls_keep_others.ensures c.args.key.now c.args.self.now c.rebuild_due.new.self c.rebuild_due.ensures.rebuilds

pub returns-in_err-trim_now-clause-stays : goal.returns-in_err-trim_now-clause-stays
returns-in_err-trim_now-clause-stays g c = λ failed. stays_after c.calls_keep_others.ensures c.args.key.now c.args.self.now c.rebuild_due.new.self c.trim_now.new.self c.rebuild_due.ensures.rebuilds (c.trim_now.ensures.stays (ap is_err c.in_err-trim_now.was))

pub returns-clause-makes : goal.returns-clause-makes
returns-clause-makes g c = λ ok. makes_by c.calls_keep_others.ensures c.args.key.now (drop_steps c.args.key.now) c.args.self.now c.rebuild_due.new.self c.trim_now.new.self c.settle.new.self c.rebuild_due.ensures.rebuilds (λ f h s. refl) (c.trim_now.ensures.took (ap is_ok c.in_ok-trim_now.was)) c.settle.ensures.rebuilds c.settle.ensures.settled

pub returns-clause-ok : goal.returns-clause-ok
returns-clause-ok g c = λ ok. c.settle.ensures.rebuilds.entries_are ∙ c.trim_now.ensures.ok (ap is_ok c.in_ok-trim_now.was) ∙ ap (without c.args.key.now) c.rebuild_due.ensures.rebuilds.entries_are

pub returns-in_err-rebuild_due-clause-edits : goal.returns-in_err-rebuild_due-clause-edits
returns-in_err-rebuild_due-clause-edits g c = λ none. c.rebuild_due.ensures.rebuilds.edits_are

pub returns-in_err-trim_now-clause-edits : goal.returns-in_err-trim_now-clause-edits
returns-in_err-trim_now-clause-edits g c = λ none. (c.trim_now.ensures.stays (ap is_err c.in_err-trim_now.was)).edits_are ∙ c.rebuild_due.ensures.rebuilds.edits_are

pub returns-clause-edits : goal.returns-clause-edits
returns-clause-edits g c = λ none. c.settle.ensures.rebuilds.edits_are ∙ (c.trim_now.ensures.edit (ap is_ok c.in_ok-trim_now.was)).edits_are
    ∙ ap (λ o. closed_at o (edits c.rebuild_due.new.self)) (ap (edit_of c.args.key.now) c.rebuild_due.ensures.rebuilds.edits_are ∙ none) ∙ c.rebuild_due.ensures.rebuilds.edits_are

pub returns-clause-files : goal.returns-clause-files
returns-clause-files g c = λ ok. record {
  none = λ h e k e' none.
      let made = c.trim_now.ensures.took (ap is_ok c.in_ok-trim_now.was) in
      let b = c.settle.ensures.rebuilds.known k e' in
      let a = made.call.passage.known b.0 b.1 in
      c.settle.ensures.rebuilds.files.none b.0 b.1 k e' ((c.trim_now.ensures.files (ap is_ok c.in_ok-trim_now.was)).none a.0 a.1 b.0 b.1 (c.rebuild_due.ensures.rebuilds.files.none h e a.0 a.1 none));
}
