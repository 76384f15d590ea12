use Rattle.std.proofs.Common.{rules, ◌≡◌, ◌<◌, true, false, Ok, length, sym, ap, subst, ◌∙◌, arith}
use Rattle.std.specs.Prelude.{IfSome}
use Rattle.disk_table.specs.Table.{eldest_over}
use Rattle.cache_folder.specs.Offered.{offered}
use Rattle.cache_folder.specs.Tables.{Table}
use Rattle.disk_lru.specs.State.{entries}
use Rattle.disk_lru.specs.Past.{PastValue, DiskState}
use Rattle.disk_lru.specs.Started.{IsStarted}
use Rattle.disk_lru.specs.Trims.{Trims}
use Rattle.disk_lru.proofs.Evictions.{evict_more, evicting_last, handed_same, not_failed, some_key, no_key, one_less}
use Rattle.disk_lru.proofs.start.evict_all.Goals as goal

pub over-smaller : goal.over-smaller
over-smaller g c =
    let yes' : c.in_ok-trim_one.field-0 ≡ true = search rules in
    let found = some_key _ (sym c.in_ok-trim_one.ensures.over ∙ yes') in
    let trims = subst (λ o. IfSome o (λ key. Trims key (Ok c.in_ok-trim_one.field-0) c.over.disk c.trim_one.new.self)) found.1 c.in_ok-trim_one.ensures.key in
    subst (λ (t : Table). length t < length (entries c.over.disk.cache)) (sym (trims.gone (ap (λ b. Ok b) yes'))) (one_less found.0 (entries c.over.disk.cache) trims.known)

pub over-preserved : goal.over-preserved
over-preserved g c =
    let yes' : c.in_ok-trim_one.field-0 ≡ true = search rules in
    let found = some_key _ (sym c.in_ok-trim_one.ensures.over ∙ yes') in
    let trims = subst (λ b. Trims found.0 (Ok b) c.over.disk c.trim_one.new.self) yes'
    (subst (λ o. IfSome o (λ key. Trims key (Ok c.in_ok-trim_one.field-0) c.over.disk c.trim_one.new.self)) found.1 c.in_ok-trim_one.ensures.key) in
    record {
      evicting = λ h e. evict_more c.args.disk.now.cache.maximum (offered h.held) c.over.disk c.trim_one.new.self found.0 trims (c.over.invariant.evicting h e)
          (ap (λ m. eldest_over m c.over.disk.cache.table.table) (sym c.over.invariant.maximum) ∙ found.1);
      entry = ap (λ (p : PastValue). p.entry) trims.past ∙ c.over.invariant.entry;
      handed = ap (λ (p : PastValue). p.handed) trims.past ∙ handed_same c.over.disk.cache.history found.0 c.over.disk.past.handed ∙ c.over.invariant.handed;
      failed = ap (λ (p : PastValue). p.failed) trims.past ∙ not_failed c.over.disk.past.failed ∙ c.over.invariant.failed;
      maximum = c.in_ok-trim_one.ensures.maximum ∙ c.over.invariant.maximum;
      edits = trims.edits_are ∙ c.over.invariant.edits;
      later = omega (arith, c.in_ok-trim_one.ensures.cause.later, c.over.invariant.later);
    }

pub returns-clause-started : goal.returns-clause-started
returns-clause-started g c = λ ok h e.
    let no' : c.in_ok-trim_one.field-0 ≡ false = search rules in
    let same : c.trim_one.new.self ≡ c.over.disk = c.in_ok-trim_one.ensures.idle no' in
    subst (λ (d : DiskState). IsStarted c.args.disk.now.cache.maximum h d) (sym same)
    (evicting_last c.args.disk.now.cache.maximum c.over.disk h
    (c.over.invariant.evicting h (sym c.over.invariant.entry ∙ ap (λ (d : DiskState). d.past.entry) (sym same) ∙ e))
    (ap (λ m. eldest_over m c.over.disk.cache.table.table) (sym c.over.invariant.maximum) ∙ no_key _ (sym c.in_ok-trim_one.ensures.over ∙ no')))
