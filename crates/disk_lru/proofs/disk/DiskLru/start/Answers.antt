use Rattle.std.proofs.Common.{◌≡◌, [], ◌++◌, sym, ap, subst, ◌∙◌, append-nil, is_ok}
use Rattle.disk_table.specs.Table.{edit_of}
use Rattle.cache_folder.specs.Offered.{offered}
use Rattle.cache_folder.specs.Images.{Runs}
use Rattle.cache_folder.specs.Allowed.{Pass}
use Rattle.cache_folder.specs.Starts.{OffersSame}
use Rattle.disk_lru.specs.Past.{PastValue, is_among}
use Rattle.disk_lru.specs.Started.{IsStarted}
use Rattle.disk_lru.proofs.Runs.{run_weaken}
use Rattle.disk_lru.proofs.Promises.{own_pass}
use Rattle.disk_lru.proofs.disk.DiskLru.start.Goals as goal

pub returns-in-Err-clause-refused : goal.returns-in-Err-clause-refused
returns-in-Err-clause-refused g c = λ h e.
    run_weaken (OffersSame h.held) (λ f. Pass (is_among (offered h.held)) (offered f)) h _ (λ d same. subst (Pass (is_among (offered h.held))) (sym same) (own_pass (offered h.held))) (c.open.ensures.moments h e)

pub of_opened-disk-requires-clause-known : goal.of_opened-disk-requires-clause-known
of_opened-disk-requires-clause-known g c = λ k e. let m = c.open.ensures.known k e in (m.0, ap (λ f. g.F.Files.history f) c.of-before.ensures ∙ m.1)

pub returns-clause-refused : goal.returns-clause-refused
returns-clause-refused g c = λ h e.
    let entry : c.evict_all.new.disk.past.entry ≡ g.F.Files.history c.args.files = c.evict_all.ensures.past.entry ∙ ap (λ (p : PastValue). p.entry) c.of_opened-disk.ensures.past ∙ ap (λ f. g.F.Files.history f) c.of-before.ensures in
    let handed : c.evict_all.new.disk.past.handed ≡ [] = c.evict_all.ensures.past.handed ∙ ap (λ (p : PastValue). p.handed) c.of_opened-disk.ensures.past in
    subst (λ o. Runs (λ f. Pass (is_among (offered h.held)) (offered f)) h o) (sym c.into_files.ensures.0)
    (subst (λ l. Runs (λ f. Pass (is_among l) (offered f)) h c.evict_all.new.disk.cache.history) (ap (λ l. offered h.held ++ l) handed ∙ append-nil (offered h.held)) (c.promise.ensures.promise.given_only h (entry ∙ e)).moments)

pub returns-clause-known : goal.returns-clause-known
returns-clause-known g c = λ k e.
    let entry : c.evict_all.new.disk.past.entry ≡ g.F.Files.history c.args.files = c.evict_all.ensures.past.entry ∙ ap (λ (p : PastValue). p.entry) c.of_opened-disk.ensures.past ∙ ap (λ f. g.F.Files.history f) c.of-before.ensures in
    let m = c.promise.ensures.promise.known k (sym c.into_files.ensures.0 ∙ e) in
    (m.0, sym entry ∙ m.1)

pub returns-in-Ok-evict_all-clause-closed : goal.returns-in-Ok-evict_all-clause-closed
returns-in-Ok-evict_all-clause-closed g c = λ key. c.calls_keep_others.ensures.closed_kept key c.evict_all.new.disk.cache.table
    (ap (edit_of key) (c.evict_all.ensures.edits (ap is_ok c.in-Ok-evict_all.is) ∙ c.of_opened-disk.ensures.free))

pub returns-in-Ok-evict_all-clause-started : goal.returns-in-Ok-evict_all-clause-started
returns-in-Ok-evict_all-clause-started g c = λ h e.
    let entry : c.evict_all.new.disk.past.entry ≡ g.F.Files.history c.args.files = c.evict_all.ensures.past.entry ∙ ap (λ (p : PastValue). p.entry) c.of_opened-disk.ensures.past ∙ ap (λ f. g.F.Files.history f) c.of-before.ensures in
    subst (λ m. IsStarted m h c.evict_all.new.disk) c.of_opened-disk.ensures.maximum (c.evict_all.ensures.started (ap is_ok c.in-Ok-evict_all.is) h (entry ∙ e))
