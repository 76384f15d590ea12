use Rattle.std.proofs.Common.{sym, ap, ◌∙◌}
use Rattle.cache_folder.specs.Starts.{without_all}
use Rattle.cache_folder.proofs.Staying.{without_dropped, nothing_stale}
use Rattle.cache_folder.proofs.leftovers.discard_stale.Goals as goal

pub returns-then-is_empty-clause-entries : goal.returns-then-is_empty-clause-entries
returns-then-is_empty-clause-entries g c = λ ok h e.
    let es = c.args.table.now.table.entries in
    ap (λ keys. without_all keys es) (sym (nothing_stale c.in_ok-stale.stale.items _ c.in_ok-stale.stale.ok.0 (sym c.is_empty.ensures ∙ c.if-is_empty.true)) ∙ c.in_ok-stale.ensures.keys h e)
    ∙ without_dropped h.held es c.keys-once.ensures.once

pub returns-clause-entries : goal.returns-clause-entries
returns-clause-entries g c = λ ok h e.
    let es = c.args.table.now.table.entries in
    c.discard_all.ensures.entries ∙ ap (λ keys. without_all keys es) (c.deref.ensures.value ∙ c.in_ok-stale.ensures.keys h e)
    ∙ without_dropped h.held es c.keys-once-2.ensures.once
