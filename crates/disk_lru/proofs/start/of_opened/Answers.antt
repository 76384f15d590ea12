use Rattle.std.proofs.Common.{◌≡◌, sym, ap, subst, ◌∙◌}
use Rattle.outside.specs.Files.{FolderHistory, passed_through}
use Rattle.cache_folder.specs.Offered.{offered}
use Rattle.cache_folder.specs.Images.{Runs}
use Rattle.cache_folder.specs.Starts.{list_of_pairs}
use Rattle.disk_lru.specs.State.{CacheState, list_of, AnswersFor}
use Rattle.disk_lru.specs.Past.{PastValue}
use Rattle.disk_lru.proofs.Runs.{run_has}
use Rattle.disk_lru.proofs.Evictions.{evicting_first, answers_opened}
use Rattle.disk_lru.proofs.start.of_opened.Goals as goal

pub of_parts-cache-requires : goal.of_parts-cache-requires
of_parts-cache-requires g c = record {
  files = λ h e. let o = c.requires.opened h e in record { files = o.sound.files; count = o.sound.count; once = o.sound.once };
  sound = λ d h e. (c.requires.opened h e).sound;
  counted = λ d h e. (c.requires.opened h e).lines;
}

pub of_start-requires-clause-known : goal.of_start-requires-clause-known
of_start-requires-clause-known g c = λ k e. c.requires.known k (sym (ap (λ (s : CacheState). s.history) c.of_parts-cache.ensures) ∙ e)

pub of_start-requires-clause-moments : goal.of_start-requires-clause-moments
of_start-requires-clause-moments g c = λ h e. subst (λ o. Runs (λ f. offered f ≡ offered h.held) h o) (sym (ap (λ (s : CacheState). s.history) c.of_parts-cache.ensures)) (c.requires.moments h e)

pub of_start-requires-clause-list : goal.of_start-requires-clause-list
of_start-requires-clause-list g c = λ h e k e'.
    let was = sym (ap (λ (s : CacheState). s.history) c.of_parts-cache.ensures) ∙ e' in
    ap (λ (s : CacheState). list_of k.held s) c.of_parts-cache.ensures ∙ (c.requires.opened k was).list
    ∙ ap list_of_pairs (run_has _ h k _ (c.requires.moments h e) was)

pub of_start-requires-clause-answers : goal.of_start-requires-clause-answers
of_start-requires-clause-answers g c = λ k e key. subst (λ (s : CacheState). AnswersFor key k.held s) (sym c.of_parts-cache.ensures)
    (answers_opened k.held c.args.table c.requires.free (c.requires.opened k (sym (ap (λ (s : CacheState). s.history) c.of_parts-cache.ensures) ∙ e)) key)

pub returns-clause-evicting : goal.returns-clause-evicting
returns-clause-evicting g c = λ h e.
    let run = c.requires.moments h e in
    let k : FolderHistory = passed_through run.contents h in
    let cache : c.of_start.result.cache ≡ record { history = g.F.Files.history c.args.files; faults = g.F.Files.faults c.args.files; table = c.args.table; maximum = c.args.maximum; due = _ } = c.of_start.ensures.cache ∙ c.of_parts-cache.ensures in
    evicting_first c.args.maximum c.of_start.result h k c.args.table
    (ap (λ (s : CacheState). s.table) cache) (ap (λ (s : CacheState). s.history) cache ∙ run.after_is) (ap (λ (p : PastValue). p.calls) c.of_start.ensures.past) c.requires.free
    (c.requires.opened k run.after_is) run.here
