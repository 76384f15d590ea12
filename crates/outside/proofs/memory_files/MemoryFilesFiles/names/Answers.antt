use Rattle.std.proofs.Common.{sym, ap, subst, ◌∙◌}
use Rattle.std.specs.BTreeMap.{keys}
use Rattle.outside.specs.Files.{IsListing}
use Rattle.outside.specs.MemoryFiles.{FilesState, history_of}
use Rattle.outside.proofs.Entries.{listing_of}
use Rattle.outside.proofs.memory_files.MemoryFilesFiles.names.Goals as goal

pub returns-clause-names : goal.returns-clause-names
returns-clause-names c =
    let held = c.self.invariant ∙ ap (λ (s : FilesState). (history_of s.changes).held) c.self.view_is ∙ ap (λ changes. (history_of changes).held) c.count_call.ensures.changes in
    subst (λ names. IsListing names (history_of c.args.self.now.changes).held) (sym (c.in_ok-names_of.ensures).names)
    (subst (IsListing (keys c.self.inside.files)) held (listing_of c.self.inside.files.entries (c.in_ok-names_of.ensures).ordered))
