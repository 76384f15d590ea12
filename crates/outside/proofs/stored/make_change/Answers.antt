use Rattle.std.proofs.Common.{sym, ap, ◌∙◌}
use Rattle.outside.specs.Files.{last_of}
use Rattle.outside.specs.MemoryFiles.{contents_of}
use Rattle.outside.specs.Stored.{folder_of}
use Rattle.outside.proofs.Folders.{last_deleted}
use Rattle.outside.proofs.stored.make_change.Goals as goal

pub returns-in-Deleted-clause-ok : goal.returns-in-Deleted-clause-ok
returns-in-Deleted-clause-ok c =
    c.forget.ensures.folder
    ∙ sym (last_deleted (folder_of c.args.files.now.entries) c.in-Deleted.name)
    ∙ ap (λ change. last_of (folder_of c.args.files.now.entries) (contents_of change (folder_of c.args.files.now.entries))) (sym c.in-Deleted.is)
