use Rattle.std.proofs.Common.{[], ◌∷◌, ◌++◌, sym, ap, ◌∙◌}
use Rattle.outside.specs.Files.{last_of}
use Rattle.outside.specs.MemoryFiles.{contents_of, history_of}
use Rattle.outside.proofs.Histories.{history_more}
use Rattle.outside.proofs.memory_files.MemoryFiles.make_change.Goals as goal

pub invariant_of-self-2 : goal.invariant_of-self-2
invariant_of-self-2 c =
    (c.in_ok-make_change.ensures).ok
    ∙ ap (λ f. last_of f (contents_of c.args.change f)) c.self.invariant
    ∙ sym (ap (λ h. h.held) (history_more c.self.inside.changes.items c.args.change))
    ∙ ap (λ cs. (history_of cs).held) (sym (c.keep.ensures ∙ ap (λ l. l ++ c.args.change ∷ []) c.reserve.ensures.items))
