use Rattle.std.proofs.Common.{◌≡◌, ◌++◌, codes, ap, ◌∙◌}
use Rattle.glide_run.specs.Stats.{pairs_text}
use Rattle.glide_run.proofs.stats.Stats.text.Goals as goal

pub loop-word-init : goal.loop-word-init
loop-word-init c =
    let text : c.extend_from_slice.new.self.items ≡ codes "stats" = c.in_ok-extend_from_slice.ensures.items ∙ ap (λ l. l ++ codes "stats") c.new-text.ensures.items in
    (λ i. text i ++ pairs_text (c.pairs-word-items.ensures i))
