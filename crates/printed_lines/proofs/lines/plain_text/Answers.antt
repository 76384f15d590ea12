use Rattle.std.proofs.Common.{◌++◌, ◌∷◌, [], ap, ◌∙◌}
use Rattle.printed_lines.proofs.Texts.{plain_line_text}
use Rattle.printed_lines.proofs.lines.plain_text.Goals as goal

pub returns : goal.returns
returns c =
    let view = c.args.view.now in
    c.in_ok-push.ensures.items
    ∙ ap (λ l. l ++ 10 ∷ []) (c.in_ok-text.ensures ∙ ap (λ l. view ++ 32 ∷ l) (c.deref.ensures.value ∙ c.in_ok-words.ensures view))
    ∙ plain_line_text view c.args.state
