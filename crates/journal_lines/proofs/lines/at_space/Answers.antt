use Rattle.std.proofs.Common.{◌+◌, ◌-◌, length, length-drop, Some, take, drop, ap, ◌∙◌, arith}
use Rattle.std.specs.Option.{option_map}
use Rattle.std.proofs.lemmas.List.{take_all}
use Rattle.journal_lines.proofs.Reading.{at_space-position}
use Rattle.journal_lines.proofs.lines.at_space.Goals as goal

pub returns-in-None : goal.returns-in-None
returns-in-None c = ap (option_map (λ i. (take i c.args.text.now, drop (i + 1) c.args.text.now))) (c.in-None.ensures) ∙ at_space-position c.args.text.now

pub returns-in-Some : goal.returns-in-Some
returns-in-Some c =
    (λ k. Some (take c.in-Some.at c.args.text.now, take_all (length c.args.text.now - (c.in-Some.at + 1)) (drop (c.in-Some.at + 1) c.args.text.now) (omega (arith, length-drop (c.in-Some.at + 1) c.args.text.now)) k))
    ∙ ap (option_map (λ i. (take i c.args.text.now, drop (i + 1) c.args.text.now))) (c.in-Some.ensures) ∙ at_space-position c.args.text.now
