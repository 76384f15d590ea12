use Rattle.std.proofs.Common.{◌≡◌, ◌+◌, get_or, ap, sym, subst, ◌∙◌}
use Rattle.std.specs.Prelude.{IfSome, is_some}
use Rattle.std.specs.Option.{option_map}
use Rattle.glide_run.specs.Settings.{filled}
use Rattle.glide_run.proofs.Words.{stats_twice, stats_once, size_refused, size_said}
use Rattle.glide_run.proofs.settings.Settings.of_words.Goals as goal

pub returns-in_err-said : goal.returns-in_err-said
returns-in_err-said c =
    c.from_residual.ensures
    ∙ sym (ap (option_map filled) (c.loop-at.invariant ∙ stats_twice (λ word. word.now) _ c.loop-at.said c.args.words.now c.loop-at.at c.loop-at-test.true (sym c.eq.ensures ∙ c.if-eq.true) (sym c.with_stats.ensures ∙ c.in_err-said.was)))

pub loop-at-preserved-then-eq : goal.loop-at-preserved-then-eq
loop-at-preserved-then-eq c =
    c.loop-at.invariant ∙ stats_once (λ word. word.now) _ c.loop-at.said c.args.words.now c.loop-at.at c.loop-at-test.true c.in_ok-said.said (sym c.eq.ensures ∙ c.if-eq.true) (sym c.with_stats.ensures ∙ c.in_ok-said.was)

pub returns-in_err-said-2 : goal.returns-in_err-said-2
returns-in_err-said-2 c =
    c.from_residual-in_err-said-2.ensures
    ∙ sym (ap (option_map filled) (c.loop-at.invariant ∙ size_refused (λ word. word.now) _ c.loop-at.said c.args.words.now c.loop-at.at c.loop-at-test.true c.in_ok-number.field-0.now (sym c.get.ensures.lookup.0 ∙ ap is_some c.in_ok-number.was) (subst (λ found. IfSome found (λ x. x.now ≡ get_or c.args.words.now (c.loop-at.at + 1) x.now)) c.in_ok-number.was c.get.ensures.lookup.1) (sym c.eq.ensures ∙ c.if-eq.false) (sym c.and_size.ensures ∙ c.in_err-said-2.was)))

pub loop-at-preserved : goal.loop-at-preserved
loop-at-preserved c =
    c.loop-at.invariant ∙ size_said (λ word. word.now) _ c.loop-at.said c.args.words.now c.loop-at.at c.loop-at-test.true c.in_ok-number.field-0.now (sym c.get.ensures.lookup.0 ∙ ap is_some c.in_ok-number.was) (subst (λ found. IfSome found (λ x. x.now ≡ get_or c.args.words.now (c.loop-at.at + 1) x.now)) c.in_ok-number.was c.get.ensures.lookup.1) (sym c.eq.ensures ∙ c.if-eq.false) c.in_ok-said-2.said (sym c.and_size.ensures ∙ c.in_ok-said-2.was)
