use Rattle.std.proofs.Common.{Ok, Err, true, false, [], refl, inl, ap, sym, subst, ◌∙◌}
use Rattle.script_lines.specs.declared.commands.Command.TheVariants.{Wait}
use Rattle.script_walk.specs.Walk.{Digest, gathered}
use Rattle.glide_run.specs.inside.Prints.{printer, AreLastIn}
use Rattle.glide_run.proofs.Events.{prints_none}
use Rattle.glide_run.proofs.Commands.{printed_all, nothing_printed}
use Rattle.glide_run.proofs.obeys.wait.Goals as goal

pub returns-clause-gives : goal.returns-clause-gives
returns-clause-gives g c = (
  refl,
  refl,
  λ o s follows.
      let gather = c.in_ok-wanting.ensures.gathers o s follows in
      let mid = g.E.EngineCalls.caller c.gather.new.engine in
      printed_all g.W.Sink g.S.Source c.followed_traces_join.ensures Wait Digest (λ name. false) (λ s. refl) o s c.args.out.now (g.E.EngineCalls.caller c.args.engine.now) c.args.source.now c.args.views.now mid c.gather.new.source c.gather.new.self follows
      c.in_ok-wanting.wanting gather (λ begun. AreLastIn begun (gathered gather.next s.views)) false c.args.out.now mid (record {
        events = [];
        same = sym (prints_none gather.next Digest (gathered gather.next s.views));
        knows = λ begun known. known;
        prints_is = nothing_printed g.W.Sink c.gather.new.self (λ begun. AreLastIn begun (gathered gather.next s.views)) (printer c.args.out.now mid);
      }),
)
