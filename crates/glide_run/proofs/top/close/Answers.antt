use Rattle.std.proofs.Common.{◌≡◌, ℕ, ◌+◌, List, [], ◌∷◌, ◌++◌, length, refl, ap, sym, ◌∙◌, append_assoc, append-nil, arith}
use Rattle.engine_world.specs.World.{World}
use Rattle.engine_world.specs.declared.events.Event.TheVariants as events
use Rattle.engine_world.specs.declared.events.NotedReply.{NotedReply}
use Rattle.engine_world.specs.declared.events.NotedReply.TheVariants as replies
use Rattle.engine_world.specs.declared.events.Totals.{Totals}
use Rattle.engine_world.specs.Balance.{totals}
use Rattle.engine_shared.specs.Caller.{entry_of}
use Rattle.fetch_bounds.specs.Costs.{source_runs}
use Rattle.fetch_bounds.specs.Failures.{fails_in}
use Rattle.glide_run.proofs.top.close.Goals as goal

abbrev told_of : Totals → NotedReply → Totals
told_of sums (replies.Totals other) = other
told_of sums reply = sums

told_is : (sums other : Totals) → replies.Totals sums ≡ replies.Totals other → sums ≡ other
told_is sums other e = ap (told_of sums) e

pub returns : goal.returns
returns g c =
    let old = g.E.EngineCalls.caller c.args.engine.now in
    let mid = g.E.EngineCalls.caller c.close.new.self in
    let new = g.E.EngineCalls.caller c.totals.new.self in
    let alone = c.quiet_calls_leave_views.ensures.alone in
    let closes = c.close.ensures.entry in
    let tells = c.totals.ensures.entry in
    let owner = c.requires.owner in
    let first = alone events.Close replies.Done old mid owner.who owner.seats closes in
    let second = alone events.Totals (replies.Totals c.totals.result) mid new (closes.who ∙ owner.who) (ap (λ (w : World). length w.limits.quotas) first.opening ∙ owner.seats) tells in
    let close_entry = entry_of old events.Close replies.Done in
    let totals_entry = entry_of mid events.Totals (replies.Totals c.totals.result) in
    let seen : new.seen ≡ old.seen ++ close_entry ∷ totals_entry ∷ [] =
    second.seen ∙ ap (λ l. l ++ totals_entry ∷ []) first.seen ∙ append_assoc old.seen (close_entry ∷ []) (totals_entry ∷ []) in
    record {
      later = close_entry ∷ totals_entry ∷ [];
      seen = seen;
      work = (tt, (tt, tt));
      who = tells.who ∙ closes.who;
      legal = tells.legal;
      opening = second.opening ∙ first.opening;
      knowledge = tells.knowledge ∙ closes.knowledge;
      no_job = record {
        runs = omega (arith, ap source_runs seen, c.failures_add_up.ensures.runs old.seen (close_entry ∷ totals_entry ∷ []));
        fails = ap fails_in second.seen ∙ c.failures_add_up.ensures.entry mid.seen totals_entry ∙ append-nil (fails_in mid.seen)
            ∙ ap fails_in first.seen ∙ c.failures_add_up.ensures.entry old.seen close_entry ∙ append-nil (fails_in old.seen);
      };
      sums_are = told_is c.totals.result (totals mid.world) second.step.0 ∙ ap totals (sym second.step.1);
    }
