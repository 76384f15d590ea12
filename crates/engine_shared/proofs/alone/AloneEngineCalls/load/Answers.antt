use Rattle.std.proofs.Common.{◌≡◌, ℕ, Ok, Err, rules, refl, ap, sym, subst, ◌∙◌}
use Rattle.std.proofs.lemmas.Bool.{false≢true}
use Rattle.engine_world.specs.declared.events.NotedReply.{NotedReply}
use Rattle.engine_world.specs.declared.events.NotedReply.TheVariants as replies
use Rattle.engine_shared.specs.declared.answers.Full.{Full}
use Rattle.engine_shared.specs.Tokens.{HoldValue}
use Rattle.engine_shared.specs.Answers.{IsLoaded}
use Rattle.engine_shared.proofs.alone.AloneEngineCalls.load.Goals as goal

is_full : (full : Full) (reply : NotedReply) → IsLoaded {A = ℕ} (Err full) reply → reply ≡ replies.Full
is_full full replies.Full is = refl
is_full full reply is = absurd is

as_loaded : {A B : Type 0} (a : A) (b : B) (reply : NotedReply) → IsLoaded (Ok a) reply → IsLoaded (Ok b) reply
as_loaded a b replies.Ready is = tt
as_loaded a b (replies.Joined j) is = tt
as_loaded a b (replies.Started j) is = tt
as_loaded a b reply is = absurd is

pub returns-in_err-number-clause-full : goal.returns-in_err-number-clause-full
returns-in_err-number-clause-full c =
    let e = c.in_err-number.ensures.entry in
    let exactly = c.calls_tell_what_they_add.ensures.full c.args.self.now c.begin.new.self c.args.spec e.0 e.2 in
    (λ is. exactly.0 (is_full c.in_err-number.field-0.0 e.0 e.1), λ same. search rules)

pub returns-clause-full : goal.returns-clause-full
returns-clause-full c =
    let e = c.in_ok-number.ensures.entry in
    let exactly = c.calls_tell_what_they_add.ensures.full c.args.self.now c.begin.new.self c.args.spec e.0 e.2 in
    (λ is. absurd (false≢true is), λ same. absurd (subst (IsLoaded (Ok c.in_ok-number.number)) (exactly.1 same) e.1))

pub returns-clause-load : goal.returns-clause-load
returns-clause-load c =
    let e = c.in_ok-number.ensures.entry in
    c.calls_tell_what_they_add.ensures.loads c.args.self.now c.begin.new.self c.args.spec e.0 c.new.result (as_loaded c.in_ok-number.number c.new.result e.0 e.1) e.2
    (ap (λ (hold : HoldValue). hold.number) c.new.ensures ∙ c.in_ok-number.ensures.number)
    (ap (λ (hold : HoldValue). hold.key) c.new.ensures ∙ c.of-key.ensures)

pub returns-clause-who : goal.returns-clause-who
returns-clause-who c = ap (λ (hold : HoldValue). hold.who) c.new.ensures ∙ sym c.in_ok-number.ensures.seat
