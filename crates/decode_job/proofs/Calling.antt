-- What single calls are among those of a job, and how these follow one another.
use Rattle.std.proofs.Common.{◌≡◌, ℕ, Bool, true, false, cond, List, [], ◌∷◌, ◌++◌, refl, ap, sym, subst, ◌∙◌, true≢false}
use Rattle.std.specs.FinMap.{get}
use Rattle.std.proofs.lemmas.Bool.{eq-eqb}
use Rattle.std.proofs.lemmas.List.{append_assoc}
use Rattle.state_machine.specs.declared.entry.Entry.{Entry}
use Rattle.state_machine.specs.Histories.{own}
use Rattle.state_machine.specs.Laws.{OwnEntriesAppend, StepsJoin}
use Rattle.engine_world.specs.declared.events.Event.{Event}
use Rattle.engine_world.specs.declared.events.Event.TheVariants as events
use Rattle.engine_world.specs.declared.events.NotedReply.{NotedReply}
use Rattle.engine_world.specs.declared.events.NotedReply.TheVariants as replies
use Rattle.engine_world.specs.declared.events.Note.{Note}
use Rattle.engine_world.specs.Knowledge.{OwnJob, Knowledge, updated}
use Rattle.engine_world.specs.Laws.{IsRelease}
use Rattle.engine_core.specs.Noted.{lent_by}
use Rattle.engine_shared.specs.Caller.{Caller, knowledge_of, engine, entry_of, IsCall}
use Rattle.engine_shared.specs.Answers.{with_told}
use Rattle.decode_job.specs.JobCalls.{IsOfJob, tells_not_cancelled, AreOfJob, MakesCalls}
use Rattle.decode_job.specs.inside.JobLaws.{AskingGoesOn, TakingGoesOn, WantingGoesOn, GivingGoesOn, CallsJoin}

-- ---- entries of a job

of_told : (j : ℕ) (told : Bool) (event : Event) → IsOfJob j false event → IsOfJob j told event
of_told j told (events.IsCancelled i) is = is
of_told j told (events.Take i width height config) is = absurd (true≢false (sym is.1))
of_told j told (events.GiveBack i bitmap) is = is
of_told j told (events.Load spec) is = is
of_told j told (events.Collect n) is = is
of_told j told (events.Look n) is = is
of_told j told (events.Read n at) is = is
of_told j told (events.Release n) is = is
of_told j told (events.NextJob room) is = is
of_told j told (events.Finish i bitmap) is = is
of_told j told (events.Fail i cause) is = is
of_told j told (events.Quit i) is = is
of_told j told (events.Trim level) is = is
of_told j told events.Close is = is
of_told j told events.Totals is = is

all_told : (j : ℕ) (told : Bool) (xs : List (Entry Note)) → AreOfJob j false xs → AreOfJob j told xs
all_told j told [] all = tt
all_told j told (e ∷ xs) all = (of_told j told e.note.event all.0, all.1)

AreOfJob-append : (j : ℕ) (told : Bool) (xs ys : List (Entry Note)) → AreOfJob j told xs → AreOfJob j false ys → AreOfJob j told (xs ++ ys)
AreOfJob-append j told [] ys first rest = all_told j told ys rest
AreOfJob-append j told (e ∷ xs) ys first rest = (first.0, AreOfJob-append j (tells_not_cancelled e.note.event e.note.reply) xs ys first.1 rest)

module _ (owns : OwnEntriesAppend Note) (join : StepsJoin engine) where
  -- the entries of others and then an own one
  own_last : (who : ℕ) (others : List (Entry Note)) (e : Entry Note) → own who others ≡ [] → e.by ≡ who → own who (others ++ e ∷ []) ≡ e ∷ []
  own_last who others e none is =
      owns who others (e ∷ []) ∙ ap (λ b. own who others ++ cond b (e ∷ []) []) (eq-eqb e.by who is) ∙ ap (λ l. l ++ e ∷ []) none

  -- one call
  one_call : (j : ℕ) (told : Bool) (old new : Caller) (event : Event) (reply : NotedReply) → IsCall old event reply new → IsOfJob j told event → ((n : ℕ) → IsRelease (old.who, n) old.who event → ⊥)
      → ((k : Knowledge) → ((updated event reply k).begun ≡ k.begun) × ((updated event reply k).loads ≡ k.loads)) → MakesCalls told old j new
  one_call j told old new event reply call of_job not keeps =
      let e : Entry Note = entry_of old event reply in
      record {
        later = call.others ++ e ∷ [];
        who = call.who;
        seen = call.seen ∙ append_assoc old.seen call.others (e ∷ []);
        led = join old.world call.before new.world call.others (e ∷ []) call.led (new.world, call.step, refl);
        mine = subst (AreOfJob j told) (sym (own_last old.who call.others e call.none_own refl)) (of_job, tt);
        content = call.content;
        begun = ap (λ (k : Knowledge). k.begun) call.knowledge ∙ (keeps (knowledge_of old)).0;
        loads = ap (λ (k : Knowledge). k.loads) call.knowledge ∙ (keeps (knowledge_of old)).1;
        pictures = λ n own. call.pictures n own (not n);
      }

  -- some calls, and then some more
  both : (j : ℕ) (told : Bool) (a b c : Caller) (f : MakesCalls false a j b) (s : MakesCalls told b j c) → AreOfJob j false (own a.who (f.later ++ s.later)) → MakesCalls false a j c
  both j told a b c f s mine = record {
    later = f.later ++ s.later;
    who = s.who ∙ f.who;
    seen = s.seen ∙ ap (λ l. l ++ s.later) f.seen ∙ append_assoc a.seen f.later s.later;
    led = join a.world b.world c.world f.later s.later f.led s.led;
    mine = mine;
    content = s.content ∙ f.content;
    begun = s.begun ∙ f.begun;
    loads = s.loads ∙ f.loads;
    pictures = λ n own. s.pictures n (own.0, ap (λ m. get m n) f.loads ∙ own.1, own.2) ∙ f.pictures n own;
  }

  more : (j : ℕ) (a b c : Caller) → MakesCalls false a j b → MakesCalls false b j c → MakesCalls false a j c
  more j a b c f s = both j false a b c f s
      (subst (AreOfJob j false) (sym (owns a.who f.later s.later)) (AreOfJob-append j false (own a.who f.later) (own a.who s.later) f.mine (subst (λ k. AreOfJob j false (own k s.later)) f.who s.mine)))

  asks : (j : ℕ) (cancelled : Bool) (a b : Caller) → IsCall a (events.IsCancelled j) (replies.Cancelled cancelled) b → MakesCalls false a j b
  asks j cancelled a b call = one_call j false a b (events.IsCancelled j) (replies.Cancelled cancelled) call refl (λ n is. is)
      (λ k. elim cancelled as (λ t. ((updated (events.IsCancelled j) (replies.Cancelled t) k).begun ≡ k.begun) × ((updated (events.IsCancelled j) (replies.Cancelled t) k).loads ≡ k.loads)) [ true ↦ (refl, refl) | false ↦ (refl, refl) ])

  -- A caller was told that its job is not cancelled, and then went on.
  told_then : (j : ℕ) (a b c : Caller) → IsCall a (events.IsCancelled j) (replies.Cancelled false) b → MakesCalls true b j c → MakesCalls false a j c
  unfolding one_call asks
  told_then j a b c call s =
      let e : Entry Note = entry_of a (events.IsCancelled j) (replies.Cancelled false) in
      both j true a b c (asks j false a b call) s
      (subst (AreOfJob j false) (sym (owns a.who (call.others ++ e ∷ []) s.later ∙ ap (λ l. l ++ own a.who s.later) (own_last a.who call.others e call.none_own refl))) (refl, subst (λ k. AreOfJob j true (own k s.later)) call.who s.mine))

  pub calls_join : CallsJoin
  calls_join a b c p q r f s = record {
    calls = more p.number a b c f.calls (subst (λ j. MakesCalls false b j c) f.number s.calls);
    runs = s.runs;
    number = s.number ∙ f.number;
    spec = s.spec ∙ f.spec;
  }

  pub asking_goes_on : AskingGoesOn
  asking_goes_on old new p q cancelled call runs is = record {
    calls = asks p.number cancelled old new call;
    runs = runs;
    number = ap (λ (j : OwnJob). j.number) is ∙ elim cancelled as (λ t. (with_told t p).number ≡ p.number) [ true ↦ refl | false ↦ refl ];
    spec = ap (λ (j : OwnJob). j.spec) is ∙ elim cancelled as (λ t. (with_told t p).spec ≡ p.spec) [ true ↦ refl | false ↦ refl ];
  }

  pub taking_goes_on : TakingGoesOn
  taking_goes_on a b c p q r width height config bitmap asked stays call runs is = record {
    calls = told_then p.number a b c asked (subst (λ j. MakesCalls true b j c) (ap (λ (j : OwnJob). j.number) stays)
        (one_call q.number true b c (events.Take q.number width height config) (replies.Taken (lent_by bitmap)) call (refl, refl) (λ n is. is) (λ k. (refl, refl))));
    runs = runs;
    number = ap (λ (j : OwnJob). j.number) is ∙ ap (λ (j : OwnJob). j.number) stays;
    spec = ap (λ (j : OwnJob). j.spec) is ∙ ap (λ (j : OwnJob). j.spec) stays;
  }

  pub wanting_goes_on : WantingGoesOn
  wanting_goes_on a b c p q r width height config asked stays call runs is = record {
    calls = told_then p.number a b c asked (subst (λ j. MakesCalls true b j c) (ap (λ (j : OwnJob). j.number) stays)
        (one_call q.number true b c (events.Take q.number width height config) replies.NoMemory call (refl, refl) (λ n is. is) (λ k. (refl, refl))));
    runs = runs;
    number = ap (λ (j : OwnJob). j.number) is ∙ ap (λ (j : OwnJob). j.number) stays;
    spec = ap (λ (j : OwnJob). j.spec) is ∙ ap (λ (j : OwnJob). j.spec) stays;
  }

  pub giving_goes_on : GivingGoesOn
  giving_goes_on old new p q bitmap call runs is = record {
    calls = one_call p.number false old new (events.GiveBack p.number bitmap) replies.Done call refl (λ n is. is) (λ k. (refl, refl));
    runs = runs;
    number = ap (λ (j : OwnJob). j.number) is;
    spec = ap (λ (j : OwnJob). j.spec) is;
  }
