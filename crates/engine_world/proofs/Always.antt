-- Each event keeps what is sound, the opening state is sound, and so is each that a legal history leads to.
use Rattle.std.proofs.Common.{◌≡◌, ℕ, ◌<◌, true, false, cond, eqb, ltb, List, [], ◌∷◌, ◌++◌, length, None, Option, refl, ap, sym, subst, ◌∙◌, arith, true≢false}
use Rattle.std.specs.Prelude.{◌&&◌, slice_index_or, zero, suc}
use Rattle.std.specs.Ordering.{nat_cmp}
use Rattle.std.specs.Option.{is_some}
use Rattle.std.specs.FinMap.{get, empty, get-empty, len-empty}
use Rattle.std.specs.FinSet as set
use Rattle.std.proofs.lemmas.List.{append_assoc, append-nil}
use Rattle.outside.specs.Content.{Contents}
use Rattle.finite_maps.specs.MapLaws.{not_Some}
use Rattle.state_machine.specs.declared.entry.Entry.{Entry}
use Rattle.state_machine.specs.Histories.{own}
use Rattle.state_machine.specs.Legal.{Leads, MayFollow}
use Rattle.load_table.specs.Loads.{load_cmp, holders}
use Rattle.engine_world.specs.declared.events.Event.{Event}
use Rattle.engine_world.specs.declared.events.Event.TheVariants as events
use Rattle.engine_world.specs.declared.events.Note.{Note}
use Rattle.engine_world.specs.World.{LoadState, Job, Resource, Limits, World, none_begun, opening}
use Rattle.engine_world.specs.Places.{one_if, occurrences, lent_numbers, is_held, times_out}
use Rattle.engine_world.specs.Steps.{Step}
use Rattle.engine_world.specs.Knowledge.{Knowledge, no_knowledge, updated, updated_by, learned, knowledge_in, knowledge_with}
use Rattle.engine_world.specs.Permits.{Permits}
use Rattle.engine_world.specs.Sound.{LoadsAgree, facts, KnowledgeAgrees, Sound}
use Rattle.engine_world.specs.EngineMachine.{engine_machine}
use Rattle.engine_world.specs.NumberLaws.{none_at, total-empty}
use Rattle.engine_world.specs.Laws.{KeepsSound, AlwaysSound, AlwaysBalanced}
use Rattle.engine_world.proofs.QuietEvents.{collect_law, look_law, read_law, is_cancelled_law, totals_law, close_law}
use Rattle.engine_world.proofs.NextJobEvent.{next_job_law}
use Rattle.engine_world.proofs.TakeEvent.{take_law}
use Rattle.engine_world.proofs.GiveBackEvent.{give_back_law}
use Rattle.engine_world.proofs.EndEvents.{quit_law, fail_law}
use Rattle.engine_world.proofs.FinishEvent.{finish_law}
use Rattle.engine_world.proofs.LoadEvent.{load_law}
use Rattle.engine_world.proofs.ReleaseEvent.{release_law, trim_law}
use Rattle.engine_world.proofs.Fixed.{fixed_law}
use Rattle.engine_world.proofs.Counting.{CountsAdd, sums_law}
use Rattle.engine_world.proofs.Balances.{balance_law}

-- each event
pub step_law : (event : Event) → KeepsSound event
step_law (events.Load spec) = load_law spec
step_law (events.Collect n) = collect_law n
step_law (events.Look n) = look_law n
step_law (events.Read n at) = read_law n at
step_law (events.Release n) = release_law n
step_law (events.NextJob room) = next_job_law room
step_law (events.Take j width height config) = take_law j width height config
step_law (events.GiveBack j bitmap) = give_back_law j bitmap
step_law (events.Finish j bitmap) = finish_law j bitmap
step_law (events.Fail j cause) = fail_law j cause
step_law (events.Quit j) = quit_law j
step_law (events.IsCancelled j) = is_cancelled_law j
step_law (events.Trim level) = trim_law level
step_law events.Close = close_law
step_law events.Totals = totals_law

-- ---- the opening state

all_zero : (quotas : List ℕ) (who : ℕ) → slice_index_or (none_begun quotas) who 0 ≡ 0
all_zero [] zero = refl
all_zero [] (suc who) = refl
all_zero (q ∷ quotas) zero = refl
all_zero (q ∷ quotas) (suc who) = all_zero quotas who

as_many : (quotas : List ℕ) → length (none_begun quotas) ≡ length quotas
as_many [] = refl
as_many (q ∷ quotas) = ap suc (as_many quotas)

pub opening-sound : (limits : Limits) (content : Option Contents) → Sound (opening limits content) (λ who. no_knowledge)
opening-sound limits content =
    let free : (r : ℕ) → is_held (empty {X = LoadState} {R = load_cmp}) (empty {X = Resource} {R = nat_cmp}) r ≡ false = λ r. ap (λ o. is_some o && ltb 0 (holders r (empty {X = LoadState} {R = load_cmp}))) (get-empty nat_cmp r) in
    let no_out : (b : ℕ) → times_out (empty {X = Job} {R = nat_cmp}) b ≡ 0 = λ b. total-empty nat_cmp (λ j (job : Job). occurrences b (lent_numbers job)) in
    record {
      places = record {
        once = λ b. omega (arith, no_out b, ap one_if (free b));
        below = λ b some. absurd (omega (arith, some, no_out b, ap one_if (free b)));
        kept = λ r resource at. none_at r resource at;
      };
      awaited = λ j job at live. none_at j job at;
      jobs = record { each = λ j job at. none_at j job at; apart = λ i j a b at bt live alive keys kinds. none_at i a at; seats = λ i j who a b at bt sa sb. none_at i a at };
      active = record {
        each = λ r is. absurd (true≢false (sym is ∙ set.contains-empty nat_cmp r));
        apart = λ p q a b p_in q_in at bt keys. none_at p a at;
      };
      cached = record {
        each = λ r some. absurd (omega (arith, some));
        apart = λ p q a b p_in q_in at bt keys. none_at p a at;
        size = omega arith;
        few = omega arith;
      };
      pool = record { apart = tt; size = omega arith; few = omega arith; groups = omega arith };
      lent = λ j job at. none_at j job at;
      resources = λ r resource at. none_at r resource at;
      seats = as_many limits.quotas;
      known_is = λ who. record {
        count = all_zero limits.quotas who;
        below = λ n load at. none_at n load at;
        each = λ n. subst (λ o. LoadsAgree empty empty o (get (empty {X = LoadState} {R = load_cmp}) (who, n))) (sym (get-empty nat_cmp n)) (subst (λ o. LoadsAgree empty empty None o) (sym (get-empty load_cmp (who, n))) tt);
        live = total-empty load_cmp (λ l (st : LoadState). one_if (eqb l.0 who)) ∙ sym (len-empty nat_cmp _);
        runs = λ own e. absurd (not_Some e);
        knows = λ j job at sits. none_at j job at;
      };
    }

-- ---- histories

own-append : {N : Type 0} (who : ℕ) (xs ys : List (Entry N)) → own who (xs ++ ys) ≡ own who xs ++ own who ys
own-append who [] ys = refl
own-append {N} who (e ∷ xs) ys =
    let rest : own who (xs ++ ys) ≡ own who xs ++ own who ys = own-append who xs ys in
    elim (eqb e.by who) as (λ t. cond t (e ∷ own who (xs ++ ys)) (own who (xs ++ ys)) ≡ cond t (e ∷ own who xs) (own who xs) ++ own who ys) [ true ↦ ap (λ l. e ∷ l) rest | false ↦ rest ]

updated_by-append : (known : Knowledge) (xs ys : List (Entry Note)) → updated_by known (xs ++ ys) ≡ updated_by (updated_by known xs) ys
updated_by-append known [] ys = refl
updated_by-append known (e ∷ xs) ys = updated_by-append (updated e.note.event e.note.reply known) xs ys

-- what is known after one entry more
knows_more : (past : List (Entry Note)) (e : Entry Note) (k : ℕ) → knowledge_with (knowledge_in past) e.by e.note.event e.note.reply k ≡ knowledge_in (past ++ e ∷ []) k
unfolding knowledge_with
knows_more past e k =
    let joined : knowledge_in (past ++ e ∷ []) k ≡ updated_by (knowledge_in past k) (own k (e ∷ [])) = ap learned (own-append k past (e ∷ [])) ∙ updated_by-append no_knowledge (own k past) (own k (e ∷ [])) in
    elim (eqb e.by k) as (λ t. cond t (updated e.note.event e.note.reply (knowledge_in past k)) (knowledge_in past k) ≡ updated_by (knowledge_in past k) (cond t (e ∷ []) [])) [ true ↦ refl | false ↦ refl ] ∙ sym joined

-- the same knowledge, written otherwise
same_known : (w : World) (known known' : ℕ → Knowledge) → ((k : ℕ) → known k ≡ known' k) → Sound w known → Sound w known'
same_known w known known' same s = record {
  places = s.places;
  awaited = s.awaited;
  jobs = s.jobs;
  active = s.active;
  cached = s.cached;
  pool = s.pool;
  lent = s.lent;
  resources = s.resources;
  seats = s.seats;
  known_is = λ k. subst (KnowledgeAgrees (facts w) k) (same k) (s.known_is k);
}

-- one entry more
pub history_law : (w z : World) (past : List (Entry Note)) (e : Entry Note) → e.by < length w.limits.quotas → Sound w (knowledge_in past)
    → Permits w.content (knowledge_in past e.by) e.note.event → Step w e z → Sound z (knowledge_in (past ++ e ∷ []))
history_law w z past e in_range s permits step =
    same_known z _ _ (knows_more past e) (step_law e.note.event w z (knowledge_in past) e.by e.note.reply in_range s permits step)

module _ {M Reply : Type 0} (world : M → World) (history : M → List (Entry Note)) (note : Event → Reply → Note) where
  -- after this history each of these entries might be made
  abbrev pub AllMay : Limits → Option Contents → List (Entry Note) → List (Entry Note) → Type 0
  AllMay limits content past later = (xs ys : List (Entry Note)) (e : Entry Note) → later ≡ xs ++ e ∷ ys → MayFollow (engine_machine world history note) (opening limits content) (past ++ xs) e

  pub may_later : (limits : Limits) (content : Option Contents) (past : List (Entry Note)) (e : Entry Note) (rest : List (Entry Note)) → AllMay limits content past (e ∷ rest) → AllMay limits content (past ++ e ∷ []) rest
  may_later limits content past e rest may xs ys d is =
      subst (λ l. MayFollow (engine_machine world history note) (opening limits content) l d) (sym (append_assoc past (e ∷ []) xs)) (may (e ∷ xs) ys d (ap (λ l. e ∷ l) is))

  -- the first of them is served, and permitted
  pub may_first : (limits : Limits) (content : Option Contents) (past : List (Entry Note)) (e : Entry Note) (rest : List (Entry Note)) (w : World) → w.limits ≡ limits → w.content ≡ content
      → AllMay limits content past (e ∷ rest) → (e.by < length w.limits.quotas) × Permits w.content (knowledge_in past e.by) e.note.event
  may_first limits content past e rest w lim con may =
      let here = may [] rest e refl in (
        subst (λ l. e.by < length l.quotas) (sym lim) here.seat,
        subst (λ c. Permits c (knowledge_in past e.by) e.note.event) (sym con) (subst (λ l. Permits content (knowledge_in l e.by) e.note.event) (append-nil past) here.asked),
      )

  from_past : (limits : Limits) (content : Option Contents) (past rest : List (Entry Note)) (w z : World) → w.limits ≡ limits → w.content ≡ content → Sound w (knowledge_in past)
      → Leads (engine_machine world history note) w rest z → AllMay limits content past rest → Sound z (knowledge_in (past ++ rest))
  from_past limits content past [] w z lim con s leads may = subst (λ v. Sound v (knowledge_in (past ++ []))) leads (same_known w (knowledge_in past) (knowledge_in (past ++ [])) (λ k. ap (λ l. knowledge_in l k) (sym (append-nil past))) s)
  from_past limits content past (e ∷ rest) w z lim con s leads may =
      let first = may_first limits content past e rest w lim con may in
      let fixed = fixed_law w leads.0 e.by e.note.event e.note.reply leads.1 in
      let sound : Sound leads.0 (knowledge_in (past ++ e ∷ [])) = history_law w leads.0 past e first.0 s first.1 leads.1 in
      subst (λ l. Sound z (knowledge_in l)) (append_assoc past (e ∷ []) rest)
      (from_past limits content (past ++ e ∷ []) rest leads.0 z (fixed.0 ∙ lim) (fixed.1 ∙ con) sound leads.2 (may_later limits content past e rest may))

  pub always_sound : AlwaysSound world history note
  always_sound limits content past w legal = from_past limits content [] past (opening limits content) w refl refl (opening-sound limits content) legal.leads legal.asked

  always_sums : (w z : World) (past : List (Entry Note)) → Leads (engine_machine world history note) w past z → CountsAdd w.counts w.next → CountsAdd z.counts z.next
  always_sums w z [] leads s = subst (λ (v : World). CountsAdd v.counts v.next) leads s
  always_sums w z (e ∷ rest) leads s = always_sums leads.0 z rest leads.2 (sums_law w leads.0 e.by e.note.event e.note.reply leads.1 s)

  pub always_balanced : AlwaysBalanced world history note
  always_balanced limits content past w legal =
      balance_law w (knowledge_in past) (always_sound limits content past w legal) (always_sums (opening limits content) w past legal.leads (record { loads = refl; takes = refl }))
