-- Legal histories, entry by entry: each entry is a step that its seat is permitted, and something is said of each state on the way.
use Rattle.std.proofs.Common.{Bool, List, None, Option, Some, [], ap, append_assoc, cond, eqb, false, inl, inr, length, refl, subst, sym, true, true≢false, ℕ, ◌++◌, ◌<◌, ◌∙◌, ◌∷◌, ◌≡◌}
use Rattle.std.proofs.lemmas.List.{append-nil}
use Rattle.std.specs.Option.{option_map}
use Rattle.bitmap_pool.specs.Pool.{pool_pick}
use Rattle.engine_world.specs.EngineMachine.{engine_machine}
use Rattle.engine_world.specs.Knowledge.{Knowledge, knowledge_in, knowledge_with, learned, no_knowledge, updated, updated_by}
use Rattle.engine_world.specs.Laws.{KeepsOpening, KeepsSound}
use Rattle.engine_world.specs.Permits.{Permits}
use Rattle.engine_world.specs.Sound.{Sound}
use Rattle.engine_world.specs.Steps.{Step, TakeFrom, Transition, Wanted, lent_as, wanted_size}
use Rattle.engine_world.specs.Worked.{lent}
use Rattle.engine_world.specs.World.{Limits, World, opening}
use Rattle.engine_world.specs.declared.events.Event.{Event}
use Rattle.engine_world.specs.declared.events.Lent.{Lent}
use Rattle.engine_world.specs.declared.events.Note.{Note}
use Rattle.engine_world.specs.declared.events.NotedReply.{NotedReply}
use Rattle.outside.specs.Content.{Contents}
use Rattle.script_walk.specs.Worked.{a}
use Rattle.state_machine.specs.Histories.{own}
use Rattle.state_machine.specs.Legal.{IsLegal, Leads, MayFollow}
use Rattle.state_machine.specs.declared.entry.Entry.{Entry}
use Rattle.engine_world.specs.declared.events.Event.TheVariants as events
use Rattle.engine_world.specs.declared.events.NotedReply.TheVariants as replies

-- What the laws of the crates below say.
pub record Grounds : Type 0 where
  pub keeps_sound : (event : Event) → KeepsSound event
  pub keeps_opening : (event : Event) → KeepsOpening event

-- what is said of a state
abbrev pub Said : Type 1
Said = World → Type 0

-- These entries lead from one state to another, each is permitted, and this is said of each state on the way.
abbrev pub Goes : Said → World → (ℕ → Knowledge) → List (Entry Note) → World → Type 0
Goes P w known [] z = P w × (w ≡ z)
Goes P w known (e ∷ es) z =
    (m : World) × Step w e m × (e.by < length w.limits.quotas) × Permits w.content (known e.by) e.note.event × P w
    × Goes P m (knowledge_with known e.by e.note.event e.note.reply) es z

-- an entry leads to one state alone
transition_same : (w m n : World) (who : ℕ) (event : Event) (reply : NotedReply) → Transition w who event reply m → Transition w who event reply n → m ≡ n
transition_same w m n who (events.Take j width height config) reply a b =
    let wanted : Wanted = record { job = j; width = width; height = height; config = config } in
    let picked = pool_pick config (wanted_size wanted) w.pool in
    from (option_map (λ b. lent_as wanted b picked.size) picked.found) a b where
      is_no_memory : NotedReply → Bool
      is_no_memory replies.NoMemory = true
      is_no_memory other = false

      from : (found : Option Lent) → TakeFrom (record { job = j; width = width; height = height; config = config }) (record w { pool = (pool_pick config (wanted_size (record { job = j; width = width; height = height; config = config })) w.pool).groups }) found reply m
          → TakeFrom (record { job = j; width = width; height = height; config = config }) (record w { pool = (pool_pick config (wanted_size (record { job = j; width = width; height = height; config = config })) w.pool).groups }) found reply n → m ≡ n
      from (Some lent) a b = a.1 ∙ sym b.1
      from None (inl a) (inl b) = a.1 ∙ sym b.1
      from None (inl a) (inr b) = absurd (true≢false (sym (ap is_no_memory b.0) ∙ ap is_no_memory a.0))
      from None (inr a) (inl b) = absurd (true≢false (sym (ap is_no_memory a.0) ∙ ap is_no_memory b.0))
      from None (inr a) (inr b) = a.1 ∙ sym b.1
transition_same w m n who event reply a b = a.1 ∙ sym b.1

pub step_same : (w m n : World) (e : Entry Note) → Step w e m → Step w e n → m ≡ n
step_same w m n e a b = transition_same w m n e.by e.note.event e.note.reply a b

-- ---- what is known after one entry more

own-append : (who : ℕ) (xs ys : List (Entry Note)) → own who (xs ++ ys) ≡ own who xs ++ own who ys
own-append who [] ys = refl
own-append who (e ∷ xs) ys =
    let rest : own who (xs ++ ys) ≡ own who xs ++ own who ys = own-append who xs ys in
    elim (eqb e.by who) as (λ t. cond t (e ∷ own who (xs ++ ys)) (own who (xs ++ ys)) ≡ cond t (e ∷ own who xs) (own who xs) ++ own who ys) [ true ↦ ap (λ l. e ∷ l) rest | false ↦ rest ]

updated_by-append : (known : Knowledge) (xs ys : List (Entry Note)) → updated_by known (xs ++ ys) ≡ updated_by (updated_by known xs) ys
updated_by-append known [] ys = refl
updated_by-append known (e ∷ xs) ys = updated_by-append (updated e.note.event e.note.reply known) xs ys

knows_more : (past : List (Entry Note)) (e : Entry Note) (k : ℕ) → knowledge_with (knowledge_in past) e.by e.note.event e.note.reply k ≡ knowledge_in (past ++ e ∷ []) k
unfolding knowledge_with
knows_more past e k =
    let joined : knowledge_in (past ++ e ∷ []) k ≡ updated_by (knowledge_in past k) (own k (e ∷ [])) = ap learned (own-append k past (e ∷ [])) ∙ updated_by-append no_knowledge (own k past) (own k (e ∷ [])) in
    elim (eqb e.by k) as (λ t. cond t (updated e.note.event e.note.reply (knowledge_in past k)) (knowledge_in past k) ≡ updated_by (knowledge_in past k) (cond t (e ∷ []) [])) [ true ↦ refl | false ↦ refl ] ∙ sym joined

-- ---- legal histories

module _ {M Reply : Type 0} (world : M → World) (history : M → List (Entry Note)) (note : Event → Reply → Note) where
  leads-append : (xs : List (Entry Note)) (e : Entry Note) (w m z : World) → Leads (engine_machine world history note) w xs m → Step m e z → Leads (engine_machine world history note) w (xs ++ e ∷ []) z
  leads-append [] e w m z leads step = (z, subst (λ v. Step v e z) (sym leads) step, refl)
  leads-append (x ∷ xs) e w m z leads step = (leads.0, leads.1, leads-append xs e leads.0 m z leads.2 step)

  module _ (g : Grounds) (limits : Limits) (content : Option Contents) where
    -- Each of these entries may follow this past and those before it.
    abbrev AllMay : List (Entry Note) → List (Entry Note) → Type 0
    AllMay past rest = (xs ys : List (Entry Note)) (e : Entry Note) → rest ≡ xs ++ e ∷ ys → MayFollow (engine_machine world history note) (opening limits content) (past ++ xs) e

    -- This is said of each state that they lead to.
    abbrev pub AllSaid : Said → List (Entry Note) → List (Entry Note) → Type 0
    AllSaid P past rest = (xs ys : List (Entry Note)) (v : World) → rest ≡ xs ++ ys → Leads (engine_machine world history note) (opening limits content) (past ++ xs) v → P v

    goes_from : (P : Said) (past rest : List (Entry Note)) (w z : World) → Leads (engine_machine world history note) (opening limits content) past w → w.limits ≡ limits → w.content ≡ content
        → Sound w (knowledge_in past) → Leads (engine_machine world history note) w rest z → AllMay past rest → AllSaid P past rest → Goes P w (knowledge_in past) rest z
    goes_from P past [] w z led lim con s leads may said =
        let same : past ++ [] ≡ past = append-nil past in
        (said [] [] w refl (subst (λ l. Leads (engine_machine world history note) (opening limits content) l w) (sym same) led), leads)
    goes_from P past (e ∷ rest) w z led lim con s leads may said =
        let here = may [] rest e refl in
        let same : past ++ [] ≡ past = append-nil past in
        let again : (xs : List (Entry Note)) → (past ++ e ∷ []) ++ xs ≡ past ++ e ∷ xs = λ xs. append_assoc past (e ∷ []) xs in
        let fixed = g.keeps_opening e.note.event w leads.0 e.by e.note.reply leads.1 in
        let served : e.by < length w.limits.quotas = subst (λ l. e.by < length l.quotas) (sym lim) here.seat in
        let permits : Permits w.content (knowledge_in past e.by) e.note.event = subst (λ o. Permits o (knowledge_in past e.by) e.note.event) (sym con) (subst (λ l. Permits content (knowledge_in l e.by) e.note.event) same here.asked) in
        let more : knowledge_with (knowledge_in past) e.by e.note.event e.note.reply ≡ knowledge_in (past ++ e ∷ []) = λ i k. knows_more past e k i in
        let sound : Sound leads.0 (knowledge_in (past ++ e ∷ [])) = subst (Sound leads.0) more (g.keeps_sound e.note.event w leads.0 (knowledge_in past) e.by e.note.reply served s permits leads.1) in
        let next : Goes P leads.0 (knowledge_in (past ++ e ∷ [])) rest z =
        goes_from P (past ++ e ∷ []) rest leads.0 z (leads-append past e (opening limits content) w leads.0 led leads.1) (ap (λ (v : World). v.limits) fixed ∙ lim) (ap (λ (v : World). v.content) fixed ∙ con) sound leads.2
        (λ xs ys d is. subst (λ l. MayFollow (engine_machine world history note) (opening limits content) l d) (sym (again xs)) (may (e ∷ xs) ys d (ap (λ l. e ∷ l) is)))
        (λ xs ys v is led_to. said (e ∷ xs) ys v (ap (λ l. e ∷ l) is) (subst (λ l. Leads (engine_machine world history note) (opening limits content) l v) (again xs) led_to)) in (
          leads.0,
          leads.1,
          served,
          permits,
          said [] (e ∷ rest) w refl (subst (λ l. Leads (engine_machine world history note) (opening limits content) l w) (sym same) led),
          subst (λ f. Goes P leads.0 f rest z) (sym more) next,
        )

    -- what a legal history is, where its opening is sound
    pub legal_goes : (P : Said) (past : List (Entry Note)) (z : World) → Sound (opening limits content) (knowledge_in []) → IsLegal (engine_machine world history note) (opening limits content) past z
        → AllSaid P [] past → Goes P (opening limits content) (knowledge_in []) past z
    legal_goes P past z sound legal said = goes_from P [] past (opening limits content) z refl refl refl sound legal.leads legal.asked said
