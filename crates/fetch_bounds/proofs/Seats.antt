-- What a sound world has of what seats know: their loads and their jobs.
use Rattle.std.proofs.Common.{◌≡◌, ◌≢◌, ℕ, ◌+◌, ◌<◌, ◌≤◌, true, false, cond, eqb, List, map, Some, None, Option, refl, ap, sym, subst, ◌∙◌, arith}
use Rattle.std.specs.FinMap.{get, insert, nat_cmp-IsAntisymmetric}
use Rattle.std.specs.Cmp.{nat_cmp_total}
use Rattle.std.proofs.lemmas.Bool.{eqb-true, eqb-false}
use Rattle.bitmap_kind.specs.Picture.{BitmapValue}
use Rattle.finite_maps.specs.Maps.{map_values}
use Rattle.finite_maps.specs.MapLaws.{not_Some, total-insert_new, total-map_values, total-same, le-total}
use Rattle.load_cause.specs.declared.causes.Cause.{Cause}
use Rattle.load_table.specs.declared.loads.LoadState.TheVariants.{Waiting, Ready, Failed}
use Rattle.load_table.specs.declared.loads.Settle.{Settle}
use Rattle.load_table.specs.Loads.{LoadName, load_cmp, ready_on, state_of, settled, holders}
use Rattle.load_table.specs.LoadOrder.{load_total, load_same}
use Rattle.engine_world.specs.declared.events.Event.{Event}
use Rattle.engine_world.specs.declared.events.NotedReply.{NotedReply}
use Rattle.engine_world.specs.declared.events.Lent.{Lent}
use Rattle.engine_world.specs.World.{LoadState, Loads, Job, Jobs, Resource, Resources, World}
use Rattle.engine_world.specs.Places.{one_if, occurrences, lent_numbers, is_held, times_out, times_kept, whereabouts}
use Rattle.engine_world.specs.Knowledge.{OwnLoad, OwnJob, Knowledge, updated, knowledge_with}
use Rattle.engine_world.specs.Permits.{IsRunning, IsResult}
use Rattle.engine_world.specs.Sound.{LoadAgrees, LoadsAgree, JobAgrees, KnowledgeAgrees, Facts, Sound}
use Rattle.engine_world.specs.OccurrenceLaws.{one_if_same}

-- ---- one seat

-- what holds of each seat's knowledge, where it stays for the others and is so for the caller
pub at_each_seat : (P : ℕ → Knowledge → Type 0) (known : ℕ → Knowledge) (who : ℕ) (event : Event) (reply : NotedReply)
    → ((k : ℕ) → k ≢ who → P k (known k)) → P who (updated event reply (known who)) → (k : ℕ) → P k (knowledge_with known who event reply k)
unfolding knowledge_with
at_each_seat P known who event reply others mine k =
    elim (eqb who k) as (λ b. eqb who k ≡ b → P k (cond b (updated event reply (known k)) (known k))) [
      | true ↦ λ e. subst (λ i. P i (updated event reply (known i))) (eqb-true who k e) mine
      | false ↦ λ e. others k (λ is. eqb-false who k e (sym is))
    ] refl

-- what holds of seat 0's, where it stays and is so after an entry of its own
pub seat_law : (P : Knowledge → Type 0) (known : ℕ → Knowledge) (who : ℕ) (event : Event) (reply : NotedReply) → P (known 0) → P (updated event reply (known 0)) → P (knowledge_with known who event reply 0)
seat_law P known who event reply stays mine =
    at_each_seat (λ k kn. k ≡ 0 → P kn) known who event reply (λ k ne is. subst (λ i. P (known i)) (sym is) stays) (λ is. subst (λ i. P (updated event reply (known i))) (sym is) mine) 0 refl

-- after an entry of its own
pub own_law : (P : Knowledge → Type 0) (known : ℕ → Knowledge) (who : ℕ) (event : Event) (reply : NotedReply) → who ≡ 0 → P (updated event reply (known 0)) → P (knowledge_with known who event reply 0)
own_law P known who event reply is mine =
    at_each_seat (λ k kn. k ≡ 0 → P kn) known who event reply (λ k ne h. absurd (ne (h ∙ sym is))) (λ h. subst (λ i. P (updated event reply (known i))) (sym h) mine) 0 refl

-- ---- its loads

module _ (jobs : Jobs) (resources : Resources) where
  -- a load that its owner knows is there
  pub known_there : (own : Option OwnLoad) (state : Option LoadState) (load : OwnLoad) → own ≡ Some load → LoadsAgree jobs resources own state → (s : LoadState) × (state ≡ Some s) × LoadAgrees jobs resources load s
  known_there own None load e is = absurd (subst (λ o. LoadsAgree jobs resources o None) e is)
  known_there own (Some s) load e is = (s, refl, subst (λ o. LoadsAgree jobs resources o (Some s)) e is)

  -- a load that is there is known to its owner
  pub there_known : (own : Option OwnLoad) (state : Option LoadState) (s : LoadState) → state ≡ Some s → LoadsAgree jobs resources own state → (load : OwnLoad) × (own ≡ Some load) × LoadAgrees jobs resources load s
  there_known None state s e is = absurd (subst (λ o. LoadsAgree jobs resources None o) e is)
  there_known (Some load) state s e is = (load, refl, subst (λ o. LoadsAgree jobs resources (Some load) o) e is)

-- the next number of a seat's loads is new
pub next_is_new : (now : Facts) (who : ℕ) (known : Knowledge) → KnowledgeAgrees now who known → (get known.loads known.begun ≡ None) × (get now.loads (who, known.begun) ≡ None)
next_is_new now who known knows =
    let unknown : get known.loads known.begun ≡ None = elim (get known.loads known.begun) as (λ o. get known.loads known.begun ≡ o → o ≡ None) [
      | None ↦ λ e. refl
      | Some load ↦ λ e. let less : known.begun < known.begun = knows.below known.begun load e in absurd (omega (arith, less))
    ] refl in (
      unknown,
      elim (get now.loads (who, known.begun)) as (λ o. get now.loads (who, known.begun) ≡ o → o ≡ None) [
        | None ↦ λ e. refl
        | Some state ↦ λ e. let found = there_known now.jobs now.resources (get known.loads known.begun) (get now.loads (who, known.begun)) state e (knows.each known.begun) in absurd (not_Some (sym unknown ∙ found.1))
      ] refl,
    )

-- ---- holders

pub holders_added : (loads : Loads) (load : LoadName) (state : LoadState) → get loads load ≡ None → (q : ℕ) → holders q (insert loads load state) ≡ one_if (ready_on q state) + holders q loads
holders_added loads load state new q = total-insert_new load_total load_same (λ l s. one_if (ready_on q s)) loads load state new

holds_settled : (j q : ℕ) (to : Settle Cause) (state : LoadState) → one_if (ready_on q (state_of to)) ≡ 0 → one_if (ready_on q (settled j to state)) ≡ one_if (ready_on q state)
holds_settled j q to (Waiting job) none = elim (eqb job j) as (λ t. one_if (ready_on q (cond t (state_of to) (Waiting job))) ≡ 0) [ true ↦ none | false ↦ refl ]
holds_settled j q to (Ready r) none = refl
holds_settled j q to (Failed cause) none = refl

-- no other resource has more of them when a job ends
pub holders_settled : (loads : Loads) (j : ℕ) (to : Settle Cause) (q : ℕ) → one_if (ready_on q (state_of to)) ≡ 0 → holders q (map_values (settled j to) loads) ≡ holders q loads
holders_settled loads j to q none = total-map_values load_cmp (settled j to) (λ load (state : LoadState). one_if (ready_on q state)) loads
    ∙ total-same (λ load (state : LoadState). one_if (ready_on q (settled j to state))) (λ load (state : LoadState). one_if (ready_on q state)) loads (λ load state. holds_settled j q to state none)

-- a load that is ready on a resource holds it
pub is_holder : (loads : Loads) (load : LoadName) (r : ℕ) → get loads load ≡ Some (Ready r) → 0 < holders r loads
is_holder loads load r at =
    let one : one_if (ready_on {C = Cause} r (Ready r)) ≤ holders r loads = le-total load_total load_same (λ l (s : LoadState). one_if (ready_on r s)) loads load (Ready r) at in
    omega (arith, one, one_if_same r)

-- ---- its job

-- a seat's own job: what the state has of it
pub record Runs (w : World) (who j : ℕ) (own : OwnJob) : Type 0 where
  pub job : Job
  pub at : get w.jobs j ≡ Some job
  pub is : JobAgrees who own job

pub runs : (w : World) (known : ℕ → Knowledge) (who j : ℕ) → Sound w known → (run : IsRunning (known who) j) → Runs w who j run.job
runs w known who j s run = let found = (s.known_is who).runs run.job run.is in record { job = found.0; at = ap (get w.jobs) (sym run.number) ∙ found.1; is = found.2 }

-- the bitmap that a job finishes with is no resource's
pub result_is_fresh : (w : World) (known : ℕ → Knowledge) (who j : ℕ) (bitmap : BitmapValue) (own : OwnJob) → Sound w known → Runs w who j own → IsResult bitmap own.out
    → (resource : Resource) → get w.resources bitmap.number ≢ Some resource
result_is_fresh w known who j bitmap own s r result resource at =
    let b = bitmap.number in
    let one : occurrences b (lent_numbers r.job) ≡ one_if (eqb result.lent.number b) + 0 = ap (λ (o : List Lent). occurrences b (map (λ (l : Lent). l.number) o)) (r.is.out ∙ result.only) in
    let same : one_if (eqb b b) ≡ one_if (eqb result.lent.number b) = ap (λ n. one_if (eqb n b)) result.same.number in
    let out : occurrences b (lent_numbers r.job) ≤ times_out w.jobs b = le-total nat_cmp_total nat_cmp-IsAntisymmetric (λ i (a : Job). occurrences b (lent_numbers a)) w.jobs j r.job r.at in
    let once : times_kept (whereabouts w) b ≤ 1 = s.places.once b in
    let kept : 0 < one_if (is_held w.loads w.resources b) + occurrences b w.cached = s.places.kept b resource at in
    absurd (omega (arith, one, same, one_if_same b, out, once, kept))
