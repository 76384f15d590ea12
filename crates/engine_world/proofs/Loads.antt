-- What stays true when a seat has a load more.
use Rattle.std.proofs.Common.{◌≡◌, ◌≢◌, ℕ, ◌+◌, ◌<◌, Bool, true, cond, eqb, List, length, Some, None, refl, ap, sym, subst, ◌∙◌, inl, inr, arith}
use Rattle.std.specs.Prelude.{slice_set}
use Rattle.std.specs.Option.{is_some}
use Rattle.std.specs.Cmp.{nat_cmp_total}
use Rattle.std.specs.FinMap.{get, insert, len, len-insert}
use Rattle.std.proofs.lemmas.List.{get_or-set_same, get_or-set_other}
use Rattle.cache_key.specs.declared.load_spec.LoadSpec.{LoadSpec}
use Rattle.load_table.specs.Loads.{LoadName, waits_on, ready_on, waiting, holders, owned}
use Rattle.load_table.specs.LoadOrder.{load_total, load_same}
use Rattle.engine_world.specs.World.{LoadState, Loads, Job, Jobs, Resources}
use Rattle.engine_world.specs.Places.{one_if}
use Rattle.engine_world.specs.Knowledge.{OwnLoad, OwnJob, Knowledge, own_load, with_load}
use Rattle.engine_world.specs.Sound.{RefersTo, IsReady, LoadsAgree, JobAgrees, KnowledgeAgrees}
use Rattle.engine_world.specs.OccurrenceLaws.{one_if_same, one_if_other}
use Rattle.engine_world.specs.NumberLaws.{number_cases, put_same, put_other, put_cases}
use Rattle.engine_world.proofs.Parts.{facts_of}
use Rattle.finite_maps.specs.MapLaws.{not_Some, get-insert_same, get-insert_other, total-insert_new}
use Rattle.engine_world.proofs.Jobs.{agree_stays, resource_same, JobStays}
use Rattle.engine_world.proofs.Knowing.{there_known, agrees}

-- Jobs on seats are as they were.
pub record SeatsStay (jobs jobs' : Jobs) : Type 0 where
  pub to : (i k : ℕ) (a : Job) → get jobs i ≡ Some a → a.seat ≡ Some k → get jobs' i ≡ Some a
  pub from : (i k : ℕ) (a : Job) → get jobs' i ≡ Some a → a.seat ≡ Some k → get jobs i ≡ Some a

pub seats_same : (jobs : Jobs) → SeatsStay jobs jobs
seats_same jobs = record { to = λ i k a at sits. at; from = λ i k a at sits. at }

-- the next number of a seat's loads is new
pub next_is_new : (loads : Loads) (jobs : Jobs) (resources : Resources) (begun : List ℕ) (who : ℕ) (known : Knowledge) → KnowledgeAgrees (facts_of loads jobs resources begun) who known
    → (get known.loads known.begun ≡ None) × (get loads (who, known.begun) ≡ None)
next_is_new loads jobs resources begun who known knows =
    let unknown : get known.loads known.begun ≡ None = elim (get known.loads known.begun) as (λ o. get known.loads known.begun ≡ o → o ≡ None) [
      | None ↦ λ e. refl
      | Some load ↦ λ e. let less : known.begun < known.begun = knows.below known.begun load e in absurd (omega (arith, less))
    ] refl in (
      unknown,
      elim (get loads (who, known.begun)) as (λ o. get loads (who, known.begun) ≡ o → o ≡ None) [
        | None ↦ λ e. refl
        | Some state ↦ λ e. let found = there_known loads jobs resources (get known.loads known.begun) (get loads (who, known.begun)) state e (knows.each known.begun) in absurd (not_Some (sym unknown ∙ found.1))
      ] refl,
    )

module _ (loads : Loads) (load : LoadName) (state : LoadState) (new : get loads load ≡ None) where
  pub waiting_added : (i : ℕ) → waiting i (insert loads load state) ≡ one_if (waits_on i state) + waiting i loads
  waiting_added i = total-insert_new load_total load_same (λ l s. one_if (waits_on i s)) loads load state new

  pub holders_added : (q : ℕ) → holders q (insert loads load state) ≡ one_if (ready_on q state) + holders q loads
  holders_added q = total-insert_new load_total load_same (λ l s. one_if (ready_on q s)) loads load state new

  pub live_added : (k : ℕ) → owned k (insert loads load state) ≡ one_if (eqb load.0 k) + owned k loads
  live_added k = total-insert_new load_total load_same (λ (l : LoadName) (s : LoadState). one_if (eqb l.0 k)) loads load state new

module _ (loads : Loads) (jobs jobs' : Jobs) (resources : Resources) (begun : List ℕ) (who : ℕ) (state : LoadState) (stays : (i : ℕ) → JobStays jobs jobs' i) (seats : SeatsStay jobs jobs') where
  each_stays : (k : ℕ) (known : Knowledge) → KnowledgeAgrees (facts_of loads jobs resources begun) k known → (n : ℕ) → LoadsAgree jobs' resources (get known.loads n) (get loads (k, n))
  each_stays k known knows n = agree_stays jobs jobs' resources resources (get known.loads n) (get loads (k, n)) (λ s i at is. stays i) (λ s r at is. resource_same resources r) (knows.each n)

  runs_stay : (k : ℕ) (known : Knowledge) → KnowledgeAgrees (facts_of loads jobs resources begun) k known → (own : OwnJob) → known.job ≡ Some own → (job : Job) × (get jobs' own.number ≡ Some job) × JobAgrees k own job
  runs_stay k known knows own at = let old = knows.runs own at in (old.0, seats.to own.number k old.0 old.1 old.2.seat, old.2)

  -- another seat
  pub knows_beside : (mine k : ℕ) (known : Knowledge) → k ≢ who → get loads (who, mine) ≡ None → KnowledgeAgrees (facts_of loads jobs resources begun) k known
      → KnowledgeAgrees (facts_of (insert loads (who, mine) state) jobs' resources (slice_set begun who (mine + 1))) k known
  knows_beside mine k known ne new knows = record {
    count = get_or-set_other begun who k (mine + 1) 0 ne ∙ knows.count;
    below = knows.below;
    each = λ n. subst (LoadsAgree jobs' resources (get known.loads n)) (sym (get-insert_other load_total load_same loads (who, mine) state (k, n) (λ e. ne (ap (λ (l : LoadName). l.0) e)))) (each_stays k known knows n);
    live = omega (arith, live_added loads (who, mine) state new k, one_if_other who k (λ e. ne (sym e)), knows.live);
    runs = runs_stay k known knows;
    knows = λ i b at sits. knows.knows i b (seats.from i k b at sits) sits;
  }

  -- the seat itself
  pub knows_added : (mine : ℕ) (known : Knowledge) (spec : LoadSpec) (ready : Bool) → mine ≡ known.begun → who < length begun → RefersTo jobs' resources (own_load spec ready) state → (ready ≡ true → IsReady state)
      → KnowledgeAgrees (facts_of loads jobs resources begun) who known → KnowledgeAgrees (facts_of (insert loads (who, mine) state) jobs' resources (slice_set begun who (mine + 1))) who (with_load spec ready known)
  knows_added mine known spec ready number in_range refers is_ready knows =
      let new = next_is_new loads jobs resources begun who known knows in
      let free : get loads (who, mine) ≡ None = ap (λ n. get loads (who, n)) number ∙ new.1 in
      let own : OwnLoad = own_load spec ready in
      record {
        count = get_or-set_same begun who (mine + 1) 0 in_range ∙ ap (λ n. n + 1) number;
        below = λ n load at. elim (put_cases known.loads known.begun own n load at) [
          | inl h ↦ omega (arith, h.0)
          | inr h ↦ let less : n < known.begun = knows.below n load h.1 in omega (arith, less)
        ];
        each = λ n. elim (number_cases n known.begun) [
          | inl same ↦ agrees (insert loads (who, mine) state) jobs' resources (get (insert known.loads known.begun own) n) (get (insert loads (who, mine) state) (who, n)) own state
              (ap (get (insert known.loads known.begun own)) same ∙ put_same known.loads known.begun own)
              (ap (λ i. get (insert loads (who, mine) state) (who, i)) (same ∙ sym number) ∙ get-insert_same load_total load_same loads (who, mine) state)
              (record { refers = refers; ready = is_ready })
          | inr ne ↦ subst (λ o. LoadsAgree jobs' resources o (get (insert loads (who, mine) state) (who, n))) (sym (put_other known.loads known.begun own n ne))
              (subst (LoadsAgree jobs' resources (get known.loads n)) (sym (get-insert_other load_total load_same loads (who, mine) state (who, n) (λ e. ne (ap (λ (l : LoadName). l.1) e ∙ number)))) (each_stays who known knows n))
        ];
        live =
            let more : len (insert known.loads known.begun own) ≡ len known.loads + 1 = len-insert nat_cmp_total known.loads known.begun own ∙ ap (λ o. cond (is_some o) (len known.loads) (len known.loads + 1)) new.0 in
            omega (arith, live_added loads (who, mine) state free who, one_if_same who, knows.live, more);
        runs = runs_stay who known knows;
        knows = λ i b at sits. knows.knows i b (seats.from i who b at sits) sits;
      }
