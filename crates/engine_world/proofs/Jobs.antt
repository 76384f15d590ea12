-- What stays true of jobs, of what loads wait on, and of what seats know of their jobs, when a job changes or goes.
use Rattle.std.proofs.Common.{◌≡◌, ◌≢◌, ℕ, ◌<◌, false, List, Some, None, Option, refl, ap, sym, subst, ◌∙◌, inl, inr}
use Rattle.std.specs.FinMap.{get, insert, remove}
use Rattle.load_table.specs.declared.loads.LoadState.TheVariants.{Waiting, Ready, Failed}
use Rattle.load_table.specs.Loads.{waiting}
use Rattle.engine_world.specs.World.{LoadState, Loads, Job, Jobs, Resource, Resources}
use Rattle.engine_world.specs.Knowledge.{OwnLoad, OwnJob, Knowledge}
use Rattle.engine_world.specs.Sound.{RefersTo, AllAwaited, IsJob, JobsAre, AllServe, LoadsAgree, JobAgrees, KnowledgeAgrees}
use Rattle.engine_world.specs.NumberLaws.{put_cases, put_same, put_other, gone_other, gone_found, number_cases}
use Rattle.engine_world.proofs.Parts.{facts_of}
use Rattle.finite_maps.specs.MapLaws.{same_Some}

-- ---- what loads refer to

-- A job on which loads may wait is there still, and so is a resource on which loads are ready.
abbrev pub JobStays : Jobs → Jobs → ℕ → Type 0
JobStays old new j = (job : Job) → get old j ≡ Some job → job.cancelled ≡ false → (now : Job) × (get new j ≡ Some now) × (now.cancelled ≡ false) × (now.spec.key ≡ job.spec.key) × (now.spec.cached ≡ job.spec.cached)

abbrev pub ResourceStays : Resources → Resources → ℕ → Type 0
ResourceStays old new r = (resource : Resource) → get old r ≡ Some resource → (now : Resource) × (get new r ≡ Some now) × (now.key ≡ resource.key)

pub refers_stays : (jobs jobs' : Jobs) (resources resources' : Resources) (load : OwnLoad) (state : LoadState)
    → ((j : ℕ) → state ≡ Waiting j → JobStays jobs jobs' j) → ((r : ℕ) → state ≡ Ready r → ResourceStays resources resources' r)
    → RefersTo jobs resources load state → RefersTo jobs' resources' load state
refers_stays jobs jobs' resources resources' load (Waiting j) on_jobs on_resources refers =
    let now = on_jobs j refl refers.0 refers.1 refers.2 in
    (now.0, now.1, now.2, now.3 ∙ refers.3, now.4 ∙ refers.4)
refers_stays jobs jobs' resources resources' load (Ready r) on_jobs on_resources refers =
    let now = on_resources r refl refers.0 refers.1 in
    (now.0, now.1, now.2 ∙ refers.2)
refers_stays jobs jobs' resources resources' load (Failed cause) on_jobs on_resources refers = tt

pub resource_same : (resources : Resources) (r : ℕ) → ResourceStays resources resources r
resource_same resources r resource is = (resource, is, refl)

pub job_same : (jobs : Jobs) (j : ℕ) → JobStays jobs jobs j
job_same jobs j job is live = (job, is, live, refl, refl)

-- what is known of one seat's loads, where each of their states refers to what stays
pub agree_stays : (jobs jobs' : Jobs) (resources resources' : Resources) (own : Option OwnLoad) (state : Option LoadState)
    → ((s : LoadState) (j : ℕ) → state ≡ Some s → s ≡ Waiting j → JobStays jobs jobs' j) → ((s : LoadState) (r : ℕ) → state ≡ Some s → s ≡ Ready r → ResourceStays resources resources' r)
    → LoadsAgree jobs resources own state → LoadsAgree jobs' resources' own state
agree_stays jobs jobs' resources resources' None None on_jobs on_resources is = tt
agree_stays jobs jobs' resources resources' None (Some s) on_jobs on_resources is = is
agree_stays jobs jobs' resources resources' (Some load) None on_jobs on_resources is = is
agree_stays jobs jobs' resources resources' (Some load) (Some s) on_jobs on_resources is =
    record { refers = refers_stays jobs jobs' resources resources' load s (λ j. on_jobs s j refl) (λ r. on_resources s r refl) is.refers; ready = is.ready }

-- ---- a job that changes

module _ (jobs : Jobs) (j : ℕ) (job now : Job) (is : get jobs j ≡ Some job) (spec : now.spec ≡ job.spec) where
  pub stays_changed : now.cancelled ≡ job.cancelled → (i : ℕ) → JobStays jobs (insert jobs j now) i
  stays_changed cancelled i one at live = elim (number_cases i j) [
    | inl same ↦
        let one_is : job ≡ one = same_Some _ _ (sym is ∙ ap (get jobs) (sym same) ∙ at) in
        (now, ap (get (insert jobs j now)) same ∙ put_same jobs j now, cancelled ∙ ap (λ (a : Job). a.cancelled) one_is ∙ live, ap (λ a. a.key) spec ∙ ap (λ (a : Job). a.spec.key) one_is, ap (λ a. a.cached) spec ∙ ap (λ (a : Job). a.spec.cached) one_is)
    | inr ne ↦ (one, put_other jobs j now i ne ∙ at, live, refl, refl)
  ]

  pub awaited_changed : (loads : Loads) → (now.cancelled ≡ false → job.cancelled ≡ false) → AllAwaited loads jobs → AllAwaited loads (insert jobs j now)
  awaited_changed loads cancelled awaited i one at live = elim (put_cases jobs j now i one at) [
    | inl h ↦ subst (λ k. 0 < waiting k loads) (sym h.0) (awaited j job is (cancelled (ap (λ (a : Job). a.cancelled) h.1 ∙ live)))
    | inr h ↦ awaited i one h.1 live
  ]

  pub jobs_changed : (started : ℕ) → (now.cancelled ≡ false → job.cancelled ≡ false) → IsJob started j now
      → ((i who : ℕ) (a : Job) → get jobs i ≡ Some a → a.seat ≡ Some who → now.seat ≡ Some who → i ≡ j) → JobsAre started jobs → JobsAre started (insert jobs j now)
  jobs_changed started cancelled is_job alone are = record {
    each = λ i one at. elim (put_cases jobs j now i one at) [
      | inl h ↦ subst (λ (a : Job). IsJob started i a) h.1 (subst (λ k. IsJob started k now) (sym h.0) is_job)
      | inr h ↦ are.each i one h.1
    ];
    apart = λ i k a b at bt live alive keys kinds. elim (put_cases jobs j now i a at) [
      | inl g ↦ elim (put_cases jobs j now k b bt) [
        | inl h ↦ g.0 ∙ sym h.0
        | inr h ↦ g.0 ∙ are.apart j k job b is h.1 (cancelled (ap (λ (a : Job). a.cancelled) g.1 ∙ live)) alive (ap (λ s. s.key) (sym spec) ∙ ap (λ (a : Job). a.spec.key) g.1 ∙ keys) (ap (λ s. s.cached) (sym spec) ∙ ap (λ (a : Job). a.spec.cached) g.1 ∙ kinds)
      ]
      | inr g ↦ elim (put_cases jobs j now k b bt) [
        | inl h ↦ are.apart i j a job g.1 is live (cancelled (ap (λ (a : Job). a.cancelled) h.1 ∙ alive)) (keys ∙ ap (λ (a : Job). a.spec.key) (sym h.1) ∙ ap (λ s. s.key) spec) (kinds ∙ ap (λ (a : Job). a.spec.cached) (sym h.1) ∙ ap (λ s. s.cached) spec) ∙ sym h.0
        | inr h ↦ are.apart i k a b g.1 h.1 live alive keys kinds
      ]
    ];
    seats = λ i k who a b at bt sa sb. elim (put_cases jobs j now i a at) [
      | inl g ↦ elim (put_cases jobs j now k b bt) [
        | inl h ↦ g.0 ∙ sym h.0
        | inr h ↦ g.0 ∙ sym (alone k who b h.1 sb (ap (λ (a : Job). a.seat) g.1 ∙ sa))
      ]
      | inr g ↦ elim (put_cases jobs j now k b bt) [
        | inl h ↦ alone i who a g.1 sa (ap (λ (a : Job). a.seat) h.1 ∙ sb) ∙ sym h.0
        | inr h ↦ are.seats i k who a b g.1 h.1 sa sb
      ]
    ];
  }

  pub lent_changed : AllServe now.out → ((i : ℕ) (a : Job) → get jobs i ≡ Some a → AllServe a.out) → (i : ℕ) (a : Job) → get (insert jobs j now) i ≡ Some a → AllServe a.out
  lent_changed mine all i a at = elim (put_cases jobs j now i a at) [
    | inl h ↦ subst (λ (b : Job). AllServe b.out) h.1 mine
    | inr h ↦ all i a h.1
  ]

-- ---- what seats know, when a job changes

module _ (loads : Loads) (jobs : Jobs) (resources : Resources) (begun : List ℕ) (j who : ℕ) (job now : Job) (is : get jobs j ≡ Some job) (spec : now.spec ≡ job.spec) (cancelled : now.cancelled ≡ job.cancelled) (seat : now.seat ≡ Some who) where
  each_changed : (k : ℕ) (known : Knowledge) → KnowledgeAgrees (facts_of loads jobs resources begun) k known → (n : ℕ) → LoadsAgree (insert jobs j now) resources (get known.loads n) (get loads (k, n))
  each_changed k known knows n = agree_stays jobs (insert jobs j now) resources resources (get known.loads n) (get loads (k, n))
      (λ s i at refers. stays_changed jobs j job now is spec cancelled i) (λ s r at refers. resource_same resources r) (knows.each n)

  -- the others know what they knew
  pub knows_other : (k : ℕ) (known : Knowledge) → k ≢ who → job.seat ≢ Some k → KnowledgeAgrees (facts_of loads jobs resources begun) k known → KnowledgeAgrees (facts_of loads (insert jobs j now) resources begun) k known
  knows_other k known ne free knows = record {
    count = knows.count;
    below = knows.below;
    each = each_changed k known knows;
    live = knows.live;
    runs = λ own at.
        let old = knows.runs own at in
        let apart : own.number ≢ j = λ same. free (ap (λ (a : Job). a.seat) (same_Some _ _ (sym is ∙ ap (get jobs) (sym same) ∙ old.1)) ∙ old.2.seat) in
        (old.0, put_other jobs j now own.number apart ∙ old.1, old.2);
    knows = λ i b at sits. elim (put_cases jobs j now i b at) [
      | inl h ↦ absurd (ne (same_Some k who (sym sits ∙ ap (λ (a : Job). a.seat) (sym h.1) ∙ seat)))
      | inr h ↦ knows.knows i b h.1 sits
    ];
  }

  -- the caller knows its job as it is now
  pub knows_mine : (known : Knowledge) (own : OwnJob) → own.number ≡ j → JobAgrees who own now → ((old : OwnJob) → known.job ≡ Some old → old.number ≡ j)
      → KnowledgeAgrees (facts_of loads jobs resources begun) who known → KnowledgeAgrees (facts_of loads (insert jobs j now) resources begun) who (record known { job = Some own })
  knows_mine known own number job_is only knows = record {
    count = knows.count;
    below = knows.below;
    each = each_changed who known knows;
    live = knows.live;
    runs = λ told at.
        let same : own ≡ told = same_Some _ _ at in
        subst (λ (t : OwnJob). (a : Job) × (get (insert jobs j now) t.number ≡ Some a) × JobAgrees who t a) same (now, ap (get (insert jobs j now)) number ∙ put_same jobs j now, job_is);
    knows = λ i b at sits. elim (put_cases jobs j now i b at) [
      | inl h ↦ (own, refl, number ∙ sym h.0)
      | inr h ↦ let old = knows.knows i b h.1 sits in absurd (h.0 (sym old.2 ∙ only old.0 old.1))
    ];
  }

-- ---- a job that goes

module _ (jobs : Jobs) (j : ℕ) where
  pub stays_gone : (i : ℕ) → i ≢ j → JobStays jobs (remove jobs j) i
  stays_gone i ne job at live = (job, gone_other jobs j i ne ∙ at, live, refl, refl)

  pub jobs_gone : (started : ℕ) → JobsAre started jobs → JobsAre started (remove jobs j)
  jobs_gone started are = record {
    each = λ i a at. are.each i a (gone_found jobs j i a at).1;
    apart = λ i k a b at bt. are.apart i k a b (gone_found jobs j i a at).1 (gone_found jobs j k b bt).1;
    seats = λ i k who a b at bt. are.seats i k who a b (gone_found jobs j i a at).1 (gone_found jobs j k b bt).1;
  }

  pub lent_gone : ((i : ℕ) (a : Job) → get jobs i ≡ Some a → AllServe a.out) → (i : ℕ) (a : Job) → get (remove jobs j) i ≡ Some a → AllServe a.out
  lent_gone all i a at = all i a (gone_found jobs j i a at).1
