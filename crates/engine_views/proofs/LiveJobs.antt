-- The live jobs: how many there are after each event of a job, and that each has its seat where none is next.
use Rattle.std.proofs.Common.{◌≡◌, ℕ, ◌+◌, Bool, true, false, cond, eqb, ◌&&◌, List, [], ◌∷◌, ◌++◌, Some, None, Option, refl, ap, sym, subst, ◌∙◌, inl, inr, arith, true≢false}
use Rattle.std.specs.Prelude.{◌⊎◌, not, ⊤}
use Rattle.std.specs.Option.{is_none, option_map}
use Rattle.std.specs.Ordering.{nat_cmp}
use Rattle.std.specs.Cmp.{nat_cmp_total}
use Rattle.std.specs.FinMap.{get, insert, remove, nat_cmp-IsAntisymmetric}
use Rattle.bitmap_kind.specs.Picture.{BitmapValue}
use Rattle.cache_key.specs.declared.load_spec.LoadSpec.{LoadSpec}
use Rattle.cache_key.specs.declared.load_spec.Priority.{Priority}
use Rattle.cache_key.specs.declared.load_spec.Priority.TheVariants.{Immediate, High, Normal, Low}
use Rattle.finite_maps.specs.Maps.{total}
use Rattle.finite_maps.specs.MapLaws.{not_Some, get-map_values, total-insert_over, total-remove, first_key-found, first_key-none}
use Rattle.bitmap_pool.specs.Pool.{pool_pick}
use Rattle.job_table.specs.declared.jobs.Job as table
use Rattle.job_table.specs.Jobs as job_table
use Rattle.state_machine.specs.declared.entry.Entry.{Entry}
use Rattle.engine_world.specs.declared.events.Event.{Event}
use Rattle.engine_world.specs.declared.events.Event.TheVariants as events
use Rattle.engine_world.specs.declared.events.NotedReply.{NotedReply}
use Rattle.engine_world.specs.declared.events.NotedReply.TheVariants as replies
use Rattle.engine_world.specs.declared.events.Note.{Note}
use Rattle.engine_world.specs.declared.events.Lent.{Lent}
use Rattle.engine_world.specs.World.{Job, Jobs, Resource, World}
use Rattle.engine_world.specs.Moves.{next_queued, table_job, table_jobs, lend, take_back, without_lent}
use Rattle.engine_world.specs.Steps.{run_on, start_job, start_next, next_job, Wanted, wanted_size, lent_as, TakeFrom, activate, resource_of, finish_kept, finish_cancelled, finish, Transition}
use Rattle.engine_shared.specs.Caller.{Leads}
use Rattle.decode_job.specs.JobCalls.{IsOfJob, tells_not_cancelled, AreOfJob}
use Rattle.engine_views.specs.inside.Running.{live_jobs}

-- ---- how many there are

abbrev count : Jobs → ℕ
count jobs = total (λ i (job : Job). 1) jobs

changed_count : (jobs : Jobs) (j : ℕ) (a b : Job) → get jobs j ≡ Some a → count (insert jobs j b) ≡ count jobs
changed_count jobs j a b at =
    let changed : count (insert jobs j b) + 1 ≡ count jobs + 1 = total-insert_over nat_cmp_total nat_cmp-IsAntisymmetric (λ i (job : Job). 1) jobs j a b at in
    omega (arith, changed)

pub removed_count : (jobs : Jobs) (j : ℕ) (a : Job) → get jobs j ≡ Some a → count jobs ≡ 1 + count (remove jobs j)
removed_count jobs j a at = total-remove nat_cmp_total nat_cmp-IsAntisymmetric (λ i (job : Job). 1) jobs j a at

-- ---- NextJob

start_job-count : (w : World) (who j : ℕ) (o : Option Job) → get w.jobs j ≡ o → live_jobs (start_job w who j o).1 ≡ live_jobs w
start_job-count w who j None at = refl
start_job-count w who j (Some job) at = changed_count w.jobs j job (run_on who job) at

start_next-count : (w : World) (who : ℕ) (o : Option ℕ) → live_jobs (start_next w who o).1 ≡ live_jobs w
start_next-count w who None = refl
start_next-count w who (Some j) = start_job-count w who j (get w.jobs j) refl

-- A job that starts was live.
pub next_job-count : (w z : World) (who : ℕ) (room : LoadSpec) (reply : NotedReply) → Transition w who (events.NextJob room) reply z → live_jobs z ≡ live_jobs w
next_job-count w z who room reply step =
    ap live_jobs step.1
    ∙ elim w.closed as (λ t. live_jobs (cond t (replies.Closed, w) (start_next w who (next_queued w.jobs))).1 ≡ live_jobs w) [
      | true ↦ refl
      | false ↦ start_next-count w who (next_queued w.jobs)
    ]

-- ---- a job goes on

lend-count : (j : ℕ) (o : Option Job) (lent : Lent) (w : World) → get w.jobs j ≡ o → live_jobs (lend j o lent w) ≡ live_jobs w
lend-count j None lent w at = refl
lend-count j (Some job) lent w at = changed_count w.jobs j job (record job { takes = job.takes + 1; out = job.out ++ lent ∷ [] }) at

take_back-count : (j : ℕ) (o : Option Job) (b : ℕ) (w : World) → get w.jobs j ≡ o → live_jobs (take_back j o b w) ≡ live_jobs w
take_back-count j None b w at = refl
take_back-count j (Some job) b w at = changed_count w.jobs j job (record job { out = without_lent b job.out }) at

take-count : (wanted : Wanted) (w z : World) (reply : NotedReply) (found : Option Lent) → TakeFrom wanted w found reply z → live_jobs z ≡ live_jobs w
take-count wanted w z reply (Some lent) step =
    ap live_jobs step.1 ∙ lend-count wanted.job (get w.jobs wanted.job) lent _ refl
take-count wanted w z reply None step = elim step [
  | inl step ↦ ap live_jobs step.1 ∙ lend-count wanted.job (get w.jobs wanted.job) (lent_as wanted w.next (wanted_size wanted)) _ refl
  | inr step ↦ ap live_jobs step.1
]

of_job-count : (w z : World) (who : ℕ) (event : Event) (reply : NotedReply) (j : ℕ) (told : Bool) → IsOfJob j told event → Transition w who event reply z → live_jobs z ≡ live_jobs w
of_job-count w z who (events.IsCancelled i) reply j told is step = ap live_jobs step.1
of_job-count w z who (events.Take i width height config) reply j told is step =
    let wanted : Wanted = record { job = i; width = width; height = height; config = config } in
    let picked = pool_pick config (wanted_size wanted) w.pool in
    take-count wanted (record w { pool = picked.groups }) z reply (option_map (λ b. lent_as wanted b picked.size) picked.found) step
of_job-count w z who (events.GiveBack i bitmap) reply j told is step =
    ap live_jobs step.1 ∙ take_back-count i (get w.jobs i) bitmap.number w refl
of_job-count w z who event reply j told is step = absurd is

-- The calls that are made for a job add none and end none.
pub calls-count : (es : List (Entry Note)) (j : ℕ) (told : Bool) (w z : World) → AreOfJob j told es → Leads w es z → live_jobs z ≡ live_jobs w
calls-count [] j told w z all leads = ap live_jobs (sym leads)
calls-count (e ∷ es) j told w z all leads =
    calls-count es j (tells_not_cancelled e.note.event e.note.reply) leads.0 z all.1 leads.2
    ∙ of_job-count w leads.0 e.by e.note.event e.note.reply j told all.0 leads.1

-- ---- a job ends

activate-jobs : (t : Bool) (r : ℕ) (resource : Resource) (w : World) → (activate t r resource w).jobs ≡ w.jobs
activate-jobs true r resource w = refl
activate-jobs false r resource w = refl

finish-jobs : (w : World) (j : ℕ) (o : Option Job) (bitmap : BitmapValue) (job : Job) → o ≡ Some job → (finish w j o bitmap).1.jobs ≡ remove w.jobs j
finish-jobs w j None bitmap job at = absurd (not_Some at)
finish-jobs w j (Some a) bitmap job at = elim a.cancelled as (λ t. (cond t (finish_cancelled w j bitmap) (finish_kept w j a bitmap)).1.jobs ≡ remove w.jobs j) [
  | true ↦ refl
  | false ↦ ap (λ jobs. remove jobs j) (activate-jobs (not a.spec.skip) bitmap.number (resource_of a bitmap) w)
]

-- An event by which the job of this number ends.
abbrev pub EndsJobOf : ℕ → Event → Type 0
EndsJobOf j (events.Finish i bitmap) = i ≡ j
EndsJobOf j (events.Fail i cause) = i ≡ j
EndsJobOf j (events.Quit i) = i ≡ j
EndsJobOf j event = ⊥

ended-jobs : (w z : World) (who : ℕ) (event : Event) (reply : NotedReply) (j : ℕ) (job : Job) → EndsJobOf j event → get w.jobs j ≡ Some job
    → Transition w who event reply z → z.jobs ≡ remove w.jobs j
ended-jobs w z who (events.Finish i bitmap) reply j job is at step =
    ap (λ (v : World). v.jobs) step.1 ∙ finish-jobs w i (get w.jobs i) bitmap job (ap (get w.jobs) is ∙ at) ∙ ap (remove w.jobs) is
ended-jobs w z who (events.Fail i cause) reply j job is at step = ap (λ (v : World). v.jobs) step.1 ∙ ap (remove w.jobs) is
ended-jobs w z who (events.Quit i) reply j job is at step = ap (λ (v : World). v.jobs) step.1 ∙ ap (remove w.jobs) is
ended-jobs w z who event reply j job is at step = absurd is

-- Then one less is live.
pub ended-count : (w z : World) (who : ℕ) (event : Event) (reply : NotedReply) (j : ℕ) (job : Job) → EndsJobOf j event → get w.jobs j ≡ Some job
    → Transition w who event reply z → live_jobs w ≡ 1 + live_jobs z
ended-count w z who event reply j job is at step =
    removed_count w.jobs j job at ∙ ap (λ jobs. 1 + count jobs) (sym (ended-jobs w z who event reply j job is at step))

-- ---- what is queued

or_else-found : (a b : Option ℕ) (n : ℕ) → job_table.or_else a b ≡ Some n → (a ≡ Some n) ⊎ (b ≡ Some n)
or_else-found None b n e = inr e
or_else-found (Some m) b n e = inl e

or_else-none : (a b : Option ℕ) → job_table.or_else a b ≡ None → (a ≡ None) × (b ≡ None)
or_else-none None b e = (refl, e)
or_else-none (Some m) b e = absurd (not_Some (sym e))

table_job-at : (jobs : Jobs) (j : ℕ) (o : Option Job) → get jobs j ≡ o → get (table_jobs jobs) j ≡ option_map table_job o
table_job-at jobs j o at = get-map_values nat_cmp table_job jobs j ∙ ap (option_map table_job) at

-- the first queued job of a priority is live
queued_at-live : (jobs : Jobs) (priority : Priority) (j : ℕ) → job_table.queued_at priority (table_jobs jobs) ≡ Some j → get jobs j ≡ None → ⊥
queued_at-live jobs priority j is none =
    let found = first_key-found nat_cmp_total nat_cmp-IsAntisymmetric (λ i (job : table.Job). job_table.is_queued_at priority job) (table_jobs jobs) j is in
    not_Some (sym (table_job-at jobs j None none) ∙ found.1)

next-live : (jobs : Jobs) (j : ℕ) → next_queued jobs ≡ Some j → get jobs j ≡ None → ⊥
next-live jobs j is none =
    let first : Priority → Option ℕ = λ priority. job_table.queued_at priority (table_jobs jobs) in
    elim (or_else-found (first Immediate) (job_table.or_else (first High) (job_table.or_else (first Normal) (first Low))) j is) [
      | inl e ↦ queued_at-live jobs Immediate j e none
      | inr is ↦ elim (or_else-found (first High) (job_table.or_else (first Normal) (first Low)) j is) [
        | inl e ↦ queued_at-live jobs High j e none
        | inr is ↦ elim (or_else-found (first Normal) (first Low) j is) [
          | inl e ↦ queued_at-live jobs Normal j e none
          | inr e ↦ queued_at-live jobs Low j e none
        ]
      ]
    ]

-- where none of a priority is first, none is queued at it
not_queued_at : (jobs : Jobs) (priority : Priority) (j : ℕ) (job : Job) → eqb (job_table.rank priority) (job_table.rank priority) ≡ true
    → job_table.queued_at priority (table_jobs jobs) ≡ None → get jobs j ≡ Some job → job.seat ≡ None → job.spec.priority ≡ priority → ⊥
not_queued_at jobs priority j job same none at free is =
    let queued : job_table.is_queued_at priority (table_job job) ≡ true =
    ap (λ s. is_none s && eqb (job_table.rank job.spec.priority) (job_table.rank priority)) free
    ∙ ap (λ p. eqb (job_table.rank p) (job_table.rank priority)) is ∙ same in
    let not_it : job_table.is_queued_at priority (table_job job) ≡ false =
    first_key-none nat_cmp_total nat_cmp-IsAntisymmetric (λ i (job : table.Job). job_table.is_queued_at priority job) (table_jobs jobs) j (table_job job) none (table_job-at jobs j (Some job) at) in
    true≢false (sym queued ∙ not_it)

-- Where none is next, each live job runs on a seat.
pub none_queued : (jobs : Jobs) (j : ℕ) (job : Job) → next_queued jobs ≡ None → get jobs j ≡ Some job → job.seat ≡ None → ⊥
none_queued jobs j job none at free =
    let first : Priority → Option ℕ = λ priority. job_table.queued_at priority (table_jobs jobs) in
    let a = or_else-none (first Immediate) (job_table.or_else (first High) (job_table.or_else (first Normal) (first Low))) none in
    let b = or_else-none (first High) (job_table.or_else (first Normal) (first Low)) a.1 in
    let c = or_else-none (first Normal) (first Low) b.1 in
    elim job.spec.priority as (λ p. job.spec.priority ≡ p → ⊥) [
      | Immediate ↦ not_queued_at jobs Immediate j job refl a.0 at free
      | High ↦ not_queued_at jobs High j job refl b.0 at free
      | Normal ↦ not_queued_at jobs Normal j job refl c.0 at free
      | Low ↦ not_queued_at jobs Low j job refl c.1 at free
    ] refl

-- ---- Idle

abbrev IsIdle : NotedReply → Type 0
IsIdle replies.Idle = ⊤
IsIdle reply = ⊥

abbrev IsClosed : NotedReply → Type 0
IsClosed replies.Closed = ⊤
IsClosed reply = ⊥

start_job-busy : (w : World) (who j : ℕ) (o : Option Job) → (o ≡ None → ⊥) → IsIdle (start_job w who j o).0 → ⊥
start_job-busy w who j None live idle = live refl
start_job-busy w who j (Some job) live idle = idle

start_next-idle : (w : World) (who : ℕ) (o : Option ℕ) → next_queued w.jobs ≡ o → IsIdle (start_next w who o).0 → ((start_next w who o).1 ≡ w) × (o ≡ None)
start_next-idle w who None is idle = (refl, refl)
start_next-idle w who (Some j) is idle = absurd (start_job-busy w who j (get w.jobs j) (next-live w.jobs j is) idle)

-- An engine that is open answers Idle only where no job is queued, and stays as it is.
pub idle_where : (w z : World) (who : ℕ) (room : LoadSpec) → w.closed ≡ false → Transition w who (events.NextJob room) replies.Idle z
    → (z ≡ w) × (next_queued w.jobs ≡ None)
idle_where w z who room opened step =
    let runs : next_job w who ≡ start_next w who (next_queued w.jobs) = ap (λ t. cond t (replies.Closed, w) (start_next w who (next_queued w.jobs))) opened in
    let reply : replies.Idle ≡ (start_next w who (next_queued w.jobs)).0 = step.0 ∙ ap (λ (o : NotedReply × World). o.0) runs in
    let left = start_next-idle w who (next_queued w.jobs) refl (subst IsIdle reply tt) in
    (step.1 ∙ ap (λ (o : NotedReply × World). o.1) runs ∙ left.0, left.1)

start_job-open : (w : World) (who j : ℕ) (o : Option Job) → IsClosed (start_job w who j o).0 → ⊥
start_job-open w who j None closed = closed
start_job-open w who j (Some job) closed = closed

start_next-open : (w : World) (who : ℕ) (o : Option ℕ) → IsClosed (start_next w who o).0 → ⊥
start_next-open w who None closed = closed
start_next-open w who (Some j) closed = start_job-open w who j (get w.jobs j) closed

-- And it never answers Closed.
pub never_closed : (w z : World) (who : ℕ) (room : LoadSpec) → w.closed ≡ false → Transition w who (events.NextJob room) replies.Closed z → ⊥
never_closed w z who room opened step =
    let runs : next_job w who ≡ start_next w who (next_queued w.jobs) = ap (λ t. cond t (replies.Closed, w) (start_next w who (next_queued w.jobs))) opened in
    let reply : replies.Closed ≡ (start_next w who (next_queued w.jobs)).0 = step.0 ∙ ap (λ (o : NotedReply × World). o.0) runs in
    start_next-open w who (next_queued w.jobs) (subst IsClosed reply tt)
