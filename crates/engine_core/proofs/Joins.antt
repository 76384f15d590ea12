-- How a move of one table is seen in the world.
use Rattle.std.proofs.Common.{◌≡◌, ◌≢◌, ℕ, ◌+◌, true, false, eqb, List, [], ◌∷◌, length, map, Some, None, Option, refl, ap, sym, ◌∙◌, arith}
use Rattle.std.specs.Prelude.{IsSome, is_some}
use Rattle.std.specs.Option.{option_map}
use Rattle.std.specs.Ordering.{nat_cmp}
use Rattle.std.specs.FinMap.{get, insert, remove, nat_cmp-IsAntisymmetric}
use Rattle.std.proofs.lemmas.Cmp.{nat_cmp_total}
use Rattle.std.proofs.lemmas.Bool.{eq-eqb}
use Rattle.finite_maps.specs.Maps.{total, map_values, modify, passes}
use Rattle.finite_maps.specs.MapLaws.{not_Some, same_Some, get-map_values, modify_there, get-remove_other, total-remove, total-insert_over}
use Rattle.engine_resource.specs.Resource.{ResourceValue}
use Rattle.resource_table.specs.Resources.{ResourceTableValue}
use Rattle.memory_cache.specs.Cache.{number_in}
use Rattle.bitmap_kind.specs.Picture.{BitmapValue}
use Rattle.bitmap_pool.specs.Pool.{Group, PoolValue, put_into, pool_put}
use Rattle.bitmap_pool.specs.Numbered.{numbered, PutsAlike}
use Rattle.job_table.specs.Jobs.{JobTableValue, is_queued, queued_in, IsNext}
use Rattle.engine_world.specs.World.{Job, Jobs, Resource, Resources, World}
use Rattle.engine_world.specs.Places.{one_if, occurrences}
use Rattle.engine_world.specs.Moves.{table_job, table_jobs, allocation_of, pool_resource, to_pool, take_back}
use Rattle.engine_world.specs.Steps.{run_on, start_job, give_back}
use Rattle.engine_core.specs.declared.tables.Tables.TheInside.{Inside}
use Rattle.engine_core.specs.Conditions.{IsLive}
use Rattle.engine_core.specs.LiveJobs.{less_lent}
use Rattle.engine_core.specs.TablesView.{resource_in, world_of, SizesAre, AreJoined}
use Rattle.engine_core.proofs.MovedMaps.{moved_remove, moved_there}

-- ---- jobs

-- a live job is in the table
pub tabled : (s : Inside) (w : World) (j : ℕ) → AreJoined s → world_of s ≡ w → (live : IsLive w j) → get s.jobs.jobs j ≡ Some (table_job live.job)
tabled s w j joined seen live =
    ap (λ m. get m j) joined.jobs ∙ ap (λ (v : World). get (table_jobs v.jobs) j) seen
    ∙ moved_there nat_cmp_total nat_cmp-IsAntisymmetric table_job w.jobs j live.job live.there

pub live_in : (s : Inside) (w : World) (j : ℕ) → world_of s ≡ w → (live : IsLive w j) → get s.live.value j ≡ Some live.job
live_in s w j seen live = ap (λ (v : World). get v.jobs j) seen ∙ live.there

-- a queued job is live
pub queued_live : (w : World) (j : ℕ) → queued_in (table_jobs w.jobs) j ≡ true → IsLive w j
queued_live w j queued =
    elim (get w.jobs j) as (λ v. get w.jobs j ≡ v → IsLive w j) [
      | None ↦ λ is. let no : true ≡ false = sym queued ∙ ap (passes (λ n job. is_queued job) j) (get-map_values nat_cmp table_job w.jobs j ∙ ap (option_map table_job) is) in cc
      | Some job ↦ λ is. record { job = job; there = is }
    ] refl

-- a job goes from both
pub jobs_ended : (m : Jobs) (j : ℕ) → remove (table_jobs m) j ≡ table_jobs (remove m j)
jobs_ended m j = sym (moved_remove nat_cmp_total nat_cmp-IsAntisymmetric table_job m j)

-- a job without bitmaps that goes takes none along
pub out_ended : (m : Jobs) (j : ℕ) (job : Job) → get m j ≡ Some job → job.out ≡ [] → total (λ j job. length job.out) m ≡ total (λ j job. length job.out) (remove m j)
out_ended m j job is none =
    let all : total (λ (j : ℕ) (job : Job). length job.out) m ≡ length job.out + total (λ (j : ℕ) (job : Job). length job.out) (remove m j) =
    total-remove nat_cmp_total nat_cmp-IsAntisymmetric (λ j job. length job.out) m j job is in
    let zero : length job.out ≡ 0 = ap length none in
    omega (arith, all, zero)

-- a job that changes
pub out_changed : (m : Jobs) (j : ℕ) (job : Job) (g : Job → Job) → get m j ≡ Some job
    → total (λ j job. length job.out) (modify m j g) + length job.out ≡ total (λ j job. length job.out) m + length (g job).out
out_changed m j job g is =
    ap (λ (n : Jobs). total (λ j job. length job.out) n + length job.out) (modify_there nat_cmp_total nat_cmp-IsAntisymmetric m j g job is)
    ∙ total-insert_over nat_cmp_total nat_cmp-IsAntisymmetric (λ j job. length job.out) m j job (g job) is

-- ---- resources

held_by : (o : Option ResourceValue) (resource : Resource) → option_map resource_in o ≡ Some resource → (x : ResourceValue) × (o ≡ Some x) × (resource_in x ≡ resource)
held_by None resource is = absurd (not_Some is)
held_by (Some x) resource is = (x, refl, same_Some _ _ is)

-- a resource of the world is in the table
pub held_there : (s : Inside) (w : World) (r : ℕ) (resource : Resource) → world_of s ≡ w → get w.resources r ≡ Some resource
    → (x : ResourceValue) × (get s.resources.resources r ≡ Some x) × (resource_in x ≡ resource)
held_there s w r resource seen is =
    held_by (get s.resources.resources r) resource (sym (get-map_values nat_cmp resource_in s.resources.resources r) ∙ ap (λ (v : World). get v.resources r) seen ∙ is)

pub some_held : (o : Option ResourceValue) → is_some (option_map resource_in o) ≡ true → is_some o ≡ true
some_held None is = cc
some_held (Some x) is = refl

pub there : (s : Inside) (w : World) (r : ℕ) → world_of s ≡ w → IsSome (get w.resources r) → IsSome (get s.resources.resources r)
there s w r seen is =
    some_held (get s.resources.resources r) (ap is_some (sym (get-map_values nat_cmp resource_in s.resources.resources r) ∙ ap (λ (v : World). get v.resources r) seen) ∙ is)

-- what is not cached may go
pub sizes_without : (m : Resources) (r : ℕ) (items : List (ℕ × ℕ)) → occurrences r (map number_in items) ≡ 0 → SizesAre m items → SizesAre (remove m r) items
sizes_without m r [] none sizes = tt
sizes_without m r (item ∷ items) none sizes =
    let other : item.0 ≢ r = λ is. let one : one_if (eqb item.0 r) ≡ 1 = ap one_if (eq-eqb item.0 r is) in omega (arith, one, none) in
    let later : occurrences r (map number_in items) ≡ 0 = omega (arith, none) in
    (sizes.0 ∙ ap allocation_of (sym (get-remove_other nat_cmp_total nat_cmp-IsAntisymmetric m r item.0 other)), sizes_without m r items later sizes.1)

-- a resource that goes to the pool
pub pooled_is : (s : Inside) (number : ℕ) (x : ResourceValue) (t : ResourceTableValue) (p : PoolValue) → PutsAlike → get s.resources.resources number ≡ Some x → x.bitmap.number ≡ number
    → t ≡ record s.resources { resources = remove s.resources.resources number } → p ≡ put_into s.pool x.bitmap
    → world_of (record s { resources = t; pool = p }) ≡ to_pool number (world_of s)
pooled_is s number x t p puts is named left put =
    let w : World = world_of s in
    let size : ℕ = x.bitmap.allocation in
    let gets : get w.resources number ≡ Some (resource_in x) = moved_there nat_cmp_total nat_cmp-IsAntisymmetric resource_in s.resources.resources number x is in
    let resources : map_values resource_in (remove s.resources.resources number) ≡ remove w.resources number = moved_remove nat_cmp_total nat_cmp-IsAntisymmetric resource_in s.resources.resources number in
    let groups : numbered (put_into s.pool x.bitmap).groups ≡ pool_put s.pool.maximum size x.bitmap.picture.config number w.pool =
    puts s.pool.maximum x.bitmap s.pool.groups ∙ ap (λ n. pool_put s.pool.maximum size x.bitmap.picture.config n w.pool) named in
    ap (λ (v : ResourceTableValue). world_of (record s { resources = v; pool = p })) left
    ∙ ap (λ (v : PoolValue). world_of (record s { resources = record s.resources { resources = remove s.resources.resources number }; pool = v })) put
    ∙ ap (λ (v : Resources). record w { resources = v; pool = numbered (put_into s.pool x.bitmap).groups }) resources
    ∙ ap (λ (v : List (Group ℕ)). record w { resources = remove w.resources number; pool = v }) groups
    ∙ sym (ap (λ o. pool_resource number o w) gets)

-- a job that starts to run
pub started_is : (s : Inside) (j who : ℕ) (job : Job) (t : JobTableValue) (live : Jobs) → get s.live.value j ≡ Some job → t.added ≡ s.jobs.added → live ≡ modify s.live.value j (run_on who)
    → record (world_of s) { jobs = live; counts = record (world_of s).counts { started = t.added } } ≡ (start_job (world_of s) who j (get (world_of s).jobs j)).1
started_is s j who job t live is added changed =
    let w : World = world_of s in
    ap (λ n. record w { jobs = live; counts = record w.counts { started = n } }) added
    ∙ ap (λ (v : Jobs). record w { jobs = v }) (changed ∙ modify_there nat_cmp_total nat_cmp-IsAntisymmetric s.live.value j (run_on who) job is)
    ∙ sym (ap (λ o. (start_job w who j o).1) is)

-- the next queued job is queued
pub next_is_queued : (s : Inside) (w : World) (j : ℕ) → AreJoined s → world_of s ≡ w → IsNext s.jobs.jobs j → queued_in (table_jobs w.jobs) j ≡ true
next_is_queued s w j joined seen next =
    ap (λ (v : World). queued_in (table_jobs v.jobs) j) (sym seen) ∙ ap (λ m. queued_in m j) (sym joined.jobs) ∙ ap (passes (λ n job. is_queued job) j) next.live ∙ next.queued
