-- How lending a bitmap, and taking it back as a resource, are seen in the world.
use Rattle.std.proofs.Common.{◌≡◌, ℕ, ◌+◌, List, [], ◌∷◌, length, Some, None, Option, refl, ap, sym, subst, ◌∙◌, arith}
use Rattle.std.specs.Option.{option_map}
use Rattle.std.specs.Ordering.{nat_cmp}
use Rattle.std.specs.FinMap.{get, remove, len, entries, len-entries, nat_cmp-IsAntisymmetric}
use Rattle.std.proofs.lemmas.Cmp.{nat_cmp_total}
use Rattle.finite_maps.specs.Maps.{sum_over, total, map_values, modify}
use Rattle.finite_maps.specs.MapLaws.{not_Some, same_Some, modify_there, total-remove, total-map_values}
use Rattle.bitmap_kind.specs.Picture.{BitmapValue, reconfigured}
use Rattle.bitmap_pool.specs.Pool.{Group, Picked, PoolValue, put_into, pool_pick}
use Rattle.bitmap_pool.specs.Numbered.{numbered, picked_as, PutsAlike}
use Rattle.resource_table.specs.Resources.{keys_of}
use Rattle.engine_world.specs.declared.events.Lent.{Lent}
use Rattle.engine_world.specs.declared.events.NotedReply.{NotedReply}
use Rattle.engine_world.specs.World.{Job, Jobs, Resources, World}
use Rattle.engine_world.specs.Moves.{lend, take_back}
use Rattle.engine_world.specs.Steps.{Wanted, wanted_size, lent_as, take_pooled, IsOutcome, TakeFrom, Take, bitmap_to_pool}
use Rattle.engine_core.specs.declared.tables.LoadCounts.{LoadCounts}
use Rattle.engine_core.specs.declared.tables.Tables.TheInside.{Inside}
use Rattle.engine_core.specs.LiveJobs.{less_lent, with_lent}
use Rattle.engine_core.specs.Noted.{lent_by}
use Rattle.engine_core.specs.TablesView.{resource_in, world_of, AreJoined}

-- ---- what the tables keep among one another

-- counts do not matter to it
pub recounted : (s : Inside) (next : ℕ) (counts : LoadCounts) → AreJoined s → AreJoined (record s { next = next; counts = counts })
recounted s next counts a = record {
  jobs = a.jobs;
  out = a.out;
  counts = a.counts;
  sizes = a.sizes;
  seats = a.seats;
  loads_room = a.loads_room;
  jobs_room = a.jobs_room;
  resources_room = a.resources_room;
  active_room = a.active_room;
}

-- nor does the pool
pub repooled : (s : Inside) (pool : PoolValue) → AreJoined s → AreJoined (record s { pool = pool })
repooled s pool a = record {
  jobs = a.jobs;
  out = a.out;
  counts = a.counts;
  sizes = a.sizes;
  seats = a.seats;
  loads_room = a.loads_room;
  jobs_room = a.jobs_room;
  resources_room = a.resources_room;
  active_room = a.active_room;
}

-- ---- lending

-- a bitmap that is lent
pub lent_is : (s : Inside) (j : ℕ) (job : Job) (lent : Lent) (live : Jobs) → get s.live.value j ≡ Some job → live ≡ modify s.live.value j (with_lent lent)
    → record (world_of s) { jobs = live } ≡ lend j (get (world_of s).jobs j) lent (world_of s)
lent_is s j job lent live is changed =
    let w : World = world_of s in
    ap (λ (v : Jobs). record w { jobs = v }) (changed ∙ modify_there nat_cmp_total nat_cmp-IsAntisymmetric s.live.value j (with_lent lent) job is)
    ∙ sym (ap (λ o. lend j o lent w) is)

-- a bitmap that is taken back
pub taken_back_is : (s : Inside) (j : ℕ) (job : Job) (number : ℕ) (live : Jobs) → get s.live.value j ≡ Some job → live ≡ modify s.live.value j (less_lent number)
    → record (world_of s) { jobs = live } ≡ take_back j (get (world_of s).jobs j) number (world_of s)
taken_back_is s j job number live is changed =
    let w : World = world_of s in
    ap (λ (v : Jobs). record w { jobs = v }) (changed ∙ modify_there nat_cmp_total nat_cmp-IsAntisymmetric s.live.value j (less_lent number) job is)
    ∙ sym (ap (λ o. take_back j o number w) is)

-- what a look-up in the pool of bitmaps gives is what one in the pool of their numbers gives
pub taken_from : (wanted : Wanted) (w z : World) (picked : Picked BitmapValue) (reply : NotedReply)
    → picked_as (λ (bitmap : BitmapValue). bitmap.number) picked ≡ pool_pick wanted.config (wanted_size wanted) w.pool
    → TakeFrom wanted (record w { pool = numbered picked.groups }) (option_map (λ b. lent_as wanted b picked.size) (option_map (λ (bitmap : BitmapValue). bitmap.number) picked.found)) reply z
    → Take wanted w reply z
taken_from wanted w z picked reply same taken =
    subst (λ (p : Picked ℕ). TakeFrom wanted (record w { pool = p.groups }) (option_map (λ b. lent_as wanted b p.size) p.found) reply z) same taken

-- where it gives none
pub found_none : (wanted : Wanted) (w z : World) (picked : Picked BitmapValue) (reply : NotedReply) (o : Option BitmapValue)
    → option_map (λ (b : BitmapValue). reconfigured b wanted.width wanted.height wanted.config) o ≡ None
    → TakeFrom wanted w None reply z
    → TakeFrom wanted w (option_map (λ b. lent_as wanted b picked.size) (option_map (λ (bitmap : BitmapValue). bitmap.number) o)) reply z
found_none wanted w z picked reply None is taken = taken
found_none wanted w z picked reply (Some b) is taken = absurd (not_Some (sym is))

-- and where it gives one
pub found_some : (wanted : Wanted) (w z : World) (size : ℕ) (reply : NotedReply) (bitmap : BitmapValue) (o : Option BitmapValue)
    → option_map (λ (b : BitmapValue). reconfigured b wanted.width wanted.height wanted.config) o ≡ Some bitmap → bitmap.allocation ≡ size
    → IsOutcome reply z (take_pooled wanted.job (lent_by bitmap) w)
    → TakeFrom wanted w (option_map (λ b. lent_as wanted b size) (option_map (λ (bitmap : BitmapValue). bitmap.number) o)) reply z
found_some wanted w z size reply bitmap None is sized taken = absurd (not_Some is)
found_some wanted w z size reply bitmap (Some b) is sized taken =
    let same : reconfigured b wanted.width wanted.height wanted.config ≡ bitmap = same_Some _ _ is in
    let lent : lent_by bitmap ≡ lent_as wanted b.number size =
    sym (ap lent_by same) ∙ ap (lent_as wanted b.number) (ap (λ (v : BitmapValue). v.allocation) same ∙ sized) in
    subst (λ l. IsOutcome reply z (take_pooled wanted.job l w)) lent taken

-- ---- a bitmap that comes back

pub put_is : (s : Inside) (bitmap : BitmapValue) (p : PoolValue) → PutsAlike → p ≡ put_into s.pool bitmap
    → world_of (record s { pool = p }) ≡ bitmap_to_pool bitmap (world_of s)
put_is s bitmap p puts put =
    let w : World = world_of s in
    ap (λ (v : PoolValue). record w { pool = numbered v.groups; limits = record w.limits { pool = v.maximum } }) put
    ∙ ap (λ (v : List (Group ℕ)). record w { pool = v }) (puts s.pool.maximum bitmap s.pool.groups)

-- a job with one bitmap that goes
pub out_less : (m : Jobs) (j : ℕ) (job : Job) → get m j ≡ Some job → length job.out ≡ 1 → total (λ j job. length job.out) m ≡ 1 + total (λ j job. length job.out) (remove m j)
out_less m j job is one =
    let all : total (λ (j : ℕ) (job : Job). length job.out) m ≡ length job.out + total (λ (j : ℕ) (job : Job). length job.out) (remove m j) =
    total-remove nat_cmp_total nat_cmp-IsAntisymmetric (λ j job. length job.out) m j job is in
    all ∙ ap (λ n. n + total (λ (j : ℕ) (job : Job). length job.out) (remove m j)) one

-- ---- counting what is in a map

ones : {K X : Type 0} (es : List (K × X)) → sum_over (λ k x. 1) es ≡ length es
ones [] = refl
ones (e ∷ es) = let rest = ones es in omega (arith, rest)

len_is : (m : Resources) → len m ≡ total (λ k x. 1) m
unfolding total
len_is m = len-entries m ∙ sym (ones (entries m))

len_of : (m : Rattle.resource_table.specs.Resources.Resources) → len m ≡ total (λ k x. 1) m
unfolding total
len_of m = len-entries m ∙ sym (ones (entries m))

-- as many resources in the table as in the world
pub as_many : (m : Rattle.resource_table.specs.Resources.Resources) → len (map_values resource_in m) ≡ len m
as_many m = len_is (map_values resource_in m) ∙ total-map_values nat_cmp resource_in (λ k x. 1) m ∙ sym (len_of m)
