use Rattle.std.proofs.Common.{vec_len, ◌≡◌, [], length, map, ap, sym, subst, ◌∙◌, arith}
use Rattle.std.specs.Prelude.{false, replicate}
use Rattle.std.specs.Ordering.{nat_cmp}
use Rattle.std.specs.FinMap.{get, empty, get-empty}
use Rattle.std.specs.FinSet as set
use Rattle.std.proofs.lemmas.List.{length-replicate}
use Rattle.finite_maps.specs.Maps.{total, map_values}
use Rattle.finite_maps.specs.MapLaws.{not_Some}
use Rattle.resource_table.specs.Resources.{ResourceTableValue}
use Rattle.load_table.specs.Loads.{LoadsValue}
use Rattle.load_cause.specs.declared.causes.Cause.{Cause}
use Rattle.job_table.specs.Jobs.{JobTableValue}
use Rattle.active_resources.specs.Actives.{ActiveValue}
use Rattle.memory_cache.specs.Cache.{CacheValue, number_in}
use Rattle.bitmap_pool.specs.Numbered.{numbered}
use Rattle.engine_world.specs.World.{Job, Jobs, Limits, none_begun, opening}
use Rattle.engine_world.specs.Moves.{table_job, table_jobs}
use Rattle.engine_world.specs.Rooms.{quota_sum}
use Rattle.engine_core.specs.TablesView.{resource_in, SizesAre}
use Rattle.engine_core.proofs.Opened.{none_changed, none_sum, none_begun_is}
use Rattle.engine_core.proofs.tables.Tables.new.Goals as goal

pub invariant_of-result : goal.invariant_of-result
invariant_of-result c =
    let long : vec_len c.limits.inside.quotas ≡ length c.limits.inside.quotas.items = omega (arith, c.deref.ensures.len, ap length c.deref.ensures.value) in
    let sum : c.quota_sum-loads.result ≡ quota_sum c.limits.inside.quotas.items = c.quota_sum-loads.ensures ∙ ap quota_sum c.deref.ensures.value in
    record {
      jobs = ap (λ (v : JobTableValue). v.jobs) c.in_ok-new-2.ensures ∙ sym (ap table_jobs c.no_live_jobs.ensures ∙ none_changed table_job);
      out = sym (ap (λ (m : Jobs). total (λ j job. length job.out) m) c.no_live_jobs.ensures ∙ none_sum (λ j (job : Job). length job.out));
      counts = λ number resource at. absurd (not_Some (sym (ap (λ (v : ResourceTableValue). get v.resources number) c.in_ok-new-3.ensures ∙ get-empty nat_cmp number) ∙ at));
      sizes = subst (λ (v : CacheValue). SizesAre (map_values resource_in c.in_ok-new-3.field-0.resources) v.items) (sym c.in_ok-new-5.ensures) tt;
      seats = ap length c.in_ok-none_begun.ensures ∙ length-replicate c.len-seats.result 0 ∙ c.len-seats.ensures ∙ long;
      loads_room = ap (λ (v : LoadsValue Cause). v.room) c.in_ok-new.ensures ∙ sum;
      jobs_room = ap (λ (v : JobTableValue). v.room) c.in_ok-new-2.ensures ∙ omega (arith, sum, c.len-seats.ensures, long);
      resources_room = ap (λ (v : ResourceTableValue). v.room) c.in_ok-new-3.ensures ∙ omega (arith, sum);
      active_room = ap (λ (v : ActiveValue). v.room) c.in_ok-new-4.ensures.empty ∙ omega (arith, sum);
    }

pub returns : goal.returns
returns c =
    let long : vec_len c.limits.inside.quotas ≡ length c.limits.inside.quotas.items = omega (arith, c.deref.ensures.len, ap length c.deref.ensures.value) in
    let loads : c.in_ok-new.field-0 ≡ record { room = c.quota_sum-loads.result; loads = empty } = c.in_ok-new.ensures in
    let jobs : c.in_ok-new-2.field-0.added ≡ 0 = ap (λ (v : JobTableValue). v.added) c.in_ok-new-2.ensures in
    let resources : map_values resource_in c.in_ok-new-3.field-0.resources ≡ empty = ap (λ (v : ResourceTableValue). map_values resource_in v.resources) c.in_ok-new-3.ensures ∙ none_changed resource_in in
    let active : c.in_ok-new-4.field-0.numbers ≡ set.empty = ap (λ (v : ActiveValue). v.numbers) c.in_ok-new-4.ensures.empty in
    let cache : c.in_ok-new-5.field-0 ≡ record { maximum = c.limits.inside.memory; items = [] } = c.in_ok-new-5.ensures in
    let pool : c.in_ok-new-6.field-0 ≡ record { maximum = c.limits.inside.pool; groups = [] } = c.in_ok-new-6.ensures in
    let begun : c.in_ok-none_begun.field-0.items ≡ none_begun c.limits.inside.quotas.items =
    c.in_ok-none_begun.ensures ∙ ap (λ n. replicate n 0) (c.len-seats.ensures ∙ long) ∙ none_begun_is c.limits.inside.quotas.items in
    (λ i. record {
      loads = (loads i).loads;
      jobs = c.no_live_jobs.ensures i;
      resources = resources i;
      active = active i;
      cached = map number_in (cache i).items;
      pool = numbered (pool i).groups;
      next = 0;
      counts = record {
        loads = (c.no_counts.ensures i).loads;
        active = (c.no_counts.ensures i).active;
        memory = (c.no_counts.ensures i).memory;
        joined = (c.no_counts.ensures i).joined;
        started = jobs i;
        takes = (c.no_counts.ensures i).takes;
        reused = (c.no_counts.ensures i).reused;
      };
      begun = begun i;
      limits = record { pool = (pool i).maximum; memory = (cache i).maximum; quotas = c.limits.inside.quotas.items };
      closed = false;
      content = c.args.told;
    })
    ∙ ap (λ (l : Limits). opening l c.args.told) c.limits.view_is
