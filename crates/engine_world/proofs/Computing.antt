-- What the sealed calls of maps and sets come to, so that worked examples compute.
use Rattle.std.proofs.Common.{◌≡◌, ℕ, Bool, true, false, cond, List, [], ◌∷◌, Some, None, inl, inr, refl, ap, sym, ◌∙◌, true≢false}
use Rattle.std.specs.Prelude.{◌||◌}
use Rattle.std.specs.List.{list_any}
use Rattle.std.specs.Ordering.{nat_cmp, eq_by_cmp}
use Rattle.std.specs.Cmp.{IsTotalOrder, nat_cmp_total}
use Rattle.std.specs.Option.{option_map}
use Rattle.std.specs.declared.cmp.Ordering.{Ordering}
use Rattle.std.specs.List as lists
use Rattle.std.specs.FinMap.{FinMap, IsAntisymmetric, put, find, get, entries, insert, remove, empty, get-remove, get-empty, get-entries, same_map, entries-insert, nat_cmp-IsAntisymmetric}
use Rattle.std.specs.FinSet as set
use Rattle.load_table.specs.Loads.{LoadName, load_cmp, settled}
use Rattle.active_resources.specs.Actives.{Numbers}
use Rattle.load_cause.specs.declared.causes.Cause.{Cause}
use Rattle.load_table.specs.declared.loads.Settle.{Settle}
use Rattle.load_table.specs.LoadOrder.{load_total, load_same}
use Rattle.job_table.specs.declared.jobs.Job as table
use Rattle.job_table.specs.Jobs as job_table
use Rattle.engine_world.specs.Moves.{table_job}
use Rattle.engine_world.specs.World.{LoadState, Loads, Job, Jobs, Resource, Resources}
use Rattle.engine_world.specs.OccurrenceLaws.{find-passes, find-none, item_stands, stands_item}
use Rattle.engine_world.specs.NumberLaws.{entries-empty}
use Rattle.finite_maps.specs.Maps.{map_values}
use Rattle.finite_maps.specs.MapLaws.{key_itself, key_same, key_cases, get-insert_same, get-insert_other, get-map_values}

no_items : (xs : List ℕ) → ((q : ℕ) → list_any (eq_by_cmp nat_cmp q) xs ≡ false) → xs ≡ []
no_items [] h = refl
no_items (x ∷ xs) h = absurd (true≢false (sym (ap (λ b. b || list_any (eq_by_cmp nat_cmp x) xs) (key_itself nat_cmp_total nat_cmp-IsAntisymmetric x)) ∙ h x))

pub items-empty : set.items (set.empty {R = nat_cmp}) ≡ []
items-empty = no_items _ (λ q. sym (set.contains-items (set.empty {R = nat_cmp}) q) ∙ set.contains-empty nat_cmp q)

pub no_loads : entries (empty {X = LoadState} {R = load_cmp}) ≡ []
no_loads = entries-empty load_cmp

pub no_jobs : entries (empty {X = Job} {R = nat_cmp}) ≡ []
no_jobs = entries-empty nat_cmp

pub more_loads : (m : Loads) (k : LoadName) (v : LoadState) → entries (insert m k v) ≡ put load_cmp k v (entries m)
more_loads m k v = entries-insert load_total m k v

pub more_jobs : (m : Jobs) (k : ℕ) (v : Job) → entries (insert m k v) ≡ put nat_cmp k v (entries m)
more_jobs m k v = entries-insert nat_cmp_total m k v

pub more_resources : (m : Resources) (k : ℕ) (v : Resource) → entries (insert m k v) ≡ put nat_cmp k v (entries m)
more_resources m k v = entries-insert nat_cmp_total m k v

pub no_resources : entries (empty {X = Resource} {R = nat_cmp}) ≡ []
no_resources = entries-empty nat_cmp

pub at_resource : (m : Resources) (q : ℕ) → get m q ≡ find nat_cmp q (entries m)
at_resource m q = get-entries m q

-- ---- what goes

module _ {K X : Type 0} {R : K → K → Ordering} (o : IsTotalOrder R) (same : IsAntisymmetric R) where
  gone_empty : (k : K) → remove (empty {X = X} {R = R}) k ≡ empty
  gone_empty k = same_map o same _ _ (λ q. get-remove o empty k q ∙ ap (cond (eq_by_cmp R q k) None) (get-empty R q) ∙ elim (eq_by_cmp R q k) as (λ b. cond b None None ≡ get (empty {X = X} {R = R}) q) [ true ↦ sym (get-empty R q) | false ↦ sym (get-empty R q) ])

  gone_more : (m : FinMap R X) (j k : K) (v : X) → remove (insert m j v) k ≡ cond (eq_by_cmp R j k) (remove m k) (insert (remove m k) j v)
  gone_more m j k v = elim (eq_by_cmp R j k) as (λ b. eq_by_cmp R j k ≡ b → remove (insert m j v) k ≡ cond b (remove m k) (insert (remove m k) j v)) [
    | true ↦ λ e. same_map o same _ _ (λ q. elim (key_cases o same q k) [
      | inl is ↦ get-remove o (insert m j v) k q ∙ ap (λ b. cond b None (get (insert m j v) q)) (ap (λ p. eq_by_cmp R p k) is ∙ key_itself o same k) ∙ sym (get-remove o m k q ∙ ap (λ b. cond b None (get m q)) (ap (λ p. eq_by_cmp R p k) is ∙ key_itself o same k))
      | inr ne ↦ get-remove o (insert m j v) k q ∙ ap (cond (eq_by_cmp R q k) None) (get-insert_other o same m j v q (λ is. ne (is ∙ key_same o same j k e))) ∙ sym (get-remove o m k q)
    ])
    | false ↦ λ e. same_map o same _ _ (λ q. elim (key_cases o same q j) [
      | inl is ↦ get-remove o (insert m j v) k q ∙ ap (λ b. cond b None (get (insert m j v) q)) (ap (λ p. eq_by_cmp R p k) is ∙ e) ∙ ap (get (insert m j v)) is ∙ get-insert_same o same m j v ∙ sym (ap (get (insert (remove m k) j v)) is ∙ get-insert_same o same (remove m k) j v)
      | inr ne ↦ get-remove o (insert m j v) k q ∙ ap (cond (eq_by_cmp R q k) None) (get-insert_other o same m j v q ne) ∙ sym (get-insert_other o same (remove m k) j v q ne ∙ get-remove o m k q)
    ])
  ] refl

pub fewer_jobs : (m : Jobs) (j k : ℕ) (v : Job) → remove (insert m j v) k ≡ cond (eq_by_cmp nat_cmp j k) (remove m k) (insert (remove m k) j v)
fewer_jobs m j k v = gone_more nat_cmp_total nat_cmp-IsAntisymmetric m j k v

pub fewer_resources : (m : Resources) (j k : ℕ) (v : Resource) → remove (insert m j v) k ≡ cond (eq_by_cmp nat_cmp j k) (remove m k) (insert (remove m k) j v)
fewer_resources m j k v = gone_more nat_cmp_total nat_cmp-IsAntisymmetric m j k v

pub fewer_loads : (m : Loads) (j k : LoadName) (v : LoadState) → remove (insert m j v) k ≡ cond (eq_by_cmp load_cmp j k) (remove m k) (insert (remove m k) j v)
fewer_loads m j k v = gone_more load_total load_same m j k v

pub none_of_jobs : (k : ℕ) → remove (empty {X = Job} {R = nat_cmp}) k ≡ empty
none_of_jobs k = gone_empty nat_cmp_total nat_cmp-IsAntisymmetric k

pub none_of_resources : (k : ℕ) → remove (empty {X = Resource} {R = nat_cmp}) k ≡ empty
none_of_resources k = gone_empty nat_cmp_total nat_cmp-IsAntisymmetric k

pub none_of_loads : (k : LoadName) → remove (empty {X = LoadState} {R = load_cmp}) k ≡ empty
none_of_loads k = gone_empty load_total load_same k

-- ---- values that change

module _ {X Y : Type 0} (f : X → Y) where
  mapped_none : {K : Type 0} {R : K → K → Ordering} (o : IsTotalOrder R) (same : IsAntisymmetric R) → map_values f (empty {X = X} {R = R}) ≡ empty
  mapped_none {R = R} o same = same_map o same _ _ (λ q. get-map_values R f empty q ∙ ap (option_map f) (get-empty R q) ∙ sym (get-empty R q))

  mapped_more : {K : Type 0} {R : K → K → Ordering} (o : IsTotalOrder R) (same : IsAntisymmetric R) (m : FinMap R X) (k : K) (v : X) → map_values f (insert m k v) ≡ insert (map_values f m) k (f v)
  mapped_more {R = R} o same m k v = same_map o same _ _ (λ q. elim (key_cases o same q k) [
    | inl is ↦ get-map_values R f (insert m k v) q ∙ ap (option_map f) (ap (get (insert m k v)) is ∙ get-insert_same o same m k v) ∙ sym (ap (get (insert (map_values f m) k (f v))) is ∙ get-insert_same o same (map_values f m) k (f v))
    | inr ne ↦ get-map_values R f (insert m k v) q ∙ ap (option_map f) (get-insert_other o same m k v q ne) ∙ sym (get-insert_other o same (map_values f m) k (f v) q ne ∙ get-map_values R f m q)
  ])

pub settled_none : (j : ℕ) (to : Settle Cause) → map_values (settled j to) (empty {X = LoadState} {R = load_cmp}) ≡ empty
settled_none j to = mapped_none (settled j to) load_total load_same

pub settled_more : (j : ℕ) (to : Settle Cause) (m : Loads) (k : LoadName) (v : LoadState) → map_values (settled j to) (insert m k v) ≡ insert (map_values (settled j to) m) k (settled j to v)
settled_more j to m k v = mapped_more (settled j to) load_total load_same m k v

pub tabled_none : map_values table_job (empty {X = Job} {R = nat_cmp}) ≡ empty
tabled_none = mapped_none table_job nat_cmp_total nat_cmp-IsAntisymmetric

pub tabled_more : (m : Jobs) (k : ℕ) (v : Job) → map_values table_job (insert m k v) ≡ insert (map_values table_job m) k (table_job v)
tabled_more m k v = mapped_more table_job nat_cmp_total nat_cmp-IsAntisymmetric m k v

pub more_table_jobs : (m : job_table.Jobs) (k : ℕ) (v : table.Job) → entries (insert m k v) ≡ put nat_cmp k v (entries m)
more_table_jobs m k v = entries-insert nat_cmp_total m k v

pub no_table_jobs : entries (empty {X = table.Job} {R = nat_cmp}) ≡ []
no_table_jobs = entries-empty nat_cmp

pub at_job : (m : Jobs) (q : ℕ) → get m q ≡ find nat_cmp q (entries m)
at_job m q = get-entries m q

pub at_load : (m : Loads) (q : LoadName) → get m q ≡ find load_cmp q (entries m)
at_load m q = get-entries m q

-- ---- looking among the items of a set

pub find-only : (p : ℕ → Bool) (s : Numbers) (n : ℕ) → ((q : ℕ) → set.contains s q ≡ true → q ≡ n) → set.contains s n ≡ true → p n ≡ true → lists.find p (set.items s) ≡ Some n
find-only p s n only there passes = elim (lists.find p (set.items s)) as (λ o. lists.find p (set.items s) ≡ o → o ≡ Some n) [
  | None ↦ λ e. absurd (true≢false (sym passes ∙ find-none p (set.items s) n e (item_stands s n there)))
  | Some r ↦ λ e. ap Some (only r (stands_item s r (find-passes p (set.items s) r e).1))
] refl
