-- What a caller has stays so through each event but its release.
use Rattle.std.proofs.Common.{◌≡◌, ◌≢◌, ℕ, ◌<◌, Bool, true, false, Some, None, Option, refl, ap, sym, ◌∙◌, inl, inr, arith}
use Rattle.std.specs.Ordering.{nat_cmp}
use Rattle.std.specs.Cmp.{nat_cmp_total}
use Rattle.std.specs.FinMap.{FinMap, get, insert, nat_cmp-IsAntisymmetric}
use Rattle.finite_maps.specs.MapLaws.{same_Some, key_cases, get-insert_same, get-insert_other, get-remove_other}
use Rattle.cache_key.specs.declared.load_spec.LoadSpec.{LoadSpec}
use Rattle.engine_world.specs.declared.events.Event.{Event}
use Rattle.engine_world.specs.declared.events.Event.TheVariants as events
use Rattle.engine_world.specs.declared.events.NotedReply.{NotedReply}
use Rattle.engine_world.specs.declared.events.NotedReply.TheVariants as replies
use Rattle.engine_world.specs.Knowledge.{OwnLoad, Knowledge, with_load, after_load, with_ready, after_collect, after_next_job, after_take, after_is_cancelled, updated}
use Rattle.engine_world.specs.Laws.{IsRelease}
use Rattle.engine_world.specs.NumberLaws.{put_same}

-- the load is there still, and was answered Ready where it was before
pub record StaysOwn (k : Knowledge) (n : ℕ) (load : OwnLoad) : Type 0 where
  pub now : OwnLoad
  pub is : get k.loads n ≡ Some now
  pub key : now.key ≡ load.key
  pub ready : load.ready ≡ true → now.ready ≡ true

module _ (k : Knowledge) (n : ℕ) (load : OwnLoad) (there : get k.loads n ≡ Some load) (below : n < k.begun) where
  beside : (z : Knowledge) → z.loads ≡ k.loads → StaysOwn z n load
  beside z same = record { now = load; is = ap (λ m. get m n) same ∙ there; key = refl; ready = λ r. r }

  begins : (spec : LoadSpec) (ready : Bool) → StaysOwn (with_load spec ready k) n load
  begins spec ready =
      let apart : n ≢ k.begun = λ e. absurd (omega (arith, below, e)) in
      record { now = load; is = get-insert_other nat_cmp_total nat_cmp-IsAntisymmetric k.loads k.begun _ n apart ∙ there; key = refl; ready = λ r. r }

  becomes_ready : (m : ℕ) (o : Option OwnLoad) → get k.loads m ≡ o → StaysOwn (with_ready m o k) n load
  becomes_ready m None e = beside k refl
  becomes_ready m (Some l) e = elim (key_cases nat_cmp_total nat_cmp-IsAntisymmetric n m) [
    | inl same ↦
        let it : l ≡ load = same_Some _ _ (sym e ∙ ap (get k.loads) (sym same) ∙ there) in
        record { now = record l { ready = true }; is = ap (get (insert k.loads m (record l { ready = true }))) same ∙ put_same k.loads m (record l { ready = true }); key = ap (λ (o : OwnLoad). o.key) it; ready = λ r. refl }
    | inr ne ↦ record { now = load; is = get-insert_other nat_cmp_total nat_cmp-IsAntisymmetric k.loads m _ n ne ∙ there; key = refl; ready = λ r. r }
  ]

  loads : (spec : LoadSpec) (reply : NotedReply) → StaysOwn (after_load spec reply k) n load
  loads spec replies.Full = beside k refl
  loads spec replies.Ready = begins spec true
  loads spec (replies.Joined j) = begins spec false
  loads spec (replies.Started j) = begins spec false
  loads spec (replies.NotYet j) = begins spec false
  loads spec (replies.Failed cause) = begins spec false
  loads spec (replies.Shape shape) = begins spec false
  loads spec (replies.Piece piece) = begins spec false
  loads spec replies.Closed = begins spec false
  loads spec replies.Idle = begins spec false
  loads spec (replies.Job j given) = begins spec false
  loads spec (replies.Taken lent) = begins spec false
  loads spec replies.NoMemory = begins spec false
  loads spec replies.Discarded = begins spec false
  loads spec (replies.Cancelled b) = begins spec false
  loads spec (replies.Totals sums) = begins spec false
  loads spec replies.Done = begins spec false

  collects : (m : ℕ) (reply : NotedReply) → StaysOwn (after_collect m reply k) n load
  collects m replies.Full = beside k refl
  collects m replies.Ready = becomes_ready m (get k.loads m) refl
  collects m (replies.Joined j) = beside k refl
  collects m (replies.Started j) = beside k refl
  collects m (replies.NotYet j) = beside k refl
  collects m (replies.Failed cause) = beside k refl
  collects m (replies.Shape shape) = beside k refl
  collects m (replies.Piece piece) = beside k refl
  collects m replies.Closed = beside k refl
  collects m replies.Idle = beside k refl
  collects m (replies.Job j given) = beside k refl
  collects m (replies.Taken lent) = beside k refl
  collects m replies.NoMemory = beside k refl
  collects m replies.Discarded = beside k refl
  collects m (replies.Cancelled b) = beside k refl
  collects m (replies.Totals sums) = beside k refl
  collects m replies.Done = beside k refl

  gets_job : (reply : NotedReply) → StaysOwn (after_next_job reply k) n load
  gets_job replies.Full = beside _ refl
  gets_job replies.Ready = beside _ refl
  gets_job (replies.Joined j) = beside _ refl
  gets_job (replies.Started j) = beside _ refl
  gets_job (replies.NotYet j) = beside _ refl
  gets_job (replies.Failed cause) = beside _ refl
  gets_job (replies.Shape shape) = beside _ refl
  gets_job (replies.Piece piece) = beside _ refl
  gets_job replies.Closed = beside _ refl
  gets_job replies.Idle = beside _ refl
  gets_job (replies.Job j given) = beside _ refl
  gets_job (replies.Taken lent) = beside _ refl
  gets_job replies.NoMemory = beside _ refl
  gets_job replies.Discarded = beside _ refl
  gets_job (replies.Cancelled b) = beside _ refl
  gets_job (replies.Totals sums) = beside _ refl
  gets_job replies.Done = beside _ refl

  takes : (reply : NotedReply) → StaysOwn (after_take reply k) n load
  takes replies.Full = beside _ refl
  takes replies.Ready = beside _ refl
  takes (replies.Joined j) = beside _ refl
  takes (replies.Started j) = beside _ refl
  takes (replies.NotYet j) = beside _ refl
  takes (replies.Failed cause) = beside _ refl
  takes (replies.Shape shape) = beside _ refl
  takes (replies.Piece piece) = beside _ refl
  takes replies.Closed = beside _ refl
  takes replies.Idle = beside _ refl
  takes (replies.Job j given) = beside _ refl
  takes (replies.Taken lent) = beside _ refl
  takes replies.NoMemory = beside _ refl
  takes replies.Discarded = beside _ refl
  takes (replies.Cancelled b) = beside _ refl
  takes (replies.Totals sums) = beside _ refl
  takes replies.Done = beside _ refl

  asks : (reply : NotedReply) → StaysOwn (after_is_cancelled reply k) n load
  asks replies.Full = beside _ refl
  asks replies.Ready = beside _ refl
  asks (replies.Joined j) = beside _ refl
  asks (replies.Started j) = beside _ refl
  asks (replies.NotYet j) = beside _ refl
  asks (replies.Failed cause) = beside _ refl
  asks (replies.Shape shape) = beside _ refl
  asks (replies.Piece piece) = beside _ refl
  asks replies.Closed = beside _ refl
  asks replies.Idle = beside _ refl
  asks (replies.Job j given) = beside _ refl
  asks (replies.Taken lent) = beside _ refl
  asks replies.NoMemory = beside _ refl
  asks replies.Discarded = beside _ refl
  asks (replies.Cancelled true) = beside _ refl
  asks (replies.Cancelled false) = beside _ refl
  asks (replies.Totals sums) = beside _ refl
  asks replies.Done = beside _ refl

  pub stays : (who : ℕ) (event : Event) (reply : NotedReply) → (IsRelease (who, n) who event → ⊥) → StaysOwn (updated event reply k) n load
  stays who (events.Load spec) reply not = loads spec reply
  stays who (events.Collect m) reply not = collects m reply
  stays who (events.Look m) reply not = beside k refl
  stays who (events.Read m at) reply not = beside k refl
  stays who (events.Release m) reply not = record { now = load; is = get-remove_other nat_cmp_total nat_cmp-IsAntisymmetric k.loads m n (λ e. not (ap (λ i. (who, i)) e)) ∙ there; key = refl; ready = λ r. r }
  stays who (events.NextJob room) reply not = gets_job reply
  stays who (events.Take j width height config) reply not = takes reply
  stays who (events.GiveBack j bitmap) reply not = beside _ refl
  stays who (events.Finish j bitmap) reply not = beside _ refl
  stays who (events.Fail j cause) reply not = beside _ refl
  stays who (events.Quit j) reply not = beside _ refl
  stays who (events.IsCancelled j) reply not = asks reply
  stays who (events.Trim level) reply not = beside k refl
  stays who events.Close reply not = beside k refl
  stays who events.Totals reply not = beside k refl
