-- A seat's record of its loads stays what the seat knows.
use Rattle.std.proofs.Common.{◌≡◌, ◌≢◌, ℕ, suc, ◌+◌, ◌<◌, Bool, true, false, cond, not, eqb, List, [], ◌∷◌, ◌++◌, length, filter, Some, None, Option, refl, ap, sym, subst, ◌∙◌, inl, inr, arith}
use Rattle.std.specs.Prelude.{All, slice_get, slice_set, Ok, Err, OnOk}
use Rattle.std.specs.declared.result.Result.{Result}
use Rattle.std.specs.FinMap.{get, insert, remove, nat_cmp-IsAntisymmetric}
use Rattle.std.specs.Cmp.{nat_cmp_total}
use Rattle.std.proofs.lemmas.Bool.{ne_eqb, eqb-true, eq-eqb}
use Rattle.std.proofs.lemmas.Option.{get_or_from_slice_get}
use Rattle.std.proofs.lemmas.List.Elements.{All-append, All-set, All-cons, All-nil}
use Rattle.finite_maps.specs.MapLaws.{key_cases, get-insert_same, get-insert_other, get-remove_other}
use Rattle.cache_key.specs.declared.load_spec.LoadSpec.{LoadSpec}
use Rattle.engine_world.specs.declared.events.Event.TheVariants as events
use Rattle.engine_world.specs.Knowledge.{OwnLoad, Knowledge, knowledge_in, updated, with_load, with_ready, own_load}
use Rattle.engine_world.specs.Permits.{IsOwn, IsOwnReady}
use Rattle.engine_core.specs.declared.replies.Reply.{Reply}
use Rattle.engine_core.specs.declared.replies.Reply.TheVariants as replies
use Rattle.engine_core.specs.Noted.{noted}
use Rattle.engine_core.specs.CoreView.{CoreValue}
use Rattle.random_events.specs.declared.seats.ListedLoad.{ListedLoad}
use Rattle.random_events.specs.SeatValue.{SeatValue}
use Rattle.random_events.specs.Seats.{listed_more, IsListed, JobIs, IsRecord, IsSeatOf, IsActOf}
use Rattle.random_events.specs.Written.{listed_by, marked_by}

-- another fact of each element follows
follows : {X : Type 0} (P Q : X → Type 0) → ((x : X) → P x → Q x) → (xs : List X) → All P xs → All Q xs
follows P Q each xs all k d below = each _ (all k d below)

-- the element at a place
pub at_place : {X : Type 0} (P : X → Type 0) (xs : List X) (i : ℕ) (x : X) → All P xs → i < length xs → slice_get xs i ≡ Some x → P x
at_place P xs i x all below is = subst P (get_or_from_slice_get xs i x x is) (all i x below)

module _ (known : Knowledge) (load : ListedLoad) (is : IsListed known load) where
  -- a new load has another number
  listed_beside_new : (spec : LoadSpec) (ready : Bool) → IsListed (with_load spec ready known) load
  listed_beside_new spec ready =
      let apart : load.number ≢ known.begun = λ e. absurd (omega (arith, is.below, e)) in
      record {
        own = is.own;
        is = get-insert_other nat_cmp_total nat_cmp-IsAntisymmetric known.loads known.begun _ load.number apart ∙ is.is;
        ready = is.ready;
        below = omega (arith, is.below);
      }

  -- a load that becomes ready stays the seat's
  listed_beside_ready : (n : ℕ) (o : Option OwnLoad) → IsListed (with_ready n o known) load
  listed_beside_ready n None = is
  listed_beside_ready n (Some own) = elim (key_cases nat_cmp_total nat_cmp-IsAntisymmetric load.number n) [
    | inl same ↦ record {
      own = record own { ready = true };
      is = ap (get (insert known.loads n (record own { ready = true }))) same ∙ get-insert_same nat_cmp_total nat_cmp-IsAntisymmetric known.loads n (record own { ready = true });
      ready = λ r. refl;
      below = is.below;
    }
    | inr ne ↦ record {
      own = is.own;
      is = get-insert_other nat_cmp_total nat_cmp-IsAntisymmetric known.loads n _ load.number ne ∙ is.is;
      ready = is.ready;
      below = is.below;
    }
  ]

  -- and so does one beside another that is released
  listed_beside_released : (n : ℕ) → load.number ≢ n → IsListed (record known { loads = remove known.loads n }) load
  listed_beside_released n ne = record {
    own = is.own;
    is = get-remove_other nat_cmp_total nat_cmp-IsAntisymmetric known.loads n load.number ne ∙ is.is;
    ready = is.ready;
    below = is.below;
  }

  pub owned : IsOwn known load.number
  owned = (is.own, is.is)

  pub owned_ready : load.ready ≡ true → IsOwnReady known load.number
  owned_ready ready = (is.own, is.is, is.ready ready)

-- the new load itself
listed_new : (known : Knowledge) (spec : LoadSpec) (ready : Bool) (n : ℕ) → known.begun ≡ n → IsListed (with_load spec ready known) (record { number = n; ready = ready })
listed_new known spec ready n same = record {
  own = own_load spec ready;
  is = ap (get (insert known.loads known.begun (own_load spec ready))) (sym same) ∙ get-insert_same nat_cmp_total nat_cmp-IsAntisymmetric known.loads known.begun (own_load spec ready);
  ready = λ r. r;
  below = omega (arith, same);
}

-- the load that becomes ready, marked so
listed_ready : (known : Knowledge) (load : ListedLoad) (is : IsListed known load) (o : Option OwnLoad) → get known.loads load.number ≡ o → IsListed (with_ready load.number o known) (record { number = load.number; ready = true })
listed_ready known load is None e = absurd cc (is.is, e)
listed_ready known load is (Some own) e = record {
  own = record own { ready = true };
  is = get-insert_same nat_cmp_total nat_cmp-IsAntisymmetric known.loads load.number (record own { ready = true });
  ready = λ r. refl;
  below = is.below;
}

-- those that stay where the load of a number is released
listed_but : (known : Knowledge) (n : ℕ) (xs : List ListedLoad) → All (IsListed known) xs → All (IsListed (record known { loads = remove known.loads n })) (filter (λ (l : ListedLoad). not (eqb l.number n)) xs)
listed_but known n [] all = λ k d below. absurd (omega (arith, below))
listed_but known n (x ∷ xs) all =
    let rest = listed_but known n xs (λ k d below. all (suc k) d (omega (arith, below))) in
    let first : IsListed known x = all 0 x (omega arith) in
    elim (eqb x.number n) as (λ t. eqb x.number n ≡ t → All (IsListed (record known { loads = remove known.loads n })) (cond (not t) (x ∷ filter (λ (l : ListedLoad). not (eqb l.number n)) xs) (filter (λ (l : ListedLoad). not (eqb l.number n)) xs))) [
      | true ↦ λ e. rest
      | false ↦ λ e. All-cons (IsListed (record known { loads = remove known.loads n })) x _ (listed_beside_released known x first n (λ same. cc (eq-eqb x.number n same, e))) rest
    ] refl

ready_begun : (n : ℕ) (o : Option OwnLoad) (known : Knowledge) → (with_ready n o known).begun ≡ known.begun
ready_begun n None known = refl
ready_begun n (Some own) known = refl

ready_job : (n : ℕ) (o : Option OwnLoad) (known : Knowledge) → (with_ready n o known).job ≡ known.job
ready_job n None known = refl
ready_job n (Some own) known = refl

module _ (seat : SeatValue) (known : Knowledge) (is : IsRecord seat known) where
  more : (spec : LoadSpec) (ready : Bool) → IsRecord (listed_more ready seat) (with_load spec ready known)
  more spec ready = record {
    begun = ap (λ n. n + 1) is.begun;
    loads = All-append (IsListed (with_load spec ready known)) seat.loads _
        (follows (IsListed known) (IsListed (with_load spec ready known)) (λ load listed. listed_beside_new known load listed spec ready) seat.loads is.loads)
        (All-cons (IsListed (with_load spec ready known)) _ [] (listed_new known spec ready seat.begun is.begun) (All-nil (IsListed (with_load spec ready known))));
    job = is.job;
  }

  pub loaded : (spec : LoadSpec) (reply : Reply) → IsRecord (listed_by reply seat) (updated (events.Load spec) (noted reply) known)
  loaded spec replies.Full = is
  loaded spec replies.Ready = more spec true
  loaded spec reply = more spec false

  pub collected : (place : ℕ) (load : ListedLoad) → place < length seat.loads → slice_get seat.loads place ≡ Some load → (reply : Reply)
      → IsRecord (marked_by place load.number reply seat) (updated (events.Collect load.number) (noted reply) known)
  collected place load below at replies.Ready =
      let now = with_ready load.number (get known.loads load.number) known in
      record {
        begun = ready_begun load.number (get known.loads load.number) known ∙ is.begun;
        loads = All-set (IsListed now) seat.loads place _
            (listed_ready known load (at_place (IsListed known) seat.loads place load is.loads below at) (get known.loads load.number) refl)
            (follows (IsListed known) (IsListed now) (λ other listed. listed_beside_ready known other listed load.number (get known.loads load.number)) seat.loads is.loads);
        job = subst (JobIs seat.job) (sym (ready_job load.number (get known.loads load.number) known)) is.job;
      }
  collected place load below at reply = is

  pub released : (n : ℕ) (kept : List ListedLoad) → kept ≡ filter (λ (l : ListedLoad). not (eqb l.number n)) seat.loads
      → IsRecord (record seat { loads = kept }) (record known { loads = remove known.loads n })
  released n kept same = record {
    begun = is.begun;
    loads = subst (All (IsListed (record known { loads = remove known.loads n }))) (sym same) (listed_but known n seat.loads is.loads);
    job = is.job;
  }

-- the record is that of the seat after an event of its own
pub seat_by : (old new : CoreValue) (who : ℕ) (seat : SeatValue) (known : Knowledge) → who < length old.world.limits.quotas → old.world.content ≡ None
    → IsActOf who old new → knowledge_in new.history who ≡ known → IsRecord seat known → IsSeatOf new who seat
seat_by old new who seat known served untold acts own is = record {
  served = omega (arith, served, acts.quotas);
  untold = acts.content ∙ untold;
  is = subst (IsRecord seat) (sym own) is;
}

-- what holds anyhow holds at Ok
pub anyhow : {T E P : Type 0} (r : Result T E) → P → OnOk r P
anyhow (Ok x) p = p
anyhow (Err e) p = tt
