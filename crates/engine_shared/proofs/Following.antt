-- What follows from the entry of a call of loads and jobs.
use Rattle.std.proofs.Common.{◌≡◌, ◌≢◌, ℕ, ◌+◌, ◌<◌, Bool, true, false, cond, eqb, List, [], ◌∷◌, ◌++◌, map, Some, None, Option, refl, ap, sym, subst, ◌∙◌, arith}
use Rattle.std.specs.Prelude.{⊤, ◌↔◌, slice_index_or}
use Rattle.std.specs.FinMap.{get, len}
use Rattle.std.proofs.lemmas.Bool.{eqb-true, eq-eqb}
use Rattle.cache_key.specs.declared.load_spec.LoadSpec.{LoadSpec}
use Rattle.load_table.specs.Loads.{owned}
use Rattle.engine_world.specs.declared.events.NotedReply.{NotedReply}
use Rattle.engine_world.specs.declared.events.NotedReply.TheVariants as replies
use Rattle.engine_world.specs.declared.events.Lent.{Lent}
use Rattle.engine_world.specs.World.{Limits, World}
use Rattle.engine_world.specs.Places.{one_if, occurrences}
use Rattle.engine_world.specs.Moves.{job_for, cached_of, active_of}
use Rattle.engine_world.specs.Steps.{quota_of, load, load_by_job, load_from_jobs, load_by_cache, load_by_active}
use Rattle.engine_world.specs.Knowledge.{OwnLoad, OwnJob, Knowledge, knowledge_in, own_load, with_load, with_ready}
use Rattle.engine_world.specs.Permits.{IsRunning, IsPicture}
use Rattle.engine_world.specs.Sound.{Sound}
use Rattle.engine_world.specs.Laws as world_laws
use Rattle.engine_world.specs.NumberLaws.{put_same}
use Rattle.engine_shared.specs.Tokens.{HoldValue}
use Rattle.engine_shared.specs.Caller.{Caller, knowledge_of, content_of, IsLegal, HasLoad}
use Rattle.engine_shared.specs.Answers.{IsOther}
use Rattle.engine_shared.specs.CallLaws.{FullExactly, LoadsAreOwn, JobsAreOwn, TakesAnother, ReadyLoadsShow, LoadsStay, ReadyLoadsStay}
use Rattle.engine_shared.specs.inside.EngineLaws.{EngineLaws}
use Rattle.engine_shared.proofs.EngineLaws.{sound_in, sound_of}
use Rattle.engine_shared.proofs.Loading.{full_where}
use Rattle.engine_shared.proofs.Steps.{fixed_along, known_beside}
use Rattle.engine_shared.proofs.Pictures.{shows_its_picture}
use Rattle.engine_shared.proofs.Staying.{stays}

-- ---- a bitmap that is taken

none_is : (b : ℕ) (out : List Lent) → occurrences b (map (λ (l : Lent). l.number) out) ≡ 0 → IsOther b out
none_is b [] none = tt
none_is b (lent ∷ out) none =
    let apart : lent.number ≢ b = λ e. absurd (omega (arith, none, ap one_if (eq-eqb lent.number b e))) in
    let rest : occurrences b (map (λ (l : Lent). l.number) out) ≡ 0 = omega (arith, none) in
    (apart, none_is b out rest)

abbrev job_of : ℕ → LoadSpec → ℕ → List Lent → Bool → Option OwnJob
job_of n s t o b = Some (record { number = n; spec = s; takes = t; out = o; cancelled = b })

module _ (laws : EngineLaws) where
  pub full_exactly : FullExactly
  full_exactly old new spec reply call =
      let w = call.before in
      let sound : Sound w (knowledge_in (old.seen ++ call.others)) = sound_in laws w (old.seen ++ call.others) call.past in
      let live : owned old.who w.loads ≡ len (knowledge_of old).loads = (sound.known_is old.who).live ∙ ap (λ (k : Knowledge). len k.loads) (known_beside laws.own old.who old.seen call.others call.none_own) in
      let quota : quota_of w old.who ≡ slice_index_or old.world.limits.quotas old.who 0 = ap (λ (l : Limits). slice_index_or l.quotas old.who 0) (fixed_along laws.opening old.world w call.others call.led).0 in
      let there = full_where w old.who spec in
      (λ is. sym live ∙ there.0 (sym call.step.0 ∙ is) ∙ quota, λ same. call.step.0 ∙ there.1 (live ∙ same ∙ sym quota))

  pub takes_another : world_laws.TakesAnother → TakesAnother
  takes_another another old new job width height config lent runs call =
      let w = call.before in
      let sound : Sound w (knowledge_in (old.seen ++ call.others)) = sound_in laws w (old.seen ++ call.others) call.past in
      let run : IsRunning (knowledge_in (old.seen ++ call.others) old.who) job.number = record { job = job; is = ap (λ (k : Knowledge). k.job) (known_beside laws.own old.who old.seen call.others call.none_own) ∙ runs; number = refl } in
      none_is lent.number job.out (another w new.world (knowledge_in (old.seen ++ call.others)) old.who job.number width height config lent sound run call.step)

  below_of : (c : Caller) → IsLegal c → (n : ℕ) (load : OwnLoad) → get (knowledge_of c).loads n ≡ Some load → n < (knowledge_of c).begun
  below_of c legal n load is = ((sound_of laws c legal).known_is c.who).below n load is

  is_added : (old new : Caller) (spec : LoadSpec) (hold : HoldValue) (ready : Bool) → knowledge_of new ≡ with_load spec ready (knowledge_of old)
      → hold.number ≡ (knowledge_of old).begun → hold.key ≡ spec.key → HasLoad new hold
  is_added old new spec hold ready known number key =
      let load : OwnLoad = own_load spec ready in
      let there : get (knowledge_of new).loads hold.number ≡ Some load =
      ap (get (knowledge_of new).loads) number ∙ ap (λ (k : Knowledge). get k.loads (knowledge_of old).begun) known ∙ put_same (knowledge_of old).loads (knowledge_of old).begun load in
      let more : (knowledge_of new).begun ≡ (knowledge_of old).begun + 1 = ap (λ (k : Knowledge). k.begun) known in
      record { load = load; is = there; key = sym key; below = omega (arith, more, number) }

  pub loads_are_own : LoadsAreOwn
  loads_are_own old new spec replies.Full hold is call number key = absurd is
  loads_are_own old new spec replies.Ready hold is call number key = is_added old new spec hold true call.knowledge number key
  loads_are_own old new spec (replies.Joined j) hold is call number key = is_added old new spec hold false call.knowledge number key
  loads_are_own old new spec (replies.Started j) hold is call number key = is_added old new spec hold false call.knowledge number key
  loads_are_own old new spec (replies.NotYet j) hold is call number key = absurd is
  loads_are_own old new spec (replies.Failed cause) hold is call number key = absurd is
  loads_are_own old new spec (replies.Shape shape) hold is call number key = absurd is
  loads_are_own old new spec (replies.Piece piece) hold is call number key = absurd is
  loads_are_own old new spec replies.Closed hold is call number key = absurd is
  loads_are_own old new spec replies.Idle hold is call number key = absurd is
  loads_are_own old new spec (replies.Job j given) hold is call number key = absurd is
  loads_are_own old new spec (replies.Taken lent) hold is call number key = absurd is
  loads_are_own old new spec replies.NoMemory hold is call number key = absurd is
  loads_are_own old new spec replies.Discarded hold is call number key = absurd is
  loads_are_own old new spec (replies.Cancelled b) hold is call number key = absurd is
  loads_are_own old new spec (replies.Totals sums) hold is call number key = absurd is
  loads_are_own old new spec replies.Done hold is call number key = absurd is

  pub jobs_are_own : JobsAreOwn
  jobs_are_own old new room pass replies.Full is fresh call = absurd is
  jobs_are_own old new room pass replies.Ready is fresh call = absurd is
  jobs_are_own old new room pass (replies.Joined j) is fresh call = absurd is
  jobs_are_own old new room pass (replies.Started j) is fresh call = absurd is
  jobs_are_own old new room pass (replies.NotYet j) is fresh call = absurd is
  jobs_are_own old new room pass (replies.Failed cause) is fresh call = absurd is
  jobs_are_own old new room pass (replies.Shape shape) is fresh call = absurd is
  jobs_are_own old new room pass (replies.Piece piece) is fresh call = absurd is
  jobs_are_own old new room pass replies.Closed is fresh call = absurd is
  jobs_are_own old new room pass replies.Idle is fresh call = absurd is
  jobs_are_own old new room pass (replies.Job j given) is fresh call =
      ap (λ (k : Knowledge). k.job) call.knowledge
      ∙ ap (λ n. job_of n given 0 [] false) is.0
      ∙ ap (λ s. job_of pass.number s 0 [] false) is.1
      ∙ ap (λ n. job_of pass.number pass.spec n [] false) (sym fresh.takes)
      ∙ ap (λ o. job_of pass.number pass.spec pass.takes o false) (sym fresh.out)
      ∙ ap (λ b. job_of pass.number pass.spec pass.takes pass.out b) (sym fresh.cancelled)
  jobs_are_own old new room pass (replies.Taken lent) is fresh call = absurd is
  jobs_are_own old new room pass replies.NoMemory is fresh call = absurd is
  jobs_are_own old new room pass replies.Discarded is fresh call = absurd is
  jobs_are_own old new room pass (replies.Cancelled b) is fresh call = absurd is
  jobs_are_own old new room pass (replies.Totals sums) is fresh call = absurd is
  jobs_are_own old new room pass replies.Done is fresh call = absurd is

  pub ready_loads_show : ReadyLoadsShow
  ready_loads_show old new hold has call =
      let now : OwnLoad = record has.load { ready = true } in
      let there : get (knowledge_of new).loads hold.number ≡ Some now =
      ap (λ (k : Knowledge). get k.loads hold.number) (call.knowledge ∙ ap (λ o. with_ready hold.number o (knowledge_of old)) has.is) ∙ put_same (knowledge_of old).loads hold.number now in
      let shown = shows_its_picture laws new call.legal hold.number now there refl in
      record {
        load = now;
        is = there;
        key = has.key;
        ready = refl;
        below = below_of new call.legal hold.number now there;
        picture = shown.0;
        shows = shown.1;
        right = subst (λ key. IsPicture (content_of new) key shown.0) has.key shown.2;
      }

  pub loads_stay : LoadsStay
  loads_stay old new event reply hold has call not =
      let now = stays (knowledge_of old) hold.number has.load has.is has.below old.who event reply not in
      let there : get (knowledge_of new).loads hold.number ≡ Some now.now = ap (λ (k : Knowledge). get k.loads hold.number) call.knowledge ∙ now.is in
      record { load = now.now; is = there; key = now.key ∙ has.key; below = below_of new call.legal hold.number now.now there }

  pub ready_loads_stay : ReadyLoadsStay
  ready_loads_stay old new event reply hold has call not =
      let now = stays (knowledge_of old) hold.number has.load has.is has.below old.who event reply not in
      let there : get (knowledge_of new).loads hold.number ≡ Some now.now = ap (λ (k : Knowledge). get k.loads hold.number) call.knowledge ∙ now.is in
      let same = call.pictures hold.number (has.load, has.is, has.ready) not in (
        record {
          load = now.now;
          is = there;
          key = now.key ∙ has.key;
          ready = now.ready has.ready;
          below = below_of new call.legal hold.number now.now there;
          picture = has.picture;
          shows = same ∙ has.shows;
          right = subst (λ c. IsPicture c hold.key has.picture) (sym call.content) has.right;
        },
        same,
      )
