-- Which replies a call has.
use Rattle.std.proofs.Common.{◌≡◌, ℕ, ◌++◌, List, Some, None, Option, refl, ap, sym, subst, ◌∙◌, inl, inr}
use Rattle.std.specs.Prelude.{⊤}
use Rattle.std.specs.Option.{option_map}
use Rattle.std.specs.FinMap.{get}
use Rattle.bitmap_kind.specs.declared.bitmaps.Config.{Config}
use Rattle.finite_maps.specs.MapLaws.{not_Some}
use Rattle.load_table.specs.declared.loads.LoadState.TheVariants.{Waiting, Ready, Failed}
use Rattle.bitmap_pool.specs.Pool.{pool_pick}
use Rattle.engine_world.specs.declared.events.Event.TheVariants as events
use Rattle.engine_world.specs.declared.events.NotedReply.{NotedReply}
use Rattle.engine_world.specs.declared.events.NotedReply.TheVariants as replies
use Rattle.engine_world.specs.declared.events.Lent.{Lent}
use Rattle.engine_world.specs.World.{LoadState, Jobs, Resources, World}
use Rattle.engine_world.specs.Steps.{Wanted, wanted_size, lent_as, TakeFrom, collected, shape_of, piece_from}
use Rattle.engine_world.specs.Knowledge.{OwnLoad, Knowledge, knowledge_in}
use Rattle.engine_world.specs.Sound.{Sound, LoadsAgree}
use Rattle.engine_shared.specs.Tokens.{HoldValue}
use Rattle.engine_shared.specs.Caller.{Caller, knowledge_of, HasReadyLoad}
use Rattle.engine_shared.specs.Answers.{IsAsAsked}
use Rattle.engine_shared.specs.Replied.{RepliesToCollect, RepliesToLoad, RepliesToLook, RepliesToRead, RepliesToTake}
use Rattle.engine_shared.specs.CallLaws.{LoadsAreAnswered, CollectsAreAnswered, LooksAreAnswered, ReadsAreAnswered, TakesAreAnswered, TakesAsAsked}
use Rattle.engine_shared.specs.inside.EngineLaws.{EngineLaws}
use Rattle.engine_shared.proofs.EngineLaws.{sound_in}
use Rattle.engine_shared.proofs.Steps.{known_beside}
use Rattle.engine_shared.proofs.Loading.{load_replies}
use Rattle.engine_shared.proofs.Looking.{answered}

-- ---- loads

pub loads_are_answered : LoadsAreAnswered
loads_are_answered old new spec reply call = subst RepliesToLoad (sym call.step.0) (load_replies call.before old.who spec)

-- a load that its caller knows of is there
is_collected : (jobs : Jobs) (resources : Resources) (o : Option OwnLoad) (state : Option LoadState) (load : OwnLoad) → o ≡ Some load → LoadsAgree jobs resources o state → RepliesToCollect (collected state)
is_collected jobs resources None state load is agree = absurd (not_Some is)
is_collected jobs resources (Some own) None load is agree = absurd agree
is_collected jobs resources (Some own) (Some (Waiting j)) load is agree = tt
is_collected jobs resources (Some own) (Some (Ready r)) load is agree = tt
is_collected jobs resources (Some own) (Some (Failed cause)) load is agree = tt

pub collects_are_answered : EngineLaws → CollectsAreAnswered
collects_are_answered laws old new hold reply has call =
    let w = call.before in
    let sound : Sound w (knowledge_in (old.seen ++ call.others)) = sound_in laws w (old.seen ++ call.others) call.past in
    let known : knowledge_in (old.seen ++ call.others) old.who ≡ knowledge_of old = known_beside laws.own old.who old.seen call.others call.none_own in
    subst RepliesToCollect (sym call.step.0)
    (is_collected w.jobs w.resources (get (knowledge_in (old.seen ++ call.others) old.who).loads hold.number) (get w.loads (old.who, hold.number)) has.load
    (ap (λ (k : Knowledge). get k.loads hold.number) known ∙ has.is) ((sound.known_is old.who).each hold.number))

-- ---- pictures

pub looks_are_answered : LooksAreAnswered
looks_are_answered old new hold reply has call =
    subst RepliesToLook (sym (answered old new hold (events.Look hold.number) reply (λ picture. replies.Shape (shape_of picture)) has call (λ is. is) call.step.0 call.step.1)) tt

pub reads_are_answered : ReadsAreAnswered
reads_are_answered old new hold at reply has call =
    subst RepliesToRead (sym (answered old new hold (events.Read hold.number at) reply (λ picture. replies.Piece (piece_from at picture)) has call (λ is. is) call.step.0 call.step.1)) tt

-- ---- bitmaps

module _ (P : NotedReply → Type 0) (none : P replies.NoMemory) where
  take_is : (wanted : Wanted) (w z : World) (size : ℕ) (o : Option ℕ) (reply : NotedReply) → ((number allocation : ℕ) → P (replies.Taken (lent_as wanted number allocation)))
      → TakeFrom wanted w (option_map (λ b. lent_as wanted b size) o) reply z → P reply
  take_is wanted w z size (Some b) reply taken is = subst P (sym is.0) (taken b size)
  take_is wanted w z size None reply taken is = elim is [
    | inl h ↦ subst P (sym h.0) (taken w.next (wanted_size wanted))
    | inr h ↦ subst P (sym h.0) none
  ]

pub takes_are_answered : TakesAreAnswered
takes_are_answered old new j width height config reply call =
    let wanted : Wanted = record { job = j; width = width; height = height; config = config } in
    let picked = pool_pick config (wanted_size wanted) call.before.pool in
    take_is RepliesToTake tt wanted (record call.before { pool = picked.groups }) new.world picked.size picked.found reply (λ number allocation. tt) call.step

abbrev AsAsked : ℕ → ℕ → Config → NotedReply → Type 0
AsAsked width height config (replies.Taken lent) = IsAsAsked width height config lent
AsAsked width height config reply = ⊤

pub takes_as_asked : TakesAsAsked
takes_as_asked old new j width height config lent call =
    let wanted : Wanted = record { job = j; width = width; height = height; config = config } in
    let picked = pool_pick config (wanted_size wanted) call.before.pool in
    take_is (AsAsked width height config) tt wanted (record call.before { pool = picked.groups }) new.world picked.size picked.found (replies.Taken lent)
    (λ number allocation. record { width_is = refl; height_is = refl; config_is = refl }) call.step
