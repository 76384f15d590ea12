-- A seat's record of its job stays what the seat knows.
use Rattle.std.proofs.Common.{◌≡◌, ◌≢◌, ℕ, ◌+◌, ◌<◌, ◌≤◌, ◌*◌, Bool, true, false, cond, not, eqb, List, [], ◌∷◌, ◌++◌, length, filter, Some, None, Option, refl, ap, sym, subst, ◌∙◌, inl, inr, arith}
use Rattle.std.proofs.Math.Nat.{mul-le-mul_left}
use Rattle.std.proofs.Common.{length-append}
use Rattle.std.proofs.lemmas.Bool.{ne_eqb, eq-eqb}
use Rattle.bitmap_kind.specs.Picture.{BitmapValue, IsSize}
use Rattle.engine_world.specs.declared.events.Lent.{Lent}
use Rattle.engine_world.specs.declared.events.Event.{Event}
use Rattle.engine_world.specs.declared.events.Event.TheVariants as events
use Rattle.engine_world.specs.declared.events.NotedReply.{NotedReply}
use Rattle.engine_world.specs.declared.events.NotedReply.TheVariants as notes
use Rattle.finite_maps.specs.MapLaws.{same_Some}
use Rattle.engine_world.specs.Moves.{without_lent}
use Rattle.engine_world.specs.Knowledge.{OwnJob, Knowledge, knowledge_in, updated, job_with, job_without, job_cancelled}
use Rattle.engine_world.specs.Permits.{IsRunning, IsLent, IsAmongLent, IsResult}
use Rattle.engine_core.specs.declared.replies.Reply.{Reply}
use Rattle.engine_core.specs.declared.replies.Reply.TheVariants as replies
use Rattle.engine_core.specs.Noted.{noted, lent_by}
use Rattle.engine_core.specs.CoreView.{CoreValue}
use Rattle.cache_key.specs.declared.load_spec.LoadSpec.{LoadSpec}
use Rattle.bitmap_kind.specs.declared.bitmaps.Config.{Config}
use Rattle.random_events.specs.declared.seats.Taken.{Taken}
use Rattle.random_events.specs.declared.seats.Taken.TheVariants.{Nothing, One, Two}
use Rattle.random_events.specs.declared.seats.RunningJob.{RunningJob}
use Rattle.random_events.specs.SeatValue.{SeatValue}
use Rattle.random_events.specs.Seats.{IsAsLent, AreLent, IsWritten, JobIs, IsRecord, IsSeatOf, IsActOf}
use Rattle.random_events.specs.Jobs.{IsJobOf, IsJobAct, IsResultOf, Splits}
use Rattle.random_events.specs.Written.{job_in, bitmap_in, is_told_by, IsBelowTwo, with_bitmap}

-- sides of few pixels
pub few_pixels : (w h : ℕ) → 1 ≤ w → 1 ≤ h → w ≤ 4 → h ≤ 4 → IsSize w h
few_pixels w h wide high width height =
    let most : w * h ≤ w * 4 = mul-le-mul_left w height in
    record { wide = wide; high = high; most = omega (arith, most, width) }

filtered_fewer : {X : Type 0} (p : X → Bool) (xs : List X) → length (filter p xs) ≤ length xs
filtered_fewer p [] = omega arith
filtered_fewer p (x ∷ xs) =
    let rest = filtered_fewer p xs in
    elim (p x) as (λ t. length (cond t (x ∷ filter p xs) (filter p xs)) ≤ length (x ∷ xs)) [ true ↦ omega (arith, rest) | false ↦ omega (arith, rest) ]

as_lent : (bitmap : BitmapValue) → IsAsLent bitmap (lent_by bitmap)
as_lent bitmap = record { same = record { number = refl; allocation = refl }; wide = refl; high = refl; config = refl }

-- a job that has a bitmap more
lent_more : (taken : Taken) (out : List Lent) (bitmap : BitmapValue) → IsBelowTwo taken → AreLent taken out → AreLent (with_bitmap bitmap taken) (out ++ lent_by bitmap ∷ [])
lent_more Nothing out bitmap below are = (lent_by bitmap, ap (λ (l : List Lent). l ++ lent_by bitmap ∷ []) are, as_lent bitmap)
lent_more (One first) out bitmap below are = (are.0, lent_by bitmap, ap (λ (l : List Lent). l ++ lent_by bitmap ∷ []) are.1, are.2, as_lent bitmap)
lent_more (Two first second) out bitmap below are = absurd below

-- what a seat knows of its loads stays
abbrev pub SameLoads : Knowledge → Knowledge → Type 0
SameLoads old new = (new.begun ≡ old.begun) × (new.loads ≡ old.loads)

pub loads_beside_ask : (j : ℕ) (reply : NotedReply) (known : Knowledge) → SameLoads known (updated (events.IsCancelled j) reply known)
loads_beside_ask j (notes.Cancelled true) known = (refl, refl)
loads_beside_ask j (notes.Cancelled false) known = (refl, refl)
loads_beside_ask j reply known = (refl, refl)

pub loads_beside_take : (j w h : ℕ) (config : Config) (reply : NotedReply) (known : Knowledge) → SameLoads known (updated (events.Take j w h config) reply known)
loads_beside_take j w h config (notes.Taken lent) known = (refl, refl)
loads_beside_take j w h config reply known = (refl, refl)

-- the act of a job
pub job_act : (who : ℕ) (old new : CoreValue) (job : Option RunningJob) (known : Knowledge) → IsActOf who old new → knowledge_in new.history who ≡ known → SameLoads (knowledge_in old.history who) known → JobIs job known.job → IsJobAct who old new job
job_act who old new job known acts own same is = record {
  acts = acts;
  begun = ap (λ (k : Knowledge). k.begun) own ∙ same.0;
  loads = ap (λ (k : Knowledge). k.loads) own ∙ same.1;
  is = subst (λ (k : Knowledge). JobIs job k.job) (sym own) is;
}

module _ (known : Knowledge) (job : RunningJob) (is : JobIs (Some job) known.job) where
  abbrev pub runs : IsRunning known job.number
  runs = record { job = is.0; is = is.1; number = is.2.number }

  pub result_of : (bitmap painted : BitmapValue) → job.taken ≡ One bitmap → ((lent : Lent) → IsAsLent bitmap lent → IsAsLent painted lent) → IsResultOf known job.number painted
  result_of bitmap painted one keeps =
      let out : AreLent (One bitmap) is.0.out = subst (λ t. AreLent t is.0.out) one is.2.out in
      let same = keeps out.0 out.2 in
      (runs, record { lent = out.0; only = out.1; same = same.same; wide = same.wide; high = same.high; config = same.config })

  pub none_out : job.taken ≡ Nothing → is.0.out ≡ []
  none_out nothing = subst (λ t. AreLent t is.0.out) nothing is.2.out

  -- the seat was not told that it is cancelled
  untold : IsWritten (record job { cancelled = false }) is.0
  untold = record { number = is.2.number; takes = is.2.takes; few = is.2.few; out = is.2.out; told = λ e. cc }

  pub asked : (j : ℕ) (reply : Reply) → JobIs (Some (record job { cancelled = is_told_by reply })) (updated (events.IsCancelled j) (noted reply) known).job
  asked j (replies.Cancelled true) = (
    record is.0 { cancelled = true },
    ap job_cancelled is.1,
    record { number = is.2.number; takes = is.2.takes; few = is.2.few; out = is.2.out; told = λ e. refl },
  )
  asked j (replies.Cancelled false) = (is.0, is.1, untold)
  asked j reply = (is.0, is.1, untold)

  pub gave : (j : ℕ) (bitmap : BitmapValue) (left : Taken) (reply : NotedReply) → Splits job.taken left bitmap → JobIs (Some (record job { taken = left })) (updated (events.GiveBack j bitmap) reply known).job
  gave j bitmap left reply splits =
      let fewer : length (without_lent bitmap.number is.0.out) ≤ length is.0.out = filtered_fewer (λ (lent : Lent). not (eqb lent.number bitmap.number)) is.0.out in (
        record is.0 { out = without_lent bitmap.number is.0.out },
        ap (job_without bitmap.number) is.1,
        record { number = is.2.number; takes = is.2.takes; few = omega (arith, fewer, is.2.few); out = (splits is.0.out is.2.out).1; told = is.2.told },
      )

  pub took : (j w h : ℕ) (config : Config) (reply : Reply) (bitmap : BitmapValue) → bitmap_in reply ≡ Some bitmap → IsBelowTwo job.taken
      → JobIs (Some (record job { takes = job.takes + 1; taken = with_bitmap bitmap job.taken })) (updated (events.Take j w h config) (noted reply) known).job
  took j w h config (replies.Taken given) bitmap same below =
      let it : given ≡ bitmap = same_Some _ _ same in
      let more : length (is.0.out ++ lent_by given ∷ []) ≡ length is.0.out + 1 = length-append is.0.out (lent_by given ∷ []) in (
        record is.0 { takes = is.0.takes + 1; out = is.0.out ++ lent_by given ∷ [] },
        ap (job_with (lent_by given)) is.1,
        record {
          number = is.2.number;
          takes = ap (λ n. n + 1) is.2.takes;
          few = omega (arith, more, is.2.few);
          out = subst (λ b. AreLent (with_bitmap b job.taken) (is.0.out ++ lent_by given ∷ [])) it (lent_more job.taken is.0.out given below is.2.out);
          told = is.2.told;
        },
      )
  took j w h config reply bitmap same below = absurd (cc same)

-- ---- the next job

pub started : (seat : SeatValue) (known : Knowledge) → IsRecord seat known → known.job ≡ None → (room : LoadSpec) (reply : Reply)
    → IsRecord (record seat { job = job_in reply }) (updated (events.NextJob room) (noted reply) known)
started seat known is none room (replies.Job j given) = record {
  begun = is.begun;
  loads = λ k d below. let listed = is.loads k d below in record { own = listed.own; is = listed.is; ready = listed.ready; below = listed.below };
  job = (
    record { number = j; spec = given; takes = 0; out = []; cancelled = false },
    refl,
    record { number = refl; takes = refl; few = omega arith; out = refl; told = λ e. e },
  );
}
started seat known is none room reply = record { begun = is.begun; loads = is.loads; job = none }
