-- The storing of an entry.
use Rattle.std.proofs.Common.{◌≡◌, ℕ, ◌+◌, ◌<◌, ◌^◌, Bool, true, false, List, [], ◌∷◌, ◌++◌, length, Some, None, Ok, Err, refl, sym, subst, ◌∙◌, arith, length-append}
use Rattle.std.specs.Prelude.{◌||◌, nat_lt, IfSome}
use Rattle.std.proofs.lemmas.Bool.{ltb-false}
use Rattle.std.specs.declared.option.Option.{Option}
use Rattle.outside.specs.Content.{Contents}
use Rattle.cache_key.specs.declared.bytes.Which.{Which}
use Rattle.cache_key.specs.Key.{Key, IsKey}
use Rattle.cache_key.specs.KeyBytes.{sized, key_bytes_of}
use Rattle.cache_key.specs.FileKey.{file_key}
use Rattle.disk_lru.specs.declared.refusals.DiskFault.{DiskFault}
use Rattle.disk_lru.specs.declared.refusals.DiskFault.TheVariants as faults
use Rattle.store_world.specs.declared.events.StoreEvent.TheVariants as events
use Rattle.store_world.specs.declared.events.StoreReply.{StoreReply}
use Rattle.store_world.specs.declared.events.StoreReply.TheVariants as replies
use Rattle.store_world.specs.declared.events.Note.{Note}
use Rattle.store_world.specs.Envelopes.{envelope}
use Rattle.store_world.specs.Right.{Pair, IsPayload, IsRight, IsRightIn, entry_of}
use Rattle.store_world.specs.World.{World}
use Rattle.store_world.specs.Steps.{is_too_large, want}
use Rattle.store_world.specs.StoreMachine.{noted}
use Rattle.store_shared.specs.declared.answers.Stored.{Stored}
use Rattle.store_shared.specs.declared.answers.Stored.TheVariants as answers
use Rattle.store_shared.specs.Caller.{Caller, knowledge_of, IsStep, AreSteps, MadeSteps}
use Rattle.store_shared.specs.Answers.{failed_by, Waits, Writes, no_envelope, unwritten, uncommitted, stored, Edits, already, unbegun, begun, LockedSteps, edited, wants, Stores, no_key_bytes, off, too_large, locked, IsCommit, CommitsEntry}
use Rattle.store_shared.specs.Holding.{IsWanted}
use Rattle.store_shared.specs.Replied.{IsLeft}
use Rattle.store_shared.proofs.Chained.{one_step, two_steps, joined}

-- ---- lengths

pub length_envelope : (bytes payload : List ℕ) → length (envelope bytes payload) ≡ length bytes + 12 + length payload
length_envelope bytes payload = omega (arith, length-append (sized bytes) (sized payload))

-- the note of a want, by the numbers that it was made with
pub want_is : (a b : Caller) (bytes payload key : List ℕ) (reply : StoreReply) → key ≡ file_key bytes
    → IsStep a (noted (events.Want key (length bytes + 12 + length payload) (length payload)) reply) b → IsStep a (wants bytes payload reply) b
want_is a b bytes payload key reply is step =
    subst (λ n. IsStep a (noted (events.Want (file_key bytes) n (length payload)) reply) b) (sym (length_envelope bytes payload))
    (subst (λ k. IsStep a (noted (events.Want k (length bytes + 12 + length payload) (length payload)) reply) b) is step)

-- a lock that is wanted is wanted for a payload whose length 32 bits can say
not_large : (is_off large : Bool) (w : World) (who : ℕ) (key : List ℕ) → replies.Done ≡ (want is_off large w who key).0 → large ≡ false
not_large true large w who key done = absurd (subst IsLeft done tt)
not_large false true w who key done = absurd (subst IsLeft done tt)
not_large false false w who key done = refl

or_false : (a b : Bool) → (a || b) ≡ false → b ≡ false
or_false true b is = let bad : true ≡ false = is in cc
or_false false b is = is

pub fits : (old new : Caller) (bytes payload : List ℕ) → IsStep old (wants bytes payload replies.Done) new → length payload < 2 ^ 32
fits old new bytes payload step =
    let w = step.before in
    let maximum = w.disk.cache.maximum in
    let n = length (envelope bytes payload) in
    let small = or_false (nat_lt maximum n) (nat_lt 4294967295 (length payload)) (not_large w.off (is_too_large maximum n (length payload)) w old.who (file_key bytes) step.step.0) in
    omega (arith, ltb-false 4294967295 (length payload) small)

-- ---- the edit

pub not_stored : (fault : DiskFault) → failed_by fault ≡ answers.Stored → ⊥
not_stored faults.Failed is = let bad : answers.Failed ≡ answers.Stored = is in cc
not_stored faults.Memory is = let bad : answers.Memory ≡ answers.Stored = is in cc

abbrev GivesUp : Caller → Caller → Type 0
GivesUp old new = (reply : StoreReply) × IsStep old (noted events.GiveUp reply) new

module _ (a b c : Caller) (file : List ℕ) where
  pub without_envelope : GivesUp a c → MadeSteps (Writes file answers.Memory) a c
  without_envelope gives = (noted events.GiveUp gives.0 ∷ [], no_envelope gives.0, one_step a c _ gives.1)

  pub without_write : (fault : DiskFault) → IsStep a (noted (events.Write file) (replies.Fault fault)) b → GivesUp b c → MadeSteps (Writes file (failed_by fault)) a c
  without_write fault step gives = (noted (events.Write file) (replies.Fault fault) ∷ noted events.GiveUp gives.0 ∷ [], unwritten fault gives.0, two_steps a b c _ _ step gives.1)

  pub without_commit : (fault : DiskFault) → IsStep a (noted (events.Write file) replies.Done) b → IsStep b (noted events.Commit (replies.Fault fault)) c → MadeSteps (Writes file (failed_by fault)) a c
  without_commit fault one two = (noted (events.Write file) replies.Done ∷ noted events.Commit (replies.Fault fault) ∷ [], uncommitted fault, two_steps a b c _ _ one two)

  pub with_commit : IsStep a (noted (events.Write file) replies.Done) b → IsStep b (noted events.Commit replies.Done) c → MadeSteps (Writes file answers.Stored) a c
  with_commit one two = (noted (events.Write file) replies.Done ∷ noted events.Commit replies.Done ∷ [], stored, two_steps a b c _ _ one two)

  pub is_there : IsStep a (noted events.Begin replies.Already) c → MadeSteps (Edits file answers.Already) a c
  is_there step = (noted events.Begin replies.Already ∷ [], already, one_step a c _ step)

  pub not_begun : (fault : DiskFault) → IsStep a (noted events.Begin (replies.Fault fault)) c → MadeSteps (Edits file (failed_by fault)) a c
  not_begun fault step = (noted events.Begin (replies.Fault fault) ∷ [], unbegun fault, one_step a c _ step)

  pub with_edit : (answer : Stored) → IsStep a (noted events.Begin replies.Done) b → MadeSteps (Writes file answer) b c → MadeSteps (Edits file answer) a c
  with_edit answer step made = (noted events.Begin replies.Done ∷ made.0, begun answer made.0 made.1, (b, step, made.2))

pub under_lock : (a b c d : Caller) (file : List ℕ) (answer : Stored) → MadeSteps Waits a b → MadeSteps (Edits file answer) b c → IsStep c (noted events.Done replies.Done) d → MadeSteps (LockedSteps file answer) a d
under_lock a b c d file answer waits edits left =
    let last = noted events.Done replies.Done ∷ [] in
    (waits.0 ++ edits.0 ++ last, edited answer waits.0 edits.0 waits.1 edits.1, joined a c d (waits.0 ++ edits.0) last (joined a b c waits.0 edits.0 waits.2 edits.2) (one_step c d _ left))

-- ---- the whole

module _ (bytes payload : List ℕ) where
  pub without_key_bytes : (old : Caller) → MadeSteps (Stores bytes payload answers.Memory) old old
  without_key_bytes old = ([], no_key_bytes, refl)

  pub refused : (old new : Caller) (answer : Stored) → IsWanted bytes payload (Err answer) old new → MadeSteps (Stores bytes payload answer) old new
  refused old new answers.Off step = (wants bytes payload replies.Off ∷ [], off, one_step old new _ step)
  refused old new answers.TooLarge step = (wants bytes payload replies.TooLarge ∷ [], too_large, one_step old new _ step)
  refused old new answers.Stored step = absurd step
  refused old new answers.Already step = absurd step
  refused old new answers.Failed step = absurd step
  refused old new answers.Memory step = absurd step

  pub refused_idle : (old new : Caller) (answer : Stored) → IsWanted bytes payload (Err answer) old new → knowledge_of old ≡ None → knowledge_of new ≡ None
  refused_idle old new answers.Off step idle = step.knowledge ∙ idle
  refused_idle old new answers.TooLarge step idle = step.knowledge ∙ idle
  refused_idle old new answers.Stored step idle = absurd step
  refused_idle old new answers.Already step idle = absurd step
  refused_idle old new answers.Failed step idle = absurd step
  refused_idle old new answers.Memory step idle = absurd step

  pub refused_unstored : (old new : Caller) (answer : Stored) → IsWanted bytes payload (Err answer) old new → answer ≡ answers.Stored → ⊥
  refused_unstored old new answer step is = subst (λ a. IsWanted bytes payload (Err a) old new) is step

  pub with_the_lock : (a b c : Caller) (answer : Stored) → IsStep a (wants bytes payload replies.Done) b → MadeSteps (LockedSteps (envelope bytes payload) answer) b c → MadeSteps (Stores bytes payload answer) a c
  with_the_lock a b c answer step made = (wants bytes payload replies.Done ∷ made.0, locked answer made.0 made.1, (b, step, made.2))

-- ---- what was stored

pub commits_after : (a b c : Caller) (note : Note) (pair : Pair) → IsStep a note b → IsCommit pair (Ok tt) b c → CommitsEntry pair a c
commits_after a b c note pair step commit = record { before = b; after = c; earlier = note ∷ []; later = []; led = one_step a b note step; commit = commit; left = refl }

pub stored_later : (a b c : Caller) (notes : List Note) (pair : Pair) → AreSteps a notes b → CommitsEntry pair b c → CommitsEntry pair a c
stored_later a b c notes pair steps entry = record {
  before = entry.before;
  after = entry.after;
  earlier = notes ++ entry.earlier;
  later = entry.later;
  led = joined a b entry.before notes entry.earlier steps entry.led;
  commit = entry.commit;
  left = entry.left;
}

pub stored_before : (a b c : Caller) (note : Note) (pair : Pair) → CommitsEntry pair a b → IsStep b note c → CommitsEntry pair a c
stored_before a b c note pair entry step = record {
  before = entry.before;
  after = entry.after;
  earlier = entry.earlier;
  later = entry.later ++ note ∷ [];
  led = entry.led;
  commit = entry.commit;
  left = joined entry.after b c entry.later (note ∷ []) entry.left (one_step b c note step);
}

pub right_in : ((content : Contents) (which : Which) (key : Key) (payload : List ℕ) → IsKey key → IsPayload content which key payload → IsRight content (entry_of which key payload))
    → (told : Option Contents) (which : Which) (key : Key) (bytes payload : List ℕ) → bytes ≡ key_bytes_of which key → IsKey key → IfSome told (λ content. IsPayload content which key payload)
    → IsRightIn told (file_key bytes, envelope bytes payload)
right_in entries None which key bytes payload are key_is right = tt
right_in entries (Some content) which key bytes payload are key_is right = subst (λ b. IsRight content (file_key b, envelope b payload)) (sym are) (entries content which key payload key_is right)
