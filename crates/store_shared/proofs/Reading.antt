-- A read of an entry.
use Rattle.std.proofs.Common.{◌≡◌, ℕ, ◌<◌, ◌^◌, List, [], ◌∷◌, ◌++◌, length, Some, None, Ok, Err, Result, refl, ap, sym, subst, ◌∙◌, arith, length-append}
use Rattle.std.specs.Int.{w32, to_le_bytes}
use Rattle.std.specs.declared.option.Option.{Option}
use Rattle.outside.specs.Content.{Contents}
use Rattle.cache_key.specs.declared.bytes.Which.{Which}
use Rattle.cache_key.specs.declared.bytes.Which.TheVariants.{SourceBytes, Outcome}
use Rattle.cache_key.specs.Key.{Key, IsKey}
use Rattle.cache_key.specs.KeyBytes.{sized, choice_bytes, key_bytes_of}
use Rattle.cache_key.specs.FileKey.{file_key}
use Rattle.disk_lru.specs.declared.refusals.DiskFault.{DiskFault}
use Rattle.disk_lru.specs.declared.refusals.DiskFault.TheVariants as faults
use Rattle.store_world.specs.declared.events.StoreEvent.TheVariants as events
use Rattle.store_world.specs.declared.events.StoreReply.{StoreReply}
use Rattle.store_world.specs.declared.events.StoreReply.TheVariants as replies
use Rattle.store_world.specs.Envelopes.{envelope, payload_of}
use Rattle.store_world.specs.Right.{IsPayload, IsRight, entry_of}
use Rattle.store_world.specs.Steps.{Transition}
use Rattle.store_world.specs.Knowledge.{knowledge_in}
use Rattle.store_world.specs.Laws.{FetchesRight}
use Rattle.store_world.specs.StoreMachine.{noted}
use Rattle.store_shared.specs.Caller.{Caller, content_of, IsStep, MadeSteps}
use Rattle.store_shared.specs.Answers.{IsRead, Fetches, no_key_bytes, read, FindsRight}
use Rattle.store_shared.proofs.Chained.{one_step}

-- ---- key bytes

pub short_key_bytes : (which : Which) (key : Key) → IsKey key → length (key_bytes_of which key) < 2 ^ 32
short_key_bytes SourceBytes key is = omega (arith, length-append key.url (sized key.sig), is.url, is.sig)
short_key_bytes Outcome key is =
    let texts = key.url ++ sized key.sig in
    let wide = texts ++ to_le_bytes w32 key.width in
    let sides = wide ++ to_le_bytes w32 key.height in
    omega (arith, length-append sides (choice_bytes key), length-append wide (to_le_bytes w32 key.height), length-append texts (to_le_bytes w32 key.width), length-append key.url (sized key.sig), is.url, is.sig)

-- ---- the steps

module _ (old : Caller) where
  pub no_read : (bytes : List ℕ) → MadeSteps (Fetches bytes (Err faults.Memory)) old old
  no_read bytes = ([], no_key_bytes, refl)

  pub one_read : (new : Caller) (bytes : List ℕ) (answer : Result (Option (List ℕ)) DiskFault) (reply : StoreReply) → IsStep old (noted (events.Fetch (file_key bytes)) reply) new → IsRead bytes answer reply
      → MadeSteps (Fetches bytes answer) old new
  one_read new bytes answer reply step is = (noted (events.Fetch (file_key bytes)) reply ∷ [], read answer reply is, one_step old new _ step)

-- ---- what was found

finds_right : (told : Option Contents) (which : Which) (key : Key) (answer : Result (Option (List ℕ)) DiskFault)
    → ((content : Contents) (payload : List ℕ) → told ≡ Some content → answer ≡ Ok (Some payload) → IsPayload content which key payload) → FindsRight told which key answer
finds_right None which key answer right = tt
finds_right (Some content) which key (Err fault) right = tt
finds_right (Some content) which key (Ok None) right = tt
finds_right (Some content) which key (Ok (Some payload)) right = right content payload refl refl

pub finds_nothing : (told : Option Contents) (which : Which) (key : Key) (fault : DiskFault) → FindsRight told which key (Err fault)
finds_nothing None which key fault = tt
finds_nothing (Some content) which key fault = tt

-- what a payload was found in is the envelope that it stands in
found_in : ((bytes text payload : List ℕ) → payload_of bytes text ≡ Some payload → text ≡ envelope bytes payload)
    → (bytes payload : List ℕ) (found : Option (List ℕ)) → IsRead bytes (Ok (Some payload)) (replies.Bytes found) → found ≡ Some (envelope bytes payload)
found_in only bytes payload None is = let none : Some payload ≡ None = is in cc
found_in only bytes payload (Some text) is = ap Some (only bytes text payload (sym is))

pub read_right : FetchesRight → ((bytes text payload : List ℕ) → payload_of bytes text ≡ Some payload → text ≡ envelope bytes payload)
    → ((content : Contents) (which : Which) (key : Key) (payload : List ℕ) → IsKey key → IsRight content (entry_of which key payload) → IsPayload content which key payload)
    → (old new : Caller) (which : Which) (key : Key) (bytes : List ℕ) (found : Option (List ℕ)) (answer : Result (Option (List ℕ)) DiskFault) → bytes ≡ key_bytes_of which key → IsKey key
    → IsStep old (noted (events.Fetch (file_key bytes)) (replies.Bytes found)) new → IsRead bytes answer (replies.Bytes found) → FindsRight (content_of old) which key answer
read_right fetches only entries old new which key bytes found answer bytes_are key_is step is =
    finds_right (content_of old) which key answer (λ content payload told answered.
    let found_is = found_in only bytes payload found (subst (λ a. IsRead bytes a (replies.Bytes found)) answered is) in
    let right = fetches content step.before step.after (knowledge_in (old.seen ++ step.others)) old.who (file_key bytes) (envelope bytes payload) (step.from.settings.content ∙ told) step.from.sound
    (subst (λ f. Transition step.before old.who (events.Fetch (file_key bytes)) (replies.Bytes f) step.after) found_is step.step) in
    entries content which key payload key_is (subst (λ b. IsRight content (file_key b, envelope b payload)) bytes_are right))
