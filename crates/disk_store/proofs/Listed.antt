-- What the slots of a table tell of its requests.
use Rattle.std.proofs.Common.{◌≡◌, ℕ, suc, ◌+◌, Bool, true, false, cond, eqb, List, [], ◌∷◌, ◌++◌, map, take, drop, Some, None, Option, refl, ap, ◌∙◌, arith}
use Rattle.std.specs.Prelude.{find, not, ◌==◌}
use Rattle.std.specs.List.{position_or_len}
use Rattle.std.specs.Option.{option_map}
use Rattle.std.specs.Str.{bytes_eq}
use Rattle.store_world.specs.World.{Request, Requests, request_of, with_request, without_seat, queue_of, is_first, has_lock_by, has_lock}
use Rattle.disk_store.specs.declared.requests.Slot.{Slot}
use Rattle.disk_store.specs.Slots.{slot_of, is_of}
use Rattle.store_world.specs.Steps.{granted_if}
use Rattle.disk_store.specs.Requests.{change, changed_by, begun_edit_if}

-- the slot of a seat has the key of its request
pub key_found : (who : ℕ) (rs : Requests) → option_map (λ (slot : Slot). slot.key) (find (λ (slot : Slot). slot.seat == who) (map slot_of rs)) ≡ option_map (λ (request : Request). request.key) (request_of who rs)
key_found who [] = refl
key_found who (r ∷ rs) = elim (eqb r.0 who) as (λ t. option_map (λ (slot : Slot). slot.key) (cond t (Some (slot_of r)) (find (λ (slot : Slot). slot.seat == who) (map slot_of rs))) ≡ option_map (λ (request : Request). request.key) (cond t (Some r.1) (request_of who rs))) [ true ↦ refl | false ↦ key_found who rs ]

-- the first slot of a key is that of the first in its queue
pub first_found : (who : ℕ) (key : List ℕ) (rs : Requests) → is_of who (find (λ (slot : Slot). bytes_eq key slot.key) (map slot_of rs)) ≡ is_first who (queue_of key rs)
first_found who key [] = refl
first_found who key (r ∷ rs) = elim (bytes_eq key r.1.key) as (λ t. is_of who (cond t (Some (slot_of r)) (find (λ (slot : Slot). bytes_eq key slot.key) (map slot_of rs))) ≡ is_first who (cond t (r.0 ∷ queue_of key rs) (queue_of key rs))) [ true ↦ refl | false ↦ first_found who key rs ]

-- and so it tells whether the seat has the lock that it wants
lock_by : (who : ℕ) (rs : Requests) (o : Option Request) (key : List ℕ) → Some key ≡ option_map (λ (request : Request). request.key) o → is_of who (find (λ (slot : Slot). bytes_eq key slot.key) (map slot_of rs)) ≡ has_lock_by who rs o
lock_by who rs None key is = cc
lock_by who rs (Some request) key is = let same : key ≡ request.key = cc in first_found who key rs ∙ ap (λ k. is_first who (queue_of k rs)) same

pub lock_found : (who : ℕ) (rs : Requests) (key : List ℕ) → Some key ≡ option_map (λ (request : Request). request.key) (request_of who rs) → is_of who (find (λ (slot : Slot). bytes_eq key slot.key) (map slot_of rs)) ≡ has_lock who rs
lock_found who rs key is = lock_by who rs (request_of who rs) key is

no_lock_by : (who : ℕ) (rs : Requests) (o : Option Request) → None ≡ option_map (λ (request : Request). request.key) o → false ≡ has_lock_by who rs o
no_lock_by who rs None is = refl
no_lock_by who rs (Some request) is = cc

pub no_lock : (who : ℕ) (rs : Requests) → None ≡ option_map (λ (request : Request). request.key) (request_of who rs) → false ≡ has_lock who rs
no_lock who rs is = no_lock_by who rs (request_of who rs) is

-- ---- slots stay

-- a request that keeps its key keeps its slot
keeps_slot : (who : ℕ) (old new : Request) (rs : Requests) → request_of who rs ≡ Some old → new.key ≡ old.key → map slot_of (with_request who new rs) ≡ map slot_of rs
keeps_slot who old new [] is same = refl
keeps_slot who old new (r ∷ rs) is same =
    elim (eqb r.0 who) as (λ t. cond t (Some r.1) (request_of who rs) ≡ Some old → map slot_of (cond t ((r.0, new) ∷ rs) (r ∷ with_request who new rs)) ≡ map slot_of (r ∷ rs)) [
      | true ↦ λ is. let key : new.key ≡ r.1.key = same ∙ cc in ap (λ (k : List ℕ). (let slot : Slot = record { seat = r.0; key = k } in slot) ∷ map slot_of rs) key
      | false ↦ λ is. ap (λ l. slot_of r ∷ l) (keeps_slot who old new rs is same)
    ] is

keeps_by : (who : ℕ) (changed : Request → Request) → ((request : Request) → (changed request).key ≡ request.key) → (rs : Requests) (o : Option Request) → request_of who rs ≡ o → map slot_of (changed_by o changed who rs) ≡ map slot_of rs
keeps_by who changed keys rs None is = refl
keeps_by who changed keys rs (Some request) is = keeps_slot who request (changed request) rs is (keys request)

pub keeps_slots : (who : ℕ) (changed : Request → Request) → ((request : Request) → (changed request).key ≡ request.key) → (rs : Requests) → map slot_of (change who changed rs) ≡ map slot_of rs
keeps_slots who changed keys rs = keeps_by who changed keys rs (request_of who rs) refl

-- ---- a slot goes

shifted : {X : Type 0} (x : X) (xs : List X) (m : ℕ) → take (1 + m) (x ∷ xs) ++ drop (1 + m + 1) (x ∷ xs) ≡ x ∷ (take m xs ++ drop (m + 1) xs)
shifted x xs m =
    let front : 1 + m ≡ suc m = omega arith in
    let rest : suc m + 1 ≡ suc (m + 1) = omega arith in
    ap (λ k. take k (x ∷ xs) ++ drop (k + 1) (x ∷ xs)) front ∙ ap (λ k. take (suc m) (x ∷ xs) ++ drop k (x ∷ xs)) rest

-- the slots before the first of a seat, and those after it
pub slots_without : (who : ℕ) (rs : Requests) → let n = position_or_len (λ (slot : Slot). slot.seat == who) (map slot_of rs) in take n (map slot_of rs) ++ drop (n + 1) (map slot_of rs) ≡ map slot_of (without_seat who rs)
slots_without who [] = refl
slots_without who (r ∷ rs) =
    let n : ℕ = position_or_len (λ (slot : Slot). slot.seat == who) (map slot_of rs) in
    elim (eqb r.0 who) as (λ t. take (cond (not t) (1 + n) 0) (map slot_of (r ∷ rs)) ++ drop (cond (not t) (1 + n) 0 + 1) (map slot_of (r ∷ rs)) ≡ map slot_of (cond t rs (r ∷ without_seat who rs))) [
      | true ↦ refl
      | false ↦ shifted (slot_of r) (map slot_of rs) n ∙ ap (λ l. slot_of r ∷ l) (slots_without who rs)
    ]

-- ---- what stays of a request

pub begun_key : (edit : Bool) (request : Request) → (begun_edit_if edit request).key ≡ request.key
begun_key true request = refl
begun_key false request = refl

pub granted_key : (first : Bool) (request : Request) → (granted_if first request).key ≡ request.key
granted_key true request = refl
granted_key false request = refl
