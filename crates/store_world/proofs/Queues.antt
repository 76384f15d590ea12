-- Queues under the changes that events make.
use Rattle.std.proofs.Common.{◌≡◌, ◌≢◌, ℕ, ◌+◌, true, false, cond, eqb, List, [], ◌∷◌, ◌++◌, ◌<◌, Some, None, refl, sym, ap, subst, ◌∙◌, arith}
use Rattle.std.specs.Prelude.{is_some}
use Rattle.std.specs.declared.option.Option.{Option}
use Rattle.std.specs.List.{AllByRecursion}
use Rattle.std.specs.Str.{bytes_eq}
use Rattle.std.proofs.lemmas.Bool.{eqb-true, eq-eqb}
use Rattle.store_world.specs.World.{Request, Requests, queue_of, request_of, with_request, without_seat, is_first}
use Rattle.store_world.specs.Sound.{one_if, IsSeated, IsOrderly, IsHolding, open_length, open_at, open_count}
use Rattle.store_world.proofs.Tables.{same_if, true_if, false_if, ne_if}

pub some_is : {A : Type 0} (a b : A) → Some a ≡ Some b → a ≡ b
some_is a b e = cc

-- the seat is the first in the key's queue
abbrev pub First : ℕ → List ℕ → Requests → Type 0
First who key requests = is_first who (queue_of key requests) ≡ true

pub found_request : (P : Request → Type 0) (who : ℕ) (request : Request) (requests : Requests) → AllByRecursion (λ (b : ℕ × Request). P b.1) requests → request_of who requests ≡ Some request → P request
found_request P who request [] h at = cc
found_request P who request (a ∷ requests) h at = elim (eqb a.0 who) as (λ t. cond t (Some a.1) (request_of who requests) ≡ Some request → P request) [
  | true ↦ λ is. subst P (some_is a.1 request is) h.0
  | false ↦ λ is. found_request P who request requests h.1 is
] at

-- who was told that it has the lock is the first
pub first_of_granted : (who : ℕ) (request : Request) (requests : Requests) → IsOrderly requests → request_of who requests ≡ Some request → request.granted ≡ true → First who request.key requests
first_of_granted who request [] o at g = cc
first_of_granted who request (a ∷ requests) o at g = elim (eqb a.0 who) as (λ t. eqb a.0 who ≡ t → cond t (Some a.1) (request_of who requests) ≡ Some request → is_first who (cond (bytes_eq request.key a.1.key) (a.0 ∷ queue_of request.key requests) (queue_of request.key requests)) ≡ true) [
  | true ↦ λ t is. ap (λ b. is_first who (cond b (a.0 ∷ queue_of request.key requests) (queue_of request.key requests))) (true_if a.1.key request.key (ap (λ (x : Request). x.key) (some_is a.1 request is))) ∙ t
  | false ↦ λ t is.
      let other : request.key ≢ a.1.key = λ same. let no = found_request (λ b. b.key ≡ a.1.key → b.granted ≡ false) who request requests o.0 is same in cc in
      ap (λ b. is_first who (cond b (a.0 ∷ queue_of request.key requests) (queue_of request.key requests))) (false_if a.1.key request.key (λ same. other (sym same))) ∙ first_of_granted who request requests o.1 is g
] refl at

-- before the first no other has the key
not_before : (who : ℕ) (key : List ℕ) (a : ℕ × Request) (requests : Requests) → eqb a.0 who ≡ false → First who key (a ∷ requests) → (bytes_eq key a.1.key ≡ false) × First who key requests
not_before who key a requests ne first = elim (bytes_eq key a.1.key) as (λ b. is_first who (cond b (a.0 ∷ queue_of key requests) (queue_of key requests)) ≡ true → (b ≡ false) × First who key requests) [
  | true ↦ λ is. cc
  | false ↦ λ is. (refl, is)
] first

-- the open edit of a key is that of the first
pub open_of_first : (who : ℕ) (request : Request) (requests : Requests) → request_of who requests ≡ Some request → First who request.key requests → open_at request.key requests ≡ open_length request.edit
open_of_first who request [] at first = cc
open_of_first who request (a ∷ requests) at first = elim (eqb a.0 who) as (λ t. eqb a.0 who ≡ t → cond t (Some a.1) (request_of who requests) ≡ Some request → cond (bytes_eq request.key a.1.key) (open_length a.1.edit) (open_at request.key requests) ≡ open_length request.edit) [
  | true ↦ λ t is. let same = some_is a.1 request is in ap (λ b. cond b (open_length a.1.edit) (open_at request.key requests)) (true_if a.1.key request.key (ap (λ (x : Request). x.key) same)) ∙ ap (λ (x : Request). open_length x.edit) same
  | false ↦ λ t is. let b = not_before who request.key a requests t first in ap (λ b. cond b (open_length a.1.edit) (open_at request.key requests)) b.0 ∙ open_of_first who request requests is b.1
] refl at

-- ---- queues in which one key has another open edit, or none

pub record Opened (key : List ℕ) (edit : Option ℕ) (requests requests' : Requests) : Type 0 where
  pub here : open_at key requests' ≡ edit
  pub others : (other : List ℕ) → other ≢ key → open_at other requests' ≡ open_at other requests
  pub count : open_count requests' + one_if (is_some (open_at key requests)) ≡ open_count requests + one_if (is_some edit)

-- the first of a key's queue has another edit
pub opened_as : (who : ℕ) (request request' : Request) (requests : Requests) → request_of who requests ≡ Some request → First who request.key requests → request'.key ≡ request.key → Opened request.key (open_length request'.edit) requests (with_request who request' requests)
opened_as who request request' [] at first key = cc
opened_as who request request' (a ∷ requests) at first key = elim (eqb a.0 who) as (λ t. eqb a.0 who ≡ t → cond t (Some a.1) (request_of who requests) ≡ Some request → Opened request.key (open_length request'.edit) (a ∷ requests) (cond t ((a.0, request') ∷ requests) (a ∷ with_request who request' requests))) [
  | true ↦ λ t is.
      let same = some_is a.1 request is in
      let key_a : a.1.key ≡ request.key = ap (λ (x : Request). x.key) same in
      record {
        here = ap (λ b. cond b (open_length request'.edit) (open_at request.key requests)) (true_if request'.key request.key key);
        others = λ other ne. ap (λ b. cond b (open_length request'.edit) (open_at other requests)) (false_if request'.key other (λ e. ne (sym e ∙ key))) ∙ sym (ap (λ b. cond b (open_length a.1.edit) (open_at other requests)) (false_if a.1.key other (λ e. ne (sym e ∙ key_a))));
        count = omega (arith, ap (λ b. one_if (is_some (cond b (open_length a.1.edit) (open_at request.key requests)))) (true_if a.1.key request.key key_a));
      }
  | false ↦ λ t is.
      let b = not_before who request.key a requests t first in
      let rest = opened_as who request request' requests is b.1 key in
      record {
        here = ap (λ b. cond b (open_length a.1.edit) (open_at request.key (with_request who request' requests))) b.0 ∙ rest.here;
        others = λ other ne. ap (λ o. cond (bytes_eq other a.1.key) (open_length a.1.edit) o) (rest.others other ne);
        count = omega (arith, rest.count, ap (λ b. one_if (is_some (cond b (open_length a.1.edit) (open_at request.key requests)))) b.0);
      }
] refl at

-- ---- what a changed request keeps

pub as_same : (who : ℕ) (request : Request) (requests : Requests) → request_of who requests ≡ Some request → with_request who request requests ≡ requests
as_same who request [] at = refl
as_same who request (a ∷ requests) at = elim (eqb a.0 who) as (λ t. cond t (Some a.1) (request_of who requests) ≡ Some request → cond t ((a.0, request) ∷ requests) (a ∷ with_request who request requests) ≡ a ∷ requests) [
  | true ↦ λ is. ap (λ x. (a.0, x) ∷ requests) (sym (some_is a.1 request is))
  | false ↦ λ is. ap (λ l. a ∷ l) (as_same who request requests is)
] at

pub all_as : (P : ℕ × Request → Type 0) (who : ℕ) (request' : Request) → ((x : ℕ × Request) → P x → P (x.0, request')) → (requests : Requests) → AllByRecursion P requests → AllByRecursion P (with_request who request' requests)
all_as P who request' carry [] h = tt
all_as P who request' carry (a ∷ requests) h = elim (eqb a.0 who) as (λ t. AllByRecursion P (cond t ((a.0, request') ∷ requests) (a ∷ with_request who request' requests))) [ true ↦ (carry a h.0, h.1) | false ↦ (h.0, all_as P who request' carry requests h.1) ]

pub seats_as : (who : ℕ) (request' : Request) (requests : Requests) → AllByRecursion (λ (a : ℕ × Request). a.0 < 16) requests → AllByRecursion (λ (a : ℕ × Request). a.0 < 16) (with_request who request' requests)
seats_as who request' requests h = all_as (λ a. a.0 < 16) who request' (λ x p. p) requests h

pub seated_as : (who : ℕ) (request' : Request) (requests : Requests) → IsSeated requests → IsSeated (with_request who request' requests)
seated_as who request' [] h = tt
seated_as who request' (a ∷ requests) h = elim (eqb a.0 who) as (λ t. IsSeated (cond t ((a.0, request') ∷ requests) (a ∷ with_request who request' requests))) [ true ↦ h | false ↦ (all_as (λ b. b.0 ≢ a.0) who request' (λ x p. p) requests h.0, seated_as who request' requests h.1) ]

weaken : {X : Type 0} (P Q : X → Type 0) → ((x : X) → P x → Q x) → (xs : List X) → AllByRecursion P xs → AllByRecursion Q xs
weaken P Q h [] a = tt
weaken P Q h (x ∷ xs) a = (h x a.0, weaken P Q h xs a.1)

pub orderly_as : (who : ℕ) (request request' : Request) (requests : Requests) → request_of who requests ≡ Some request → First who request.key requests → request'.key ≡ request.key → IsOrderly requests → IsOrderly (with_request who request' requests)
orderly_as who request request' [] at first key h = tt
orderly_as who request request' (a ∷ requests) at first key h = elim (eqb a.0 who) as (λ t. eqb a.0 who ≡ t → cond t (Some a.1) (request_of who requests) ≡ Some request → IsOrderly (cond t ((a.0, request') ∷ requests) (a ∷ with_request who request' requests))) [
  | true ↦ λ t is. (weaken _ (λ (b : ℕ × Request). b.1.key ≡ request'.key → b.1.granted ≡ false) (λ b p e. p (e ∙ key ∙ sym (ap (λ (x : Request). x.key) (some_is a.1 request is)))) requests h.0, h.1)
  | false ↦ λ t is.
      let b = not_before who request.key a requests t first in
      (all_as (λ (b : ℕ × Request). b.1.key ≡ a.1.key → b.1.granted ≡ false) who request' (λ x p e. absurd (ne_if a.1.key request.key b.0 (sym e ∙ key))) requests h.0, orderly_as who request request' requests is b.1 key h.1)
] refl at

-- ---- whose request is which

pub at_as : (who : ℕ) (request request' : Request) (requests : Requests) → request_of who requests ≡ Some request → request_of who (with_request who request' requests) ≡ Some request'
at_as who request request' [] at = cc
at_as who request request' (a ∷ requests) at = elim (eqb a.0 who) as (λ t. eqb a.0 who ≡ t → cond t (Some a.1) (request_of who requests) ≡ Some request → request_of who (cond t ((a.0, request') ∷ requests) (a ∷ with_request who request' requests)) ≡ Some request') [
  | true ↦ λ t is. ap (λ b. cond b (Some request') (request_of who requests)) t
  | false ↦ λ t is. ap (λ b. cond b (Some a.1) (request_of who (with_request who request' requests))) t ∙ at_as who request request' requests is
] refl at

pub at_as_other : (who k : ℕ) (request' : Request) (requests : Requests) → eqb who k ≡ false → request_of k (with_request who request' requests) ≡ request_of k requests
at_as_other who k request' [] ne = refl
at_as_other who k request' (a ∷ requests) ne = elim (eqb a.0 who) as (λ t. eqb a.0 who ≡ t → request_of k (cond t ((a.0, request') ∷ requests) (a ∷ with_request who request' requests)) ≡ cond (eqb a.0 k) (Some a.1) (request_of k requests)) [
  | true ↦ λ t. let no : eqb a.0 k ≡ false = ap (λ n. eqb n k) (eqb-true a.0 who t) ∙ ne in ap (λ b. cond b (Some request') (request_of k requests)) no ∙ sym (ap (λ b. cond b (Some a.1) (request_of k requests)) no)
  | false ↦ λ t. ap (λ o. cond (eqb a.0 k) (Some a.1) o) (at_as_other who k request' requests ne)
] refl

pub at_last : (who k : ℕ) (request : Request) (requests : Requests) → request_of who requests ≡ None → request_of k (requests ++ (who, request) ∷ []) ≡ cond (eqb who k) (Some request) (request_of k requests)
at_last who k request [] none = refl
at_last who k request (a ∷ requests) none = elim (eqb a.0 who) as (λ t. eqb a.0 who ≡ t → cond t (Some a.1) (request_of who requests) ≡ None → cond (eqb a.0 k) (Some a.1) (request_of k (requests ++ (who, request) ∷ [])) ≡ cond (eqb who k) (Some request) (cond (eqb a.0 k) (Some a.1) (request_of k requests))) [
  | true ↦ λ t h. cc
  | false ↦ λ t h. elim (eqb a.0 k) as (λ b. eqb a.0 k ≡ b → cond b (Some a.1) (request_of k (requests ++ (who, request) ∷ [])) ≡ cond (eqb who k) (Some request) (cond b (Some a.1) (request_of k requests))) [
    | true ↦ λ u. let no : eqb who k ≡ false = elim (eqb who k) as (λ b. eqb who k ≡ b → b ≡ false) [ true ↦ λ v. let same : eqb a.0 who ≡ true = ap (eqb a.0) (eqb-true who k v) ∙ u in cc | false ↦ λ v. refl ] refl in sym (ap (λ b. cond b (Some request) (Some a.1)) no)
    | false ↦ λ u. at_last who k request requests h
  ] refl
] refl none

-- ---- a seat more

all_last : {V : Type 0} (P : V → Type 0) (t : List V) (x : V) → AllByRecursion P t → P x → AllByRecursion P (t ++ x ∷ [])
all_last P [] x h p = (p, tt)
all_last P (e ∷ t) x h p = (h.0, all_last P t x h.1 p)

pub all_seats_last : (P : ℕ × Request → Type 0) (requests : Requests) (x : ℕ × Request) → AllByRecursion P requests → P x → AllByRecursion P (requests ++ x ∷ [])
all_seats_last P requests x h p = all_last P requests x h p

pub seated_last : (who : ℕ) (request : Request) (requests : Requests) → request_of who requests ≡ None → IsSeated requests → IsSeated (requests ++ (who, request) ∷ [])
seated_last who request [] none h = (tt, tt)
seated_last who request (a ∷ requests) none h = elim (eqb a.0 who) as (λ t. eqb a.0 who ≡ t → cond t (Some a.1) (request_of who requests) ≡ None → IsSeated (a ∷ (requests ++ (who, request) ∷ []))) [
  | true ↦ λ t is. cc
  | false ↦ λ t is. (all_last (λ (b : ℕ × Request). b.0 ≢ a.0) requests (who, request) h.0 (λ same. let yes : eqb a.0 who ≡ true = ap (eqb a.0) same ∙ eq-eqb a.0 a.0 refl in cc), seated_last who request requests is h.1)
] refl none

pub orderly_last : (who : ℕ) (request : Request) (requests : Requests) → request.granted ≡ false → IsOrderly requests → IsOrderly (requests ++ (who, request) ∷ [])
orderly_last who request [] new h = (tt, tt)
orderly_last who request (a ∷ requests) new h = (all_last (λ (b : ℕ × Request). b.1.key ≡ a.1.key → b.1.granted ≡ false) requests (who, request) h.0 (λ e. new), orderly_last who request requests new h.1)

pub open_last : (who : ℕ) (request : Request) (key : List ℕ) (requests : Requests) → request.edit ≡ None → open_at key (requests ++ (who, request) ∷ []) ≡ open_at key requests
open_last who request key [] none = elim (bytes_eq key request.key) as (λ b. cond b (open_length request.edit) None ≡ None) [ true ↦ ap open_length none | false ↦ refl ]
open_last who request key (a ∷ requests) none = ap (λ o. cond (bytes_eq key a.1.key) (open_length a.1.edit) o) (open_last who request key requests none)

pub count_last : (who : ℕ) (request : Request) (requests : Requests) → request.edit ≡ None → open_count (requests ++ (who, request) ∷ []) ≡ open_count requests
count_last who request [] none = ap (λ e. one_if (is_some (open_length e)) + 0) none
count_last who request (a ∷ requests) none = ap (λ n. one_if (is_some (open_length a.1.edit)) + n) (count_last who request requests none)

-- ---- a seat less

all_out : (P : ℕ × Request → Type 0) (who : ℕ) (requests : Requests) → AllByRecursion P requests → AllByRecursion P (without_seat who requests)
all_out P who [] h = tt
all_out P who (a ∷ requests) h = elim (eqb a.0 who) as (λ t. AllByRecursion P (cond t requests (a ∷ without_seat who requests))) [ true ↦ h.1 | false ↦ (h.0, all_out P who requests h.1) ]

pub all_without : (P : ℕ × Request → Type 0) (who : ℕ) (requests : Requests) → AllByRecursion P requests → AllByRecursion P (without_seat who requests)
all_without P who requests h = all_out P who requests h

pub seated_without : (who : ℕ) (requests : Requests) → IsSeated requests → IsSeated (without_seat who requests)
seated_without who [] h = tt
seated_without who (a ∷ requests) h = elim (eqb a.0 who) as (λ t. IsSeated (cond t requests (a ∷ without_seat who requests))) [ true ↦ h.1 | false ↦ (all_out (λ (b : ℕ × Request). b.0 ≢ a.0) who requests h.0, seated_without who requests h.1) ]

pub orderly_without : (who : ℕ) (requests : Requests) → IsOrderly requests → IsOrderly (without_seat who requests)
orderly_without who [] h = tt
orderly_without who (a ∷ requests) h = elim (eqb a.0 who) as (λ t. IsOrderly (cond t requests (a ∷ without_seat who requests))) [ true ↦ h.1 | false ↦ (all_out (λ (b : ℕ × Request). b.1.key ≡ a.1.key → b.1.granted ≡ false) who requests h.0, orderly_without who requests h.1) ]

none_at : (who : ℕ) (requests : Requests) → AllByRecursion (λ (b : ℕ × Request). b.0 ≢ who) requests → request_of who requests ≡ None
none_at who [] h = refl
none_at who (a ∷ requests) h = elim (eqb a.0 who) as (λ t. eqb a.0 who ≡ t → cond t (Some a.1) (request_of who requests) ≡ None) [ true ↦ λ t. absurd (h.0 (eqb-true a.0 who t)) | false ↦ λ t. none_at who requests h.1 ] refl

pub at_without : (who : ℕ) (requests : Requests) → IsSeated requests → request_of who (without_seat who requests) ≡ None
at_without who [] h = refl
at_without who (a ∷ requests) h = elim (eqb a.0 who) as (λ t. eqb a.0 who ≡ t → request_of who (cond t requests (a ∷ without_seat who requests)) ≡ None) [
  | true ↦ λ t. none_at who requests (subst (λ n. AllByRecursion (λ (b : ℕ × Request). b.0 ≢ n) requests) (eqb-true a.0 who t) h.0)
  | false ↦ λ t. ap (λ b. cond b (Some a.1) (request_of who (without_seat who requests))) t ∙ at_without who requests h.1
] refl

pub at_without_other : (who k : ℕ) (requests : Requests) → eqb who k ≡ false → request_of k (without_seat who requests) ≡ request_of k requests
at_without_other who k [] ne = refl
at_without_other who k (a ∷ requests) ne = elim (eqb a.0 who) as (λ t. eqb a.0 who ≡ t → request_of k (cond t requests (a ∷ without_seat who requests)) ≡ cond (eqb a.0 k) (Some a.1) (request_of k requests)) [
  | true ↦ λ t. sym (ap (λ b. cond b (Some a.1) (request_of k requests)) (ap (λ n. eqb n k) (eqb-true a.0 who t) ∙ ne))
  | false ↦ λ t. ap (λ o. cond (eqb a.0 k) (Some a.1) o) (at_without_other who k requests ne)
] refl

not_granted : (request : Request) → IsHolding request → request.granted ≡ false → open_length request.edit ≡ None
not_granted request h g = ap open_length (h.granted g)

-- behind another of its key nobody has an edit
none_behind : (key : List ℕ) (requests : Requests) → AllByRecursion (λ (b : ℕ × Request). b.1.key ≡ key → b.1.granted ≡ false) requests → AllByRecursion (λ (a : ℕ × Request). IsHolding a.1) requests → open_at key requests ≡ None
none_behind key [] h k = refl
none_behind key (a ∷ requests) h k = elim (bytes_eq key a.1.key) as (λ b. bytes_eq key a.1.key ≡ b → cond b (open_length a.1.edit) (open_at key requests) ≡ None) [
  | true ↦ λ is. not_granted a.1 k.0 (h.0 (same_if a.1.key key is))
  | false ↦ λ is. none_behind key requests h.1 k.1
] refl

pub open_without : (who : ℕ) (request : Request) (key : List ℕ) (requests : Requests) → request_of who requests ≡ Some request → request.edit ≡ None → IsOrderly requests → AllByRecursion (λ (a : ℕ × Request). IsHolding a.1) requests
    → open_at key (without_seat who requests) ≡ open_at key requests
open_without who request key [] at none o h = refl
open_without who request key (a ∷ requests) at none o h = elim (eqb a.0 who) as (λ t. eqb a.0 who ≡ t → cond t (Some a.1) (request_of who requests) ≡ Some request → open_at key (cond t requests (a ∷ without_seat who requests)) ≡ cond (bytes_eq key a.1.key) (open_length a.1.edit) (open_at key requests)) [
  | true ↦ λ t is. elim (bytes_eq key a.1.key) as (λ b. bytes_eq key a.1.key ≡ b → open_at key requests ≡ cond b (open_length a.1.edit) (open_at key requests)) [
    | true ↦ λ e. none_behind key requests (subst (λ q. AllByRecursion (λ (b : ℕ × Request). b.1.key ≡ q → b.1.granted ≡ false) requests) (same_if a.1.key key e) o.0) h.1 ∙ sym (ap (λ (x : Request). open_length x.edit) (some_is a.1 request is) ∙ ap open_length none)
    | false ↦ λ e. refl
  ] refl
  | false ↦ λ t is. ap (λ x. cond (bytes_eq key a.1.key) (open_length a.1.edit) x) (open_without who request key requests is none o.1 h.1)
] refl at

pub count_without : (who : ℕ) (request : Request) (requests : Requests) → request_of who requests ≡ Some request → request.edit ≡ None → open_count (without_seat who requests) ≡ open_count requests
count_without who request [] at none = refl
count_without who request (a ∷ requests) at none = elim (eqb a.0 who) as (λ t. cond t (Some a.1) (request_of who requests) ≡ Some request → open_count (cond t requests (a ∷ without_seat who requests)) ≡ one_if (is_some (open_length a.1.edit)) + open_count requests) [
  | true ↦ λ is. omega (arith, ap (λ (x : Request). one_if (is_some (open_length x.edit))) (some_is a.1 request is), ap (λ e. one_if (is_some (open_length e))) none)
  | false ↦ λ is. ap (λ n. one_if (is_some (open_length a.1.edit)) + n) (count_without who request requests is none)
] at

pub first_is_one : (j k : ℕ) (seats : List ℕ) → is_first j seats ≡ true → is_first k seats ≡ true → j ≡ k
first_is_one j k [] a b = cc
first_is_one j k (s ∷ seats) a b = sym (eqb-true s j a) ∙ eqb-true s k b
