-- What the calls of the disk cache ask, locks, and how many requests there are.
use Rattle.std.proofs.Common.{◌≡◌, ◌≢◌, ℕ, ◌+◌, ◌<◌, ◌≤◌, Bool, true, false, cond, eqb, suc, zero, List, [], ◌∷◌, ◌++◌, length, Some, None, Ok, refl, sym, ap, subst, ◌∙◌, arith}
use Rattle.std.specs.Prelude.{is_some, not, ◌&&◌, ◌||◌, nat_lt, nat_le, get_or}
use Rattle.std.specs.declared.option.Option.{Option}
use Rattle.std.specs.Option.{option_map}
use Rattle.std.specs.List.{AllByRecursion, position_or_len}
use Rattle.std.proofs.lemmas.Bool.{eqb-true, eqb-false, ltb-false, lt-ltb, leb-true, false_from_ne_true}
use Rattle.disk_table.specs.UseOrder.{Entries, is_known, size_of}
use Rattle.disk_table.specs.Table.{edit_of, free_edit, is_under_edit, is_over, eldest_closed, keys_in}
use Rattle.cache_folder.specs.Tables.{mapped, kept_by}
use Rattle.disk_lru.specs.State.{entries, edits}
use Rattle.disk_lru.specs.Past.{DiskState}
use Rattle.store_world.specs.World.{Request, Requests, queue_of, request_of, without_seat}
use Rattle.store_world.specs.DiskCalls.{next_eviction, EvictsAll}
use Rattle.store_world.specs.Sound.{one_if, taken, keys_under_edit, IsSeated, IsHolding, open_length, open_count}
use Rattle.store_world.specs.Laws.{HoldersBegin, HoldersWrite, OneHolder, RequestsAreFew, OneMoreFits}
use Rattle.store_world.proofs.Queues.{seated_without, first_of_granted, found_request, some_is, first_is_one, First, all_seats_last, seated_last}
use Rattle.store_world.proofs.Quiet.{evicted, some_next}
use Rattle.store_world.proofs.Moves.{under_edit}
use Rattle.store_world.proofs.EventLaws.{no_number, length_of_first}

-- ---- distinct seats below a number are at most so many

less_one : (who : ℕ) (rs : Requests) → length rs ≤ length (without_seat who rs) + 1
less_one who [] = omega arith
less_one who (r ∷ rs) = elim (eqb r.0 who) as (λ t. length (r ∷ rs) ≤ length (cond t rs (r ∷ without_seat who rs)) + 1) [ true ↦ omega arith | false ↦ omega (arith, less_one who rs) ]

below : (n : ℕ) (rs : Requests) → IsSeated rs → AllByRecursion (λ (r : ℕ × Request). r.0 < suc n) rs → AllByRecursion (λ (r : ℕ × Request). r.0 < n) (without_seat n rs)
below n [] h s = tt
below n (a ∷ rs) h s = elim (eqb a.0 n) as (λ t. eqb a.0 n ≡ t → AllByRecursion (λ (b : ℕ × Request). b.0 < n) (cond t rs (a ∷ without_seat n rs))) [
  | true ↦ λ t. rest rs (subst (λ m. AllByRecursion (λ (b : ℕ × Request). b.0 ≢ m) rs) (eqb-true a.0 n t) h.0) s.1
  | false ↦ λ t. (let ne = eqb-false a.0 n t in small a.0 s.0 ne, below n rs h.1 s.1)
] refl where
  small : (m : ℕ) → m < suc n → m ≢ n → m < n
  small m lt ne = omega (arith, lt, ne)

  rest : (rs : Requests) → AllByRecursion (λ (b : ℕ × Request). b.0 ≢ n) rs → AllByRecursion (λ (a : ℕ × Request). a.0 < suc n) rs → AllByRecursion (λ (b : ℕ × Request). b.0 < n) rs
  rest [] ne s = tt
  rest (b ∷ rs) ne s = (small b.0 s.0 ne.0, rest rs ne.1 s.1)

at_most : (n : ℕ) (rs : Requests) → IsSeated rs → AllByRecursion (λ (r : ℕ × Request). r.0 < n) rs → length rs ≤ n
at_most zero [] h s = omega arith
at_most zero (r ∷ rs) h s = absurd (omega (arith, s.0))
at_most (suc n) rs h s = omega (arith, less_one n rs, at_most n (without_seat n rs) (seated_without n rs h) (below n rs h s))

pub requests_few : RequestsAreFew
requests_few w known s = at_most 16 w.requests s.seated s.seats

longer : (rs : Requests) (r : ℕ × Request) → length (rs ++ r ∷ []) ≡ length rs + 1
longer [] r = refl
longer (x ∷ rs) r = omega (arith, longer rs r)

-- with one request more there would still be at most so many
pub one_more : OneMoreFits
one_more w known who small s none =
    let request : Request = record { key = []; granted = false; begun = false; edit = None } in
    let none_at = sym (s.known_is who) ∙ none in
    let all = at_most 16 (w.requests ++ (who, request) ∷ []) (seated_last who request w.requests none_at s.seated) (all_seats_last (λ r. r.0 < 16) w.requests (who, request) s.seats small) in
    omega (arith, all, longer w.requests (who, request))

open_few : (rs : Requests) → open_count rs ≤ length rs
open_few [] = omega arith
open_few (r ∷ rs) = elim (is_some (open_length r.1.edit)) as (λ b. one_if b + open_count rs ≤ length (r ∷ rs)) [ true ↦ omega (arith, open_few rs) | false ↦ omega (arith, open_few rs) ]

-- one of them has no edit
open_fewer : (who : ℕ) (request : Request) (rs : Requests) → request_of who rs ≡ Some request → request.edit ≡ None → open_count rs < length rs
open_fewer who request [] at none = cc
open_fewer who request (r ∷ rs) at none = elim (eqb r.0 who) as (λ t. cond t (Some r.1) (request_of who rs) ≡ Some request → one_if (is_some (open_length r.1.edit)) + open_count rs < length (r ∷ rs)) [
  | true ↦ λ is. omega (arith, open_few rs, ap (λ (x : Request). one_if (is_some (open_length x.edit))) (some_is r.1 request is), ap (λ e. one_if (is_some (open_length e))) none)
  | false ↦ λ is. let rest = open_fewer who request rs is none in elim (is_some (open_length r.1.edit)) as (λ b. one_if b + open_count rs < length (r ∷ rs)) [ true ↦ omega (arith, rest) | false ↦ omega (arith, rest) ]
] at

-- ---- an edit's number is free

free_at : (es : List (Option (List ℕ))) → taken es < length es → position_or_len (λ (e : Option (List ℕ)). not (is_some e)) es < length es
free_at [] lt = absurd (omega (arith, lt))
free_at (e ∷ es) lt = elim (is_some e) as (λ b. one_if b + taken es < length (e ∷ es) → cond (not (not b)) (1 + position_or_len (λ (x : Option (List ℕ)). not (is_some x)) es) 0 < length (e ∷ es)) [
  | true ↦ λ few. omega (arith, free_at es (omega (arith, few)))
  | false ↦ λ few. omega arith
] lt

free_found : (es : List (Option (List ℕ))) → taken es < length es → is_some (free_edit es) ≡ true
free_found es lt = ap (λ b. is_some (cond b (Some (position_or_len (λ (e : Option (List ℕ)). not (is_some e)) es)) None)) (lt-ltb _ _ (free_at es lt))

-- ---- after evictions

some_mapped : (f : ℕ → ℕ) (o : Option ℕ) → is_some (option_map f o) ≡ is_some o
some_mapped f None = refl
some_mapped f (Some n) = refl

-- where each key is under edit, there are as many keys as that
all_open : (es : List (Option (List ℕ))) (written : List ℕ) (t : Entries (Option ℕ)) → eldest_closed es (keys_in t) ≡ None → length t ≡ keys_under_edit (mapped (kept_by es written) t)
all_open es written [] e = refl
all_open es written (x ∷ t) e = elim (is_some (edit_of x.0 es)) as (λ b. is_some (edit_of x.0 es) ≡ b → cond b (eldest_closed es (keys_in t)) (Some x.0) ≡ None → length (x ∷ t) ≡ one_if (is_some (option_map (λ number. get_or written number 0) (edit_of x.0 es))) + keys_under_edit (mapped (kept_by es written) t)) [
  | true ↦ λ b rest. omega (arith, all_open es written t rest, ap one_if (some_mapped (λ number. get_or written number 0) (edit_of x.0 es) ∙ b))
  | false ↦ λ b rest. cc
] refl e

not_over : (maximum : ℕ) (t : Entries (Option ℕ)) → is_over maximum t ≡ false → length t < 16400
not_over maximum t within = elim (nat_lt 16384 (length t)) as (λ b. nat_lt 16384 (length t) ≡ b → length t < 16400) [
  | true ↦ λ b. let bad : true ≡ false = sym (or_true (nat_lt maximum (size_of t)) (nat_lt 16384 (length t)) b) ∙ within in cc
  | false ↦ λ b. omega (arith, ltb-false 16384 (length t) b)
] refl where
  or_true : (a b : Bool) → b ≡ true → a || b ≡ true
  or_true true b e = refl
  or_true false b e = e

room_after : (disk : DiskState) → keys_under_edit (entries disk.cache) < 16 → next_eviction disk ≡ None → length disk.cache.table.table.entries < 16400
room_after disk few none = elim (is_over disk.cache.maximum disk.cache.table.table.entries) as (λ b. is_over disk.cache.maximum disk.cache.table.table.entries ≡ b
    → cond b (eldest_closed disk.cache.table.table.edits (keys_in disk.cache.table.table.entries)) None ≡ None → length disk.cache.table.table.entries < 16400) [
      | true ↦ λ b e. omega (arith, all_open disk.cache.table.table.edits disk.cache.table.written disk.cache.table.table.entries e, few)
      | false ↦ λ b e. not_over disk.cache.maximum disk.cache.table.table.entries b
    ] refl none

none_if : {X : Type 0} (o : Option X) → false ≡ is_some o → o ≡ None
none_if None e = refl
none_if (Some x) e = cc

-- evictions of which none failed end where there is none to make
pub nothing_next : (gone : List (List ℕ)) (old new : DiskState) → EvictsAll gone old (Ok tt) new → next_eviction new ≡ None
nothing_next gone old new e = ap next_eviction (e.ends.idle refl) ∙ none_if (next_eviction e.last) e.ends.over

not_full : (under free known many : Bool) → free ≡ true → many ≡ false → not under && (not free || not known && many) ≡ false
not_full true free known many f m = refl
not_full false true true many f m = refl
not_full false true false many f m = m
not_full false false known many f m = cc

pub holders_begin : HoldersBegin
holders_begin w known who gone d may s e =
    let at = sym (s.known_is who) ∙ may.knows in
    let none = (found_request IsHolding who may.request w.requests s.holding at).begun may.first in
    let first = first_of_granted who may.request w.requests s.orderly at may.granted in
    let quiet = evicted gone w.disk d (Ok tt) s.once e in
    let few : open_count w.requests < 16 = omega (arith, open_fewer who may.request w.requests at none, at_most 16 w.requests s.seated s.seats) in
    let places : taken (edits d.cache) < length (edits d.cache) = omega (arith, ap taken quiet.leaves.edits_are, ap length quiet.leaves.edits_are, s.edits_agree.taken_are, s.edits_agree.places, few) in
    let keys : keys_under_edit (entries d.cache) < 16 = omega (arith, quiet.leaves.count s.once, s.edits_agree.keys, few) in
    let room = room_after d keys (nothing_next gone w.disk d e) in
    let closed = no_number w known s may.request.key (length_of_first w known who may.request s at first ∙ ap open_length none) in
    record {
      free = ap (edit_of may.request.key) quiet.leaves.edits_are ∙ closed;
      room = not_full (is_under_edit may.request.key (edits d.cache)) (is_some (free_edit (edits d.cache))) (is_known may.request.key d.cache.table.table.entries) (nat_le 16400 (length d.cache.table.table.entries))
          (free_found (edits d.cache) places) (false_from_ne_true (nat_le 16400 (length d.cache.table.table.entries)) (λ t. omega (arith, leb-true 16400 (length d.cache.table.table.entries) t, room)));
    }

pub holders_write : HoldersWrite
holders_write w known who may s =
    let h = may.holds in
    let under = under_edit w known s who h.request h.edit (sym (s.known_is who) ∙ h.knows) h.has may.open_ in
    let number = some_next (edit_of h.request.key (edits w.disk.cache)) under.numbered in
    record { number = number.0; is = number.1; length_is = under.length_is }

pub one_holder : OneHolder
one_holder w known i j a b s knows_a knows_b g_a g_b same =
    let first_a = first_of_granted i a w.requests s.orderly (sym (s.known_is i) ∙ knows_a) g_a in
    let first_b = first_of_granted j b w.requests s.orderly (sym (s.known_is j) ∙ knows_b) g_b in
    first_is_one i j (queue_of a.key w.requests) first_a (subst (λ q. First j q w.requests) (sym same) first_b)
