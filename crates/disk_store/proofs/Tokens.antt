-- The edits that seats have, through the events.
use Rattle.std.proofs.Common.{◌≡◌, ◌≢◌, ℕ, true, false, cond, eqb, List, [], ◌∷◌, ◌++◌, length, get_or, Some, None, Ok, Err, Result, Option, refl, ap, sym, subst, ◌∙◌, inl, inr}
use Rattle.std.specs.Prelude.{is_some, not, ◌&&◌, IsSomeAnd}
use Rattle.std.specs.List.{AllByRecursion}
use Rattle.std.proofs.lemmas.Bool.{eqb-true, eqb-false, cases_Bool, and_parts, ne_eqb, eq-eqb}
use Rattle.disk_table.specs.Table.{edit_of}
use Rattle.cache_folder.specs.Tables.{closed_at, len_at, edit_at}
use Rattle.disk_lru.specs.declared.refusals.DiskFault.{DiskFault}
use Rattle.disk_lru.specs.State.{EditValue, edits, entries}
use Rattle.disk_lru.specs.Past.{DiskState}
use Rattle.store_world.specs.World.{SeatEdit, Request, Requests, World, request_of, with_request, without_seat}
use Rattle.store_world.specs.DiskCalls.{Gets}
use Rattle.store_world.specs.Knowledge.{Knowledge}
use Rattle.store_world.specs.Sound.{IsSeated, Sound}
use Rattle.disk_store.specs.Requests.{change, changed_by}
use Rattle.disk_store.specs.StoreView.{IsToken, TokensAgree}

-- ---- requests

pub own_changed : (who : ℕ) (old new : Request) (rs : Requests) → request_of who rs ≡ Some old → request_of who (with_request who new rs) ≡ Some new
own_changed who old new [] is = cc
own_changed who old new (r ∷ rs) is =
    elim (cases_Bool (eqb r.0 who)) [
      | inl yes' ↦
          ap (λ t. request_of who (cond t ((r.0, new) ∷ rs) (r ∷ with_request who new rs))) yes'
          ∙ ap (λ t. cond t (Some new) (request_of who rs)) yes'
      | inr no' ↦
          ap (λ t. request_of who (cond t ((r.0, new) ∷ rs) (r ∷ with_request who new rs))) no'
          ∙ ap (λ t. cond t (Some r.1) (request_of who (with_request who new rs))) no'
          ∙ own_changed who old new rs (sym (ap (λ t. cond t (Some r.1) (request_of who rs)) no') ∙ is)
    ]

other_is_not : (who other n : ℕ) → other ≢ who → eqb n who ≡ true → eqb n other ≡ false
other_is_not who other n apart is = ne_eqb n other (λ same. apart (sym same ∙ eqb-true n who is))

pub others_changed : (who other : ℕ) (new : Request) (rs : Requests) → other ≢ who → request_of other (with_request who new rs) ≡ request_of other rs
others_changed who other new [] apart = refl
others_changed who other new (r ∷ rs) apart =
    elim (cases_Bool (eqb r.0 who)) [
      | inl yes' ↦
          let not_other = other_is_not who other r.0 apart yes' in
          ap (λ t. request_of other (cond t ((r.0, new) ∷ rs) (r ∷ with_request who new rs))) yes'
          ∙ ap (λ t. cond t (Some new) (request_of other rs)) not_other
          ∙ sym (ap (λ t. cond t (Some r.1) (request_of other rs)) not_other)
      | inr no' ↦
          ap (λ t. request_of other (cond t ((r.0, new) ∷ rs) (r ∷ with_request who new rs))) no'
          ∙ ap (λ o. cond (eqb r.0 other) (Some r.1) o) (others_changed who other new rs apart)
    ]

pub others_added : (who other : ℕ) (new : Request) (rs : Requests) → other ≢ who → request_of other (rs ++ (who, new) ∷ []) ≡ request_of other rs
others_added who other new [] apart = ap (λ t. cond t (Some new) None) (ne_eqb who other (λ same. apart (sym same)))
others_added who other new (r ∷ rs) apart = ap (λ o. cond (eqb r.0 other) (Some r.1) o) (others_added who other new rs apart)

pub own_added : (who : ℕ) (new : Request) (rs : Requests) → request_of who rs ≡ None → request_of who (rs ++ (who, new) ∷ []) ≡ Some new
own_added who new [] is = ap (λ t. cond t (Some new) None) (eq-eqb who who refl)
own_added who new (r ∷ rs) is =
    elim (cases_Bool (eqb r.0 who)) [
      | inl yes' ↦ let none : Some r.1 ≡ None = sym (ap (λ t. cond t (Some r.1) (request_of who rs)) yes') ∙ is in cc
      | inr no' ↦
          ap (λ t. cond t (Some r.1) (request_of who (rs ++ (who, new) ∷ []))) no'
          ∙ own_added who new rs (sym (ap (λ t. cond t (Some r.1) (request_of who rs)) no') ∙ is)
    ]

pub others_left : (who other : ℕ) (rs : Requests) → other ≢ who → request_of other (without_seat who rs) ≡ request_of other rs
others_left who other [] apart = refl
others_left who other (r ∷ rs) apart =
    elim (cases_Bool (eqb r.0 who)) [
      | inl yes' ↦
          ap (λ t. request_of other (cond t rs (r ∷ without_seat who rs))) yes'
          ∙ sym (ap (λ t. cond t (Some r.1) (request_of other rs)) (other_is_not who other r.0 apart yes'))
      | inr no' ↦
          ap (λ t. request_of other (cond t rs (r ∷ without_seat who rs))) no'
          ∙ ap (λ o. cond (eqb r.0 other) (Some r.1) o) (others_left who other rs apart)
    ]

none_behind : (who n : ℕ) (rs : Requests) → eqb n who ≡ true → AllByRecursion (λ (s : ℕ × Request). s.0 ≢ n) rs → request_of who rs ≡ None
none_behind who n [] is all = refl
none_behind who n (r ∷ rs) is all =
    ap (λ t. cond t (Some r.1) (request_of who rs)) (ne_eqb r.0 who (λ same. all.0 (same ∙ sym (eqb-true n who is))))
    ∙ none_behind who n rs is all.1

pub own_left : (who : ℕ) (rs : Requests) → IsSeated rs → request_of who (without_seat who rs) ≡ None
own_left who [] seated = refl
own_left who (r ∷ rs) seated =
    elim (cases_Bool (eqb r.0 who)) [
      | inl yes' ↦ ap (λ t. request_of who (cond t rs (r ∷ without_seat who rs))) yes' ∙ none_behind who r.0 rs yes' seated.0
      | inr no' ↦
          ap (λ t. request_of who (cond t rs (r ∷ without_seat who rs))) no'
          ∙ ap (λ t. cond t (Some r.1) (request_of who (without_seat who rs))) no'
          ∙ own_left who rs seated.1
    ]

-- the change of a request that is there
pub change_is : (who : ℕ) (changed : Request → Request) (request : Request) (rs : Requests) → request_of who rs ≡ Some request → change who changed rs ≡ with_request who (changed request) rs
change_is who changed request rs is = ap (λ o. changed_by o changed who rs) is

pub others_same : (who other : ℕ) (changed : Request → Request) (rs : Requests) → other ≢ who → request_of other (change who changed rs) ≡ request_of other rs
others_same who other changed rs apart = by_case (request_of who rs)
  where
    by_case : (o : Option Request) → request_of other (changed_by o changed who rs) ≡ request_of other rs
    by_case None = refl
    by_case (Some request) = others_changed who other (changed request) rs apart

-- ---- tokens

pub keeps_tokens : (disk disk' : DiskState) (rs rs' : Requests) (ts ts' : List (Option EditValue)) (who : ℕ) → TokensAgree disk rs ts → length ts' ≡ 16
    → ((other : ℕ) → other ≢ who → request_of other rs' ≡ request_of other rs)
    → ((other : ℕ) → other ≢ who → get_or ts' other None ≡ get_or ts other None)
    → ((other : ℕ) (request : Request) (edit : SeatEdit) → other ≢ who → request_of other rs ≡ Some request → request.edit ≡ Some edit → edit.closed ≡ false → edit_of request.key (edits disk'.cache) ≡ edit_of request.key (edits disk.cache))
    → ((request : Request) (edit : SeatEdit) → request_of who rs' ≡ Some request → request.edit ≡ Some edit → IsToken disk' request edit (get_or ts' who None))
    → TokensAgree disk' rs' ts'
keeps_tokens disk disk' rs rs' ts ts' who agree places requests kept numbers own = record {
  places = places;
  each = λ other request edit is has. elim (cases_Bool (eqb other who)) [
    | inl yes' ↦
        let same : other ≡ who = eqb-true other who yes' in
        subst (λ n. IsToken disk' request edit (get_or ts' n None)) (sym same) (own request edit (ap (λ n. request_of n rs') (sym same) ∙ is) has)
    | inr no' ↦
        let apart : other ≢ who = eqb-false other who no' in
        let was : request_of other rs ≡ Some request = sym (requests other apart) ∙ is in
        let old = agree.each other request edit was has in
        record {
          token = old.token;
          is = kept other apart ∙ old.is;
          key = old.key;
          closed = old.closed;
          number = λ open_. numbers other request edit apart was has open_ ∙ old.number open_;
        }
  ];
}

-- of a seat that has no edit any more, nothing is asked
pub none_own : (disk : DiskState) (rs : Requests) (kept : Option EditValue) (who : ℕ) (now : Request) → request_of who rs ≡ Some now → now.edit ≡ None
    → (request : Request) (edit : SeatEdit) → request_of who rs ≡ Some request → request.edit ≡ Some edit → IsToken disk request edit kept
none_own disk rs kept who now is none request edit is' has =
    let same : now ≡ request = cc in
    let clash : None ≡ Some edit = sym none ∙ ap (λ (r : Request). r.edit) same ∙ has in
    absurd (let no' : ⊥ = cc in no')

-- where all edits keep their numbers, the tokens agree still
pub same_edits : (disk disk' : DiskState) (rs : Requests) (ts : List (Option EditValue)) → edits disk'.cache ≡ edits disk.cache → TokensAgree disk rs ts → TokensAgree disk' rs ts
same_edits disk disk' rs ts same agree = record {
  places = agree.places;
  each = λ who request edit is has. let old = agree.each who request edit is has in record {
    token = old.token;
    is = old.is;
    key = old.key;
    closed = old.closed;
    number = λ open_. ap (edit_of request.key) same ∙ old.number open_;
  };
}

-- ---- reads leave all edits

no_edit : (o : Option ℕ) (p : Option ℕ) (l : Option ℕ) → is_some o ≡ is_some p → (is_some l && not (is_some p)) ≡ true → o ≡ None
no_edit None p l same offered = refl
no_edit (Some n) None l same offered = cc
no_edit (Some n) (Some m) l same offered = let parts = and_parts (is_some l) false offered in cc

gets_by : (w : World) (known : ℕ → Knowledge) (key : List ℕ) (result : Result (Option (List ℕ)) DiskFault) (disk : DiskState) → Sound w known → Gets key w.disk result disk → edits disk.cache ≡ edits w.disk.cache
gets_by w known key (Ok found) disk sound gets = gets.edits_are refl
gets_by w known key (Err fault) disk sound gets =
    let agree = sound.edits_agree in
    let none = no_edit (edit_of key (edits w.disk.cache)) (edit_at key (entries w.disk.cache)) (len_at key (entries w.disk.cache))
    (agree.numbers key ∙ ap is_some (sym (agree.lengths key))) (gets.err refl) in
    (gets.fails refl).forgets.edit.edits_are ∙ ap (λ o. closed_at o (edits w.disk.cache)) none

pub gets_keep : (w : World) (known : ℕ → Knowledge) (key : List ℕ) (result : Result (Option (List ℕ)) DiskFault) (disk : DiskState) → Sound w known → Gets key w.disk result disk → edits disk.cache ≡ edits w.disk.cache
gets_keep w known key result disk sound gets = gets_by w known key result disk sound gets

-- ---- what a seat has

-- a fact of the request that is there
pub with_it : {A : Type 0} (P : A → Type 0) (o : Option A) (a : A) → o ≡ Some a → P a → IsSomeAnd o P
with_it P o a is p = subst (λ o. IsSomeAnd o P) (sym is) p

-- nor of a seat that has no request any more
pub gone_own : (disk : DiskState) (rs : Requests) (kept : Option EditValue) (who : ℕ) → request_of who rs ≡ None
    → (request : Request) (edit : SeatEdit) → request_of who rs ≡ Some request → request.edit ≡ Some edit → IsToken disk request edit kept
gone_own disk rs kept who none request edit is has = let clash : None ≡ Some request = sym none ∙ is in absurd (let no' : ⊥ = cc in no')
