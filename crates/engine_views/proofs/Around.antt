-- The loads that are held, around one place.
use Rattle.std.proofs.Common.{◌≡◌, ◌≢◌, ℕ, ◌+◌, ◌<◌, ◌≤◌, List, [], ◌∷◌, ◌++◌, length, set, zero, suc, Some, None, Option, refl, ap, sym, ◌∙◌, arith}
use Rattle.std.specs.Prelude.{slice_get}
use Rattle.std.specs.Option.{option_to_list}
use Rattle.std.proofs.lemmas.List.{append_assoc, length-append}
use Rattle.engine_shared.specs.Tokens.{HoldValue}
use Rattle.engine_shared.specs.Caller.{Caller, HasLoad}
use Rattle.engine_views.specs.Held.{Holds, loads_in}
use Rattle.engine_views.specs.Owner.{AllLoads, IsNone, AreApart}

-- ---- what is held at a place, among all

pub record Around (holds : Holds) (place : ℕ) (was : Option HoldValue) : Type 0 where
  pub before : List HoldValue
  pub after : List HoldValue
  pub is : loads_in holds ≡ before ++ (option_to_list was ++ after)
  pub set_is : (hold : Option HoldValue) → loads_in (set holds place hold) ≡ before ++ (option_to_list hold ++ after)

pub around : (holds : Holds) (place : ℕ) (was : Option HoldValue) → slice_get holds place ≡ Some was → Around holds place was
around [] place was e = cc
around (h ∷ hs) zero was e =
    let same : h ≡ was = cc in
    record { before = []; after = loads_in hs; is = ap (λ o. option_to_list o ++ loads_in hs) same; set_is = λ hold. refl }
around (h ∷ hs) (suc place) was e =
    let rest = around hs place was e in
    record {
      before = option_to_list h ++ rest.before;
      after = rest.after;
      is = ap (λ l. option_to_list h ++ l) rest.is ∙ sym (append_assoc (option_to_list h) rest.before (option_to_list was ++ rest.after));
      set_is = λ hold. ap (λ l. option_to_list h ++ l) (rest.set_is hold) ∙ sym (append_assoc (option_to_list h) rest.before (option_to_list hold ++ rest.after));
    }

-- ---- one load among others

none_in : (n : ℕ) (before after : List HoldValue) (load : HoldValue) → IsNone n (before ++ load ∷ after) → (load.number ≢ n) × IsNone n (before ++ after)
none_in n [] after load is = is
none_in n (b ∷ before) after load is = let rest = none_in n before after load is.1 in (rest.0, (is.0, rest.1))

none_with : (n : ℕ) (before after : List HoldValue) (load : HoldValue) → IsNone n (before ++ after) → load.number ≢ n → IsNone n (before ++ load ∷ after)
none_with n [] after load is apart = (apart, is)
none_with n (b ∷ before) after load is apart = (is.0, none_with n before after load is.1 apart)

pub apart_less : (before after : List HoldValue) (load : HoldValue) → AreApart (before ++ load ∷ after) → AreApart (before ++ after)
apart_less [] after load is = is.1
apart_less (b ∷ before) after load is = ((none_in b.number before after load is.0).1, apart_less before after load is.1)

pub apart_from : (before after : List HoldValue) (load : HoldValue) → AreApart (before ++ load ∷ after) → IsNone load.number (before ++ after)
apart_from [] after load is = is.0
apart_from (b ∷ before) after load is = (λ e. (none_in b.number before after load is.0).0 (sym e), apart_from before after load is.1)

pub apart_more : (before after : List HoldValue) (load : HoldValue) → AreApart (before ++ after) → IsNone load.number (before ++ after) → AreApart (before ++ load ∷ after)
apart_more [] after load is none = (none, is)
apart_more (b ∷ before) after load is none = (none_with b.number before after load is.0 (λ e. none.0 (sym e)), apart_more before after load is.1 none.1)

pub all_less : (c : Caller) (before after : List HoldValue) (load : HoldValue) → AllLoads c (before ++ load ∷ after) → HasLoad c load × AllLoads c (before ++ after)
all_less c [] after load is = is
all_less c (b ∷ before) after load is = let rest = all_less c before after load is.1 in (rest.0, (is.0, rest.1))

pub all_more : (c : Caller) (before after : List HoldValue) (load : HoldValue) → AllLoads c (before ++ after) → HasLoad c load → AllLoads c (before ++ load ∷ after)
all_more c [] after load is has = (has, is)
all_more c (b ∷ before) after load is has = (is.0, all_more c before after load is.1 has)

pub one_longer : (before after : List HoldValue) (load : HoldValue) → length (before ++ load ∷ after) ≡ length (before ++ after) + 1
one_longer before after load = omega (arith, length-append before (load ∷ after), length-append before after)

-- ---- how many there are

pub no_more_loads : (holds : Holds) → length (loads_in holds) ≤ length holds
no_more_loads [] = omega arith
no_more_loads (None ∷ hs) = omega (arith, no_more_loads hs)
no_more_loads (Some load ∷ hs) = omega (arith, no_more_loads hs)

pub fewer_loads : (holds : Holds) (place : ℕ) → slice_get holds place ≡ Some None → length (loads_in holds) < length holds
fewer_loads [] place e = cc
fewer_loads (None ∷ hs) zero e = omega (arith, no_more_loads hs)
fewer_loads (Some load ∷ hs) zero e = cc
fewer_loads (None ∷ hs) (suc place) e = omega (arith, fewer_loads hs place e)
fewer_loads (Some load ∷ hs) (suc place) e = omega (arith, fewer_loads hs place e)
