-- The entries that stay at a start.
use Rattle.std.proofs.Common.{◌≡◌, ◌≢◌, ℕ, Bool, true, false, cond, List, [], ◌∷◌, ◌++◌, Some, None, refl, sym, ap, subst, ◌∙◌, append_assoc, length, ◌==◌, is_some, arith}
use Rattle.std.proofs.lemmas.Bool.{eqb-true}
use Rattle.std.specs.declared.option.Option.{Option}
use Rattle.std.specs.Option.{option_flatten}
use Rattle.std.specs.List.{AllByRecursion}
use Rattle.std.specs.Str.{bytes_eq}
use Rattle.std.proofs.lemmas.Slice.Eq.{bytes_eq-Decides}
use Rattle.outside.specs.Files.{Folder}
use Rattle.disk_table.specs.UseOrder.{Entries, IsOnce, without, value_at, is_known}
use Rattle.disk_table.specs.Table.{TableValue, forgotten, counted, clean_length, keys_in}
use Rattle.cache_folder.specs.Offered.{Replayed}
use Rattle.cache_folder.specs.Starts.{has_value, entries_staying, keys_dropped, without_all}
use Rattle.cache_folder.proofs.Kept.{without_none}
use Rattle.cache_folder.proofs.NewText.{IsFound, all_found}

-- a key that is forgotten is out
pub entries_forgotten : (key : List ℕ) (t : TableValue) → (forgotten key t).entries ≡ without key t.entries
entries_forgotten key t = by (is_known key t.entries) refl where
  unknown : (o : Option (Option ℕ)) → is_some o ≡ false → o ≡ None
  unknown None h = refl
  unknown (Some n) h = cc

  by : (b : Bool) → is_known key t.entries ≡ b → (cond b (let now : TableValue = record t { entries = without key t.entries; lines = counted t.lines } in now) t).entries ≡ without key t.entries
  by true e = refl
  by false e = sym (without_none key t.entries (unknown (value_at key t.entries) e))

-- ---- which keys are stale

-- the stale ones of some keys
abbrev pub stale_of : Folder → Replayed → List (List ℕ) → List (List ℕ)
stale_of f es [] = []
stale_of f es (key ∷ keys) = cond (has_value f key (clean_length key es)) (stale_of f es keys) (key ∷ stale_of f es keys)

stale_part : (f : Folder) (t es : Replayed) → AllByRecursion (IsFound t) es → stale_of f t (keys_in es) ≡ keys_dropped f es
stale_part f t [] found = refl
stale_part f t (e ∷ es) found = λ i. cond (has_value f e.0 (option_flatten (found.0 i))) (stale_part f t es found.1 i) (e.0 ∷ stale_part f t es found.1 i)

pub stale_all : (f : Folder) (es : Replayed) → IsOnce es → stale_of f es (keys_in es) ≡ keys_dropped f es
stale_all f es once = stale_part f es es (all_found es once)

-- one key more
pub stale_more : (f : Folder) (es : Replayed) (old new : List (List ℕ)) (key : List ℕ) (keys : List (List ℕ))
    → new ≡ old ++ cond (has_value f key (clean_length key es)) [] (key ∷ []) → new ++ stale_of f es keys ≡ old ++ stale_of f es (key ∷ keys)
stale_more f es old new key keys is = ap (λ l. l ++ stale_of f es keys) is ∙ append_assoc old _ (stale_of f es keys) ∙ ap (λ l. old ++ l) (by (has_value f key (clean_length key es))) where
  by : (b : Bool) → cond b [] (key ∷ []) ++ stale_of f es keys ≡ cond b (stale_of f es keys) (key ∷ stale_of f es keys)
  by true = refl
  by false = refl

-- ---- what is left without them

without_other : {V : Type 0} (key : List ℕ) (es : Entries V) → AllByRecursion (λ x. x.0 ≢ key) es → without key es ≡ es
without_other key [] apart = refl
without_other key (e ∷ es) apart =
    elim (bytes_eq key e.0) as (λ b. bytes_eq key e.0 ≡ b → cond b (without key es) (e ∷ without key es) ≡ e ∷ es) [
      | true ↦ λ t. absurd (apart.0 (sym ((bytes_eq-Decides key e.0).0 t)))
      | false ↦ λ t. ap (λ l. e ∷ l) (without_other key es apart.1)
    ] refl

first_out : {V : Type 0} (e : List ℕ × V) (es : Entries V) → AllByRecursion (λ x. x.0 ≢ e.0) es → without e.0 (e ∷ es) ≡ es
first_out e es apart = ap (λ b. cond b (without e.0 es) (e ∷ without e.0 es)) ((bytes_eq-Decides e.0 e.0).1 refl) ∙ without_other e.0 es apart

first_stays : {V : Type 0} (key : List ℕ) (e : List ℕ × V) (es : Entries V) → key ≢ e.0 → without key (e ∷ es) ≡ e ∷ without key es
first_stays key e es ne =
    elim (bytes_eq key e.0) as (λ b. bytes_eq key e.0 ≡ b → cond b (without key es) (e ∷ without key es) ≡ e ∷ without key es) [
      | true ↦ λ t. absurd (ne ((bytes_eq-Decides key e.0).0 t))
      | false ↦ λ t. refl
    ] refl

all_past : {V : Type 0} (keys : List (List ℕ)) (e : List ℕ × V) (es : Entries V) → AllByRecursion (λ k. k ≢ e.0) keys → without_all keys (e ∷ es) ≡ e ∷ without_all keys es
all_past [] e es apart = refl
all_past (key ∷ keys) e es apart = ap (without_all keys) (first_stays key e es apart.0) ∙ all_past keys e (without key es) apart.1

dropped_apart : (f : Folder) (key : List ℕ) (es : Replayed) → AllByRecursion (λ x. x.0 ≢ key) es → AllByRecursion (λ k. k ≢ key) (keys_dropped f es)
dropped_apart f key [] apart = tt
dropped_apart f key (e ∷ es) apart =
    elim (has_value f e.0 e.1) as (λ b. AllByRecursion (λ k. k ≢ key) (cond b (keys_dropped f es) (e.0 ∷ keys_dropped f es))) [
      | true ↦ dropped_apart f key es apart.1
      | false ↦ (apart.0, dropped_apart f key es apart.1)
    ]

pub without_dropped : (f : Folder) (es : Replayed) → IsOnce es → without_all (keys_dropped f es) es ≡ entries_staying f es
without_dropped f [] once = refl
without_dropped f (e ∷ es) once =
    elim (has_value f e.0 e.1) as (λ b. without_all (cond b (keys_dropped f es) (e.0 ∷ keys_dropped f es)) (e ∷ es) ≡ cond b (e ∷ entries_staying f es) (entries_staying f es)) [
      | true ↦ all_past (keys_dropped f es) e es (dropped_apart f e.0 es once.0) ∙ ap (λ l. e ∷ l) (without_dropped f es once.1)
      | false ↦ ap (without_all (keys_dropped f es)) (first_out e es once.0) ∙ without_dropped f es once.1
    ]

pub nothing_stale : (keys : List (List ℕ)) (n : ℕ) → n ≡ length keys → (n == 0) ≡ true → keys ≡ []
nothing_stale [] n is zero' = refl
nothing_stale (key ∷ keys) n is zero' = absurd (omega (arith, is, eqb-true n 0 zero'))
