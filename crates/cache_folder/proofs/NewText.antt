-- The text of a new journal, key by key.
use Rattle.std.proofs.Common.{◌≡◌, ◌≢◌, ℕ, Bool, true, false, cond, List, [], ◌∷◌, ◌++◌, map, Some, refl, sym, ap, ◌∙◌, append_assoc, option_and_then}
use Rattle.std.specs.declared.option.Option.{Option}
use Rattle.std.specs.List.{AllByRecursion}
use Rattle.std.specs.Str.{bytes_eq}
use Rattle.std.proofs.lemmas.Slice.Eq.{bytes_eq-Decides}
use Rattle.journal_lines.specs.declared.lines.Line.{Line}
use Rattle.disk_table.specs.UseOrder.{Entries, IsOnce, value_at}
use Rattle.disk_table.specs.Table.{keys_in}
use Rattle.cache_folder.specs.Tables.{Kept, Table, mapped, hidden, len_at, edit_at, line_for, lines_for}
use Rattle.cache_folder.proofs.Mapped.{once_mapped}

-- the lines of some keys of a table
abbrev pub keyed : Table → List (List ℕ) → List Line
keyed t [] = []
keyed t (key ∷ keys) = line_for key (hidden (len_at key t) (edit_at key t)) ∷ keyed t keys

abbrev pub IsFound : {V : Type 0} → Entries V → List ℕ × V → Type 0
IsFound t e = value_at e.0 t ≡ Some e.1

found_in_more : {V : Type 0} (e : List ℕ × V) (t es : Entries V) → AllByRecursion (λ x. x.0 ≢ e.0) es → AllByRecursion (IsFound t) es → AllByRecursion (IsFound (e ∷ t)) es
found_in_more e t [] apart found = tt
found_in_more e t (x ∷ es) apart found = (other (bytes_eq x.0 e.0) refl, found_in_more e t es apart.1 found.1) where
  other : (b : Bool) → bytes_eq x.0 e.0 ≡ b → cond b (Some e.1) (value_at x.0 t) ≡ Some x.1
  other true yes' = absurd (apart.0 ((bytes_eq-Decides x.0 e.0).0 yes'))
  other false no' = found.0

pub all_found : {V : Type 0} (t : Entries V) → IsOnce t → AllByRecursion (IsFound t) t
all_found [] once = tt
all_found (e ∷ t) once = (ap (λ b. cond b (Some e.1) (value_at e.0 t)) ((bytes_eq-Decides e.0 e.0).1 refl), found_in_more e t t once.0 (all_found t once.1))

keyed_part : (t es : Table) → AllByRecursion (IsFound t) es → keyed t (map (λ e. e.0) es) ≡ lines_for es
keyed_part t [] found = refl
keyed_part t (e ∷ es) found = λ i. line_for e.0 (hidden (option_and_then (λ (k : Kept). k.len) (found.0 i)) (option_and_then (λ (k : Kept). k.edit) (found.0 i))) ∷ keyed_part t es found.1 i

keys_mapped : (f : List ℕ → Option ℕ → Kept) (es : Entries (Option ℕ)) → map (λ e. e.0) (mapped f es) ≡ keys_in es
keys_mapped f [] = refl
keys_mapped f (e ∷ es) = ap (λ l. e.0 ∷ l) (keys_mapped f es)

pub keyed_all : (f : List ℕ → Option ℕ → Kept) (es : Entries (Option ℕ)) → IsOnce es → keyed (mapped f es) (keys_in es) ≡ lines_for (mapped f es)
keyed_all f es once = ap (keyed (mapped f es)) (sym (keys_mapped f es)) ∙ keyed_part (mapped f es) (mapped f es) (all_found (mapped f es) (once_mapped f es once))

-- one line more
pub line_added : (text new line rest whole : List ℕ) → new ≡ text ++ line → text ++ (line ++ rest) ≡ whole → new ++ rest ≡ whole
line_added text new line rest whole is was = ap (λ l. l ++ rest) is ∙ append_assoc text line rest ∙ was
