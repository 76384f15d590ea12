-- The count of a journal's lines, and when a rebuild is due by it.
use Rattle.std.proofs.Common.{◌≡◌, ◌⊎◌, ℕ, suc, ◌-◌, ◌^◌, ◌<◌, ◌≤◌, min, Bool, true, false, ◌&&◌, nat_le, List, [], ◌∷◌, length, refl, sym, ap, subst, ◌∙◌, inl, inr, arith}
use Rattle.std.proofs.lemmas.Bool.{leb-false}
use Rattle.outside.specs.Files.{Folder}
use Rattle.disk_table.specs.UseOrder.{Entries}
use Rattle.disk_table.specs.Table.{TableValue, redundant, is_due}
use Rattle.cache_folder.specs.Journals.{line_count}
use Rattle.cache_folder.specs.Images.{IfKnown}
use Rattle.cache_folder.specs.Tables.{CacheTableValue, mapped, kept, kept_by}
use Rattle.disk_lru.specs.State.{CacheState, IsSettled}
use Rattle.disk_lru.specs.inside.Kept.{IsCounted, Keeps}

length_mapped : {V W : Type 0} (f : List ℕ → V → W) (es : Entries V) → length (mapped f es) ≡ length es
length_mapped f [] = refl
length_mapped f (e ∷ es) = ap suc (length_mapped f es)

length_kept : (t : CacheTableValue) → length (kept t) ≡ length t.table.entries
length_kept t = length_mapped (kept_by t.table.edits t.written) t.table.entries

-- after a rebuild the journal has a line for each key
pub counted_new : (f : Folder) (t u : CacheTableValue) → line_count f ≡ length (kept t) → u.table ≡ record t.table { lines = length t.table.entries } → length (kept t) ≤ 16400 → IsCounted f u.table.lines
counted_new f t u lines is few =
    let now : u.table.lines ≡ length t.table.entries = ap (λ (v : TableValue). v.lines) is in
    omega (arith, now, lines, length_kept t, few)

none_due : (n : ℕ) → (nat_le 2000 (n - n) && nat_le n (n - n)) ≡ false
none_due n = let nothing : n - n ≡ 0 = omega arith in ap (λ k. nat_le 2000 k && nat_le n k) nothing

pub settled_new : (s : CacheState) (t : CacheTableValue) → IfKnown s.history (λ k. line_count k.held ≡ length (kept t)) → kept s.table ≡ kept t → s.table.table ≡ record t.table { lines = length t.table.entries } → IsSettled s
settled_new s t lines same is = record {
  few = λ ready k e. inl (omega (arith, lines k e, ap length same));
  counted = λ ready. ap is_due is ∙ none_due (length t.table.entries);
}

few_by : (lines keys : ℕ) (a b : Bool) → nat_le 2000 (lines - keys) ≡ a → nat_le keys (lines - keys) ≡ b → (a && b) ≡ false → ((lines - keys) < 2000) ⊎ ((lines - keys) < keys)
few_by lines keys true true e e' no' = cc
few_by lines keys true false e e' no' = inr (leb-false keys (lines - keys) e')
few_by lines keys false b e e' no' = inl (leb-false 2000 (lines - keys) e)

few_lines : (n lines keys : ℕ) → lines ≡ min n (2 ^ 64 - 1) → keys ≤ 16400 → ((lines - keys) < 2000) ⊎ ((lines - keys) < keys) → ((n - keys) < 2000) ⊎ ((n - keys) < keys)
few_lines n lines keys is few h = elim h as (λ _. ((n - keys) < 2000) ⊎ ((n - keys) < keys)) [
  | inl x ↦ inl (omega (arith, is, few, x))
  | inr x ↦ inr (omega (arith, is, few, x))
]

-- none is due by the table's count
pub settled_already : (s now : CacheState) → s ≡ now → Keeps s.history s.table s.due → false ≡ is_due s.table.table → IsSettled now
settled_already s now same keeps not_due = subst IsSettled same record {
  few = λ ready k e.
      let keys : length (kept s.table) ≡ length s.table.table.entries = length_kept s.table in
      let by_count = few_by s.table.table.lines (length s.table.table.entries) (nat_le 2000 (redundant s.table.table)) (nat_le (length s.table.table.entries) (redundant s.table.table)) refl refl (sym not_due) in
      few_lines (line_count k.held) s.table.table.lines (length (kept s.table)) (keeps.counted ready k e) (keeps.files k e).count
      (subst (λ m. ((s.table.table.lines - m) < 2000) ⊎ ((s.table.table.lines - m) < m)) (sym keys) by_count);
  counted = λ ready. sym not_due;
}
