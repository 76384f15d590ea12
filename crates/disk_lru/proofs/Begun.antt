-- A key that was begun and is forgotten again.
use Rattle.std.proofs.Common.{◌≡◌, true, false, cond, List, [], ◌∷◌, ◌++◌, ℕ, refl, ap, ◌∙◌}
use Rattle.std.specs.Str.{bytes_eq}
use Rattle.std.proofs.lemmas.Slice.Eq.{bytes_eq-Decides}
use Rattle.disk_table.specs.UseOrder.{Entries, without, newest}

pub without_newest : {V : Type 0} (key : List ℕ) (v : V) (es : Entries V) → without key (newest key v es) ≡ without key es
without_newest key v [] = ap (λ b. cond b [] ((key, v) ∷ [])) ((bytes_eq-Decides key key).1 refl)
without_newest key v (e ∷ es) =
    elim (bytes_eq key e.0) as (λ b. bytes_eq key e.0 ≡ b → without key (cond b (without key es) (e ∷ without key es) ++ (key, v) ∷ []) ≡ cond b (without key es) (e ∷ without key es)) [
      | true ↦ λ same. without_newest key v es
      | false ↦ λ other. ap (λ b. cond b (without key (without key es ++ (key, v) ∷ [])) (e ∷ without key (without key es ++ (key, v) ∷ []))) other ∙ ap (λ l. e ∷ l) (without_newest key v es)
    ] refl
