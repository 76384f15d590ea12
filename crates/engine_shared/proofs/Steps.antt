-- Histories of the engine's steps, and a caller's own entries in them.
use Rattle.std.proofs.Common.{◌≡◌, ℕ, cond, List, [], ◌∷◌, ◌++◌, refl, ap, sym, subst, ◌∙◌, inl, inr}
use Rattle.std.specs.Prelude.{⊤, ◌⊎◌}
use Rattle.std.proofs.lemmas.Bool.{eq-eqb}
use Rattle.std.proofs.lemmas.List.{append-nil}
use Rattle.state_machine.specs.declared.entry.Entry.{Entry}
use Rattle.state_machine.specs.Histories.{own}
use Rattle.state_machine.specs.Laws.{OwnEntriesAppend}
use Rattle.engine_world.specs.declared.events.Event.{Event}
use Rattle.engine_world.specs.declared.events.Note.{Note}
use Rattle.engine_world.specs.World.{World}
use Rattle.engine_world.specs.Knowledge.{Knowledge, no_knowledge, updated, updated_by, knowledge_in}
use Rattle.engine_world.specs.EngineMachine.{opening_of}
use Rattle.engine_world.specs.Laws.{KeepsOpening}
use Rattle.engine_shared.specs.Caller.{Leads}

abbrev HasFirst : {A : Type 0} → List A → Type 0
HasFirst [] = ⊥
HasFirst (x ∷ xs) = ⊤

abbrev first_or : {A : Type 0} → A → List A → A
first_or d [] = d
first_or d (x ∷ xs) = x

abbrev rest_of : {A : Type 0} → List A → List A
rest_of [] = []
rest_of (x ∷ xs) = xs

not_nil : {A : Type 0} (x : A) (xs : List A) → x ∷ xs ≡ [] → ⊥
not_nil x xs e = subst HasFirst e tt

-- a list with something in it is not empty
pub some_in : {A : Type 0} (xs ys : List A) (d : A) → xs ++ d ∷ ys ≡ [] → ⊥
some_in [] ys d is = not_nil d ys is
some_in (x ∷ xs) ys d is = not_nil x (xs ++ d ∷ ys) is

-- Where a list ends with an entry, any place in it is that entry's, or lies before it.
pub last_or_before : {A : Type 0} (zs xs ys : List A) (e d : A) → zs ++ e ∷ [] ≡ xs ++ d ∷ ys → ((xs ≡ zs) × (d ≡ e)) ⊎ ((rest : List A) × (zs ≡ xs ++ d ∷ rest))
last_or_before [] [] ys e d is = inl (refl, sym (ap (first_or e) is))
last_or_before [] (x ∷ xs) ys e d is = absurd (some_in xs ys d (sym (ap rest_of is)))
last_or_before (z ∷ zs) [] ys e d is = inr (zs, ap (λ a. a ∷ zs) (ap (first_or z) is))
last_or_before (z ∷ zs) (x ∷ xs) ys e d is = elim (last_or_before zs xs ys e d (ap rest_of is)) [
  | inl h ↦ inl (ap (λ a. a ∷ xs) (sym (ap (first_or z) is)) ∙ ap (λ l. z ∷ l) h.0, h.1)
  | inr h ↦ inr (h.0, ap (λ a. a ∷ zs) (ap (first_or z) is) ∙ ap (λ l. x ∷ l) h.1)
]

-- ---- worlds

-- limits and content of a world that steps lead to
pub fixed_along : ((event : Event) → KeepsOpening event) → (from to : World) (history : List (Entry Note)) → Leads from history to → (to.limits ≡ from.limits) × (to.content ≡ from.content)
fixed_along opens from to [] leads = (ap (λ (w : World). w.limits) (sym leads), ap (λ (w : World). w.content) (sym leads))
fixed_along opens from to (e ∷ history) leads =
    let one : opening_of leads.0 ≡ opening_of from = opens e.note.event from leads.0 e.by e.note.reply leads.1 in
    let rest = fixed_along opens leads.0 to history leads.2 in
    (rest.0 ∙ ap (λ (w : World). w.limits) one, rest.1 ∙ ap (λ (w : World). w.content) one)

-- ---- own entries

-- an entry of this caller is among its own
pub own_has : OwnEntriesAppend Note → (k : ℕ) (xs ys : List (Entry Note)) (d : Entry Note) → d.by ≡ k → own k (xs ++ d ∷ ys) ≡ own k xs ++ d ∷ own k ys
own_has owns k xs ys d is = owns k xs (d ∷ ys) ∙ ap (λ b. own k xs ++ cond b (d ∷ own k ys) (own k ys)) (eq-eqb d.by k is)

updated_by-append : (known : Knowledge) (xs ys : List (Entry Note)) → updated_by known (xs ++ ys) ≡ updated_by (updated_by known xs) ys
updated_by-append known [] ys = refl
updated_by-append known (e ∷ xs) ys = updated_by-append (updated e.note.event e.note.reply known) xs ys

-- the entries of others say nothing to a caller
pub known_beside : OwnEntriesAppend Note → (who : ℕ) (seen others : List (Entry Note)) → own who others ≡ [] → knowledge_in (seen ++ others) who ≡ knowledge_in seen who
known_beside owns who seen others none = ap (updated_by no_knowledge) (owns who seen others ∙ ap (λ l. own who seen ++ l) none ∙ append-nil (own who seen))

-- what a caller knows after an entry of its own
pub known_after : OwnEntriesAppend Note → (who : ℕ) (seen others : List (Entry Note)) (e : Entry Note) → own who others ≡ [] → e.by ≡ who
    → knowledge_in ((seen ++ others) ++ e ∷ []) who ≡ updated e.note.event e.note.reply (knowledge_in seen who)
known_after owns who seen others e none is =
    ap (updated_by no_knowledge) (own_has owns who (seen ++ others) [] e is)
    ∙ updated_by-append no_knowledge (own who (seen ++ others)) (e ∷ [])
    ∙ ap (updated e.note.event e.note.reply) (known_beside owns who seen others none)
