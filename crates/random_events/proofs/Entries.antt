-- What seats know after one entry more.
use Rattle.std.proofs.Common.{◌≡◌, ◌≢◌, ℕ, true, false, cond, eqb, List, [], ◌∷◌, ◌++◌, refl, ap, sym, ◌∙◌}
use Rattle.std.proofs.lemmas.Bool.{eq-eqb, ne_eqb}
use Rattle.state_machine.specs.declared.entry.Entry.{Entry}
use Rattle.state_machine.specs.Histories.{own}
use Rattle.state_machine.specs.Laws.{OwnEntriesAppend}
use Rattle.engine_world.specs.declared.events.Note.{Note}
use Rattle.engine_world.specs.Knowledge.{Knowledge, no_knowledge, updated, updated_by, learned, knowledge_in}

-- what entries teach, one after the other
updated_append : (known : Knowledge) (xs ys : List (Entry Note)) → updated_by known (xs ++ ys) ≡ updated_by (updated_by known xs) ys
updated_append known [] ys = refl
updated_append known (e ∷ xs) ys = updated_append (updated e.note.event e.note.reply known) xs ys

module _ (appends : OwnEntriesAppend Note) (past now : List (Entry Note)) (e : Entry Note) (is : now ≡ past ++ e ∷ []) where
  -- a seat knows by then what the entry teaches where it is its own
  knows_more : (k : ℕ) → knowledge_in now k ≡ updated_by (knowledge_in past k) (cond (eqb e.by k) (e ∷ []) [])
  knows_more k =
      ap (λ h. knowledge_in h k) is
      ∙ ap (updated_by no_knowledge) (appends k past (e ∷ []))
      ∙ updated_append no_knowledge (own k past) (own k (e ∷ []))

  pub own_known : knowledge_in now e.by ≡ updated e.note.event e.note.reply (knowledge_in past e.by)
  own_known =
      knows_more e.by
      ∙ ap (λ b. updated_by (knowledge_in past e.by) (cond b (e ∷ []) [])) (eq-eqb e.by e.by refl)

  pub other_known : (k : ℕ) → e.by ≢ k → knowledge_in now k ≡ knowledge_in past k
  other_known k other =
      knows_more k
      ∙ ap (λ b. updated_by (knowledge_in past k) (cond b (e ∷ []) [])) (ne_eqb e.by k other)
