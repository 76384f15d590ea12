-- A step that was made and added to the history leaves a core.
use Rattle.std.proofs.Common.{◌≡◌, ℕ, true, false, cond, eqb, List, [], ◌∷◌, ◌++◌, refl, ap, sym, subst, ◌∙◌}
use Rattle.state_machine.specs.declared.entry.Entry.{Entry}
use Rattle.state_machine.specs.Histories.{own}
use Rattle.state_machine.specs.Laws.{OwnEntriesAppend}
use Rattle.engine_world.specs.declared.events.Event.{Event}
use Rattle.engine_world.specs.declared.events.Note.{Note}
use Rattle.outside.specs.Content.{Contents}
use Rattle.std.specs.declared.option.Option.{Option}
use Rattle.engine_world.specs.World.{Limits, World, opening}
use Rattle.engine_world.specs.Steps.{Transition}
use Rattle.engine_world.specs.Knowledge as knowledge
use Rattle.engine_world.specs.Knowledge.{Knowledge, no_knowledge, updated, updated_by, learned, knowledge_in, knowledge_with}
use Rattle.engine_world.specs.Sound.{facts, KnowledgeAgrees, Sound}
use Rattle.engine_world.specs.Laws.{KeepsSound, KeepsOpening, HistoriesAreSound}
use Rattle.engine_world.specs.RoomLaws.{KeepsLimits, OpensWithinLimits}
use Rattle.engine_core.specs.CoreView.{IsCore, MayStep}
use Rattle.engine_core.specs.Opening.{AreServed}

-- what entries teach, one after the other
updated_append : (known : Knowledge) (xs ys : List (Entry Note)) → updated_by known (xs ++ ys) ≡ updated_by (updated_by known xs) ys
updated_append known [] ys = refl
updated_append known (e ∷ xs) ys = updated_append (updated e.note.event e.note.reply known) xs ys

-- what a seat knows with one entry more
pub knows_more : OwnEntriesAppend Note → (past : List (Entry Note)) (e : Entry Note) (k : ℕ) → knowledge_with (knowledge_in past) e.by e.note.event e.note.reply k ≡ knowledge_in (past ++ e ∷ []) k
unfolding knowledge.knowledge_with
knows_more appends past e k =
    elim (eqb e.by k) as (λ b. cond b (updated e.note.event e.note.reply (learned (own k past))) (learned (own k past)) ≡ updated_by (learned (own k past)) (cond b (e ∷ []) [])) [ true ↦ refl | false ↦ refl ]
    ∙ sym (updated_append no_knowledge (own k past) (own k (e ∷ [])))
    ∙ ap (updated_by no_knowledge) (sym (appends k past (e ∷ [])))

-- a world is sound by what seats know, however that is told
pub sound_with : (w : World) (f g : ℕ → Knowledge) → ((k : ℕ) → f k ≡ g k) → Sound w f → Sound w g
sound_with w f g same s = record {
  places = s.places;
  awaited = s.awaited;
  jobs = s.jobs;
  active = s.active;
  cached = s.cached;
  pool = s.pool;
  lent = s.lent;
  resources = s.resources;
  seats = s.seats;
  known_is = λ k. subst (KnowledgeAgrees (facts w) k) (same k) (s.known_is k);
}

pub stays_core : (w z : World) (past : List (Entry Note)) (e : Entry Note) → OwnEntriesAppend Note → ((event : Event) → KeepsSound event) → ((event : Event) → KeepsLimits event) → ((event : Event) → KeepsOpening event)
    → MayStep w past e.by e.note.event → Transition w e.by e.note.event e.note.reply z → IsCore z (past ++ e ∷ [])
stays_core w z past e appends sounds limits openings may step = record {
  sound = sound_with z (knowledge_with (knowledge_in past) e.by e.note.event e.note.reply) (knowledge_in (past ++ e ∷ [])) (knows_more appends past e)
      (sounds e.note.event w z (knowledge_in past) e.by e.note.reply may.served may.core.sound may.permitted step);
  within = limits e.note.event w z (knowledge_in past) e.by e.note.reply may.served may.core.sound may.permitted may.core.within step;
  served = subst AreServed (sym (ap (λ (v : World). v.limits) (openings e.note.event w z e.by e.note.reply step))) may.core.served;
}

-- ---- how a core begins

no_entry : (before after : List (Entry Note)) (e : Entry Note) → [] ≡ before ++ e ∷ after → ⊥
no_entry [] after e is = cc
no_entry (x ∷ before) after e is = cc

pub opens_core : (M R : Type 0) (limits : Limits) (content : Option Contents) → (M → World) → (M → List (Entry Note)) → (Event → R → Note) → HistoriesAreSound M R → OpensWithinLimits → AreServed limits
    → IsCore (opening limits content) []
opens_core M R limits content world history note sound within served = record {
  sound = sound world history note limits content [] (opening limits content) (record { leads = refl; asked = λ before after e is. absurd (no_entry before after e is) });
  within = within limits content;
  served = served;
}
