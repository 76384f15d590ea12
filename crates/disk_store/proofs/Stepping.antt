-- A step that was made and added to the history leaves a store.
use Rattle.std.proofs.Common.{◌≡◌, ℕ, true, false, cond, eqb, List, [], ◌∷◌, ◌++◌, Some, Option, refl, ap, sym, subst, ◌∙◌}
use Rattle.outside.specs.Content.{Contents}
use Rattle.outside.specs.Files.{FolderHistory, passed_through}
use Rattle.state_machine.specs.declared.entry.Entry.{Entry}
use Rattle.state_machine.specs.Histories.{own}
use Rattle.state_machine.specs.Laws.{OwnEntriesAppend}
use Rattle.store_world.specs.declared.events.StoreEvent.{StoreEvent}
use Rattle.store_world.specs.declared.events.Note.{Note}
use Rattle.store_world.specs.Right.{OffersRight, HoldsRight, HoldsRightIn}
use Rattle.store_world.specs.World.{World}
use Rattle.store_world.specs.Steps.{Transition}
use Rattle.store_world.specs.Knowledge as knowledge
use Rattle.store_world.specs.Knowledge.{Knowledge, no_knowledge, updated, updated_by, learned, knowledge_in, knowledge_with}
use Rattle.store_world.specs.Sound.{Sound}
use Rattle.store_world.specs.StoreMachine.{IsOpening, BeganRight}
use Rattle.store_world.specs.Laws.{KeepsSound, KeepsSettings, KeepsOff, KeepsRight}
use Rattle.store_world.specs.Histories.{HistoriesAreRight}
use Rattle.disk_store.specs.StoreView.{MayStep}
use Rattle.disk_store.specs.Kept.{IsStore}
use Rattle.disk_store.proofs.Joining.{runs_join}

-- what entries teach, one after the other
updated_append : (known : Knowledge) (xs ys : List (Entry Note)) → updated_by known (xs ++ ys) ≡ updated_by (updated_by known xs) ys
updated_append known [] ys = refl
updated_append known (e ∷ xs) ys = updated_append (updated e.note.event e.note.reply known) xs ys

-- what a seat knows with one entry more
knows_more : OwnEntriesAppend Note → (past : List (Entry Note)) (e : Entry Note) (k : ℕ) → knowledge_with (knowledge_in past) e.by e.note.event e.note.reply k ≡ knowledge_in (past ++ e ∷ []) k
unfolding knowledge.knowledge_with
knows_more appends past e k =
    elim (eqb e.by k) as (λ b. cond b (updated e.note.event e.note.reply (learned (own k past))) (learned (own k past)) ≡ updated_by (learned (own k past)) (cond b (e ∷ []) [])) [ true ↦ refl | false ↦ refl ]
    ∙ sym (updated_append no_knowledge (own k past) (own k (e ∷ [])))
    ∙ ap (updated_by no_knowledge) (sym (appends k past (e ∷ [])))

-- a world is sound by what seats know, however that is told
sound_with : (w : World) (f g : ℕ → Knowledge) → ((k : ℕ) → f k ≡ g k) → Sound w f → Sound w g
sound_with w f g same s = record {
  seated = s.seated;
  seats = s.seats;
  orderly = s.orderly;
  holding = s.holding;
  edits_agree = s.edits_agree;
  once = s.once;
  files = s.files;
  right = s.right;
  off = s.off;
  known_is = λ k. sym (same k) ∙ s.known_is k;
}

pub stays_store : (before : Option FolderHistory) (opening w z : World) (past : List (Entry Note)) (e : Entry Note) → OwnEntriesAppend Note → ((event : StoreEvent) → KeepsSound event) → ((event : StoreEvent) → KeepsSettings event) → ((event : StoreEvent) → KeepsOff event) → ((event : StoreEvent) → KeepsRight event)
    → IsStore before opening w past → MayStep w past e.by e.note.event → Transition w e.by e.note.event e.note.reply z → IsStore before opening z (past ++ e ∷ [])
stays_store before opening w z past e appends sounds settings offs rights store may step =
    let same = settings e.note.event w z e.by e.note.reply step in
    record {
      opens = store.opens;
      began_right = store.began_right;
      settings = record {
        off = same.off ∙ store.settings.off;
        content = same.content ∙ store.settings.content;
        maximum = same.maximum ∙ store.settings.maximum;
      };
      sound = sound_with z (knowledge_with (knowledge_in past) e.by e.note.event e.note.reply) (knowledge_in (past ++ e ∷ [])) (knows_more appends past e)
          (sounds e.note.event w z (knowledge_in past) e.by e.note.reply may.served may.sound may.permitted step);
      right = λ began content told h is.
          let was : w.content ≡ Some content = sym same.content ∙ told in
          let runs = store.right began content was h is in
          let holds : HoldsRight content w.disk.cache.history = record { history = passed_through runs.contents h; known = runs.after_is; right = runs.here } in
          runs_join (OffersRight content) h w.disk.cache.history z.disk.cache.history runs
          (rights e.note.event content w z (knowledge_in past) e.by e.note.reply was holds may.sound may.permitted step);
      untouched = λ off.
          let was = sym same.off ∙ off in
          offs e.note.event w z (knowledge_in past) e.by e.note.reply may.sound was step ∙ store.untouched was;
    }

-- ---- how a store begins

no_entry : (before after : List (Entry Note)) (e : Entry Note) → [] ≡ before ++ e ∷ after → ⊥
no_entry [] after e is = cc
no_entry (x ∷ before) after e is = cc

pub opens_store : (M : Type 0) (before : Option FolderHistory) (w : World)
    → ((content : Option Contents) (before : Option FolderHistory) (w : World) → IsOpening content before w → BeganRight content before w → Sound w (λ who. no_knowledge))
    → HistoriesAreRight M → IsOpening w.content before w → BeganRight w.content before w → IsStore before w w []
opens_store M before w sounds rights opens began = record {
  opens = opens;
  began_right = began;
  settings = record { off = refl; content = refl; maximum = refl };
  sound = sounds w.content before w opens began;
  right = λ holds content told.
      rights (λ m. w) (λ m. w) (λ m. []) content before w w [] (subst (λ o. IsOpening o before w) told opens) (subst (λ o. HoldsRightIn o before) told holds)
      (record { leads = refl; asked = λ xs ys e is. absurd (no_entry xs ys e is) });
  untouched = λ off. refl;
}
