-- What a call has done, put together.
use Rattle.std.proofs.Common.{◌≡◌, ℕ, ◌+◌, ◌%◌, ◌<◌, ◌≤◌, ◌==◌, true, List, [], ◌∷◌, ◌++◌, length, Option, refl, sym, ap, ◌∙◌, subst, arith, length-append, eq-eqb}
use Rattle.atomic_table.specs.Table.{Step}
use Rattle.state_machine.specs.declared.entry.Entry.{Entry}
use Rattle.state_machine.specs.declared.machine.Machine.{Ghosts}
use Rattle.state_machine.specs.Histories.{own}
use Rattle.state_machine.specs.Laws.{HistoriesGrow, OwnEntriesAppend}
use Rattle.turn_lock.specs.declared.view.View.{View}
use Rattle.turn_lock.specs.inside.Views.{lap, word_of, with_ticket, with_known, with_turn, without_ticket}
use Rattle.turn_lock.specs.inside.Rule.{IsAt}
use Rattle.turn_lock.specs.inside.Steps.{Holder, LearnsLength, HasTurn, LooksForTurn}
use Rattle.turn_lock.proofs.Words.{word-next}
use Rattle.turn_lock.proofs.Histories.{own_same, own_between}

module _ {M Event Reply Note : Type 0} (machine : Ghosts M Event Reply Note) where
  -- the seat's ticket was found in word 1
  pub found_turn : (v : View M Note) (k ticket found : ℕ) (m n : Holder M Note) (st : Step (Option M)) → m ≡ (with_known v k, []) → found ≡ ticket → ticket ≡ word_of v.first_ticket v.ticket
      → LooksForTurn machine st m found n → HasTurn machine v n
  found_turn v k ticket found m n st e f t told =
      let told' = subst (λ (x : Holder M Note). LooksForTurn machine st x found n) e told in
      let hit : (found == word_of v.first_ticket v.ticket) ≡ true = eq-eqb found (word_of v.first_ticket v.ticket) (f ∙ t) in
      let h = rw hit at told' in
      record { past = h.past; holds = h.holds; view = h.view; held = h.held; turn = h.turn; begins = h.begins; own = h.own; at = h.at; number = h.number }

  -- the machine has made a step from where the history led
  pub steps_on : (grows : HistoriesGrow machine) (start before after : M) (past : List (Entry Note)) (e : Entry Note) → IsAt machine start before past
      → machine.opening after ≡ machine.opening before → machine.history after ≡ machine.history before ++ e ∷ []
      → e.by < machine.seats (machine.opening start) → machine.asked (machine.opening before) e.by (own e.by (machine.history before)) e.note → machine.steps (machine.world before) e (machine.world after)
      → IsAt machine start after (past ++ e ∷ [])
  steps_on grows start before after past e at opening history seat asked step = record {
    history = history ∙ ap (λ l. l ++ e ∷ []) at.history;
    opening = opening ∙ at.opening;
    legal = grows (machine.opening start) (machine.world before) (machine.world after) past e at.legal
        record { seat = seat; asked = subst (λ l. machine.asked (machine.opening start) e.by (own e.by l) e.note) at.history (subst (λ o. machine.asked o e.by (own e.by (machine.history before)) e.note) at.opening asked) } step;
  }

  module _ (v : View M Note) (t : ℕ) (me1 me2 me3 : Holder M Note) (e : Entry Note) (taken : me1 ≡ (with_ticket v t, [])) (turn : HasTurn machine me1.0 me2) (passed : me3 ≡ (without_ticket me2.0 (me2.0.seen ++ e ∷ []), [])) where
    pub had : HasTurn machine (with_ticket v t) me2
    had = subst (λ (x : View M Note). HasTurn machine x me2) (ap (λ (y : Holder M Note). y.0) taken) turn

    pub after : me3.0 ≡ without_ticket (with_turn (with_ticket v t) had.past) (had.past ++ e ∷ [])
    after = ap (λ (y : Holder M Note). y.0) passed ∙ ap (λ (x : View M Note). without_ticket x (x.seen ++ e ∷ [])) had.view

    -- the word after the ticket's is that of the length
    pub reached : (ticket new : ℕ) → ticket ≡ word_of v.first_ticket t → new ≡ (ticket + 1) % lap → new ≡ word_of me3.0.first_ticket (length me3.0.seen)
    reached ticket new at is =
        let turn : t ≡ length had.past = had.turn in
        let long : t + 1 ≡ length (had.past ++ e ∷ []) = omega (arith, length-append had.past (e ∷ [])) in
        is ∙ (ap (λ n. (n + 1) % lap) at ∙ (word-next v.first_ticket t ∙ (ap (λ n. word_of v.first_ticket n) long ∙ sym (ap (λ (x : View M Note). word_of x.first_ticket (length x.seen)) after))))

    pub known : me3.0.known ≡ length me3.0.seen
    known = subst (λ (x : View M Note). x.known ≡ length x.seen) (sym after) refl

    pub seen_is : me3.0.seen ≡ (v.seen ++ had.begins.0) ++ e ∷ []
    seen_is = ap (λ (x : View M Note). x.seen) after ∙ ap (λ (l : List (Entry Note)). l ++ e ∷ []) (sym had.begins.1)

    module _ (appends : OwnEntriesAppend Note) where
      pub none_missed : own v.number had.begins.0 ≡ []
      none_missed = own_between appends v.number v.seen had.past had.begins had.own

      pub own_after : e.by ≡ v.number → own v.number me3.0.seen ≡ own v.number v.seen ++ e ∷ []
      own_after by = ap (λ (x : View M Note). own v.number x.seen) after ∙ (own_same appends v.number had.past e by ∙ ap (λ l. l ++ e ∷ []) had.own)

-- a word that is not that of the length that was seen is that of a longer history
pub longer : {M N : Type 0} (v : View M N) (k reached found : ℕ) (m n : Holder M N) (st : Step (Option M)) → m ≡ (with_known v k, []) → length v.seen ≤ k → reached ≡ word_of v.first_ticket (length v.seen) → (found ≡ reached → ⊥) → LearnsLength st m found n
    → (l : ℕ) × (length v.seen < l) × (n ≡ (with_known v l, []))
longer {M} {N} v k reached found m n st e long is other r =
    let r' : LearnsLength st (with_known v k, []) found n = subst (λ (x : Holder M N). LearnsLength st x found n) e r in
    (r'.0, above (length v.seen) k r'.0 long r'.1.above (λ same. other (r'.1.shown ∙ (ap (λ n. word_of v.first_ticket n) (sym same) ∙ sym is))), r'.2)
  where
    above : (a k l : ℕ) → a ≤ k → k ≤ l → (a ≡ l → ⊥) → a < l
    above a k l p q ne = omega (arith, ne)
