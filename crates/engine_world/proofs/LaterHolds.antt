-- A load that is ready stays so through a history.
use Rattle.std.proofs.Common.{◌≡◌, ℕ, List, [], ◌∷◌, ◌++◌, Option, refl, ap, sym, subst, ◌∙◌}
use Rattle.std.proofs.lemmas.List.{append_assoc}
use Rattle.outside.specs.Content.{Contents}
use Rattle.state_machine.specs.declared.entry.Entry.{Entry}
use Rattle.state_machine.specs.Legal.{Leads}
use Rattle.load_table.specs.Loads.{LoadName}
use Rattle.engine_world.specs.declared.events.Event.{Event}
use Rattle.engine_world.specs.declared.events.Note.{Note}
use Rattle.engine_world.specs.World.{Resource, Limits, World, opening}
use Rattle.engine_world.specs.Knowledge.{knowledge_in}
use Rattle.engine_world.specs.Sound.{Sound}
use Rattle.engine_world.specs.EngineMachine.{engine_machine}
use Rattle.engine_world.specs.Laws.{IsHold, NoRelease, AlwaysHeld}
use Rattle.engine_world.proofs.Always.{AllMay, may_later, may_first, always_sound, history_law}
use Rattle.engine_world.proofs.Fixed.{fixed_law}
use Rattle.engine_world.proofs.Holds.{hold_law}

module _ {M Reply : Type 0} (world : M → World) (history : M → List (Entry Note)) (note : Event → Reply → Note) where
  module _ (limits : Limits) (content : Option Contents) (load : LoadName) (r : ℕ) (resource : Resource) where
    held_later : (past later : List (Entry Note)) (w z : World) → w.limits ≡ limits → w.content ≡ content → Sound w (knowledge_in past) → Leads (engine_machine world history note) w later z
        → AllMay world history note limits content past later → IsHold w load r resource → NoRelease load later → IsHold z load r resource
    held_later past [] w z lim con s leads may hold none = subst (λ v. IsHold v load r resource) leads hold
    held_later past (e ∷ later) w z lim con s leads may hold none =
        let first = may_first world history note limits content past e later w lim con may in
        let fixed = fixed_law w leads.0 e.by e.note.event e.note.reply leads.1 in
        let now = hold_law e.note.event w leads.0 (knowledge_in past) e.by e.note.reply first.0 s first.1 leads.1 load r resource hold (none [] later e refl) in
        held_later (past ++ e ∷ []) later leads.0 z (fixed.0 ∙ lim) (fixed.1 ∙ con) (history_law w leads.0 past e first.0 s first.1 leads.1) leads.2 (may_later world history note limits content past e later may) now
        (λ xs ys d is. none (e ∷ xs) ys d (ap (λ l. e ∷ l) is))

  -- the limits and the content of a state that a history leads to
  fixed_along : (w z : World) (past : List (Entry Note)) → Leads (engine_machine world history note) w past z → (z.limits ≡ w.limits) × (z.content ≡ w.content)
  fixed_along w z [] leads = (ap (λ (v : World). v.limits) (sym leads), ap (λ (v : World). v.content) (sym leads))
  fixed_along w z (e ∷ rest) leads =
      let first = fixed_law w leads.0 e.by e.note.event e.note.reply leads.1 in
      let then = fixed_along leads.0 z rest leads.2 in
      (then.0 ∙ first.0, then.1 ∙ first.1)

  pub always_held : AlwaysHeld world history note
  always_held limits content past later w z legal whole leads load r resource hold none =
      let fixed = fixed_along (opening limits content) w past legal.leads in
      held_later limits content load r resource past later w z fixed.0 fixed.1 (always_sound world history note limits content past w legal) leads
      (λ xs ys e is. whole.asked (past ++ xs) ys e (ap (λ l. past ++ l) is ∙ sym (append_assoc past xs (e ∷ ys)))) hold none
