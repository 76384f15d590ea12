-- A seat's knowledge after an entry.
use Rattle.std.proofs.Common.{◌≡◌, ◌≢◌, ℕ, true, false, cond, eqb, refl, sym, subst}
use Rattle.std.proofs.lemmas.Bool.{eqb-true, eqb-false}
use Rattle.engine_world.specs.declared.events.Event.{Event}
use Rattle.engine_world.specs.declared.events.NotedReply.{NotedReply}
use Rattle.engine_world.specs.Knowledge.{Knowledge, updated, knowledge_with}

-- what holds of each seat's knowledge, where it stays for the others and is so for the caller
pub at_each_seat : (P : ℕ → Knowledge → Type 0) (known : ℕ → Knowledge) (who : ℕ) (event : Event) (reply : NotedReply)
    → ((k : ℕ) → k ≢ who → P k (known k)) → P who (updated event reply (known who)) → (k : ℕ) → P k (knowledge_with known who event reply k)
unfolding knowledge_with
at_each_seat P known who event reply others mine k =
    elim (eqb who k) as (λ b. eqb who k ≡ b → P k (cond b (updated event reply (known k)) (known k))) [
      | true ↦ λ e. subst (λ i. P i (updated event reply (known i))) (eqb-true who k e) mine
      | false ↦ λ e. others k (λ is. eqb-false who k e (sym is))
    ] refl
