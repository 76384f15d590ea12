-- What a seat knows after an entry, for the tests.
use Rattle.std.proofs.Common.{◌≡◌, ◌≢◌, ℕ, ◌+◌, ◌≤◌, cond, List, [], ◌∷◌, ◌++◌, refl, ap, sym, ◌∙◌, arith}
use Rattle.std.proofs.lemmas.Bool.{eq-eqb, ne_eqb}
use Rattle.cache_key.specs.declared.load_spec.LoadSpec.{LoadSpec}
use Rattle.state_machine.specs.declared.entry.Entry.{Entry}
use Rattle.state_machine.specs.Laws.{OwnEntriesAppend}
use Rattle.engine_world.specs.declared.events.Event.TheVariants as events
use Rattle.engine_world.specs.declared.events.NotedReply.{NotedReply}
use Rattle.engine_world.specs.declared.events.NotedReply.TheVariants as replies
use Rattle.engine_world.specs.declared.events.Note.{Note}
use Rattle.engine_world.specs.Knowledge as knowledge
use Rattle.engine_world.specs.Knowledge.{Knowledge, updated, knowledge_in, knowledge_with}
use Rattle.engine_core.proofs.Stepping.{knows_more}

-- a load counts at most one more, and leaves the job
pub load_begun : (known : Knowledge) (spec : LoadSpec) (reply : NotedReply) → (updated (events.Load spec) reply known).begun ≤ known.begun + 1
load_begun known spec replies.Full = omega arith
load_begun known spec replies.Ready = omega arith
load_begun known spec reply = omega arith

pub load_job : (known : Knowledge) (spec : LoadSpec) (reply : NotedReply) → (updated (events.Load spec) reply known).job ≡ known.job
load_job known spec replies.Full = refl
load_job known spec replies.Ready = refl
load_job known spec reply = refl

module _ (appends : OwnEntriesAppend Note) (past now : List (Entry Note)) (e : Entry Note) (is : now ≡ past ++ e ∷ []) where
  -- the seat's own knowledge is updated
  pub own_known : knowledge_in now e.by ≡ updated e.note.event e.note.reply (knowledge_in past e.by)
  unfolding knowledge.knowledge_with
  own_known =
      ap (λ h. knowledge_in h e.by) is ∙ sym (knows_more appends past e e.by)
      ∙ ap (λ b. cond b (updated e.note.event e.note.reply (knowledge_in past e.by)) (knowledge_in past e.by)) (eq-eqb e.by e.by refl)

  -- and that of others stays
  pub other_known : (k : ℕ) → e.by ≢ k → knowledge_in now k ≡ knowledge_in past k
  unfolding knowledge.knowledge_with
  other_known k other =
      ap (λ h. knowledge_in h k) is ∙ sym (knows_more appends past e k)
      ∙ ap (λ b. cond b (updated e.note.event e.note.reply (knowledge_in past k)) (knowledge_in past k)) (ne_eqb e.by k other)
