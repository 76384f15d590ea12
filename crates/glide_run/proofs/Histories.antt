-- What was added to a history, part by part.
use Rattle.std.proofs.Common.{◌≡◌, ℕ, List, [], ◌∷◌, ◌++◌, refl, ap, sym, subst, ◌∙◌, append_assoc, append-nil}
use Rattle.std.specs.Prelude.{⊤}
use Rattle.state_machine.specs.declared.entry.Entry.{Entry}
use Rattle.engine_world.specs.declared.events.Note.{Note}
use Rattle.engine_shared.specs.Caller.{Caller}
use Rattle.script_walk.specs.Walk.{Begin, TraceEvent}
use Rattle.fetch_bounds.specs.Follows as followed
use Rattle.fetch_bounds.specs.Parts.{begins_after, TracesJoin}
use Rattle.engine_views.specs.Held.{Held}
use Rattle.engine_views.specs.Owner.{Adds}
use Rattle.glide_run.specs.inside.Looks.{Asks}

pub adds_none : (c : Caller) (begun : List Begin) → Adds c c begun []
adds_none c begun = record { later = []; seen = sym (append-nil c.seen); follows = tt; opening = refl }

pub adds_as : (old new : Caller) (begun : List Begin) (xs ys : List TraceEvent) → xs ≡ ys → Adds old new begun xs → Adds old new begun ys
adds_as old new begun xs ys e p = subst (Adds old new begun) e p

module _ (join : TracesJoin) where
  pub adds_then : (a b c : Caller) (begun : List Begin) (xs ys : List TraceEvent) → Adds a b begun xs → Adds b c (begins_after begun xs) ys → Adds a c begun (xs ++ ys)
  adds_then a b c begun xs ys p q = record {
    later = p.later ++ q.later;
    seen = q.seen ∙ ap (λ l. l ++ q.later) p.seen ∙ append_assoc a.seen p.later q.later;
    follows = join begun xs ys p.later q.later p.follows q.follows;
    opening = q.opening ∙ p.opening;
  }

-- what was asked of the engine is what these events ask
pub asked_adds : (held : Held) (old new : Caller) (begun : List Begin) (events : List TraceEvent) → Asks held (followed.Follows begun events) old new → Adds old new begun events
asked_adds held old new begun events p = record { later = p.later; seen = p.seen; follows = p.are; opening = p.opening }

pub work_adds : (held : Held) (old new : Caller) (begun : List Begin) → Asks held followed.AllWork old new → Adds old new begun []
work_adds held old new begun p = record { later = p.later; seen = p.seen; follows = p.are; opening = p.opening }
