-- Steps of a caller, one after the other.
use Rattle.std.proofs.Common.{◌≡◌, List, [], ◌∷◌, ◌++◌, refl, ap, subst, ◌∙◌}
use Rattle.store_world.specs.declared.events.Note.{Note}
use Rattle.store_world.specs.World.{World}
use Rattle.store_shared.specs.Caller.{Caller, content_of, IsStep, AreSteps}

pub one_step : (a b : Caller) (note : Note) → IsStep a note b → AreSteps a (note ∷ []) b
one_step a b note step = (b, step, refl)

pub two_steps : (a b c : Caller) (first second : Note) → IsStep a first b → IsStep b second c → AreSteps a (first ∷ second ∷ []) c
two_steps a b c first second one two = (b, one, one_step b c second two)

pub joined : (a b c : Caller) (first second : List Note) → AreSteps a first b → AreSteps b second c → AreSteps a (first ++ second) c
joined a b c [] second one two = subst (λ (x : Caller). AreSteps x second c) one two
joined a b c (note ∷ first) second one two = (one.0, one.1, joined one.0 b c first second one.2 two)

pub same_content : (a b : Caller) (note : Note) → IsStep a note b → content_of b ≡ content_of a
same_content a b note step = ap (λ (w : World). w.content) step.opening

pub content_along : (a b : Caller) (notes : List Note) → AreSteps a notes b → content_of b ≡ content_of a
content_along a b [] same = ap content_of same
content_along a b (note ∷ notes) steps = content_along steps.0 b notes steps.2 ∙ same_content a steps.0 note steps.1
