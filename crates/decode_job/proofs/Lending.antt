-- The bitmaps of a job.
use Rattle.std.proofs.Common.{◌≡◌, ℕ, cond, List, [], ◌∷◌, ap, sym, ◌∙◌}
use Rattle.std.specs.Prelude.{not}
use Rattle.std.proofs.lemmas.Bool.{eq-eqb}
use Rattle.bitmap_kind.specs.Picture.{BitmapValue}
use Rattle.engine_world.specs.declared.events.Lent.{Lent}
use Rattle.engine_world.specs.Moves.{without_lent}
use Rattle.engine_world.specs.Permits.{IsResult}

drops : (b : ℕ) (lent : Lent) (out : List Lent) → lent.number ≡ b → without_lent b (lent ∷ out) ≡ without_lent b out
drops b lent out e = ap (λ t. cond (not t) (lent ∷ without_lent b out) (without_lent b out)) (eq-eqb lent.number b e)

-- No bitmap is left, where the only one is given back.
pub none_left : (first : BitmapValue) (out : List Lent) → IsResult first out → without_lent first.number out ≡ []
none_left first out is = ap (without_lent first.number) is.only ∙ drops first.number is.lent [] (sym is.same.number)
