-- What of a script is obeyed, and what is still asked for.
use Rattle.std.proofs.Common.{◌≡◌, ℕ, Bool, true, false, cond, List, [], ◌∷◌, ◌++◌, Some, None, Option, Ok, Err, Result, refl, ap, sym, subst, ◌∙◌, append_assoc, append-nil}
use Rattle.std.specs.Prelude.{⊤, not, ◌||◌, IfSome}
use Rattle.std.specs.List.{list_any}
use Rattle.std.specs.Option.{option_map}
use Rattle.std.proofs.lemmas.List.Folds.{list_any-append}
use Rattle.script_lines.specs.declared.commands.Command.{Command}
use Rattle.script_lines.specs.Script.{Numbered, Script, with_first, script_of}
use Rattle.script_lines.specs.Reading.{no_more, bad_at, IsNext}
use Rattle.glide_run.specs.Built.{is_built, built_from, built}
use Rattle.glide_run.specs.inside.Running.{with_all, IsSplit, AreBuilt}

-- ---- what is built

pub both_false : (a b : Bool) → (a || b) ≡ false → (a ≡ false) × (b ≡ false)
both_false true b e = cc
both_false false b e = (refl, e)

pub not_false : (b : Bool) → not b ≡ false → b ≡ true
not_false true e = refl
not_false false e = cc

-- Commands that are built stay before what is built of the others.
pub built_behind : (done : List Numbered) (rest : Script) → AreBuilt done → built (with_all done rest) ≡ with_all done (built rest)
built_behind [] rest are = refl
built_behind (first ∷ done) rest are =
    let parts = both_false (not (is_built first.command)) (list_any (λ (x : Numbered). not (is_built x.command)) done) are in
    let more = with_first first (built_from (done ++ rest.commands) rest.bad) in
    let stop = bad_at first.line in
    ap (λ t. cond t more stop) (not_false (is_built first.command) parts.0) ∙ ap (with_first first) (built_behind done rest parts.1)

pub are_built : (commands : List Numbered) (bad : Option ℕ) → AreBuilt (built_from commands bad).commands
are_built [] bad = refl
are_built (first ∷ others) bad = elim (is_built first.command) as (λ t. is_built first.command ≡ t → AreBuilt (cond t (with_first first (built_from others bad)) (bad_at first.line)).commands) [
  | true ↦ λ e. (λ i. not (e i) || are_built others bad i)
  | false ↦ λ e. refl
] refl

pub built_append : (xs ys : List Numbered) → AreBuilt xs → AreBuilt ys → AreBuilt (xs ++ ys)
built_append xs ys hx hy = list_any-append (λ (x : Numbered). not (is_built x.command)) xs ys ∙ (λ i. hx i || hy i)

pub built_one : (first : Numbered) → is_built first.command ≡ true → AreBuilt (first ∷ [])
built_one first e = λ i. not (e i) || false

pub built_first : (first : Numbered) (rest : Script) → is_built first.command ≡ true → built (with_first first rest) ≡ with_first first (built rest)
built_first first rest e = ap (λ t. cond t (with_first first (built rest)) (bad_at first.line)) e

pub unbuilt_first : (first : Numbered) (rest : Script) → is_built first.command ≡ false → built (with_first first rest) ≡ bad_at first.line
unbuilt_first first rest e = ap (λ t. cond t (with_first first (built rest)) (bad_at first.line)) e

-- ---- what is left

pub rest_of : Option Script → Script
rest_of None = no_more
rest_of (Some rest) = rest

-- Where the whole is known it is these commands and this rest.
abbrev pub IsWhole : Option Script → List Numbered → Script → Type 0
IsWhole whole done rest = IfSome whole (λ script. script ≡ with_all done rest)

pub split_start : (left : Option (List ℕ)) (ahead : Option Script) → ahead ≡ option_map script_of left → IsSplit (option_map script_of left) [] ahead
split_start None ahead e = tt
split_start (Some text) ahead e = subst (λ a. IsSplit (Some (script_of text)) [] a) (sym e) refl

pub split_left : (whole before : Option Script) (done : List Numbered) → IsSplit whole done before → IsWhole whole done (rest_of before)
unfolding rest_of
split_left None before done p = tt
split_left (Some script) None done p = absurd p
split_left (Some script) (Some rest) done p = p

pub split_is : (whole before : Option Script) (done : List Numbered) (rest : Script) → IfSome before (λ script. script ≡ rest) → IsSplit whole done before → IsWhole whole done rest
split_is None before done rest e p = tt
split_is (Some script) None done rest e p = absurd p
split_is (Some script) (Some left) done rest e p = p ∙ ap (with_all done) e

pub split_next : (whole before after : Option Script) (done : List Numbered) (first : Numbered) → IsNext before first after → IsSplit whole done before → IsWhole whole done (with_first first (rest_of after))
unfolding rest_of
split_next None before after done first n p = tt
split_next (Some script) None after done first n p = absurd p
split_next (Some script) (Some old) None done first n p = absurd n
split_next (Some script) (Some old) (Some new) done first n p = p ∙ ap (with_all done) n

pub split_more : (whole before after : Option Script) (done : List Numbered) (first : Numbered) → IsNext before first after → IsSplit whole done before → IsSplit whole (done ++ first ∷ []) after
split_more None before after done first n p = tt
split_more (Some script) None after done first n p = absurd p
split_more (Some script) (Some old) None done first n p = absurd n
split_more (Some script) (Some old) (Some new) done first n p =
    p ∙ ap (with_all done) n ∙ ap (λ l. let s : Script = record { commands = l; bad = new.bad } in s) (sym (append_assoc done (first ∷ []) new.commands))

-- the script that is obeyed: what of the whole is built
pub script_is : (left : Option (List ℕ)) (done : List Numbered) (rest : Script) → AreBuilt done → IsWhole (option_map script_of left) done rest
    → IfSome left (λ text. with_all done (built rest) ≡ built (script_of text))
script_is None done rest are p = tt
script_is (Some text) done rest are p = sym (built_behind done rest are) ∙ ap built (sym p)
