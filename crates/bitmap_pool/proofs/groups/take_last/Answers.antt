use Rattle.std.proofs.Common.{◌≡◌, ℕ, ◌+◌, ◌-◌, ◌<◌, true, false, Bool, List, length, drop, Some, slice_get, ap, sym, subst, ◌∙◌}
use Rattle.std.specs.List.{list_any, HoldsAt}
use Rattle.bitmap_kind.specs.Picture.{BitmapValue}
use Rattle.bitmap_pool.specs.inside.GroupsView.{is_of}
use Rattle.bitmap_pool.proofs.Lasts.{any_at, without_none, without_last_at, last_passing, filter_none}
use Rattle.bitmap_pool.proofs.groups.take_last.Goals as goal

-- a place of the last that passes
abbrev IsLast : (BitmapValue → Bool) → ℕ → List BitmapValue → Type 0
IsLast p i xs = (i < length xs) × HoldsAt (λ b. p b ≡ true) xs i × (list_any p (drop (i + 1) xs) ≡ false)

pub returns : goal.returns
returns c =
    let p : BitmapValue → Bool = is_of c.args.size c.args.config in
    let xs : List BitmapValue = c.args.bitmaps.now.items in
    let i : ℕ = c.in_ok-place.place in
    let last : IsLast p i xs = subst (IsLast p i) c.deref.ensures.value c.in_ok-place.ensures in
    record {
      value = ap Some c.remove.ensures.value ∙ sym (last_passing p xs i c.remove.result last.0 (last.1 c.remove.result) last.2);
      rest = c.remove.ensures.items ∙ without_last_at p xs i c.remove.result last.0 (last.1 c.remove.result) last.2;
      none = tt;
      some = any_at p xs i c.remove.result last.0 (last.1 c.remove.result);
      kind = ap p c.remove.ensures.value ∙ last.1 c.remove.result;
      room = c.remove.ensures.capacity;
    }

pub returns-in_err-place-clause-value : goal.returns-in_err-place-clause-value
returns-in_err-place-clause-value c =
    let p : BitmapValue → Bool = is_of c.args.size c.args.config in
    let none : list_any p c.args.bitmaps.now.items ≡ false = ap (list_any p) (sym c.deref.ensures.value) ∙ c.in_err-place.ensures in
    c.from_residual.ensures ∙ sym (ap (λ (l : List BitmapValue). slice_get l (length l - 1)) (filter_none p c.args.bitmaps.now.items none))

pub returns-in_err-place-clause-rest : goal.returns-in_err-place-clause-rest
returns-in_err-place-clause-rest c =
    let none : list_any (is_of c.args.size c.args.config) c.args.bitmaps.now.items ≡ false = ap (list_any (is_of c.args.size c.args.config)) (sym c.deref.ensures.value) ∙ c.in_err-place.ensures in
    sym (without_none (is_of c.args.size c.args.config) c.args.bitmaps.now.items none)
