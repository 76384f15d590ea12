use Rattle.std.proofs.Common.{◌≡◌, sym, ap, ◌∙◌, subst, Some, None, List, ℕ, refl}
use Rattle.std.specs.Prelude.{reverse}
use Rattle.std.specs.declared.option.Option.{Option}
use Rattle.std.specs.Option.{option_flatten}
use Rattle.disk_table.specs.UseOrder.{Entries, value_at, IsShort}
use Rattle.disk_table.specs.inside.Kept.{IsOrder}
use Rattle.disk_table.proofs.Entries.{found_has}
use Rattle.disk_table.proofs.Listed.{at_key}
use Rattle.disk_table.proofs.order.UseOrder.clean.Goals as goal

short_at : (listed : Entries (Option ℕ)) (cap size : ℕ) (key : List ℕ) → IsOrder listed cap size → IsShort (option_flatten (value_at key (reverse listed)))
short_at listed cap size key order = cases (value_at key (reverse listed)) refl where
  cases : (o : Option (Option ℕ)) → value_at key (reverse listed) ≡ o → IsShort (option_flatten o)
  cases None h = tt
  cases (Some v) h = found_has (λ e. IsShort e.1) key v (reverse listed) order.short h

pub returns-clause-length : goal.returns-clause-length
returns-clause-length c =
    c.flatten.ensures ∙ ap option_flatten (c.copied.ensures ∙ c.peek.ensures ∙ sym (at_key c.args.key.now c.self.inside.entries.entries c.self.invariant.once) ∙ ap (value_at c.args.key.now) c.self.view_is)

pub returns-clause-short : goal.returns-clause-short
returns-clause-short c =
    subst IsShort (sym (c.flatten.ensures ∙ ap option_flatten (c.copied.ensures ∙ c.peek.ensures ∙ sym (at_key c.args.key.now c.self.inside.entries.entries c.self.invariant.once))))
    (short_at c.self.inside.entries.entries c.self.inside.entries.cap c.self.inside.size c.args.key.now c.self.invariant)
