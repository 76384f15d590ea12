-- Further words in another order.
use Rattle.std.proofs.Common.{◌≡◌, ℕ, Bool, true, false, cond, List, [], ◌∷◌, ◌++◌, Some, None, refl, sym, ap, ◌∙◌}
use Rattle.std.specs.declared.option.Option.{Option}
use Rattle.std.specs.Option.{is_some}
use Rattle.script_lines.specs.declared.settings.Further.{Further}
use Rattle.script_lines.specs.declared.settings.Further.TheVariants as further
use Rattle.script_lines.specs.declared.settings.Settings.{Settings}
use Rattle.script_lines.specs.Options.{◌>>=◌}
use Rattle.script_lines.specs.Settings.{further_named, and_said, and_words, no_settings, settings_of, InAnyOrder}

-- two things of two kinds, of each of which it is tested whether it was said before
apart : (x y : Bool) (p q both : Settings) (f g : Settings → Option Settings) → f p ≡ cond y None (Some both) → g q ≡ cond x None (Some both)
    → (cond x None (Some p) >>= f) ≡ (cond y None (Some q) >>= g)
apart true true p q both f g e h = refl
apart true false p q both f g e h = sym h
apart false true p q both f g e h = e
apart false false p q both f g e h = e ∙ sym h

-- two things of one kind
alike : (x y : Bool) (p q : Settings) (f g : Settings → Option Settings) → f p ≡ None → g q ≡ None → (cond x None (Some p) >>= f) ≡ (cond y None (Some q) >>= g)
alike true true p q f g e h = refl
alike true false p q f g e h = sym h
alike false true p q f g e h = e
alike false false p q f g e h = e ∙ sym h

swap_said : (s : Settings) (a b : Further) → (and_said s a >>= λ s. and_said s b) ≡ (and_said s b >>= λ s. and_said s a)
swap_said s (further.Rule a) (further.Rule b) =
    alike (is_some s.rule) (is_some s.rule) (record s { rule = Some a }) (record s { rule = Some b }) (λ s. and_said s (further.Rule b)) (λ s. and_said s (further.Rule a)) refl refl
swap_said s (further.Rule a) (further.Priority b) =
    apart (is_some s.rule) (is_some s.priority) (record s { rule = Some a }) (record s { priority = Some b })
    (record s { rule = Some a; priority = Some b }) (λ s. and_said s (further.Priority b)) (λ s. and_said s (further.Rule a)) refl refl
swap_said s (further.Rule a) (further.Strategy b) =
    apart (is_some s.rule) (is_some s.strategy) (record s { rule = Some a }) (record s { strategy = Some b })
    (record s { rule = Some a; strategy = Some b }) (λ s. and_said s (further.Strategy b)) (λ s. and_said s (further.Rule a)) refl refl
swap_said s (further.Rule a) further.Skip =
    apart (is_some s.rule) s.skip (record s { rule = Some a }) (record s { skip = true })
    (record s { rule = Some a; skip = true }) (λ s. and_said s further.Skip) (λ s. and_said s (further.Rule a)) refl refl
swap_said s (further.Rule a) further.Cached =
    apart (is_some s.rule) s.cached (record s { rule = Some a }) (record s { cached = true })
    (record s { rule = Some a; cached = true }) (λ s. and_said s further.Cached) (λ s. and_said s (further.Rule a)) refl refl
swap_said s (further.Priority a) (further.Rule b) =
    apart (is_some s.priority) (is_some s.rule) (record s { priority = Some a }) (record s { rule = Some b })
    (record s { priority = Some a; rule = Some b }) (λ s. and_said s (further.Rule b)) (λ s. and_said s (further.Priority a)) refl refl
swap_said s (further.Priority a) (further.Priority b) =
    alike (is_some s.priority) (is_some s.priority) (record s { priority = Some a }) (record s { priority = Some b }) (λ s. and_said s (further.Priority b)) (λ s. and_said s (further.Priority a)) refl refl
swap_said s (further.Priority a) (further.Strategy b) =
    apart (is_some s.priority) (is_some s.strategy) (record s { priority = Some a }) (record s { strategy = Some b })
    (record s { priority = Some a; strategy = Some b }) (λ s. and_said s (further.Strategy b)) (λ s. and_said s (further.Priority a)) refl refl
swap_said s (further.Priority a) further.Skip =
    apart (is_some s.priority) s.skip (record s { priority = Some a }) (record s { skip = true })
    (record s { priority = Some a; skip = true }) (λ s. and_said s further.Skip) (λ s. and_said s (further.Priority a)) refl refl
swap_said s (further.Priority a) further.Cached =
    apart (is_some s.priority) s.cached (record s { priority = Some a }) (record s { cached = true })
    (record s { priority = Some a; cached = true }) (λ s. and_said s further.Cached) (λ s. and_said s (further.Priority a)) refl refl
swap_said s (further.Strategy a) (further.Rule b) =
    apart (is_some s.strategy) (is_some s.rule) (record s { strategy = Some a }) (record s { rule = Some b })
    (record s { strategy = Some a; rule = Some b }) (λ s. and_said s (further.Rule b)) (λ s. and_said s (further.Strategy a)) refl refl
swap_said s (further.Strategy a) (further.Priority b) =
    apart (is_some s.strategy) (is_some s.priority) (record s { strategy = Some a }) (record s { priority = Some b })
    (record s { strategy = Some a; priority = Some b }) (λ s. and_said s (further.Priority b)) (λ s. and_said s (further.Strategy a)) refl refl
swap_said s (further.Strategy a) (further.Strategy b) =
    alike (is_some s.strategy) (is_some s.strategy) (record s { strategy = Some a }) (record s { strategy = Some b }) (λ s. and_said s (further.Strategy b)) (λ s. and_said s (further.Strategy a)) refl refl
swap_said s (further.Strategy a) further.Skip =
    apart (is_some s.strategy) s.skip (record s { strategy = Some a }) (record s { skip = true })
    (record s { strategy = Some a; skip = true }) (λ s. and_said s further.Skip) (λ s. and_said s (further.Strategy a)) refl refl
swap_said s (further.Strategy a) further.Cached =
    apart (is_some s.strategy) s.cached (record s { strategy = Some a }) (record s { cached = true })
    (record s { strategy = Some a; cached = true }) (λ s. and_said s further.Cached) (λ s. and_said s (further.Strategy a)) refl refl
swap_said s further.Skip (further.Rule b) =
    apart s.skip (is_some s.rule) (record s { skip = true }) (record s { rule = Some b })
    (record s { skip = true; rule = Some b }) (λ s. and_said s (further.Rule b)) (λ s. and_said s further.Skip) refl refl
swap_said s further.Skip (further.Priority b) =
    apart s.skip (is_some s.priority) (record s { skip = true }) (record s { priority = Some b })
    (record s { skip = true; priority = Some b }) (λ s. and_said s (further.Priority b)) (λ s. and_said s further.Skip) refl refl
swap_said s further.Skip (further.Strategy b) =
    apart s.skip (is_some s.strategy) (record s { skip = true }) (record s { strategy = Some b })
    (record s { skip = true; strategy = Some b }) (λ s. and_said s (further.Strategy b)) (λ s. and_said s further.Skip) refl refl
swap_said s further.Skip further.Skip =
    alike s.skip s.skip (record s { skip = true }) (record s { skip = true }) (λ s. and_said s further.Skip) (λ s. and_said s further.Skip) refl refl
swap_said s further.Skip further.Cached =
    apart s.skip s.cached (record s { skip = true }) (record s { cached = true })
    (record s { skip = true; cached = true }) (λ s. and_said s further.Cached) (λ s. and_said s further.Skip) refl refl
swap_said s further.Cached (further.Rule b) =
    apart s.cached (is_some s.rule) (record s { cached = true }) (record s { rule = Some b })
    (record s { cached = true; rule = Some b }) (λ s. and_said s (further.Rule b)) (λ s. and_said s further.Cached) refl refl
swap_said s further.Cached (further.Priority b) =
    apart s.cached (is_some s.priority) (record s { cached = true }) (record s { priority = Some b })
    (record s { cached = true; priority = Some b }) (λ s. and_said s (further.Priority b)) (λ s. and_said s further.Cached) refl refl
swap_said s further.Cached (further.Strategy b) =
    apart s.cached (is_some s.strategy) (record s { cached = true }) (record s { strategy = Some b })
    (record s { cached = true; strategy = Some b }) (λ s. and_said s (further.Strategy b)) (λ s. and_said s further.Cached) refl refl
swap_said s further.Cached further.Skip =
    apart s.cached s.skip (record s { cached = true }) (record s { skip = true })
    (record s { cached = true; skip = true }) (λ s. and_said s further.Skip) (λ s. and_said s further.Cached) refl refl
swap_said s further.Cached further.Cached =
    alike s.cached s.cached (record s { cached = true }) (record s { cached = true }) (λ s. and_said s further.Cached) (λ s. and_said s further.Cached) refl refl

abbrev pub nothing : Settings → Option Settings
nothing s = None

none_behind : (o : Option Settings) → (o >>= nothing) ≡ None
none_behind None = refl
none_behind (Some s) = refl

grouped : (o : Option Settings) (f g : Settings → Option Settings) → (o >>= λ s. f s >>= g) ≡ ((o >>= f) >>= g)
grouped None f g = refl
grouped (Some s) f g = refl

-- two words, by what they say
two_words : (s : Settings) (a b : Option Further) (rest : Settings → Option Settings)
    → (a >>= λ x. and_said s x >>= λ s. b >>= λ y. and_said s y >>= rest) ≡ (b >>= λ y. and_said s y >>= λ s. a >>= λ x. and_said s x >>= rest)
two_words s None None rest = refl
two_words s None (Some y) rest = sym (none_behind (and_said s y))
two_words s (Some x) None rest = none_behind (and_said s x)
two_words s (Some x) (Some y) rest =
    grouped (and_said s x) (λ s. and_said s y) rest ∙ ap (λ o. o >>= rest) (swap_said s x y) ∙ sym (grouped (and_said s y) (λ s. and_said s x) rest)

behind : (s : Settings) (before : List (List ℕ)) (a b : List ℕ) (after : List (List ℕ)) → and_words s (before ++ a ∷ b ∷ after) ≡ and_words s (before ++ b ∷ a ∷ after)
behind s [] a b after = two_words s (further_named a) (further_named b) (λ s. and_words s after)
behind s (word ∷ before) a b after = λ i. further_named word >>= λ said. and_said s said >>= λ s. behind s before a b after i

pub in_any_order : InAnyOrder
in_any_order before a b after = behind no_settings before a b after
