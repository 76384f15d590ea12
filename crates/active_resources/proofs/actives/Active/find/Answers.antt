use Rattle.std.proofs.Common.{ap, ◌∙◌}
use Rattle.std.specs.List.{find}
use Rattle.active_resources.specs.Actives.{ActiveValue}
use Rattle.active_resources.specs.inside.Numbers.{has_key}
use Rattle.active_resources.proofs.Sets.{known-list, found-it, found-none}
use Rattle.active_resources.proofs.actives.Active.find.Goals as goal

pub first_with-requires : goal.first_with-requires
first_with-requires g c =
    record { known = known-list (g.R.KeyOf.keys c.args.keys.now) c.self.inside.numbers.items c.deref.result.now c.args.self.now.numbers (ap (λ (v : ActiveValue). v.numbers) c.self.view_is) c.deref.ensures.value c.requires.fits }

pub returns-clause-it : goal.returns-clause-it
returns-clause-it g c =
    let keys = g.R.KeyOf.keys c.args.keys.now in
    found-it c.same_key_is_equality.ensures keys c.args.key.now c.self.inside.numbers.items c.args.self.now.numbers (ap (λ (v : ActiveValue). v.numbers) c.self.view_is) c.requires.fits
    c.first_with.result (c.first_with.ensures ∙ ap (find (has_key keys c.args.key.now)) c.deref.ensures.value)

pub returns-clause-none : goal.returns-clause-none
returns-clause-none g c =
    let keys = g.R.KeyOf.keys c.args.keys.now in
    found-none c.same_key_is_equality.ensures keys c.args.key.now c.self.inside.numbers.items c.args.self.now.numbers (ap (λ (v : ActiveValue). v.numbers) c.self.view_is)
    c.first_with.result (c.first_with.ensures ∙ ap (find (has_key keys c.args.key.now)) c.deref.ensures.value)
