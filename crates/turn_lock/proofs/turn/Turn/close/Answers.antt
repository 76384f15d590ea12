use Rattle.std.proofs.Common.{◌∙◌, sym, ap, subst, refl, Option}
use Rattle.std.specs.Option.{IsSome}
use Rattle.std.specs.Slots.{slots_items}
use Rattle.turn_lock.specs.Turns.{TurnState}
use Rattle.turn_lock.proofs.Gathered.{Returned, taken_is, returned, all_seats}
use Rattle.turn_lock.proofs.turn.Turn.close.Goals as goal

pub unwrap-machine-requires : goal.unwrap-machine-requires
unwrap-machine-requires g c =
    let t = c.self.inside.table.shared in let token = c.join_seats-token.result in let joined = c.join_seats-token.ensures in
    let some = taken_is g.M.Machine t.key token.id token.me.0 (slots_items c.close_with-closed.result.words) (slots_items c.close_with-closed.result.slots) c.take.result c.args.seats.items
    joined.idle.0 (c.requires.all ∙ all_seats c.args.self.seats c.self.inside.seats t.key.seats (ap (λ s. s.seats) c.self.view_is) c.self.invariant.seats_is) joined.all c.close_with-closed.ensures.values.2 c.take.ensures.value in
    subst (λ (o : Option g.row.M.Denot). IsSome o) (sym some) refl

pub returns-clause-opening : goal.returns-clause-opening
returns-clause-opening g c =
    let t = c.self.inside.table.shared in let token = c.join_seats-token.result in let joined = c.join_seats-token.ensures in
    let back = returned g.M.Machine t.key token.id token.me.0 (slots_items c.close_with-closed.result.words) (slots_items c.close_with-closed.result.slots) c.take.result c.args.seats.items
    joined.idle.0 (c.requires.all ∙ all_seats c.args.self.seats c.self.inside.seats t.key.seats (ap (λ s. s.seats) c.self.view_is) c.self.invariant.seats_is) joined.all c.close_with-closed.ensures.values.2 c.take.ensures.value c.unwrap-machine.result c.unwrap-machine.ensures in
    (subst (λ (s : TurnState g.row.M.Denot). Returned g.M.Machine s.start c.unwrap-machine.result c.args.seats.items) c.self.view_is back).opening

pub returns-clause-legal : goal.returns-clause-legal
returns-clause-legal g c =
    let t = c.self.inside.table.shared in let token = c.join_seats-token.result in let joined = c.join_seats-token.ensures in
    let back = returned g.M.Machine t.key token.id token.me.0 (slots_items c.close_with-closed.result.words) (slots_items c.close_with-closed.result.slots) c.take.result c.args.seats.items
    joined.idle.0 (c.requires.all ∙ all_seats c.args.self.seats c.self.inside.seats t.key.seats (ap (λ s. s.seats) c.self.view_is) c.self.invariant.seats_is) joined.all c.close_with-closed.ensures.values.2 c.take.ensures.value c.unwrap-machine.result c.unwrap-machine.ensures in
    (subst (λ (s : TurnState g.row.M.Denot). Returned g.M.Machine s.start c.unwrap-machine.result c.args.seats.items) c.self.view_is back).legal

pub returns-clause-seen : goal.returns-clause-seen
returns-clause-seen g c =
    let t = c.self.inside.table.shared in let token = c.join_seats-token.result in let joined = c.join_seats-token.ensures in
    let back = returned g.M.Machine t.key token.id token.me.0 (slots_items c.close_with-closed.result.words) (slots_items c.close_with-closed.result.slots) c.take.result c.args.seats.items
    joined.idle.0 (c.requires.all ∙ all_seats c.args.self.seats c.self.inside.seats t.key.seats (ap (λ s. s.seats) c.self.view_is) c.self.invariant.seats_is) joined.all c.close_with-closed.ensures.values.2 c.take.ensures.value c.unwrap-machine.result c.unwrap-machine.ensures in
    (subst (λ (s : TurnState g.row.M.Denot). Returned g.M.Machine s.start c.unwrap-machine.result c.args.seats.items) c.self.view_is back).seen

pub returns-clause-known : goal.returns-clause-known
returns-clause-known g c =
    let t = c.self.inside.table.shared in let token = c.join_seats-token.result in let joined = c.join_seats-token.ensures in
    let back = returned g.M.Machine t.key token.id token.me.0 (slots_items c.close_with-closed.result.words) (slots_items c.close_with-closed.result.slots) c.take.result c.args.seats.items
    joined.idle.0 (c.requires.all ∙ all_seats c.args.self.seats c.self.inside.seats t.key.seats (ap (λ s. s.seats) c.self.view_is) c.self.invariant.seats_is) joined.all c.close_with-closed.ensures.values.2 c.take.ensures.value c.unwrap-machine.result c.unwrap-machine.ensures in
    (subst (λ (s : TurnState g.row.M.Denot). Returned g.M.Machine s.start c.unwrap-machine.result c.args.seats.items) c.self.view_is back).known

pub returns-clause-own : goal.returns-clause-own
returns-clause-own g c =
    let t = c.self.inside.table.shared in let token = c.join_seats-token.result in let joined = c.join_seats-token.ensures in
    let back = returned g.M.Machine t.key token.id token.me.0 (slots_items c.close_with-closed.result.words) (slots_items c.close_with-closed.result.slots) c.take.result c.args.seats.items
    joined.idle.0 (c.requires.all ∙ all_seats c.args.self.seats c.self.inside.seats t.key.seats (ap (λ s. s.seats) c.self.view_is) c.self.invariant.seats_is) joined.all c.close_with-closed.ensures.values.2 c.take.ensures.value c.unwrap-machine.result c.unwrap-machine.ensures in
    (subst (λ (s : TurnState g.row.M.Denot). Returned g.M.Machine s.start c.unwrap-machine.result c.args.seats.items) c.self.view_is back).own

pub returns-clause-entries : goal.returns-clause-entries
returns-clause-entries g c =
    let t = c.self.inside.table.shared in let token = c.join_seats-token.result in let joined = c.join_seats-token.ensures in
    let back = returned g.M.Machine t.key token.id token.me.0 (slots_items c.close_with-closed.result.words) (slots_items c.close_with-closed.result.slots) c.take.result c.args.seats.items
    joined.idle.0 (c.requires.all ∙ all_seats c.args.self.seats c.self.inside.seats t.key.seats (ap (λ s. s.seats) c.self.view_is) c.self.invariant.seats_is) joined.all c.close_with-closed.ensures.values.2 c.take.ensures.value c.unwrap-machine.result c.unwrap-machine.ensures in
    (subst (λ (s : TurnState g.row.M.Denot). Returned g.M.Machine s.start c.unwrap-machine.result c.args.seats.items) c.self.view_is back).entries
