use Rattle.std.proofs.Common.{◌≡◌, ◌∙◌, map, [], ◌∷◌, ◌++◌, sym, ap, subst, arith, append_assoc}
use Rattle.std.proofs.lemmas.List.{map-append}
use Rattle.turn_lock.specs.Turns.{SeatState}
use Rattle.turn_lock.specs.declared.view.View.{View}
use Rattle.turn_lock.specs.inside.Views.{IsIdle, shown, summary, with_joined}
use Rattle.turn_lock.specs.inside.Steps.{Holder}
use Rattle.turn_lock.proofs.Gathered.{all_popped}
use Rattle.turn_lock.proofs.SeatsKeep.{joins}
use Rattle.turn_lock.proofs.seats.join_seats.Goals as goal

pub loop-seat-init : goal.loop-seat-init
loop-seat-init g c =
    let last = c.in-Some.last in let o = c.into_token-joined.ensures in let p = c.in-Some.ensures.items in
    let of = all_popped (λ (s : SeatState g.row.M.Denot g.row.M-Note.Denot). s.turn ≡ c.args.board.now.table_id) _ _ _ p c.requires.of in
    let token = c.into_token-joined.result.me.0 in
    record {
      table = o.of ∙ of.1;
      idle = o.idle.0;
      empty = o.idle.1;
      of = of.0;
      all = ap (λ l. map (λ s. shown s) l) p ∙ (map-append (λ s. shown s) c.pop.new.self.items (last ∷ [])
          ∙ ap (λ x. map (λ s. shown s) c.pop.new.self.items ++ x) (ap (λ x. x ∷ []) (sym o.shown) ∙ ap (λ l. l ++ summary token ∷ []) (sym o.joined)));
    }

pub join_seat-requires : goal.join_seat-requires
join_seat-requires g c =
    let i = c.loop-seat.invariant in let o = c.into_token.ensures in let p = c.in-Some-pop.ensures.items in
    let of = all_popped (λ (s : SeatState g.row.M.Denot g.row.M-Note.Denot). s.turn ≡ c.args.board.now.table_id) _ _ _ p i.of in (
      i.table,
      o.of ∙ of.1,
      o.idle.1,
      omega (arith, c.requires.words),
      joins g.M.Machine c.args.board.now.key c.loop-seat.joined.id c.loop-seat.joined.me.0 c.into_token.result.id c.into_token.result.me.0 i.idle o.idle.0 o.joined,
    )

pub loop-seat-preserved : goal.loop-seat-preserved
loop-seat-preserved g c =
    let i = c.loop-seat.invariant in let seat = c.in-Some-pop.seat in let o = c.into_token.ensures in let p = c.in-Some-pop.ensures.items in let j = c.join_seat.ensures in
    let of = all_popped (λ (s : SeatState g.row.M.Denot g.row.M-Note.Denot). s.turn ≡ c.args.board.now.table_id) _ _ _ p i.of in
    let v = c.loop-seat.joined.me.0 in let w = c.into_token.result.me.0 in let rest = c.pop-in-loop-seat.new.self.items in
    let is : c.join_seat.new.seat.me.0 ≡ with_joined v w = ap (λ (y : Holder g.row.M.Denot g.row.M-Note.Denot). y.0) j.2 in
    record {
      table = j.0 ∙ i.table;
      idle = subst (λ (x : View g.row.M.Denot g.row.M-Note.Denot). IsIdle x) (sym is) record { live = i.idle.live; waits = i.idle.waits; served = i.idle.served };
      empty = ap (λ (y : Holder g.row.M.Denot g.row.M-Note.Denot). y.1) j.2 ∙ i.empty;
      of = of.0;
      all = i.all ∙ (ap (λ l. map (λ s. shown s) l ++ (v.joined ++ summary v ∷ [])) p
          ∙ (ap (λ l. l ++ (v.joined ++ summary v ∷ [])) (map-append (λ s. shown s) rest (seat ∷ []))
          ∙ (append_assoc (map (λ s. shown s) rest) (shown seat ∷ []) (v.joined ++ summary v ∷ [])
          ∙ (ap (λ x. map (λ s. shown s) rest ++ x ∷ (v.joined ++ summary v ∷ [])) (sym o.shown)
          ∙ ap (λ (x : View g.row.M.Denot g.row.M-Note.Denot). map (λ s. shown s) rest ++ (x.joined ++ summary x ∷ [])) (sym is)))));
    }
