use Rattle.std.proofs.Common.{◌≡◌, ℕ, ◌+◌, ◌<◌, List, [], ◌∷◌, ◌++◌, length, map, None, ap, sym, subst, ◌∙◌, arith}
use Rattle.std.specs.FinMap.{get, insert, len, find}
use Rattle.load_table.specs.declared.loads.LoadEntry.{LoadEntry}
use Rattle.load_table.specs.Loads.{load_cmp, Loads, LoadsValue}
use Rattle.load_table.specs.LoadsView.{entry_of, loads_of, AreApart}
use Rattle.load_table.proofs.Entries.{found_is, length_is, pushed_is, apart_push}
use Rattle.load_table.proofs.loads.LoadTable.add.Goals as goal

few : {C : Type 0} (es : List (LoadEntry C)) (m : Loads C) (room : ℕ) → AreApart es → loads_of es ≡ m → len m < room → length es < room
few es m room apart seen less = let same : length es ≡ len m = sym (length_is es apart) ∙ ap len seen in omega (arith, same, less)

pub push_reserved-requires : goal.push_reserved-requires
push_reserved-requires g c =
    let room : c.self.inside.room ≡ c.args.self.now.room = ap (λ (v : LoadsValue _). v.room) c.self.view_is in
    let less : length c.self.inside.entries.items < c.args.self.now.room = few c.self.inside.entries.items c.args.self.now.loads c.args.self.now.room c.self.invariant.apart (ap (λ (v : LoadsValue _). v.loads) c.self.view_is) c.requires.room in
    omega (arith, room, less, c.self.invariant.reserved, c.self.inside.entries.ok)

pub invariant_of-self : goal.invariant_of-self
invariant_of-self g c =
    let es = c.self.inside.entries.items in
    let e : LoadEntry g.row.C.Denot = record { owner = c.args.owner; number = c.args.number; state = c.args.state } in
    let room : c.self.inside.room ≡ c.args.self.now.room = ap (λ (v : LoadsValue _). v.room) c.self.view_is in
    let seen : loads_of c.self.inside.entries.items ≡ c.args.self.now.loads = ap (λ (v : LoadsValue _). v.loads) c.self.view_is in
    let less : length c.self.inside.entries.items < c.args.self.now.room = few c.self.inside.entries.items c.args.self.now.loads c.args.self.now.room c.self.invariant.apart seen c.requires.room in
    let none : find load_cmp (c.args.owner, c.args.number) (map entry_of c.self.inside.entries.items) ≡ None = found_is c.self.inside.entries.items (c.args.owner, c.args.number) ∙ ap (λ (m : Loads _). get m (c.args.owner, c.args.number)) seen ∙ c.requires.absent in
    let more : c.push_reserved.new.self.items ≡ c.self.inside.entries.items ++ e ∷ [] = c.push_reserved.ensures.items in
    let long : length (c.self.inside.entries.items ++ e ∷ []) ≡ length c.self.inside.entries.items + 1 = Rattle.std.proofs.lemmas.List.length_push c.self.inside.entries.items e in
    record {
      apart = subst AreApart (sym more) (apart_push c.self.inside.entries.items e c.self.invariant.apart none);
      within = omega (arith, ap length more, long, room, less);
      reserved = omega (arith, c.push_reserved.ensures.capacity, c.self.invariant.reserved);
      small = c.self.invariant.small;
    }

pub returns : goal.returns
returns g c =
    let e : LoadEntry g.row.C.Denot = record { owner = c.args.owner; number = c.args.number; state = c.args.state } in
    let seen : loads_of c.self.inside.entries.items ≡ c.args.self.now.loads = ap (λ (v : LoadsValue _). v.loads) c.self.view_is in
    let none : get (loads_of c.self.inside.entries.items) (c.args.owner, c.args.number) ≡ None = ap (λ (m : Loads _). get m (c.args.owner, c.args.number)) seen ∙ c.requires.absent in
    let loads : loads_of c.push_reserved.new.self.items ≡ insert c.args.self.now.loads (c.args.owner, c.args.number) c.args.state =
    ap loads_of c.push_reserved.ensures.items ∙ pushed_is c.self.inside.entries.items e none ∙ ap (λ (m : Loads _). insert m (c.args.owner, c.args.number) c.args.state) seen in
    λ i. record { room = (ap (λ (v : LoadsValue _). v.room) c.self.view_is) i; loads = loads i }
