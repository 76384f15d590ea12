use Rattle.std.proofs.Common.{◌≡◌, ℕ, ◌<◌, ◌≤◌, ◌++◌, List, length, map, take, drop, ap, sym, subst, ◌∙◌, arith}
use Rattle.std.specs.Prelude.{slice_set}
use Rattle.std.proofs.lemmas.List.{length-set, take_all, drop_all, append-nil}
use Rattle.std.proofs.lemmas.List.Edits.{map_over_more}
use Rattle.finite_maps.specs.Maps.{map_values}
use Rattle.load_table.specs.declared.loads.LoadEntry.{LoadEntry}
use Rattle.load_table.specs.Loads.{LoadsValue, settled}
use Rattle.load_table.specs.LoadsView.{loads_of, AreApart, settled_entry}
use Rattle.load_table.proofs.Entries.{apart_settled, settled_is}
use Rattle.load_table.proofs.loads.LoadTable.settle.Goals as goal

pub loop-i-preserved : goal.loop-i-preserved
loop-i-preserved g c =
    let xs : List (LoadEntry g.row.C.Denot) = c.self.inside.entries.items in
    let ys : List (LoadEntry g.row.C.Denot) = c.loop-i.self-inside.entries.items in
    let within : c.loop-i.i < length xs = omega (arith, c.loop-i-test.true, c.len-i-end.ensures, c.self.inside.entries.ok) in (
      ap (λ e. slice_set ys c.loop-i.i e) c.settled_entry.ensures
          ∙ map_over_more (settled_entry c.args.job c.args.to) xs ys c.loop-i.i c.index-entry.result.now within c.loop-i.invariant.0 c.index-entry.ensures,
      length-set ys c.loop-i.i c.settled_entry.result ∙ c.loop-i.invariant.1,
      c.loop-i.invariant.2,
      c.loop-i.invariant.3,
    )

all_over : {X : Type 0} (f : X → X) (xs ys : List X) (n : ℕ) → length xs ≤ n → ys ≡ map f (take n xs) ++ drop n xs → ys ≡ map f xs
all_over f xs ys n long is = is ∙ ap (λ l. map f l ++ drop n xs) (take_all n xs long) ∙ ap (λ l. map f xs ++ l) (drop_all n xs long) ∙ append-nil (map f xs)

pub invariant_of-self : goal.invariant_of-self
invariant_of-self g c =
    let xs : List (LoadEntry g.row.C.Denot) = c.self.inside.entries.items in
    let ended : length xs ≤ c.loop-i.i = omega (arith, c.loop-i-test.false, c.len-i-end.ensures) in
    let all : c.loop-i.self-inside.entries.items ≡ map (settled_entry c.args.job c.args.to) xs = all_over (settled_entry c.args.job c.args.to) xs c.loop-i.self-inside.entries.items c.loop-i.i ended c.loop-i.invariant.0 in
    record {
      apart = subst AreApart (sym all) (apart_settled c.args.job c.args.to xs c.self.invariant.apart);
      within = omega (arith, c.loop-i.invariant.1, c.loop-i.invariant.3, c.self.invariant.within);
      reserved = omega (arith, c.loop-i.invariant.2, c.loop-i.invariant.3, c.self.invariant.reserved);
      small = omega (arith, c.loop-i.invariant.3, c.self.invariant.small);
    }

pub returns-clause-loads : goal.returns-clause-loads
returns-clause-loads g c =
    let xs : List (LoadEntry g.row.C.Denot) = c.self.inside.entries.items in
    let seen : loads_of xs ≡ c.args.self.now.loads = ap (λ (v : LoadsValue g.row.C.Denot). v.loads) c.self.view_is in
    let ended : length xs ≤ c.loop-i.i = omega (arith, c.loop-i-test.false, c.len-i-end.ensures) in
    let loads : loads_of c.loop-i.self-inside.entries.items ≡ map_values (settled c.args.job c.args.to) c.args.self.now.loads =
    ap loads_of (all_over (settled_entry c.args.job c.args.to) xs c.loop-i.self-inside.entries.items c.loop-i.i ended c.loop-i.invariant.0)
    ∙ settled_is c.args.job c.args.to xs ∙ ap (map_values (settled c.args.job c.args.to)) seen in
    let room = c.loop-i.invariant.3 ∙ ap (λ (v : LoadsValue g.row.C.Denot). v.room) c.self.view_is in
    λ i. record { room = room i; loads = loads i }
