use Rattle.std.proofs.Common.{◌≡◌, List, ℕ, length, sym, ap, ◌∙◌, subst, Some, None, true, false, not, Bool, refl, cond, ◌≤◌}
use Rattle.std.specs.declared.option.Option.{Option}
use Rattle.std.specs.Prelude.{nat_le, Result, Ok, Err, IsErrOf, IsErrAnd}
use Rattle.disk_table.specs.UseOrder.{newest}
use Rattle.disk_table.specs.Table.{TableValue, edit_of, free_edit, is_full_for}
use Rattle.disk_table.specs.declared.table.EditRefused.{EditRefused}
use Rattle.disk_table.specs.declared.table.EditRefused.TheVariants.{TooMany, Memory}
use Rattle.disk_table.specs.inside.Kept.{AreKnown}
use Rattle.disk_table.proofs.Known.{known_opened, full_is}
use Rattle.disk_table.proofs.table.DiskTable.open_edit.Goals as goal

-- want of memory is no other refusal
not_too_many : {A : Type 0} (r : Result ℕ EditRefused) → IsErrAnd r (λ e. e ≡ Memory) → IsErrOf r TooMany → A
not_too_many (Ok n) h k = cc
not_too_many (Err e) h k = cc

-- where the key is put there was room for it, and else there was none
put_tells : (table now : TableValue) (key : List ℕ) (v : Option ℕ) (n : ℕ) (of free : Option ℕ) (b : Bool) → table ≡ now → length table.entries ≤ 16400 → of ≡ edit_of key table.edits → of ≡ None
    → free ≡ free_edit table.edits → free ≡ Some n → b ≡ nat_le (length (newest key v table.entries)) 16400 → is_full_for key now ≡ not b
put_tells table now key v n of free b same few was closed next at room =
    sym (ap (is_full_for key) same) ∙ full_is table key n v few (sym was ∙ closed) (sym next ∙ at) ∙ ap not (sym room)

pub returns-in_err-put-clause-too_many : goal.returns-in_err-put-clause-too_many
returns-in_err-put-clause-too_many c =
    let table : TableValue = record { entries = c.self.inside.order; edits = c.self.inside.edits; lines = c.self.inside.lines } in
    let room : is_full_for c.args.key.now c.args.self.now ≡ false =
    put_tells table c.args.self.now c.args.key.now c.clean-clean.result c.in-Some-free.edit c.of.result c.free.result true c.self.view_is c.put.ensures.few c.of.ensures.number c.in_default.is c.free.ensures.number c.in-Some-free.is
    (sym c.in_err-put.ensures.room_first) in
    (not_too_many c.from_residual.result c.from_residual.ensures.1, λ full. cc)

pub returns-then-not-branch-clause-too_many : goal.returns-then-not-branch-clause-too_many
returns-then-not-branch-clause-too_many c =
    let table : TableValue = record { entries = c.self.inside.order; edits = c.self.inside.edits; lines = c.self.inside.lines } in
    let full : is_full_for c.args.key.now c.args.self.now ≡ true =
    put_tells table c.args.self.now c.args.key.now c.clean-clean.result c.in-Some-free.edit c.of.result c.free.result false c.self.view_is c.put.ensures.few c.of.ensures.number c.in_default.is c.free.ensures.number c.in-Some-free.is
    (sym c.if-not-branch.true ∙ c.in_ok-put.ensures.room) in
    (λ refused. full, λ holds. refl)

pub returns-clause-too_many : goal.returns-clause-too_many
returns-clause-too_many c =
    let table : TableValue = record { entries = c.self.inside.order; edits = c.self.inside.edits; lines = c.self.inside.lines } in
    let room : is_full_for c.args.key.now c.args.self.now ≡ false =
    put_tells table c.args.self.now c.args.key.now c.clean-clean.result c.in-Some-free.edit c.of.result c.free.result true c.self.view_is c.put.ensures.few c.of.ensures.number c.in_default.is c.free.ensures.number c.in-Some-free.is
    (sym c.if-not-branch.false ∙ c.in_ok-put.ensures.room) in
    (λ refused. cc, λ full. cc)

pub invariant_of-self-2 : goal.invariant_of-self-2
invariant_of-self-2 c =
    let known = known_opened c.self.inside.order c.self.inside.edits c.args.key.now c.in-Some-free.edit c.clean-clean.result c.self.invariant in
    let put : c.put.new.self ≡ newest c.args.key.now c.clean-clean.result c.self.inside.order =
    c.in_ok-put.ensures.order ∙ ap (λ b. cond b (newest c.args.key.now c.clean-clean.result c.self.inside.order) c.self.inside.order) c.if-not-branch.false in
    subst (λ es. AreKnown es c.open.new.self) (sym put) (subst (AreKnown (newest c.args.key.now c.clean-clean.result c.self.inside.order)) (sym c.open.ensures) known)
