use Rattle.std.proofs.Common.{◌≡◌, ℕ, Some, None, Ok, Err, sym, ap, subst, ◌∙◌, refl, arith}
use Rattle.std.specs.Prelude.{set, Result, IsErr, IsErrAnd, IsErrOf, ◌↔◌}
use Rattle.std.specs.declared.option.Option.{Option}
use Rattle.disk_table.specs.Table.{TableValue, edit_of}
use Rattle.disk_table.specs.declared.table.EditRefused.{EditRefused}
use Rattle.disk_table.specs.declared.table.EditRefused.TheVariants.{Busy}
use Rattle.cache_folder.specs.Tables.{CacheTableValue, kept, begun}
use Rattle.cache_folder.proofs.Edits.{opened_own, opened_other, closed_again}
use Rattle.cache_folder.proofs.Kept.{few_kept, begun_kept}
use Rattle.cache_folder.proofs.table.CacheTable.begin.Goals as goal

-- the key had no edit
not_busy : (r : Result ℕ EditRefused) (n : ℕ) (o : Option ℕ) → r ≡ Ok n → ((m : ℕ) → IsErrOf r (Busy m) ↔ (o ≡ Some m)) → o ≡ None
not_busy r n None is busy = refl
not_busy r n (Some m) is busy = let bad = subst (λ (x : Result ℕ EditRefused). IsErrOf x (Busy m)) is ((busy m).1 refl) in cc

pub returns-clause-kept : goal.returns-clause-kept
returns-clause-kept c = ap (λ (t : TableValue). kept (record { table = t; written = set c.self.inside.written c.in_ok-number.number 0 })) c.in_ok-number.ensures.table
    ∙ begun_kept c.self.inside.table.entries c.self.inside.table.edits c.self.inside.written c.args.key.now c.in_ok-number.number (not_busy c.open_edit.result c.in_ok-number.number (edit_of c.args.key.now c.self.inside.table.edits) c.in_ok-number.was c.open_edit.ensures.busy) c.in_ok-number.ensures.number (omega (arith, c.self.invariant.0, c.in_ok-number.ensures.within))
    ∙ ap (λ (t : CacheTableValue). begun c.args.key.now (kept t)) c.self.view_is

pub returns-clause-open : goal.returns-clause-open
returns-clause-open c = ap (λ (t : TableValue). edit_of c.args.key.now t.edits) c.in_ok-number.ensures.table ∙ opened_own c.args.key.now c.self.inside.table.edits c.in_ok-number.number (not_busy c.open_edit.result c.in_ok-number.number (edit_of c.args.key.now c.self.inside.table.edits) c.in_ok-number.was c.open_edit.ensures.busy) c.in_ok-number.ensures.number

err_is : (r : Result ℕ EditRefused) (e : EditRefused) → IsErr r → IsErrAnd r (λ x. x ≡ e) → Err e ≡ r
err_is (Ok n) e h k = cc
err_is (Err x) e h k = ap (λ y. Err y) (sym k)

pub returns-in_err-number-clause-busy : goal.returns-in_err-number-clause-busy
returns-in_err-number-clause-busy c = subst (λ (r : Result ℕ EditRefused). (m : ℕ) → IsErrOf r (Busy m) ↔ (edit_of c.args.key.now c.args.self.now.table.edits ≡ Some m))
    (err_is c.from_residual.result c.in_err-number.field-0.0 c.from_residual.ensures.0 c.from_residual.ensures.1)
    (subst (λ (t : CacheTableValue). (m : ℕ) → IsErrOf {T = ℕ} {E = EditRefused} (Err c.in_err-number.field-0.0) (Busy m) ↔ (edit_of c.args.key.now t.table.edits ≡ Some m)) c.self.view_is c.in_err-number.ensures.busy)

pub returns-clause-busy : goal.returns-clause-busy
returns-clause-busy c = subst (λ (t : CacheTableValue). (m : ℕ) → IsErrOf {T = ℕ} {E = EditRefused} (Ok c.in_ok-number.number) (Busy m) ↔ (edit_of c.args.key.now t.table.edits ≡ Some m)) c.self.view_is c.in_ok-number.ensures.busy

pub returns-clause-few : goal.returns-clause-few
returns-clause-few c = few_kept (record { table = c.open_edit.new.self; written = set c.self.inside.written c.in_ok-number.number 0 }) (begun c.args.key.now (kept c.args.self.now)) (returns-clause-kept c) c.keys-few.ensures.few

pub returns-clause-others : goal.returns-clause-others
returns-clause-others c = λ k ne. ap (λ (t : TableValue). edit_of k t.edits) c.in_ok-number.ensures.table ∙ opened_other c.args.key.now k c.self.inside.table.edits c.in_ok-number.number ne c.in_ok-number.ensures.number ∙ ap (λ (t : CacheTableValue). edit_of k t.table.edits) c.self.view_is

pub returns-clause-back : goal.returns-clause-back
returns-clause-back c = ap (λ (t : TableValue). set t.edits c.in_ok-number.number None) c.in_ok-number.ensures.table
    ∙ closed_again c.args.key.now c.self.inside.table.edits c.in_ok-number.number c.in_ok-number.ensures.number ∙ ap (λ (t : CacheTableValue). t.table.edits) c.self.view_is
