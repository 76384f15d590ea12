-- A snapshot owns nothing that depends on what it shows, so it may show anything next.
use Rattle.std.proofs.Common.{◌≡◌, ℕ, List, [], ◌∷◌, refl}
use Rattle.std.proofs.raw_atomic.Walks.{proved}
use mir.Syntax.{a_type, named, dcons, dnil}
use mir.Val.{Val, vptr, vunit}
use mir.MapTy.{inst_fn}
use base.Logic.{SProp, emp}
use base.Fml.{Fml, ftrue, fsep, flft}
use contract.Monad.{fact, fact_i}
use contract.Running.{tables}
use types.Kit.{‵, raw, ◌⊛◌, ◌$◌, ◌∵◌, !, qed, keep, move, split, join, fsplit, fsplit3, fjoin, fjoin3, feq_i, use0, suffices, done}
use types.Run.{of_opd, unit_lit, returns, enter}
use types.ByLocal.{alloc_all, pass_all, free_all, look_at, sets}
use denote.RattleType.{RattleType, owns}
use denote.Exit.{yes}
use denote.Param.{param, bounded}
use denote.Builtin.{RefOf}
use denote.Ref.{mut_vals, mut_Tells, shr_vals, shr_Tells}
use denote.Signature.{types_at, plain}
use denote.Steps.{nothing, opens, closes}
use denote.Triple.Walked.{Stays, walk_of, stay_ref, Goes-ref, stay_dropped, Goes-dropped, ends_at}
use Rattle.std.specs.contracts.snapshot.Snapshot.{the_row}
use Rattle.snapshots.specs.contracts.updates.update_snapshot.{ended, clauses}
use Rattle.snapshots.specs.contracts.updates.update_snapshot.Key.{name as #self}
use Rattle.snapshots.proofs.updates.update_snapshot.Statement.{statement}
use Rattle.snapshots.proofs.updates.update_snapshot.Code as code

pub update_snapshot_spec : {M : Type 1} → statement M
update_snapshot_spec 𝓤 𝓛 𝓜 𝓡 wired A T C _ _ _ g d _ =
    let H = 𝓛.H in let 𝓣 = tables 𝓤 H 𝓜 𝓡 𝓡.env in let Ar : RattleType = param 0 A in let Sn : RattleType = the_row (param 1 T) in
    let En = ended A T C g d in let c = clauses A T C g d 𝓛 𝓜.mem 𝓡.returns in
    let inst = bounded (a_type ∷ a_type ∷ a_type ∷ []) (A, (T, (C, tt))) (dcons d dnil) in let fn = inst_fn inst code.function in
    let shot = plain (λ _. Sn) in let about = RefOf (1 ∷ []) tt (plain (λ _. Ar)) (λ _. tt) in
    let hs : Stays En.signature.params En.kept = (stay_ref (0 ∷ []) tt shot, (stay_dropped about yes, tt)) in
    proved 𝓛 En hs c 𝓜 𝓡 (Goes-ref 𝓛 5 0 tt shot, (Goes-dropped 𝓛 5 about yes (λ κs x f. refl), tt)) (#self inst) fn (code.unfolded 𝓤 H 𝓜 𝓡 wired (A, (T, (C, tt))) d)
    (λ κs. (mut_vals, (shr_vals, tt))) (λ κs. (mut_Tells (named 0) κs.0 Sn, (shr_Tells (named 1) κs.1.0 Ar, tt))) (λ κs qs bounds a gh are.
    let b : ℕ = a.0.ref_ptr.0 in let o : ℕ = a.0.ref_ptr.1 in let h : Sn.Denot = a.0.now in let at : Val = vptr a.1.0.ref_ptr.0 a.1.0.ref_ptr.1 in
    let h' : Sn.Denot = record { marker = h.marker; value = g.updated h.value a.1.0.now } in let Told : Type 0 = h'.value ≡ g.updated h.value a.1.0.now in
    let y : (walk_of 𝓛 En hs c).Ghost = ((κs, qs, bounds, a, (vptr b o ∷ [], (at ∷ [], tt))), gh) in let Post : Val → SProp 𝓤 = (walk_of 𝓛 En hs c).post y in
    let others : Fml = fsep (flft κs.1.0 qs.1.0) (fsep (flft κs.1.1.0 qs.1.1.0) (fsep (flft κs.1.1.1.0 qs.1.1.1.0) (fsep (flft κs.1.1.1.1.0 qs.1.1.1.1.0) ftrue))) in
    qed 𝓛 (((‵ (flft κs.0 qs.0) ⊛ ‵ others) ⊛ ‵ (owns (types_at En.signature.params κs) a y.0.4)) ∷ raw ((c κs a).requires gh) ∷ []) ∵
    split ! $ split ! $ move ! (2 ∷ []) $ fsplit ! $ fsplit3 ! $ keep ! (1 ∷ 2 ∷ 4 ∷ 5 ∷ []) $
    enter ! 𝓣.C 𝓣.Λ fn (vptr b o ∷ at ∷ []) Post $ alloc_all ! (λ l. pass_all ! refl ((tt, tt), ((tt, tt), tt)) $
    opens ! tt Sn b o (λ ts. closes ! tt Sn h' ts b o $ feq_i ! (List Val) (vptr b o ∷ []) (vptr b o ∷ []) refl $ fjoin3 ! $
    nothing ! $ nothing ! $ fjoin ! $ move ! (1 ∷ 0 ∷ []) $ fjoin ! $ move ! (1 ∷ 2 ∷ []) $ join ! $
    sets ! (of_opd ! (unit_lit !)) refl (tt, tt) $ use0 𝓛 (raw (fact 𝓤 Told)) (fact_i 𝓤 Told (emp 𝓤) refl) $ feq_i ! (List Val) (vunit ∷ []) (vunit ∷ []) refl $
    returns ! (look_at ! 0 refl) $ free_all ! refl $ keep ! (2 ∷ 3 ∷ 0 ∷ 1 ∷ []) $
    suffices ! _ (ends_at 𝓛 En hs c y vunit tt (h', (tt, tt)) (tt, (tt, tt))) $ move ! (1 ∷ 2 ∷ []) $ join ! $ move ! (1 ∷ 0 ∷ []) $ join ! $ done !)))
