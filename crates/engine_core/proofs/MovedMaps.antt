-- Maps each value of which is changed by a function: what a change of one entry is there.
use Rattle.std.proofs.Common.{◌≡◌, Bool, true, false, cond, Some, None, Option, refl, ap, sym, ◌∙◌}
use Rattle.std.specs.declared.cmp.Ordering.{Ordering}
use Rattle.std.specs.Option.{option_map}
use Rattle.std.specs.Ordering.{eq_by_cmp}
use Rattle.std.specs.Cmp.{IsTotalOrder}
use Rattle.std.specs.FinMap.{FinMap, IsAntisymmetric, get, insert, remove, get-insert, get-remove, same_map}
use Rattle.finite_maps.specs.Maps.{map_values, modify}
use Rattle.finite_maps.specs.MapLaws.{get-map_values, modify_there, key_same}

module _ {K X Y : Type 0} {R : K → K → Ordering} (o : IsTotalOrder R) (same : IsAntisymmetric R) (f : X → Y) where
  pushed : (b : Bool) (v : X) (r : Option X) → option_map f (cond b (Some v) r) ≡ cond b (Some (f v)) (option_map f r)
  pushed true v r = refl
  pushed false v r = refl

  emptied : (b : Bool) (r : Option X) → option_map f (cond b None r) ≡ cond b None (option_map f r)
  emptied true r = refl
  emptied false r = refl

  pub moved_insert : (m : FinMap R X) (k : K) (v : X) → map_values f (insert m k v) ≡ insert (map_values f m) k (f v)
  moved_insert m k v = same_map o same _ _ (λ q.
      get-map_values R f (insert m k v) q ∙ ap (option_map f) (get-insert o m k v q) ∙ pushed (eq_by_cmp R q k) v (get m q)
      ∙ ap (λ r. cond (eq_by_cmp R q k) (Some (f v)) r) (sym (get-map_values R f m q)) ∙ sym (get-insert o (map_values f m) k (f v) q))

  pub moved_remove : (m : FinMap R X) (k : K) → map_values f (remove m k) ≡ remove (map_values f m) k
  moved_remove m k = same_map o same _ _ (λ q.
      get-map_values R f (remove m k) q ∙ ap (option_map f) (get-remove o m k q) ∙ emptied (eq_by_cmp R q k) (get m q)
      ∙ ap (λ r. cond (eq_by_cmp R q k) None r) (sym (get-map_values R f m q)) ∙ sym (get-remove o (map_values f m) k q))

  pub moved_there : (m : FinMap R X) (k : K) (v : X) → get m k ≡ Some v → get (map_values f m) k ≡ Some (f v)
  moved_there m k v is = get-map_values R f m k ∙ ap (option_map f) is

  -- a value changed on both sides
  pub moved_modify : (m : FinMap R X) (k : K) (v : X) (g : X → X) (h : Y → Y) → get m k ≡ Some v → f (g v) ≡ h (f v) → map_values f (modify m k g) ≡ modify (map_values f m) k h
  moved_modify m k v g h is commutes =
      ap (map_values f) (modify_there o same m k g v is) ∙ moved_insert m k (g v) ∙ ap (insert (map_values f m) k) commutes
      ∙ sym (modify_there o same (map_values f m) k h (f v) (moved_there m k v is))

  -- what is put again
  again : (m : FinMap R Y) (k : K) (v : Y) → get m k ≡ Some v → insert m k v ≡ m
  again m k v is = same_map o same _ _ (λ q. get-insert o m k v q ∙ elim (eq_by_cmp R q k) as (λ t. eq_by_cmp R q k ≡ t → cond t (Some v) (get m q) ≡ get m q) [
    | true ↦ λ t. sym is ∙ ap (get m) (sym (key_same o same q k t))
    | false ↦ λ t. refl
  ] refl)

  -- a value whose change is not seen
  pub moved_same : (m : FinMap R X) (k : K) (v : X) (g : X → X) → get m k ≡ Some v → f (g v) ≡ f v → map_values f (modify m k g) ≡ map_values f m
  moved_same m k v g is unseen =
      ap (map_values f) (modify_there o same m k g v is) ∙ moved_insert m k (g v) ∙ ap (insert (map_values f m) k) unseen ∙ again (map_values f m) k (f v) (moved_there m k v is)
