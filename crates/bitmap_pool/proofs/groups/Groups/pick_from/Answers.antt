use Rattle.std.proofs.Common.{◌≡◌, ℕ, ◌<◌, ◌≤◌, Bool, true, false, cond, List, [], ◌∷◌, length, refl, ap, sym, subst, ◌∙◌, arith}
use Rattle.std.specs.Prelude.{not, filter, slice_get, slice_index_or}
use Rattle.std.specs.List.{list_any, HoldsAt}
use Rattle.std.specs.declared.option.Option.{Option}
use Rattle.bitmap_kind.specs.declared.bitmaps.Config.{Config}
use Rattle.bitmap_kind.specs.Picture.{BitmapValue}
use Rattle.bitmap_pool.specs.Pool.{Group, pool_size, pool_count, has_group, without_last, pick_among}
use Rattle.bitmap_pool.specs.declared.groups.GroupKey.{GroupKey}
use Rattle.bitmap_pool.specs.inside.GroupsView.{is_key, has_key, is_of, group_of, groups_of, KeysApart, ArePlaced, allocation_in}
use Rattle.bitmap_pool.proofs.Lasts
use Rattle.bitmap_pool.proofs.Stored
use Rattle.bitmap_pool.proofs.Steps
use Rattle.std.specs.Prelude.{Result, Ok, Err, Some, None, IfSome, is_ok}
use Rattle.std.specs.Result.{IsOk}
use Rattle.std.proofs.Common.{rules}
use Rattle.std.proofs.lemmas.Fn.{filter_same}
use Rattle.bitmap_pool.proofs.groups.Groups.pick_from.Goals as goal

where_ok : {T E A : Type 0} (r : Result T E) (x y : A) → IsOk r → cond (is_ok r) x y ≡ x
where_ok (Ok v) x y h = refl
where_ok (Err e) x y h = absurd (let no : false ≡ true = h in cc)

of_some : {A : Type 0} (o : Option A) (P Q : A → Type 0) → ((x : A) → P x → Q x) → IfSome o P → IfSome o Q
of_some None P Q f h = tt
of_some (Some x) P Q f h = f x h

headed : ℕ → Config → List GroupKey → List GroupKey
headed s d ks = record { size = s; config = d } ∷ filter (λ k. not (is_key s d k)) ks

kept_le : (p : GroupKey → Bool) (ks : List GroupKey) → length (filter (λ k. not (p k)) ks) ≤ length ks
kept_le p [] = omega arith
kept_le p (k ∷ ks) = let rest : length (filter (λ k. not (p k)) ks) ≤ length ks = kept_le p ks in elim (p k) as (λ t. length (cond (not t) (k ∷ filter (λ k. not (p k)) ks) (filter (λ k. not (p k)) ks)) ≤ length (k ∷ ks)) [ true ↦ omega (arith, rest) | false ↦ omega (arith, rest) ]

kept_less : (p : GroupKey → Bool) (ks : List GroupKey) → list_any p ks ≡ true → length (filter (λ k. not (p k)) ks) < length ks
kept_less p [] some = absurd (let no : false ≡ true = some in cc)
kept_less p (k ∷ ks) some =
    let most : length (filter (λ k. not (p k)) ks) ≤ length ks = kept_le p ks in
    elim (p k) as (λ t. (Rattle.std.specs.Prelude.◌||◌ t (list_any p ks)) ≡ true → length (cond (not t) (k ∷ filter (λ k. not (p k)) ks) (filter (λ k. not (p k)) ks)) < length (k ∷ ks)) [
      | true ↦ λ e. omega (arith, most)
      | false ↦ λ e. let rest : length (filter (λ k. not (p k)) ks) < length ks = kept_less p ks e in omega (arith, rest)
    ] some

few_headed : (s : ℕ) (d : Config) (ks : List GroupKey) → length ks ≤ 2048 → (has_key s d ks ≡ false → length ks < 2048) → length (filter (λ k. not (is_key s d k)) ks) < 2048
few_headed s d ks few room = elim (has_key s d ks) as (λ t. has_key s d ks ≡ t → length (filter (λ k. not (is_key s d k)) ks) < 2048) [
  | true ↦ λ e. let less : length (filter (λ k. not (is_key s d k)) ks) < length ks = kept_less (is_key s d) ks e in omega (arith, less, few)
  | false ↦ λ e. let most : length (filter (λ k. not (is_key s d k)) ks) ≤ length ks = kept_le (is_key s d) ks in let less : length ks < 2048 = room e in omega (arith, most, less)
] refl

pub invariant_of-self : goal.invariant_of-self
unfolding headed
invariant_of-self c =
    let ks : List GroupKey = c.self.inside.keys.items in
    let bs : List BitmapValue = c.self.inside.bitmaps.items in
    let s : ℕ = c.args.size in
    let d : Config = c.args.config in
    let old : List (Group BitmapValue) = c.args.self.now in
    let kept : c.retain.new.self.items ≡ filter (λ k. not (is_key s d k)) ks = filter_same _ (λ (k : GroupKey). not (is_key s d k)) _ (λ x b f r. search rules) _ _ c.retain.ensures.filtered in
    let room : Rattle.std.specs.Prelude.vec_len c.retain.new.self < Rattle.std.specs.Prelude.vec_capacity c.retain.new.self = omega (arith, c.retain.ensures.bound, c.retain.ensures.capacity, c.self.invariant.group_room, c.self.invariant.few_groups, c.self.inside.keys.ok) in
    let put : c.insert.new.self.items ≡ headed s d ks = c.insert.ensures.items ∙ where_ok c.insert.result _ _ (c.insert.ensures.succeeds room) ∙ ap (λ l. record { size = s; config = d } ∷ l) kept in
    let less : length (filter (λ k. not (is_key s d k)) ks) < 2048 = few_headed s d ks c.self.invariant.few_groups (λ none.
    let absent : has_group s d old ≡ false = ap (has_group s d) (sym c.self.view_is) ∙ Stored.has_group_is s d ks bs ∙ none in
    let long : length old ≡ length ks = ap length (sym c.self.view_is) ∙ Rattle.std.proofs.lemmas.List.length-map ks (group_of bs) in
    omega (arith, c.requires absent, long)) in
    let left : c.take_last.new.bitmaps.items ≡ without_last (is_of s d) bs = c.take_last.ensures.rest in
    let fewer : length (without_last (is_of s d) bs) ≤ length bs = Lasts.length_without_last-le (is_of s d) bs in
    record {
      apart = subst KeysApart (sym put) (Steps.apart_headed s d ks c.self.invariant.apart);
      placed = subst (ArePlaced c.insert.new.self.items) (sym left) (subst (λ l. ArePlaced l (without_last (is_of s d) bs)) (sym put) (Stored.placed_without (is_of s d) (headed s d ks) bs (Steps.placed_headed s d ks bs c.self.invariant.placed)));
      few_groups = omega (arith, ap length put, less);
      few_bitmaps = omega (arith, ap length left, fewer, c.self.invariant.few_bitmaps);
      group_room = omega (arith, c.insert.ensures.capacity, c.retain.ensures.capacity, c.self.invariant.group_room);
      bitmap_room = omega (arith, c.take_last.ensures.room, c.self.invariant.bitmap_room);
    }

pub returns-clause-found : goal.returns-clause-found
returns-clause-found c =
    let ks : List GroupKey = c.self.inside.keys.items in
    let bs : List BitmapValue = c.self.inside.bitmaps.items in
    let s : ℕ = c.args.size in
    let d : Config = c.args.config in
    c.take_last.ensures.value ∙ Steps.found_is s d ks bs c.self.invariant.apart c.self.invariant.placed ∙ ap (λ (g : List (Group BitmapValue)). (pick_among s d g).found) c.self.view_is

pub returns-clause-left : goal.returns-clause-left
unfolding headed
returns-clause-left c =
    let ks : List GroupKey = c.self.inside.keys.items in
    let bs : List BitmapValue = c.self.inside.bitmaps.items in
    let s : ℕ = c.args.size in
    let d : Config = c.args.config in
    let kept : c.retain.new.self.items ≡ filter (λ k. not (is_key s d k)) ks = filter_same _ (λ (k : GroupKey). not (is_key s d k)) _ (λ x b f r. search rules) _ _ c.retain.ensures.filtered in
    let room : Rattle.std.specs.Prelude.vec_len c.retain.new.self < Rattle.std.specs.Prelude.vec_capacity c.retain.new.self = omega (arith, c.retain.ensures.bound, c.retain.ensures.capacity, c.self.invariant.group_room, c.self.invariant.few_groups, c.self.inside.keys.ok) in
    let put : c.insert.new.self.items ≡ headed s d ks = c.insert.ensures.items ∙ where_ok c.insert.result _ _ (c.insert.ensures.succeeds room) ∙ ap (λ l. record { size = s; config = d } ∷ l) kept in
    ap (λ l. groups_of l c.take_last.new.bitmaps.items) put ∙ ap (groups_of (headed s d ks)) c.take_last.ensures.rest
    ∙ Steps.headed_is s d ks bs c.self.invariant.apart c.self.invariant.placed ∙ ap (λ (g : List (Group BitmapValue)). (pick_among s d g).groups) c.self.view_is

pub returns-clause-allocation : goal.returns-clause-allocation
returns-clause-allocation c = of_some c.take_last.result (λ b. is_of c.args.size c.args.config b ≡ true) (λ b. b.allocation ≡ c.args.size) (λ b e. sym (Stored.bitmap_is c.args.size c.args.config b e).0) c.take_last.ensures.kind

-- no more bytes and no more bitmaps than before
fewer_sums : (s : ℕ) (d : Config) (ks : List GroupKey) (bs : List BitmapValue) (old now : List (Group BitmapValue)) → KeysApart ks → ArePlaced ks bs → groups_of ks bs ≡ old
    → now ≡ (pick_among s d old).groups → (pool_size now ≤ pool_size old) × (pool_count now ≤ pool_count old)
unfolding headed
fewer_sums s d ks bs old now apart placed seen is =
    let cut : List BitmapValue = without_last (is_of s d) bs in
    let stored : groups_of (headed s d ks) cut ≡ now = Steps.headed_is s d ks bs apart placed ∙ ap (λ (g : List (Group BitmapValue)). (pick_among s d g).groups) seen ∙ sym is in
    let after = Steps.sums (headed s d ks) cut (Steps.apart_headed s d ks apart) (Stored.placed_without (is_of s d) (headed s d ks) bs (Steps.placed_headed s d ks bs placed)) in
    let before = Steps.sums ks bs apart placed in
    let size_after : pool_size now ≡ Rattle.std.specs.Prelude.sum_by allocation_in cut = ap pool_size (sym stored) ∙ after.0 in
    let count_after : pool_count now ≡ length cut = ap pool_count (sym stored) ∙ after.1 in
    let size_before : pool_size old ≡ Rattle.std.specs.Prelude.sum_by allocation_in bs = ap pool_size (sym seen) ∙ before.0 in
    let count_before : pool_count old ≡ length bs = ap pool_count (sym seen) ∙ before.1 in
    let less : Rattle.std.specs.Prelude.sum_by allocation_in cut ≤ Rattle.std.specs.Prelude.sum_by allocation_in bs = Lasts.sum_without_last-le (is_of s d) allocation_in bs in
    let fewer : length cut ≤ length bs = Lasts.length_without_last-le (is_of s d) bs in
    (omega (arith, size_after, size_before, less), omega (arith, count_after, count_before, fewer))

pub returns-clause-size : goal.returns-clause-size
returns-clause-size c = (fewer_sums c.args.size c.args.config c.self.inside.keys.items c.self.inside.bitmaps.items c.args.self.now _ c.self.invariant.apart c.self.invariant.placed c.self.view_is (returns-clause-left c)).0

pub returns-clause-count : goal.returns-clause-count
returns-clause-count c = (fewer_sums c.args.size c.args.config c.self.inside.keys.items c.self.inside.bitmaps.items c.args.self.now _ c.self.invariant.apart c.self.invariant.placed c.self.view_is (returns-clause-left c)).1
