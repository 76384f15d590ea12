use Rattle.std.proofs.Common.{◌≡◌, ℕ, ◌+◌, ◌-◌, ◌<◌, true, false, List, length, take, ap, sym, subst, ◌∙◌, arith}
use Rattle.std.specs.Prelude.{not, filter, slice_get, slice_index_or}
use Rattle.std.specs.List.{list_any, HoldsAt}
use Rattle.std.specs.declared.option.Option.{Option}
use Rattle.bitmap_kind.specs.Picture.{BitmapValue}
use Rattle.bitmap_pool.specs.Pool.{without_last}
use Rattle.bitmap_pool.specs.Evicting.{evict_one}
use Rattle.bitmap_pool.specs.declared.groups.GroupKey.{GroupKey}
use Rattle.bitmap_pool.specs.inside.GroupsView.{is_of, is_bare, groups_of, KeysApart, ArePlaced}
use Rattle.bitmap_pool.proofs.Lasts
use Rattle.bitmap_pool.proofs.Stored
use Rattle.bitmap_pool.proofs.Steps
use Rattle.std.specs.Prelude.{Some, None, IfNone, IfSome}
use Rattle.std.specs.Option.{is_some}
use Rattle.bitmap_pool.proofs.groups.Groups.evict_one.Goals as goal

from_none : {A : Type 0} (o : Option A) (P : Type 0) → is_some o ≡ false → IfNone o P → P
from_none None P e h = h
from_none (Some x) P e h = absurd (let no : true ≡ false = e in cc)

from_some : {A : Type 0} (o : Option A) (P : Type 0) → is_some o ≡ true → IfSome o (λ _. P) → P
from_some None P e h = absurd (let no : false ≡ true = e in cc)
from_some (Some x) P e h = h

tail_at : (ks : List GroupKey) (n : ℕ) (t : GroupKey) → n ≡ length ks → 0 < n → t ≡ slice_index_or ks (n - 1) t → Steps.IsTail t ks
tail_at ks n t is some at =
    let there : 0 < length ks = omega (arith, is, some) in
    let same : t ≡ slice_index_or ks (length ks - 1) t = at ∙ ap (λ m. slice_index_or ks (m - 1) t) is in
    subst (λ x. Steps.IsTail x ks) (sym same) (Steps.tail_is ks t there)

pub invariant_of-self : goal.invariant_of-self
invariant_of-self c =
    let ks : List GroupKey = c.self.inside.keys.items in
    let bs : List BitmapValue = c.self.inside.bitmaps.items in
    let t : GroupKey = c.index-tail.result.now in
    let long : c.len-groups.result ≡ length ks = omega (arith, c.len-groups.ensures, c.self.inside.keys.ok) in
    let tail : Steps.IsTail t ks = tail_at ks c.len-groups.result t long (omega (arith, c.if-groups-eq0.false)) c.index-tail.ensures in
    let none : list_any (is_of t.size t.config) bs ≡ false = from_none c.take_last.result _ c.if-is_none.ensures c.take_last.ensures.none in
    let gone = Steps.evict_none t ks bs tail none in
    let fewer : c.pop.new.self.items ≡ without_last (is_bare bs) ks = c.pop.ensures.rest ∙ ap (λ n. take (n - 1) ks) (let same : Rattle.std.specs.Prelude.vec_len c.self.inside.keys ≡ length ks = omega (arith, c.self.inside.keys.ok) in same) ∙ sym gone.0 in
    let less : length (without_last (is_bare bs) ks) + 1 ≡ length ks = Lasts.length_without_last (is_bare bs) ks gone.1 in
    let same : c.take_last.new.bitmaps.items ≡ bs = c.take_last.ensures.rest ∙ Lasts.without_none (is_of t.size t.config) bs none in
    record {
      apart = subst KeysApart (sym fewer) (Steps.apart_without (is_bare bs) ks c.self.invariant.apart);
      placed = subst (ArePlaced c.pop.new.self.items) (sym same) (subst (λ l. ArePlaced l bs) (sym fewer) (Steps.placed_without_bare ks bs c.self.invariant.placed));
      few_groups = omega (arith, ap length fewer, less, c.self.invariant.few_groups);
      few_bitmaps = omega (arith, ap length same, c.self.invariant.few_bitmaps);
      group_room = omega (arith, c.pop.ensures.capacity, c.self.invariant.group_room);
      bitmap_room = omega (arith, c.take_last.ensures.room, c.self.invariant.bitmap_room);
    }

pub invariant_of-self-else-is_none : goal.invariant_of-self-else-is_none
invariant_of-self-else-is_none c =
    let ks : List GroupKey = c.self.inside.keys.items in
    let bs : List BitmapValue = c.self.inside.bitmaps.items in
    let t : GroupKey = c.index-tail.result.now in
    let some : list_any (is_of t.size t.config) bs ≡ true = from_some c.take_last.result _ c.if-is_none.ensures c.take_last.ensures.some in
    let less : length (without_last (is_of t.size t.config) bs) + 1 ≡ length bs = Lasts.length_without_last (is_of t.size t.config) bs some in
    let left : c.take_last.new.bitmaps.items ≡ without_last (is_of t.size t.config) bs = c.take_last.ensures.rest in
    record {
      apart = c.self.invariant.apart;
      placed = subst (ArePlaced ks) (sym left) (Stored.placed_without (is_of t.size t.config) ks bs c.self.invariant.placed);
      few_groups = c.self.invariant.few_groups;
      few_bitmaps = omega (arith, ap length left, less, c.self.invariant.few_bitmaps);
      group_room = c.self.invariant.group_room;
      bitmap_room = omega (arith, c.take_last.ensures.room, c.self.invariant.bitmap_room);
    }

pub returns-then-is_none : goal.returns-then-is_none
returns-then-is_none c =
    let ks : List GroupKey = c.self.inside.keys.items in
    let bs : List BitmapValue = c.self.inside.bitmaps.items in
    let t : GroupKey = c.index-tail.result.now in
    let long : c.len-groups.result ≡ length ks = omega (arith, c.len-groups.ensures, c.self.inside.keys.ok) in
    let tail : Steps.IsTail t ks = tail_at ks c.len-groups.result t long (omega (arith, c.if-groups-eq0.false)) c.index-tail.ensures in
    let none : list_any (is_of t.size t.config) bs ≡ false = from_none c.take_last.result _ c.if-is_none.ensures c.take_last.ensures.none in
    let gone = Steps.evict_none t ks bs tail none in
    let fewer : c.pop.new.self.items ≡ without_last (is_bare bs) ks = c.pop.ensures.rest ∙ ap (λ n. take (n - 1) ks) (let same : Rattle.std.specs.Prelude.vec_len c.self.inside.keys ≡ length ks = omega (arith, c.self.inside.keys.ok) in same) ∙ sym gone.0 in
    let same : c.take_last.new.bitmaps.items ≡ bs = c.take_last.ensures.rest ∙ Lasts.without_none (is_of t.size t.config) bs none in
    ap (groups_of c.pop.new.self.items) same ∙ ap (λ l. groups_of l bs) fewer ∙ gone.2 ∙ ap evict_one c.self.view_is

pub returns-else-is_none : goal.returns-else-is_none
returns-else-is_none c =
    let ks : List GroupKey = c.self.inside.keys.items in
    let bs : List BitmapValue = c.self.inside.bitmaps.items in
    let t : GroupKey = c.index-tail.result.now in
    let long : c.len-groups.result ≡ length ks = omega (arith, c.len-groups.ensures, c.self.inside.keys.ok) in
    let tail : Steps.IsTail t ks = tail_at ks c.len-groups.result t long (omega (arith, c.if-groups-eq0.false)) c.index-tail.ensures in
    let some : list_any (is_of t.size t.config) bs ≡ true = from_some c.take_last.result _ c.if-is_none.ensures c.take_last.ensures.some in
    ap (groups_of ks) c.take_last.ensures.rest ∙ Steps.evict_some t ks bs tail c.self.invariant.apart some ∙ ap evict_one c.self.view_is
