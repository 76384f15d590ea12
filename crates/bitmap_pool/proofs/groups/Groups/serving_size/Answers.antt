use Rattle.std.proofs.Common.{◌≡◌, ℕ, ◌+◌, ◌*◌, cond, List, ◌∷◌, drop, get_or, Some, Option, ap, sym, subst, ◌∙◌}
use Rattle.std.proofs.lemmas.List.{drop_more}
use Rattle.bitmap_kind.specs.declared.bitmaps.Config.{Config}
use Rattle.bitmap_kind.specs.declared.bitmaps.Config.TheVariants.{Argb8888}
use Rattle.bitmap_kind.specs.Picture.{BitmapValue}
use Rattle.bitmap_pool.specs.Pool.{least_with, least_size}
use Rattle.bitmap_pool.specs.declared.groups.GroupKey.{GroupKey}
use Rattle.bitmap_pool.specs.inside.GroupsView.{serves, groups_of}
use Rattle.bitmap_pool.proofs.Least.{least_of, with_group, group_more, group_within, IsWithin}
use Rattle.bitmap_pool.proofs.groups.Groups.serving_size.Goals as goal
use Rattle.bitmap_pool.proofs.groups.Groups.serving_size.Goals.{then-serves, else-serves}

pub loop-key-preserved : goal.loop-key-preserved
loop-key-preserved c =
    let ks : List GroupKey = c.deref-key-items.result.now in
    let bs : List BitmapValue = c.self.inside.bitmaps.items in
    let least : Option ℕ = c.loop-key.least in
    let f : Config = c.args.config in
    let w : ℕ = c.args.wanted in
    let i : ℕ = c.loop-key.key-index in
    let k : GroupKey = get_or ks i (record { size = 0; config = Argb8888 }) in
    let told : c.serves.result ≡ serves f w bs k = c.serves.ensures ∙ ap (λ (l : List BitmapValue). serves f w l k) c.deref.ensures.value in
    let more : c.if-serves.least ≡ with_group f w bs k least = elim c.if-serves.branch [
      | then-serves v ↦ v.least-is ∙ ap Some v.lesser.ensures ∙ sym (ap (λ t. cond t (Some (least_with k.size least)) least) (sym told ∙ v.if-serves.true))
      | else-serves v ↦ v.least-is ∙ sym (ap (λ t. cond t (Some (least_with k.size least)) least) (sym told ∙ v.if-serves.false))
    ] in
    let rest : drop i ks ≡ k ∷ drop (i + 1) ks = drop_more ks i (record { size = 0; config = Argb8888 }) c.loop-key-test.true in (
      ap (λ o. least_of o (least_size f w (8 * w) (groups_of (drop (i + 1) ks) bs))) more
          ∙ group_more f w k (drop (i + 1) ks) bs least
          ∙ sym (ap (λ l. least_of least (least_size f w (8 * w) (groups_of l bs))) rest)
          ∙ c.loop-key.invariant.0,
      subst (IsWithin w) (sym more) (group_within f w bs k least c.loop-key.invariant.1),
    )
