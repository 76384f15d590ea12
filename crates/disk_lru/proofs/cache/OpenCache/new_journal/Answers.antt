use Rattle.std.proofs.Common.{false, refl, sym, ap, subst, is_ok, inl, inr}
use Rattle.disk_table.specs.Table.{TableValue}
use Rattle.cache_folder.specs.Tables.{kept}
use Rattle.cache_folder.specs.Sound.{IsSound}
use Rattle.disk_lru.proofs.Fields.{sound_done, keeps_sound, keeps_unbuilt, rebuilds_by}
use Rattle.disk_lru.proofs.Lines.{counted_new, settled_new}
use Rattle.disk_lru.proofs.cache.OpenCache.new_journal.Goals as goal

pub rebuild-requires : goal.rebuild-requires
rebuild-requires g c = c.self.invariant.files

pub invariant_of-self : goal.invariant_of-self
invariant_of-self g c = keeps_unbuilt c.calls_keep_others.ensures (g.F.Files.history c.self.inside.files) (g.F.Files.history c.rebuild.new.files) c.self.inside.table c.rebuild.ensures.known c.self.invariant.files c.rebuild.ensures.ways

pub returns-in_err-rebuild-clause-rebuilds : goal.returns-in_err-rebuild-clause-rebuilds
returns-in_err-rebuild-clause-rebuilds g c = rebuilds_by _ _ _ c.self.view_is refl refl refl refl c.rebuild.ensures.known c.rebuild.ensures.ways (λ k e. inl refl) c.rebuild.ensures.cause.later

pub invariant_of-self-2 : goal.invariant_of-self-2
invariant_of-self-2 g c = keeps_sound (g.F.Files.history c.self.inside.files) (g.F.Files.history c.rebuild.new.files) (kept c.self.inside.table) c.rebuilt.new.self false c.rebuild.ensures.known
    (λ h e k e'. sound_done (g.F.Files.history c.rebuild.new.files) _ _ k (c.rebuild.ensures.ok (ap is_ok c.in_ok-rebuild.was) h e) e') c.rebuilt.ensures.kept
    (λ h e k e'. counted_new k.held c.self.inside.table c.rebuilt.new.self (c.rebuild.ensures.lines (ap is_ok c.in_ok-rebuild.was) k e') c.rebuilt.ensures.table (c.self.invariant.files h e).count)

pub returns-clause-rebuilds : goal.returns-clause-rebuilds
returns-clause-rebuilds g c = rebuilds_by _ _ _ c.self.view_is c.rebuilt.ensures.kept (ap (λ (t : TableValue). t.edits) c.rebuilt.ensures.table) (ap (λ (t : TableValue). t.entries) c.rebuilt.ensures.table) refl c.rebuild.ensures.known c.rebuild.ensures.ways (λ k e. inr (c.rebuild.ensures.alone (ap is_ok c.in_ok-rebuild.was) k e)) c.rebuild.ensures.cause.later

pub returns-clause-settled : goal.returns-clause-settled
returns-clause-settled g c = λ ok. settled_new _ c.self.inside.table (λ k e. c.rebuild.ensures.lines (ap is_ok c.in_ok-rebuild.was) k e) c.rebuilt.ensures.kept c.rebuilt.ensures.table

pub returns-clause-offers_now : goal.returns-clause-offers_now
returns-clause-offers_now g c = λ ok k e'. let m = c.rebuild.ensures.known k e' in
    c.calls_keep_others.ensures.sound_offers k.held (kept c.rebuilt.new.self) (subst (IsSound k.held) (sym c.rebuilt.ensures.kept) (sound_done (g.F.Files.history c.rebuild.new.files) _ _ k (c.rebuild.ensures.ok (ap is_ok c.in_ok-rebuild.was) m.0 m.1) e'))
