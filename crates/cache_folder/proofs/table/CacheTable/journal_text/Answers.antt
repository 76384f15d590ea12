use Rattle.std.proofs.Common.{◌≡◌, ℕ, List, ◌++◌, ap, subst, ◌∙◌}
use Rattle.journal_lines.specs.Journal.{header, text_of}
use Rattle.disk_table.specs.UseOrder.{IsOnce}
use Rattle.disk_table.specs.Table.{keys_in}
use Rattle.cache_folder.specs.Tables.{CacheTableValue, kept, kept_by, lines_for}
use Rattle.cache_folder.proofs.NewText.{keyed, keyed_all}
use Rattle.cache_folder.proofs.table.CacheTable.journal_text.Goals as goal

keyed_at : (t u : CacheTableValue) (keys : List (List ℕ)) → t ≡ u → IsOnce t.table.entries → keys ≡ keys_in t.table.entries → keyed (kept u) keys ≡ lines_for (kept u)
keyed_at t u keys same once are = subst (λ v. keyed (kept v) keys ≡ lines_for (kept v)) same (ap (keyed (kept t)) are ∙ keyed_all (kept_by t.table.edits t.written) t.table.entries once)

pub loop-key-init : goal.loop-key-init
loop-key-init c =
    let text = c.in_ok-extend_from_slice.ensures.items ∙ ap (λ l. l ++ header) c.new-text.ensures.items in
    let keys = keyed_at (record { table = c.self.inside.table; written = c.self.inside.written }) c.args.self.now c.into_iter-key-iterator.result c.self.view_is c.keys-key-items.ensures.once (c.into_iter-key-iterator.ensures.into_iter_gives ∙ c.keys-key-items.ensures.keys) in
    (λ i. text i ++ text_of (keys i))
