use Rattle.std.proofs.Common.{rules, ◌≡◌, true, false, cond, None, sym, ap, subst, ◌∙◌}
use Rattle.std.specs.Option.{option_map}
use Rattle.std.specs.FinMap.{get}
use Rattle.cache_folder.specs.Offered.{value_name}
use Rattle.cache_folder.specs.Tables.{is_offered}
use Rattle.disk_lru.specs.State.{entries}
use Rattle.disk_lru.specs.Past.{Promise}
use Rattle.disk_lru.proofs.Promises.{read_after}
use Rattle.disk_lru.proofs.disk.DiskLru.get.Goals as goal

pub returns-then-not-has-clause-calls : goal.returns-then-not-has-clause-calls
returns-then-not-has-clause-calls g c =
    let not_offered : is_offered c.args.key.now (entries c.args.self.now.cache) ≡ false = search rules in
    read_after c.calls_keep_others.ensures c.args.self.now c.args.key.now None (λ k e. sym (ap (λ b. cond b (get k.held (value_name c.args.key.now)) None) not_offered)) (subst Promise c.self.view_is c.self.invariant)

pub returns-clause-calls : goal.returns-clause-calls
returns-clause-calls g c =
    let offered : is_offered c.args.key.now (entries c.args.self.now.cache) ≡ true = search rules in
    read_after c.calls_keep_others.ensures c.args.self.now c.args.key.now (option_map (λ v. v.items) c.in_ok-found.found)
    (λ k e. c.in_ok-found.ensures.bytes k e ∙ sym (ap (λ b. cond b (get k.held (value_name c.args.key.now)) None) offered)) (subst Promise c.self.view_is c.self.invariant)
