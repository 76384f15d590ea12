use Rattle.disk_table.proofs.Entries.{fits_known}
use Rattle.disk_table.proofs.Listed.{put_done}
use Rattle.disk_table.proofs.order.UseOrder.renew.Goals as goal

pub returns : goal.returns
returns c =
    let fits = fits_known c.args.key.now c.args.clean c.args.self.now 16400 c.requires.known c.put.ensures.few in
    put_done c.put.result _ _ _ _ c.args.self.now fits c.requires.known c.put.ensures.room c.put.ensures.order c.put.ensures.memory
