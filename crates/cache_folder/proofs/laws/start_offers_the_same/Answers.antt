use Rattle.cache_folder.proofs.Openings.{no_backup, backup_back, no_new_journal, foreign_deleted}
use Rattle.cache_folder.proofs.laws.start_offers_the_same.Goals as goal

pub returns-clause-backup : goal.returns-clause-backup
returns-clause-backup c = no_backup

pub returns-clause-back : goal.returns-clause-back
returns-clause-back c = backup_back

pub returns-clause-new : goal.returns-clause-new
returns-clause-new c = no_new_journal

pub returns-clause-foreign : goal.returns-clause-foreign
returns-clause-foreign c = foreign_deleted
