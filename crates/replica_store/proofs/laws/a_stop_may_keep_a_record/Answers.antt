use Rattle.replica_store.proofs.KeptLemmas.{record_area, record_early, record_lost, record_kept}
use Rattle.replica_store.proofs.laws.a_stop_may_keep_a_record.Goals as goal

pub returns-clause-early : goal.returns-clause-early
returns-clause-early c size area kept own change item arm old new save is few = (record_early size area kept own change item arm old new save is few).stand

pub returns-clause-lost : goal.returns-clause-lost
returns-clause-lost c size area kept own change item arm old new save is more hides = (record_lost size area kept own change item arm old new save is more hides).stand

pub returns-clause-saved : goal.returns-clause-saved
returns-clause-saved c size area kept own change item arm old new save is record_is more shows = (record_kept size area kept own change item arm old new save is record_is more shows).stand

pub returns-clause-area : goal.returns-clause-area
returns-clause-area c size area kept own change item arm old new save is = record_area size area kept own change item arm old new save is

pub returns-clause-early_format : goal.returns-clause-early_format
returns-clause-early_format c size area kept own change item arm old new save is few = (record_early size area kept own change item arm old new save is few).format

pub returns-clause-lost_format : goal.returns-clause-lost_format
returns-clause-lost_format c size area kept own change item arm old new save is more hides = (record_lost size area kept own change item arm old new save is more hides).format

pub returns-clause-saved_format : goal.returns-clause-saved_format
returns-clause-saved_format c size area kept own change item arm old new save is record_is more shows = (record_kept size area kept own change item arm old new save is record_is more shows).format
