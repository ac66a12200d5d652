use Rattle.replica_store.proofs.BaseLemmas.{base_area, base_early, base_lost, base_kept}
use Rattle.replica_store.proofs.laws.a_stop_may_keep_a_base.Goals as goal

pub returns-clause-early : goal.returns-clause-early
returns-clause-early c size area kept own slot rows arm old new save few = (base_early size area kept own slot rows arm old new save few).stand

pub returns-clause-lost : goal.returns-clause-lost
returns-clause-lost c size area kept own slot rows arm old new save more hides = (base_lost size area kept own slot rows arm old new save more hides).stand

pub returns-clause-saved : goal.returns-clause-saved
returns-clause-saved c size area kept own slot rows arm old new save are more shows = (base_kept size area kept own slot rows arm old new save are more shows).stand

pub returns-clause-early_area : goal.returns-clause-early_area
returns-clause-early_area c size area kept own slot rows arm old new save few = (base_early size area kept own slot rows arm old new save few).selects

pub returns-clause-lost_area : goal.returns-clause-lost_area
returns-clause-lost_area c size area kept own slot rows arm old new save more hides = (base_lost size area kept own slot rows arm old new save more hides).selects

pub returns-clause-saved_area : goal.returns-clause-saved_area
returns-clause-saved_area c size area kept own slot rows arm old new save more shows = base_area size area kept own slot rows arm old new save more shows

pub returns-clause-early_format : goal.returns-clause-early_format
returns-clause-early_format c size area kept own slot rows arm old new save few = (base_early size area kept own slot rows arm old new save few).format

pub returns-clause-lost_format : goal.returns-clause-lost_format
returns-clause-lost_format c size area kept own slot rows arm old new save more hides = (base_lost size area kept own slot rows arm old new save more hides).format

pub returns-clause-saved_format : goal.returns-clause-saved_format
returns-clause-saved_format c size area kept own slot rows arm old new save are more shows = (base_kept size area kept own slot rows arm old new save are more shows).format
