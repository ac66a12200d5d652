use Rattle.std.proofs.Common.{◌≡◌}
use Rattle.replica_store.specs.Store.{size_of_store, StoreKeeps, IsStoreAtRest}
use Rattle.store_tests.specs.Tables.{two_jobs}
use Rattle.store_tests.proofs.kept.Kept.save_all.Given as goal

abbrev pub invariant-loop-change : goal.invariant-loop-change
invariant-loop-change g l =
    record {
      rests : IsStoreAtRest g.D.Disk.view l.disk l.self.store;
      keeps : StoreKeeps l.self.store l.self.durable;
      size : size_of_store l.self.store ≡ two_jobs;
    }
