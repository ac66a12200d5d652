-- What is kept takes a vote in the ballot, at a slot from the base on.
use Rattle.std.proofs.Common.{◌≤◌}
use Rattle.paxos_base.specs.Ballot.{IsAtLeast}
use Rattle.disk_model.specs.MemDisk.{view_of}
use Rattle.paxos_base.specs.declared.durable.Durable.{Durable}
use Rattle.replica_store.specs.Store.{StoreKeeps, IsStoreAtRest}
use Rattle.store_bench.proofs.votes.save_votes.Given as goal

abbrev pub invariant-loop-slot : goal.invariant-loop-slot
invariant-loop-slot l =
    record {
      rests : IsStoreAtRest view_of l.disk l.store;
      takes : (kept : Durable) × (StoreKeeps l.store kept × (IsAtLeast l.ballot kept.promised × (kept.base ≤ l.base)));
    }
