-- A store on its disk, and what it keeps.
use Rattle.std.specs.Prelude.{◌≡◌}
use Rattle.launch_machine.specs.Clerk.{table_size}
use Rattle.disk_model.specs.MemDisk.{view_of}
use Rattle.disk_model.specs.declared.mem_disk.MemDisk.{MemDisk}
use Rattle.due_set.specs.Table.{Table}
use Rattle.paxos_base.specs.declared.durable.Durable.{Durable}
use Rattle.replica_store.specs.Store.{size_of_store, StoreKeeps, IsStoreAtRest}
use Rattle.replica_store.specs.declared.store.Store.{Store}

-- a store, the disk that it is attached to, the table of jobs that it is of, and what it keeps
pub record AttachedState : Type 0 where
  pub table : Table
  pub disk : MemDisk
  pub store : Store
  pub kept : Durable

-- the store is at rest on its disk, is of a table of that many jobs, and keeps that
pub record IsStoreAttached (attached : AttachedState) : Type 0 where
  pub rests : IsStoreAtRest view_of attached.disk attached.store
  pub size : size_of_store attached.store ≡ table_size attached.table
  pub keeps : StoreKeeps attached.store attached.kept
