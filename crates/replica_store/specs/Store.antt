-- A store and its disk.
use Rattle.std.specs.Prelude.{◌≡◌, ℕ, List}
use Rattle.disk_model.specs.declared.fault.FileNo.{FileNo}
use Rattle.disk_model.specs.declared.fault.FileNo.TheVariants.{Chooser}
use Rattle.disk_model.specs.Images.{IsDurable}
use Rattle.disk_model.specs.View.{DiskView}
use Rattle.gate_file.specs.File.{file_no, bodies_of, IsFileAtRest}
use Rattle.paxos_base.specs.declared.durable.Durable.{Durable}
use Rattle.paxos_base.specs.declared.rows.TableSize.{TableSize}
use Rattle.store_format.specs.Area.{BeginsInFormat1}
use Rattle.replica_store.specs.declared.store.Store.{Store}
use Rattle.replica_store.specs.Files.{selected, BodiesStand}

-- how large the store's table is
abbrev pub size_of_store : Store → TableSize
size_of_store store = store.size

-- the area that has its records
abbrev pub area_of : Store → FileNo
area_of store = file_no store.gates

-- the records that it has, each in its bytes
abbrev pub records_of : Store → List (List ℕ)
records_of store = bodies_of store.gates

-- what the store's records stand for is this
abbrev pub StoreKeeps : Store → Durable → Type 0
StoreKeeps store kept = BodiesStand store.size (bodies_of store.gates) kept

-- its records begin with no base of format 1
abbrev pub IsInFormat2 : Store → Type 0
IsInFormat2 store = BeginsInFormat1 store.size (bodies_of store.gates) → ⊥

-- The disk's files are as the last call of the store left them: the chooser selects the store's area, which is at rest with
-- its records, whatever a stop does, and these stand for some state.
pub record IsStoreAtRest {D : Type 0} (view : DiskView D) (disk : D) (store : Store) : Type 0 where
  pub gates : IsFileAtRest view disk store.gates
  pub selects : selected (view.seen disk) ≡ area_of store
  pub chooser : view.honest disk → IsDurable Chooser (view.seen disk) (view.may_leave disk)
  pub keeps : (kept : Durable) × StoreKeeps store kept
