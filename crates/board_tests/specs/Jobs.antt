-- What a thread can begin with. Private functions alone cite it.
use Rattle.std.specs.Prelude.{◌≡◌, ◌<◌, IfSome, true}
use Rattle.due_set.specs.Table.{Table}
use Rattle.launch_machine.specs.Machine.{StandsFor}
use Rattle.board_tests.specs.declared.job.Job.{Job}

-- the job's writer or reader is one of a board for the table, which has a job
pub record IsFor (table : Table) (job : Job) : Type 0 where
  pub writer : IfSome job.writer (λ writer. StandsFor table writer.machine × (writer.ready ≡ true))
  pub reader : IfSome job.reader (λ reader. 0 < reader.total)
