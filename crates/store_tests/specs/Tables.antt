-- The table of the tests.
use Rattle.paxos_base.specs.declared.rows.TableSize.{TableSize}

-- a table of two jobs and one version
abbrev pub two_jobs : TableSize
two_jobs = record { jobs = 2; last_version = 0 }
