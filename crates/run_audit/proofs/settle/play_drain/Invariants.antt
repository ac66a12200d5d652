use Rattle.script_semantics.specs.Settling.{Drains}
use Rattle.run_audit.proofs.PartLemmas.{LeadsOn}
use Rattle.run_audit.specs.Begins.{BeginsDrain}
use Rattle.run_audit.proofs.settle.play_drain.Given as goal

abbrev pub invariant-rounds : goal.invariant-rounds
invariant-rounds l =
    LeadsOn l.table (BeginsDrain l.fn.replay.book.members l.table l.who l.at.0) (Drains l.fn.replay.book.members l.table l.who l.at.0)
    (BeginsDrain l.fn.replay.book.members l.table l.who l.at.0) (Drains l.fn.replay.book.members l.table l.who l.at.0) l.fn.replay l.replay l.fn.rest l.rest
