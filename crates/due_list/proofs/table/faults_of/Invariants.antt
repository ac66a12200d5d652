use Rattle.std.proofs.Common.{map, take}
use Rattle.run_text.specs.Run.{section_of}
use Rattle.due_list.specs.CheckText.{AreFaultsIn}
use Rattle.due_list.proofs.table.faults_of.Given as goal

abbrev pub invariant-loop-section : goal.invariant-loop-section
invariant-loop-section l = AreFaultsIn (map section_of (take l.section-index l.sections)) l.faults.items
