use Rattle.due_list.proofs.FaultLemmas.{sections_none, sections_more}
use Rattle.due_list.proofs.table.faults_of.Goals as goal

pub loop-section-init : goal.loop-section-init
loop-section-init c = sections_none c.new-faults.result.items c.new-faults.ensures.items

pub loop-section-preserved : goal.loop-section-preserved
loop-section-preserved c =
    sections_more c.args.sections.now c.loop-section.section-index _ c.loop-section.faults.items c.add_section.new.faults.items c.loop-section-test.true c.loop-section.invariant c.in_ok-add_section.ensures
