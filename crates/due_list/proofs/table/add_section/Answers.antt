use Rattle.std.proofs.Common.{◌∙◌, sym}
use Rattle.std.proofs.lemmas.Result.{on_ok_weaker}
use Rattle.run_text.specs.Run.{section_of}
use Rattle.due_list.specs.CheckText.{AreFaultsOf}
use Rattle.due_list.proofs.FaultLemmas.{AnacrontabWhole, CrontabWhole, adds_as, faults_of_anacrontab, faults_of_crontab}
use Rattle.due_list.proofs.table.add_section.Goals as goal

pub returns-in-Some : goal.returns-in-Some
returns-in-Some c =
    let section = c.args.section.now in
    on_ok_weaker c.add_crontab.result
    (adds_as (CrontabWhole section.line c.new-lines.result) (AreFaultsOf (section_of section)) c.args.faults.now.items _
    (λ faults are. faults_of_crontab section c.in-Some.style c.new-lines.result faults (sym c.style.ensures ∙ c.in-Some.is) c.new-lines.ensures are))
    c.add_crontab.ensures

pub returns-in-None : goal.returns-in-None
returns-in-None c =
    let section = c.args.section.now in
    on_ok_weaker c.add_anacrontab.result
    (adds_as (AnacrontabWhole section.line c.new.result.text) (AreFaultsOf (section_of section)) c.args.faults.now.items _
    (λ faults are. faults_of_anacrontab section c.new.result faults (sym c.style.ensures ∙ c.in-None.is) c.new.ensures are))
    c.add_anacrontab.ensures
