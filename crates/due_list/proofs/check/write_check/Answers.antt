use Rattle.std.proofs.Common.{◌≡◌, All, List, length, map, ◌<◌, ◌^◌, sym, subst, ap, ◌∙◌, string_bytes}
use Rattle.cron_io.specs.Lines.{text_of_lines}
use Rattle.run_text.specs.Run.{run_of, section_of}
use Rattle.run_text.specs.declared.run.Section.{Section as SectionText}
use Rattle.due_list.specs.CheckText.{AreFaultsIn, IsCheckText, check_lines}
use Rattle.due_list.specs.declared.fault.TableFault.{TableFault}
use Rattle.due_list.proofs.FaultLemmas.{short_texts}
use Rattle.due_list.proofs.WriteLemmas.{writes_no_memory, writes_this}
use Rattle.due_list.proofs.check.write_check.Goals as goal

pub faults_of-requires : goal.faults_of-requires
faults_of-requires g c =
    subst (λ (l : List SectionText). All (λ section. length section.text.now < 2 ^ 32) l) (sym c.deref.ensures.value) (short_texts (length c.requires.text) c.args.run.now.sections.items c.requires.short c.requires.parts)

pub returns-in_err-faults : goal.returns-in_err-faults
returns-in_err-faults g c = writes_no_memory _ c.from_residual.result (IsCheckText (run_of c.args.run.now)) c.from_residual.ensures.1

pub returns-in_err-text : goal.returns-in_err-text
returns-in_err-text g c = writes_no_memory _ c.from_residual-in_err-text.result (IsCheckText (run_of c.args.run.now)) c.from_residual-in_err-text.ensures.1

pub returns : goal.returns
returns g c =
    let run = run_of c.args.run.now in
    let faults = c.in_ok-faults.faults.items in
    let are : AreFaultsIn run.sections faults = subst (λ (l : List SectionText). AreFaultsIn (map section_of l) faults) c.deref.ensures.value c.in_ok-faults.ensures in
    let text_is : string_bytes c.in_ok-text.text ≡ text_of_lines (check_lines faults) = c.in_ok-text.ensures ∙ ap (λ (l : List TableFault). text_of_lines (check_lines l)) c.deref-2.ensures.value in
    writes_this _ _ c.write_text.result c.deref-3.result.now (IsCheckText run) (record { faults = faults; are = are; text_is = c.deref-3.ensures ∙ text_is }) c.write_text.ensures
