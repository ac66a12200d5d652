use Rattle.std.proofs.Common.{◌≡◌, ◌∙◌, None, IfSome, IfNone, sym, subst}
use Rattle.anacron_text.specs.LogicalLines.{logical_lines}
use Rattle.anacron_text.specs.Settings.{no_settings}
use Rattle.anacron_text.specs.TableReader.{AnacronTableReader}
use Rattle.crontab_text.specs.Lines.{lines_of}
use Rattle.run_text.specs.Anacrontab.{SayAll, IsFirstBreak}
use Rattle.run_text.specs.Follow.{style_of}
use Rattle.run_text.specs.Table.{AreSaid, IsTableFault}
use Rattle.run_text.proofs.AnacrontabLemmas.{broken_joined, said_joined}
use Rattle.run_text.proofs.table.first_fault.Goals as goal

pub returns-in-None-clause-fault : goal.returns-in-None-clause-fault
returns-in-None-clause-fault c =
    let none : style_of c.args.opening.now.kind ≡ None = sym c.style.ensures ∙ c.in-None.is in
    subst (λ s. IfSome c.anacrontab_fault.result (IsTableFault s c.args.opening.now.label.now (lines_of c.args.text.now))) (sym none)
    (broken_joined c.args.text.now c.anacrontab_fault.result
    (subst (λ (r : AnacronTableReader). IfSome c.anacrontab_fault.result (λ f. IsFirstBreak no_settings (logical_lines r.text) f.line f.cause f.place)) c.new-in-None.ensures c.anacrontab_fault.ensures.fault))

pub returns-in-None-clause-none : goal.returns-in-None-clause-none
returns-in-None-clause-none c =
    let none : style_of c.args.opening.now.kind ≡ None = sym c.style.ensures ∙ c.in-None.is in
    subst (λ s. IfNone c.anacrontab_fault.result (AreSaid s c.args.opening.now.label.now (lines_of c.args.text.now))) (sym none)
    (said_joined c.args.text.now c.anacrontab_fault.result
    (subst (λ (r : AnacronTableReader). IfNone c.anacrontab_fault.result (SayAll no_settings (logical_lines r.text))) c.new-in-None.ensures c.anacrontab_fault.ensures.none))
