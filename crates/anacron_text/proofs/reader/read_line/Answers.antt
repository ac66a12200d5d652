use Rattle.std.proofs.Common.{rules}
use Rattle.std.proofs.lemmas.Result.{IfErr-weaker}
use Rattle.anacron_text.specs.Answers.{IsBehindBlanks, IsAnacronOther, IsAnacronLineBreak}
use Rattle.anacron_text.specs.Job.{IsJobFault}
use Rattle.anacron_text.proofs.AnswerLemmas.{line_sets, line_breaks_job}
use Rattle.anacron_text.proofs.reader.read_line.Goals as goal

pub returns-in-None-read_setting-clause-fault : goal.returns-in-None-read_setting-clause-fault
returns-in-None-read_setting-clause-fault c =
    let line = c.args.line.now in
    let text = c.skip_blanks-text.result.now in
    let other : IsAnacronOther text = search rules in
    let behind : IsBehindBlanks line text = record { skips = c.skip_blanks-text.ensures.skips; stands = c.skip_blanks-text.ensures.stands } in
    IfErr-weaker c.read_job.result (λ e. IsJobFault text e.cause e.left) (λ e. IsAnacronLineBreak line e.cause e.left)
    (λ e fault. line_breaks_job line text e.cause e.left behind other fault) c.read_job.ensures.fault

pub returns-in_ok-settings-in-Some-read_setting-clause-read : goal.returns-in_ok-settings-in-Some-read_setting-clause-read
returns-in_ok-settings-in-Some-read_setting-clause-read c =
    let line = c.args.line.now in
    let text = c.skip_blanks-text.result.now in
    let setting = c.in-Some-read_setting.setting in
    let behind : IsBehindBlanks line text = record { skips = c.skip_blanks-text.ensures.skips; stands = c.skip_blanks-text.ensures.stands } in
    line_sets c.args.settings.now c.in_ok-settings-in-Some-read_setting.field-0 line text setting.name.now setting.value.text.now setting.value.left behind
    c.in-Some-read_setting.ensures.read c.in_ok-settings-in-Some-read_setting.ensures.sets
