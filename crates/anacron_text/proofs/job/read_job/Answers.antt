use Rattle.std.proofs.Common.{◌≡◌}
use Rattle.crontab_text.proofs.VariantLemmas.{handed_on}
use Rattle.anacron_text.specs.Job.{IsPeriod, IsDelay, IsIdentifier, IsJobFault}
use Rattle.anacron_text.proofs.JobLemmas.{period_fault, delay_fault, identifier_fault, command_fault, job_from_steps, read_value, read_none}
use Rattle.anacron_text.proofs.job.read_job.Goals as goal

pub returns-in_err-period-clause-fault : goal.returns-in_err-period-clause-fault
returns-in_err-period-clause-fault c =
    handed_on c.from_residual.result c.in_err-period.field-0.0 (λ fault. IsJobFault c.args.text.now fault.cause fault.left)
    c.from_residual.ensures.1
    (period_fault
    c.args.text.now c.take_word.result.0.text.now c.take_word-2.result.0.text.now c.take_word-3.result.0.text.now
    c.take_word.result.1.now c.take_word-2.result.1.now c.take_word-3.result.1.now
    c.take_word.result.0.left c.in_err-period.field-0.0.cause c.in_err-period.field-0.0.left
    c.take_word.ensures.word c.take_word-2.ensures.word c.take_word-3.ensures.word
    (read_none c.read_period.result c.in_err-period.ensures.none c.read_period.ensures.none)
    c.take_word.ensures.left c.in_err-period.ensures.fault)

pub returns-in_err-delay-clause-fault : goal.returns-in_err-delay-clause-fault
returns-in_err-delay-clause-fault c =
    handed_on c.from_residual-in_err-delay.result c.in_err-delay.field-0.0 (λ fault. IsJobFault c.args.text.now fault.cause fault.left)
    c.from_residual-in_err-delay.ensures.1
    (delay_fault
    c.args.text.now c.take_word.result.0.text.now c.take_word-2.result.0.text.now c.take_word-3.result.0.text.now
    c.take_word.result.1.now c.take_word-2.result.1.now c.take_word-3.result.1.now
    c.in_ok-period.period c.take_word-2.result.0.left c.in_err-delay.field-0.0.cause c.in_err-delay.field-0.0.left
    c.take_word.ensures.word c.take_word-2.ensures.word c.take_word-3.ensures.word
    (read_value (IsPeriod c.take_word.result.0.text.now) c.in_ok-period.ensures.read c.read_period.ensures.read)
    (read_none c.read_minutes.result c.in_err-delay.ensures.none c.read_minutes.ensures.none)
    c.take_word-2.ensures.left c.in_err-delay.ensures.fault)

pub returns-in_err-identifier-clause-fault : goal.returns-in_err-identifier-clause-fault
returns-in_err-identifier-clause-fault c =
    handed_on c.from_residual-in_err-identifier.result c.in_err-identifier.field-0.0 (λ fault. IsJobFault c.args.text.now fault.cause fault.left)
    c.from_residual-in_err-identifier.ensures.1
    (identifier_fault
    c.args.text.now c.take_word.result.0.text.now c.take_word-2.result.0.text.now c.take_word-3.result.0.text.now
    c.take_word.result.1.now c.take_word-2.result.1.now c.take_word-3.result.1.now
    c.in_ok-period.period c.in_ok-delay.delay c.take_word-3.result.0.left c.in_err-identifier.field-0.0.cause c.in_err-identifier.field-0.0.left
    c.take_word.ensures.word c.take_word-2.ensures.word c.take_word-3.ensures.word
    (read_value (IsPeriod c.take_word.result.0.text.now) c.in_ok-period.ensures.read c.read_period.ensures.read)
    (read_value (IsDelay c.take_word-2.result.0.text.now) c.in_ok-delay.ensures.read c.read_minutes.ensures.read)
    (read_none c.read_identifier.result c.in_err-identifier.ensures.none c.read_identifier.ensures.none)
    c.take_word-3.ensures.left c.in_err-identifier.ensures.fault)

pub returns-in_err-check_command-clause-fault : goal.returns-in_err-check_command-clause-fault
returns-in_err-check_command-clause-fault c =
    let named = (read_value (λ named. (named.now ≡ c.take_word-3.result.0.text.now) × IsIdentifier c.take_word-3.result.0.text.now) c.in_ok-identifier.ensures.read c.read_identifier.ensures.read) in
    handed_on c.from_residual-in_err-check_command.result c.in_err-check_command.field-0.0 (λ fault. IsJobFault c.args.text.now fault.cause fault.left)
    c.from_residual-in_err-check_command.ensures.1
    (command_fault
    c.args.text.now c.take_word.result.0.text.now c.take_word-2.result.0.text.now c.take_word-3.result.0.text.now
    c.take_word.result.1.now c.take_word-2.result.1.now c.take_word-3.result.1.now
    c.skip_blanks-command.result.now c.in_ok-period.period c.in_ok-delay.delay c.in_err-check_command.field-0.0.cause c.in_err-check_command.field-0.0.left
    c.take_word.ensures.word c.take_word-2.ensures.word c.take_word-3.ensures.word
    (read_value (IsPeriod c.take_word.result.0.text.now) c.in_ok-period.ensures.read c.read_period.ensures.read)
    (read_value (IsDelay c.take_word-2.result.0.text.now) c.in_ok-delay.ensures.read c.read_minutes.ensures.read)
    named.1 c.skip_blanks-command.ensures.skips c.in_err-check_command.ensures.bad)

pub returns-clause-read : goal.returns-clause-read
returns-clause-read c =
    let named = (read_value (λ named. (named.now ≡ c.take_word-3.result.0.text.now) × IsIdentifier c.take_word-3.result.0.text.now) c.in_ok-identifier.ensures.read c.read_identifier.ensures.read) in
    job_from_steps c.args.settings
    c.args.text.now c.take_word.result.0.text.now c.take_word-2.result.0.text.now c.take_word-3.result.0.text.now
    c.take_word.result.1.now c.take_word-2.result.1.now c.take_word-3.result.1.now
    c.in_ok-identifier.identifier.now c.skip_blanks-command.result.now c.in_ok-period.period c.in_ok-delay.delay c.added_minutes.result
    c.take_word.ensures.word c.take_word-2.ensures.word c.take_word-3.ensures.word
    c.take_word.ensures.stands c.take_word-2.ensures.stands c.take_word-3.ensures.stands c.skip_blanks-command.ensures.stands
    (read_value (IsPeriod c.take_word.result.0.text.now) c.in_ok-period.ensures.read c.read_period.ensures.read)
    (read_value (IsDelay c.take_word-2.result.0.text.now) c.in_ok-delay.ensures.read c.read_minutes.ensures.read)
    named.1 named.0 c.added_minutes.ensures c.skip_blanks-command.ensures.skips c.in_ok-check_command.ensures.good
