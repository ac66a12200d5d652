use Rattle.std.proofs.Common.{◌∷◌, [], inl, inr}
use Rattle.cron_fields.specs.Seed.{seed_of}
use Rattle.cron_fields.specs.declared.field.FieldKind.TheVariants.{Minute, Hour, MonthDay, Month, WeekDay}
use Rattle.crontab_text.specs.Entry.{IsEntryFault}
use Rattle.crontab_text.proofs.EntryLemmas.{fault_here, fault_later, five_fields, tail_from_parts, tail_fault_from_parts}
use Rattle.crontab_text.proofs.VariantLemmas.{handed_on}
use Rattle.crontab_text.proofs.entry.read_entry.Goals as goal

pub returns-in_err-read_word-clause-fault : goal.returns-in_err-read_word-clause-fault
returns-in_err-read_word-clause-fault c =
    handed_on c.from_residual.result c.in_err-read_word.field-0.0 (λ fault. IsEntryFault c.args.style c.args.text.now fault.cause fault.left)
    c.from_residual.ensures.1
    (inl (fault_here Minute (Hour ∷ MonthDay ∷ Month ∷ WeekDay ∷ []) c.take_word.result.0.left c.in_err-read_word.field-0.0.cause c.in_err-read_word.field-0.0.left c.take_word.ensures.word c.take_word.ensures.left c.in_err-read_word.ensures.fault))

pub returns-in_err-read_word-2-clause-fault : goal.returns-in_err-read_word-2-clause-fault
returns-in_err-read_word-2-clause-fault c =
    handed_on c.from_residual-in_err-read_word-2.result c.in_err-read_word-2.field-0.0 (λ fault. IsEntryFault c.args.style c.args.text.now fault.cause fault.left)
    c.from_residual-in_err-read_word-2.ensures.1
    (inl (fault_later Minute (Hour ∷ MonthDay ∷ Month ∷ WeekDay ∷ []) c.in_err-read_word-2.field-0.0.cause c.in_err-read_word-2.field-0.0.left c.take_word.ensures.word c.in_ok-read_word.ensures.read
    (fault_here Hour (MonthDay ∷ Month ∷ WeekDay ∷ []) c.take_word-2.result.0.left c.in_err-read_word-2.field-0.0.cause c.in_err-read_word-2.field-0.0.left c.take_word-2.ensures.word c.take_word-2.ensures.left c.in_err-read_word-2.ensures.fault)))

pub returns-in_err-read_word-3-clause-fault : goal.returns-in_err-read_word-3-clause-fault
returns-in_err-read_word-3-clause-fault c =
    handed_on c.from_residual-in_err-read_word-3.result c.in_err-read_word-3.field-0.0 (λ fault. IsEntryFault c.args.style c.args.text.now fault.cause fault.left)
    c.from_residual-in_err-read_word-3.ensures.1
    (inl (fault_later Minute (Hour ∷ MonthDay ∷ Month ∷ WeekDay ∷ []) c.in_err-read_word-3.field-0.0.cause c.in_err-read_word-3.field-0.0.left c.take_word.ensures.word c.in_ok-read_word.ensures.read
    (fault_later Hour (MonthDay ∷ Month ∷ WeekDay ∷ []) c.in_err-read_word-3.field-0.0.cause c.in_err-read_word-3.field-0.0.left c.take_word-2.ensures.word c.in_ok-read_word-2.ensures.read
    (fault_here MonthDay (Month ∷ WeekDay ∷ []) c.take_word-3.result.0.left c.in_err-read_word-3.field-0.0.cause c.in_err-read_word-3.field-0.0.left c.take_word-3.ensures.word c.take_word-3.ensures.left c.in_err-read_word-3.ensures.fault))))

pub returns-in_err-read_word-4-clause-fault : goal.returns-in_err-read_word-4-clause-fault
returns-in_err-read_word-4-clause-fault c =
    handed_on c.from_residual-in_err-read_word-4.result c.in_err-read_word-4.field-0.0 (λ fault. IsEntryFault c.args.style c.args.text.now fault.cause fault.left)
    c.from_residual-in_err-read_word-4.ensures.1
    (inl (fault_later Minute (Hour ∷ MonthDay ∷ Month ∷ WeekDay ∷ []) c.in_err-read_word-4.field-0.0.cause c.in_err-read_word-4.field-0.0.left c.take_word.ensures.word c.in_ok-read_word.ensures.read
    (fault_later Hour (MonthDay ∷ Month ∷ WeekDay ∷ []) c.in_err-read_word-4.field-0.0.cause c.in_err-read_word-4.field-0.0.left c.take_word-2.ensures.word c.in_ok-read_word-2.ensures.read
    (fault_later MonthDay (Month ∷ WeekDay ∷ []) c.in_err-read_word-4.field-0.0.cause c.in_err-read_word-4.field-0.0.left c.take_word-3.ensures.word c.in_ok-read_word-3.ensures.read
    (fault_here Month (WeekDay ∷ []) c.take_word-4.result.0.left c.in_err-read_word-4.field-0.0.cause c.in_err-read_word-4.field-0.0.left c.take_word-4.ensures.word c.take_word-4.ensures.left c.in_err-read_word-4.ensures.fault)))))

pub returns-in_err-read_word-5-clause-fault : goal.returns-in_err-read_word-5-clause-fault
returns-in_err-read_word-5-clause-fault c =
    handed_on c.from_residual-in_err-read_word-5.result c.in_err-read_word-5.field-0.0 (λ fault. IsEntryFault c.args.style c.args.text.now fault.cause fault.left)
    c.from_residual-in_err-read_word-5.ensures.1
    (inl (fault_later Minute (Hour ∷ MonthDay ∷ Month ∷ WeekDay ∷ []) c.in_err-read_word-5.field-0.0.cause c.in_err-read_word-5.field-0.0.left c.take_word.ensures.word c.in_ok-read_word.ensures.read
    (fault_later Hour (MonthDay ∷ Month ∷ WeekDay ∷ []) c.in_err-read_word-5.field-0.0.cause c.in_err-read_word-5.field-0.0.left c.take_word-2.ensures.word c.in_ok-read_word-2.ensures.read
    (fault_later MonthDay (Month ∷ WeekDay ∷ []) c.in_err-read_word-5.field-0.0.cause c.in_err-read_word-5.field-0.0.left c.take_word-3.ensures.word c.in_ok-read_word-3.ensures.read
    (fault_later Month (WeekDay ∷ []) c.in_err-read_word-5.field-0.0.cause c.in_err-read_word-5.field-0.0.left c.take_word-4.ensures.word c.in_ok-read_word-4.ensures.read
    (fault_here WeekDay ([]) c.take_word-5.result.0.left c.in_err-read_word-5.field-0.0.cause c.in_err-read_word-5.field-0.0.left c.take_word-5.ensures.word c.take_word-5.ensures.left c.in_err-read_word-5.ensures.fault))))))

pub returns-in_err-check_tail-clause-fault : goal.returns-in_err-check_tail-clause-fault
returns-in_err-check_tail-clause-fault c =
    handed_on c.from_residual-in_err-check_tail.result c.in_err-check_tail.field-0.0 (λ fault. IsEntryFault c.args.style c.args.text.now fault.cause fault.left)
    c.from_residual-in_err-check_tail.ensures.1
    (inr (record {
      seed = seed_of c.seed_of_entry-seed.result;
      sets = c.in_ok-read_word.field-0 ∷ c.in_ok-read_word-2.field-0 ∷ c.in_ok-read_word-3.field-0 ∷ c.in_ok-read_word-4.field-0 ∷ c.in_ok-read_word-5.field-0 ∷ [];
      tail = c.take_word-5.result.1.now;
      fields_are = five_fields c.take_word.ensures.word c.in_ok-read_word.ensures.read c.take_word-2.ensures.word c.in_ok-read_word-2.ensures.read c.take_word-3.ensures.word c.in_ok-read_word-3.ensures.read c.take_word-4.ensures.word c.in_ok-read_word-4.ensures.read c.take_word-5.ensures.word c.in_ok-read_word-5.ensures.read;
      fault = tail_fault_from_parts c.args.style c.take_word-5.result.1.now c.split_tail-tail.result _ _ c.split_tail-tail.ensures c.in_err-check_tail.ensures.bad;
    }))

pub returns-clause-read : goal.returns-clause-read
returns-clause-read c = record {
  tail = c.take_word-5.result.1.now;
  fields_are = rw (← c.seed_of_entry-seed.ensures) (five_fields c.take_word.ensures.word c.in_ok-read_word.ensures.read c.take_word-2.ensures.word c.in_ok-read_word-2.ensures.read c.take_word-3.ensures.word c.in_ok-read_word-3.ensures.read c.take_word-4.ensures.word c.in_ok-read_word-4.ensures.read c.take_word-5.ensures.word c.in_ok-read_word-5.ensures.read);
  tail_is = tail_from_parts c.args.style c.take_word-5.result.1.now c.split_tail-tail.result c.split_tail-tail.ensures c.in_ok-check_tail.ensures.good;
}
