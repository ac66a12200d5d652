use Rattle.cron_fields.specs.declared.field.FieldKind.TheVariants.{Month, WeekDay}
use Rattle.cron_fields.proofs.AtomLemmas.{no_name}
use Rattle.cron_fields.proofs.atom.read_name.Goals as goal

pub returns-in_err-place_of-in-Month-clause-none : goal.returns-in_err-place_of-in-Month-clause-none
returns-in_err-place_of-in-Month-clause-none c =
    rw (c.from_residual.ensures, c.in-Month.is) (no_name Month c.args.text.now c.in_err-place_of-in-Month.ensures.none)

pub returns-in_err-place_of-in-WeekDay-clause-none : goal.returns-in_err-place_of-in-WeekDay-clause-none
returns-in_err-place_of-in-WeekDay-clause-none c =
    rw (c.from_residual-in_err-place_of-in-WeekDay.ensures, c.in-WeekDay.is)
    (no_name WeekDay c.args.text.now c.in_err-place_of-in-WeekDay.ensures.none)
