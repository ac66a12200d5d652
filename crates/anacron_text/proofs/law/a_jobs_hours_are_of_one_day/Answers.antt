use Rattle.std.proofs.Common.{arith}
use Rattle.anacron_text.proofs.law.a_jobs_hours_are_of_one_day.Goals as goal

pub returns : goal.returns
returns c = record {
  rise = λ period delay added first last is. omega (arith, is.hours_rise);
  day = λ period delay added first last is. omega (arith, is.hours_within);
  delay = λ period delay added first last is. omega (arith, is.delay_within, is.added_within);
  days = λ days delay added first last is. is.period_within;
}
