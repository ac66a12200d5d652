use Rattle.crontab_text.proofs.NicknameLemmas.{yearly_means, monthly_means, weekly_means, daily_means, hourly_means}
use Rattle.crontab_text.proofs.nickname.fields_of.Goals as goal

pub returns-in-Yearly : goal.returns-in-Yearly
returns-in-Yearly c = rw c.in-Yearly.is yearly_means

pub returns-in-Monthly : goal.returns-in-Monthly
returns-in-Monthly c = rw c.in-Monthly.is monthly_means

pub returns-in-Weekly : goal.returns-in-Weekly
returns-in-Weekly c = rw c.in-Weekly.is weekly_means

pub returns-in-Daily : goal.returns-in-Daily
returns-in-Daily c = rw c.in-Daily.is daily_means

pub returns-in-Hourly : goal.returns-in-Hourly
returns-in-Hourly c = rw c.in-Hourly.is hourly_means
