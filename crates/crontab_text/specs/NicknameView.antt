-- What the program's nicknames stand for. Private functions alone cite it.
use Rattle.std.specs.Prelude.{List, ℕ, Option, Some, None, codes}
use Rattle.crontab_text.specs.declared.nickname.Nickname.{Nickname}
use Rattle.crontab_text.specs.declared.nickname.Nickname.TheVariants.{Yearly, Monthly, Weekly, Daily, Hourly, Reboot}

-- the meaning of a nickname
abbrev pub meaning_of_nickname : Nickname → Option (Option (List ℕ))
meaning_of_nickname Yearly = Some (Some (codes "0 0 1 1 *"))
meaning_of_nickname Monthly = Some (Some (codes "0 0 1 * *"))
meaning_of_nickname Weekly = Some (Some (codes "0 0 * * 0"))
meaning_of_nickname Daily = Some (Some (codes "0 0 * * *"))
meaning_of_nickname Hourly = Some (Some (codes "0 * * * *"))
meaning_of_nickname Reboot = Some None
