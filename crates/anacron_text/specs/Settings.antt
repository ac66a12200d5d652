-- What the variables of an anacrontab say of the jobs below them (anacrontab(5) of cronie): RANDOM_DELAY and
-- START_HOURS_RANGE.
use Rattle.std.specs.Prelude.{◌≡◌, ◌≢◌, ◌⊎◌, ℕ, ◌<◌, ◌≤◌, List, ◌∷◌, ◌++◌, codes, decimal}
use Rattle.anacron_text.specs.declared.settings.Settings.{Settings}
use Rattle.cron_fields.specs.Cause.{cause_number}
use Rattle.cron_fields.specs.declared.cause.Cause.TheVariants.{BadHours, BadRandomDelay}

-- a number in decimal digits without a sign or a leading zero
pub record IsNumberWithin (least most : ℕ) (text : List ℕ) (number : ℕ) : Type 0 where
  pub is : text ≡ decimal number
  pub not_less : least ≤ number
  pub not_more : number ≤ most

-- the hours from one to another, `3-22`: jobs may start in the first and no longer in the last
pub record IsHours (text : List ℕ) (first last : ℕ) : Type 0 where
  pub is : text ≡ decimal first ++ 45 ∷ decimal last
  pub rise : first < last
  pub within : last ≤ 24

-- without a line that says more: no minute is added, and jobs may start in each hour
abbrev pub no_settings : Settings
no_settings = record { most_added = 0; first_hour = 0; last_hour = 24 }

-- what holds of all settings
pub record AreSettings (settings : Settings) : Type 0 where
  pub added : settings.most_added ≤ 9999
  pub rise : settings.first_hour < settings.last_hour
  pub within : settings.last_hour ≤ 24

-- the names of the two variables
abbrev pub random_delay : List ℕ
random_delay = codes "RANDOM_DELAY"

-- the name of the variable that has the hours
abbrev pub start_hours_range : List ℕ
start_hours_range = codes "START_HOURS_RANGE"

-- the variable sets how many minutes are added at most
pub record SetsDelay (old : Settings) (name value : List ℕ) (new : Settings) : Type 0 where
  pub name_is : name ≡ random_delay
  pub number : ℕ
  pub is_number : IsNumberWithin 0 9999 value number
  pub new_is : new ≡ record { most_added = number; first_hour = old.first_hour; last_hour = old.last_hour }

-- the variable sets the hours in which jobs start
pub record SetsHours (old : Settings) (name value : List ℕ) (new : Settings) : Type 0 where
  pub name_is : name ≡ start_hours_range
  pub first : ℕ
  pub last : ℕ
  pub are_hours : IsHours value first last
  pub new_is : new ≡ record { most_added = old.most_added; first_hour = first; last_hour = last }

-- any other variable sets neither
pub record SetsNothing (old : Settings) (name : List ℕ) (new : Settings) : Type 0 where
  pub no_delay : name ≢ random_delay
  pub no_hours : name ≢ start_hours_range
  pub new_is : new ≡ old

-- the settings below a line that sets a variable
abbrev pub SetsVariable : Settings → (name value : List ℕ) → Settings → Type 0
SetsVariable old name value new = SetsDelay old name value new ⊎ (SetsHours old name value new ⊎ SetsNothing old name new)

-- what is wrong with a value: no hours (cause 19), or no number of minutes (20)
abbrev pub IsBadValue : (name value : List ℕ) (cause : ℕ) → Type 0
IsBadValue name value cause =
    ((name ≡ start_hours_range) × ((first last : ℕ) → IsHours value first last → ⊥) × (cause ≡ cause_number BadHours))
    ⊎ ((name ≡ random_delay) × ((number : ℕ) → IsNumberWithin 0 9999 value number → ⊥) × (cause ≡ cause_number BadRandomDelay))
