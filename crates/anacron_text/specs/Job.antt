-- A line of an anacrontab that is a job (anacrontab(5) of cronie): period, delay, identifier, command.
use Rattle.std.specs.Prelude.{◌≡◌, ◌⊎◌, ℕ, ◌+◌, ◌%◌, ◌<◌, ◌≤◌, List, [], length, codes}
use Rattle.cron_fields.specs.Hash.{fnv_of, fnv_start}
use Rattle.crontab_text.specs.Blanks.{IsFirstWord}
use Rattle.crontab_text.specs.Lines.{Lacks}
use Rattle.crontab_text.specs.Tail.{EndsWithCommand, IsCommandFault}
use Rattle.anacron_text.specs.LineBody.{AnacronJob, AnacronLineBody, JobBody}
use Rattle.anacron_text.specs.Settings.{IsNumberWithin}
use Rattle.anacron_text.specs.Spaced.{spaced, IsPartWithin}
use Rattle.anacron_text.specs.declared.answer.PeriodWord.{PeriodWord}
use Rattle.anacron_text.specs.declared.answer.PeriodWord.TheVariants.{Days, Monthly, Yearly}
use Rattle.anacron_text.specs.declared.settings.Settings.{Settings}
use Rattle.cron_fields.specs.Cause.{cause_number}
use Rattle.cron_fields.specs.declared.cause.Cause.TheVariants.{TooFewFields, BadPeriod, BadDelay, BadIdentifier}

-- a period: 1 to 9,999 days, or the name of one
abbrev pub IsPeriod : List ℕ → PeriodWord → Type 0
IsPeriod word (Days days) =
    IsNumberWithin 1 9999 word days
    ⊎ (((word ≡ codes "@daily") × (days ≡ 1)) ⊎ ((word ≡ codes "@weekly") × (days ≡ 7)))
IsPeriod word Monthly = word ≡ codes "@monthly"
IsPeriod word Yearly = (word ≡ codes "@yearly") ⊎ (word ≡ codes "@annually")

-- a delay: 0 to 9,999 minutes
abbrev pub IsDelay : List ℕ → ℕ → Type 0
IsDelay word delay = IsNumberWithin 0 9999 word delay

-- an identifier: 1 to 64 bytes, none of them `/`; it names a file in cronie
pub record IsIdentifier (word : List ℕ) : Type 0 where
  pub some : 0 < length word
  pub short : length word ≤ 64
  pub no_slash : Lacks 47 word

-- the first three words of a text, and what is behind each
pub record JobWords : Type 0 where
  pub period : List ℕ
  pub behind_period : List ℕ
  pub delay : List ℕ
  pub behind_delay : List ℕ
  pub identifier : List ℕ
  pub tail : List ℕ

-- the text begins with these words, each after the one before it
pub record BeginsWithWords (text : List ℕ) (words : JobWords) : Type 0 where
  pub first : IsFirstWord text words.period words.behind_period
  pub second : IsFirstWord words.behind_period words.delay words.behind_delay
  pub third : IsFirstWord words.behind_delay words.identifier words.tail

-- the minutes that are added to a job's delay: its identifier picks them, from none to as many as the settings say
abbrev pub added_minutes : Settings → List ℕ → ℕ
added_minutes settings identifier = fnv_of fnv_start identifier % (settings.most_added + 1)

-- The text is a job: its words are read in the line with spaces, and the command is what is written there, up to the end.
pub record IsJob (settings : Settings) (text : List ℕ) (job : AnacronJob) : Type 0 where
  pub words : JobWords
  pub begins : BeginsWithWords (spaced text) words
  pub period_is : IsPeriod words.period job.period
  pub delay_is : IsDelay words.delay job.delay
  pub identifier_is : IsIdentifier words.identifier
  pub same_identifier : job.identifier ≡ words.identifier
  pub ends : EndsWithCommand words.tail (spaced job.command)
  pub stands : IsPartWithin text job.command (length job.command)
  pub added_is : job.added ≡ added_minutes settings job.identifier
  pub first_hour_is : job.first_hour ≡ settings.first_hour
  pub last_hour_is : job.last_hour ≡ settings.last_hour

-- the body is the job that the text is
abbrev pub IsJobBody : Settings → List ℕ → AnacronLineBody → Type 0
IsJobBody settings text (JobBody job) = IsJob settings text job
IsJobBody settings text body = ⊥

-- A word is missing (cause 10, at the line's end), or breaks its own rule. From its first byte on the line has `here` bytes.
abbrev pub IsAnacronBadWord : (word : List ℕ) (here rule cause left : ℕ) → Type 0
IsAnacronBadWord word here rule cause left =
    ((word ≡ []) × (cause ≡ cause_number TooFewFields) × (left ≡ 0)) ⊎ ((0 < length word) × (cause ≡ rule) × (left ≡ here))

-- the first word is no period (cause 16)
pub record IsPeriodFault (words : JobWords) (cause left : ℕ) : Type 0 where
  pub bad : (period : PeriodWord) → IsPeriod words.period period → ⊥
  pub is : IsAnacronBadWord words.period (length words.period + length words.behind_period) (cause_number BadPeriod) cause left

-- the second is no delay (17), behind a period
pub record IsDelayFault (words : JobWords) (cause left : ℕ) : Type 0 where
  pub period : PeriodWord
  pub is_period : IsPeriod words.period period
  pub bad : (delay : ℕ) → IsDelay words.delay delay → ⊥
  pub is : IsAnacronBadWord words.delay (length words.delay + length words.behind_delay) (cause_number BadDelay) cause left

-- the third is no identifier (18), behind a period and a delay
pub record IsIdentifierFault (words : JobWords) (cause left : ℕ) : Type 0 where
  pub period : PeriodWord
  pub delay : ℕ
  pub is_period : IsPeriod words.period period
  pub is_delay : IsDelay words.delay delay
  pub bad : IsIdentifier words.identifier → ⊥
  pub is : IsAnacronBadWord words.identifier (length words.identifier + length words.tail) (cause_number BadIdentifier) cause left

-- what is behind the three is no command
pub record IsAnacronLateFault (words : JobWords) (cause left : ℕ) : Type 0 where
  pub period : PeriodWord
  pub delay : ℕ
  pub is_period : IsPeriod words.period period
  pub is_delay : IsDelay words.delay delay
  pub is_identifier : IsIdentifier words.identifier
  pub is : IsCommandFault words.tail cause left

-- the first fault of a job, from left to right, and how many bytes of the text stand from there on
pub record IsJobFault (text : List ℕ) (cause left : ℕ) : Type 0 where
  pub words : JobWords
  pub begins : BeginsWithWords (spaced text) words
  pub fault : IsPeriodFault words cause left ⊎ (IsDelayFault words cause left ⊎ (IsIdentifierFault words cause left ⊎ IsAnacronLateFault words cause left))
