-- The numbers of the causes for which an input is refused. Source: docs/RUN_FILE.md.
use Rattle.std.specs.Prelude.{ℕ}
use Rattle.cron_fields.specs.declared.cause.Cause.{Cause}
use Rattle.cron_fields.specs.declared.cause.Cause.TheVariants.{Empty, BadNumber, OutOfRange, UnknownName, BadOrder, ZeroStep, StepAfterAtom, Tilde, NoAtom, TooFewFields, NoCommand, BadUser, BadNickname, LongCommand, NotText, BadPeriod, BadDelay, BadIdentifier, BadHours, BadRandomDelay, UnknownZone, DuplicateJob, TooManyJobs, TooManyDue, BadHeader, BadReplicas, BadWindow, BadGrace, BadSection, BadScript, MissingLine, BadZone, TooLarge, BadZoneLine, NoFormYet, BadVersion}

-- the number of a cause
abbrev pub cause_number : Cause → ℕ
cause_number Empty = 1
cause_number BadNumber = 2
cause_number OutOfRange = 3
cause_number UnknownName = 4
cause_number BadOrder = 5
cause_number ZeroStep = 6
cause_number StepAfterAtom = 7
cause_number Tilde = 8
cause_number NoAtom = 9
cause_number TooFewFields = 10
cause_number NoCommand = 11
cause_number BadUser = 12
cause_number BadNickname = 13
cause_number LongCommand = 14
cause_number NotText = 15
cause_number BadPeriod = 16
cause_number BadDelay = 17
cause_number BadIdentifier = 18
cause_number BadHours = 19
cause_number BadRandomDelay = 20
cause_number UnknownZone = 21
cause_number DuplicateJob = 22
cause_number TooManyJobs = 23
cause_number TooManyDue = 24
cause_number BadHeader = 25
cause_number BadReplicas = 26
cause_number BadWindow = 27
cause_number BadGrace = 28
cause_number BadSection = 29
cause_number BadScript = 30
cause_number MissingLine = 31
cause_number BadZone = 32
cause_number TooLarge = 33
cause_number BadZoneLine = 34
cause_number NoFormYet = 35
cause_number BadVersion = 36
