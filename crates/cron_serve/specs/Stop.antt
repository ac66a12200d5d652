-- Which stop a fault of a part leads to, and the end that a stop leads to. Private functions alone cite it.
use Rattle.std.specs.Prelude.{ℕ, Option, None, Some, ⊤}
use Rattle.cron_io.specs.Faults.{Rose}
use Rattle.cron_io.specs.Views.{SourceView}
use Rattle.cron_io.specs.declared.source.ReadAllFault.{ReadAllFault}
use Rattle.cron_io.specs.declared.source.ReadAllFault.TheVariants as reading
use Rattle.run_text.specs.declared.refusal.Refusal.{Refusal}
use Rattle.run_text.specs.declared.refusal.RunFault.{RunFault}
use Rattle.run_text.specs.declared.refusal.RunFault.TheVariants as run
use Rattle.job_table.specs.Table.{whole_run}
use Rattle.cron_serve.specs.Audit.{IsRefusedByAudit}
use Rattle.cron_serve.specs.Serve.{IsRefused}
use Rattle.program_options.specs.declared.words.Request.{Request}
use Rattle.program_options.specs.declared.words.Request.TheVariants.{Text, Audit}
use Rattle.cron_serve.specs.declared.stop.Stop.{Stop}
use Rattle.cron_serve.specs.declared.stop.Stop.TheVariants.{Usage, Refused, ReadFault, OutOfMemory}
use Rattle.cron_fields.specs.declared.cause.Cause.TheVariants.{TooLarge}

-- the stop that follows where the input wasn't read; an input that is too long is refused as a whole
abbrev pub stop_of_read : ReadAllFault → Stop
stop_of_read reading.ReadFault = ReadFault
stop_of_read reading.TooLong = Refused (whole_run TooLarge)
stop_of_read reading.OutOfMemory = OutOfMemory

-- the stop that follows where no run was read: it was refused, or memory ran out
abbrev pub stop_of_run : RunFault → Stop
stop_of_run (run.Refused refusal) = Refused refusal
stop_of_run run.OutOfMemory = OutOfMemory

-- the status of a stop
abbrev pub status_of : Stop → ℕ
status_of Usage = 1
status_of (Refused refusal) = 2
status_of ReadFault = 3
status_of OutOfMemory = 5

-- the refusal, where it is one
abbrev pub refusal_of : Stop → Option Refusal
refusal_of Usage = None
refusal_of (Refused refusal) = Some refusal
refusal_of ReadFault = None
refusal_of OutOfMemory = None

-- the stop needs nothing of the input: a faulty command line, or want of memory
abbrev pub StopsAtOnce : Stop → Type 0
StopsAtOnce Usage = ⊤
StopsAtOnce (Refused refusal) = ⊥
StopsAtOnce ReadFault = ⊥
StopsAtOnce OutOfMemory = ⊤

-- why the input was refused, where this was asked for
abbrev pub IsRefusedFor : Request → (source source' : SourceView) → Refusal → Type 0
IsRefusedFor (Text output) source source' refusal = IsRefused output source source' refusal
IsRefusedFor Audit source source' refusal = IsRefusedByAudit source source' refusal

-- why the program stopped that was asked for this: the input was refused, a read failed, or memory ran out
abbrev pub StopsFor : Request → (source source' : SourceView) → Stop → Type 0
StopsFor request source source' Usage = ⊥
StopsFor request source source' (Refused refusal) = IsRefusedFor request source source' refusal
StopsFor request source source' ReadFault = Rose source.faults source'.faults
StopsFor request source source' OutOfMemory = ⊤
