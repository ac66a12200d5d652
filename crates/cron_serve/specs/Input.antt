-- Which inputs the program takes, by what it is asked to write, and for what it refuses the others. Source: docs/RUN_FILE.md.
use Rattle.std.specs.Prelude.{◌≡◌, ◌⊎◌, ℕ, ◌<◌, ◌≤◌, List, length, ⊤}
use Rattle.due_set.specs.Table.{Table}
use Rattle.run_text.specs.Run.{Run}
use Rattle.run_text.specs.declared.refusal.Refusal.{Refusal}
use Rattle.run_input.specs.Input.{IsRunWithTable, IsTakenFrame, IsRefusedAsRun, IsRefusedAsFrame}
use Rattle.job_table.specs.Table.{whole_run}
use Rattle.program_options.specs.declared.words.Output.{Output}
use Rattle.program_options.specs.declared.words.Output.TheVariants.{Report, DueList, Check, Summary}
use Rattle.cron_fields.specs.declared.cause.Cause.TheVariants.{TooLarge}

-- this is written of an input, and not of a run that is made
abbrev pub IsOfInput : Output → Type 0
IsOfInput (Summary seed) = ⊥
IsOfInput output = ⊤

-- the input is one of which this can be written: of a run with a table, and the check of any run; and a summary of whatever
-- stands there, since nothing is read for it
abbrev pub Suits : Output → List ℕ → Type 0
Suits (Report watch journal) bytes = (run : Run) × (table : Table) × IsRunWithTable bytes run table
Suits DueList bytes = (run : Run) × (table : Table) × IsRunWithTable bytes run table
Suits Check bytes = (run : Run) × IsTakenFrame bytes run
Suits (Summary seed) bytes = ⊤

-- for what the bytes are refused, where this is to be written
abbrev pub IsRefusedBytes : Output → List ℕ → Refusal → Type 0
IsRefusedBytes (Report watch journal) bytes refusal = IsRefusedAsRun bytes refusal
IsRefusedBytes DueList bytes refusal = IsRefusedAsRun bytes refusal
IsRefusedBytes Check bytes refusal = IsRefusedAsFrame bytes refusal
IsRefusedBytes (Summary seed) bytes refusal = ⊥

-- the input, of which this was to be written, is refused: it has more than 1,048,576 bytes, or else it is refused for
-- what it says
abbrev pub IsRefusedInput : Output → List ℕ → Refusal → Type 0
IsRefusedInput output bytes refusal =
    IsOfInput output × (((1_048_576 < length bytes) × (refusal ≡ whole_run TooLarge))
    ⊎ ((length bytes ≤ 1_048_576) × IsRefusedBytes output bytes refusal))
