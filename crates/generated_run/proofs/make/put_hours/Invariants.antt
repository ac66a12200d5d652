use Rattle.std.proofs.Common.{◌≡◌, ◌++◌, ℕ, string_bytes}
use Rattle.generated_run.specs.Draws.{state_at}
use Rattle.generated_run.specs.Made.{hourly_lines}
use Rattle.cron_io.specs.Lines.{text_of_lines}
use Rattle.generated_run.proofs.make.put_hours.Given as goal

abbrev pub invariant-jobs : goal.invariant-jobs
invariant-jobs l =
    (seed : ℕ) → l.fn.draws.state ≡ state_at seed 0
    → (l.draws.state ≡ state_at seed l.number) × (string_bytes l.into ≡ string_bytes l.fn.into ++ text_of_lines (hourly_lines seed l.number))
