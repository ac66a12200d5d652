use Rattle.std.proofs.Common.{◌≡◌, ◌++◌, ◌+◌, ◌*◌, ℕ, map, string_bytes}
use Rattle.script_text.specs.Command.{command_line}
use Rattle.generated_run.specs.Draws.{state_at}
use Rattle.generated_run.specs.Made.{first_parts}
use Rattle.cron_io.specs.Lines.{text_of_lines}
use Rattle.generated_run.proofs.make.put_parts.Given as goal

abbrev pub invariant-parts : goal.invariant-parts
invariant-parts l =
    (seed : ℕ) → l.fn.draws.state ≡ state_at seed 360
    → (l.draws.state ≡ state_at seed (360 + 2 * l.number)) × (string_bytes l.into ≡ string_bytes l.fn.into ++ text_of_lines (map command_line (first_parts seed l.number)))
