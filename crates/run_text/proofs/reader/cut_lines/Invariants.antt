use Rattle.std.proofs.Common.{ℕ, List}
use Rattle.run_text.specs.Steps.{IsCut}
use Rattle.run_text.proofs.reader.cut_lines.Given as goal
use denote.Shadow.{shadow}
use denote.Text.{Utf8}

abbrev pub invariant-lines : goal.invariant-lines
invariant-lines l = shadow (Utf8 l.rest) × ((front : List ℕ) × IsCut l.fn.text l.counter front l.rest)
