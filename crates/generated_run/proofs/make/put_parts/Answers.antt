use Rattle.std.proofs.Common.{◌≡◌, ℕ, ◌+◌, ◌*◌, map, arith, ap, ◌∙◌, string_bytes}
use Rattle.script_text.specs.Command.{command_line}
use Rattle.generated_run.specs.Draws.{state_at}
use Rattle.generated_run.specs.Made.{part_commands, first_parts}
use Rattle.generated_run.proofs.LoopLemmas.{parts_none, parts_more, text_more}
use Rattle.generated_run.proofs.make.put_parts.Goals as goal

pub parts-init : goal.parts-init
parts-init c = λ seed is. (is, parts_none seed (string_bytes c.args.into.now))

pub parts-preserved : goal.parts-preserved
parts-preserved c = λ seed is.
    let number = c.parts.number in
    let before = c.parts.invariant seed is in (
      c.in_ok-put_part.ensures.drawn seed before.0 ∙ ap (state_at seed) (two_more number),
      text_more (string_bytes c.args.into.now) (string_bytes c.parts.into) (string_bytes c.put_part.new.into) (map command_line (first_parts seed number)) (map command_line (part_commands seed number))
          (map command_line (first_parts seed (number + 1))) before.1 (c.in_ok-put_part.ensures.put seed before.0) (parts_more seed number),
    )
  where
    two_more : (n : ℕ) → 362 + 2 * n ≡ 360 + 2 * (n + 1)
    two_more n = omega arith
