use Rattle.std.proofs.Common.{below_more, refl, arith}
use Rattle.cron_fields.proofs.AtomLemmas.{by_index, no_digit_at}
use Rattle.cron_fields.proofs.atom.are_digits.Goals as goal

pub returns-then-not-is_ascii_digit : goal.returns-then-not-is_ascii_digit
returns-then-not-is_ascii_digit c =
    let no_digit = rw c.if-not-is_ascii_digit.true at c.is_ascii_digit.ensures.cases in (
      λ yes. cc,
      λ digits. absurd (no_digit_at c.args.bytes.now c.loop-byte.byte-index c.loop-byte-test.true no_digit digits),
    )

pub loop-byte-preserved : goal.loop-byte-preserved
loop-byte-preserved c =
    below_more _ _ c.loop-byte.invariant (rw c.if-not-is_ascii_digit.false at c.is_ascii_digit.ensures.cases)

pub returns : goal.returns
returns c = (
  λ yes. by_index.to c.args.bytes.now (λ i within. c.loop-byte.invariant i (omega arith)),
  λ digits. refl,
)
