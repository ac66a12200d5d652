use Rattle.std.proofs.Common.{below_more, refl, arith}
use Rattle.cron_fields.proofs.AtomLemmas.{no_letter}
use Rattle.cron_fields.proofs.atom.are_letters.Goals as goal

pub returns-then-not-is_ascii_alphabetic : goal.returns-then-not-is_ascii_alphabetic
returns-then-not-is_ascii_alphabetic c =
    let none = rw c.if-not-is_ascii_alphabetic.true at c.is_ascii_alphabetic.ensures.cases in (
      λ yes. cc,
      λ letters. absurd (no_letter _ none (letters c.loop-byte.byte-index c.loop-byte-test.true)),
    )

pub loop-byte-preserved : goal.loop-byte-preserved
loop-byte-preserved c =
    below_more _ _ c.loop-byte.invariant (rw c.if-not-is_ascii_alphabetic.false at c.is_ascii_alphabetic.ensures.cases)

pub returns : goal.returns
returns c = (λ yes i within. c.loop-byte.invariant i (omega arith), λ letters. refl)
