use Rattle.std.proofs.Common.{inr}
use Rattle.crontab_text.specs.Nickname.{IsNickFault}
use Rattle.crontab_text.proofs.EntryLemmas.{tail_from_parts, tail_fault_from_parts}
use Rattle.crontab_text.proofs.NicknameLemmas.{known_meaning}
use Rattle.crontab_text.proofs.VariantLemmas.{handed_on}
use Rattle.crontab_text.proofs.nickname.read_nick.Goals as goal

pub returns-in_err-check_tail-clause-fault : goal.returns-in_err-check_tail-clause-fault
returns-in_err-check_tail-clause-fault c =
    handed_on c.from_residual.result c.in_err-check_tail.field-0.0 (λ fault. IsNickFault c.args.style c.args.text.now fault.cause fault.left)
    c.from_residual.ensures.1
    (record {
      word = c.take_word.result.0.text.now;
      tail = c.take_word.result.1.now;
      cut = c.take_word.ensures.word;
      is = inr (known_meaning _ _ c.in-Some.ensures.found, tail_fault_from_parts c.args.style c.take_word.result.1.now c.split_tail-tail.result _ _ c.split_tail-tail.ensures c.in_err-check_tail.ensures.bad);
    })

pub returns-clause-read : goal.returns-clause-read
returns-clause-read c = record {
  word = c.take_word.result.0.text.now;
  tail = c.take_word.result.1.now;
  cut = c.take_word.ensures.word;
  means = rw c.in-Some.ensures.found c.fields_of.ensures;
  tail_is = tail_from_parts c.args.style c.take_word.result.1.now c.split_tail-tail.result c.split_tail-tail.ensures c.in_ok-check_tail.ensures.good;
}
