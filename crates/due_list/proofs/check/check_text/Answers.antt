use Rattle.std.proofs.Common.{length, refl, rules, string_bytes}
use Rattle.due_list.proofs.LineLemmas.{check_text_is}
use Rattle.due_list.proofs.check.check_text.Goals as goal

pub returns : goal.returns
returns c =
    check_text_is c.args.faults.now (string_bytes c.in_ok-text.text) (string_bytes c.put_faults.new.into) _ (length c.args.faults.now) c.in_ok-text.ensures.ok c.in_ok-put_faults.ensures refl (search rules)
