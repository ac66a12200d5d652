use Rattle.std.proofs.Common.{◌∙◌, All, sym, subst, string_bytes, List}
use Rattle.std.proofs.lemmas.Result.{on_ok_weaker}
use Rattle.zone_minutes.specs.declared.minute.Minute.{Minute}
use Rattle.due_set.specs.Table.{IsJobDue}
use Rattle.due_list.proofs.DueLemmas.{each_due}
use Rattle.due_list.proofs.LineLemmas.{entry_lines, name_is}
use Rattle.due_list.proofs.due.put_entry.Goals as goal

pub put_dues-requires-clause-due : goal.put_dues-requires-clause-due
put_dues-requires-clause-due c =
    subst (λ (l : List Minute). All (λ at. IsJobDue c.args.table.now c.args.version c.args.job at.0) l) (sym c.deref.ensures.value)
    (each_due c.args.table.now c.args.version c.args.job c.in_ok-dues.dues.items c.in_ok-dues.ensures)

pub returns : goal.returns
returns c =
    on_ok_weaker c.put_dues.result
    (λ appended job zone is_in.
    entry_lines c.args.table.now c.args.version c.args.job job zone c.in_ok-dues.dues.items (string_bytes c.args.into.now) (string_bytes c.put_count.new.into) (string_bytes c.put_dues.new.into) c.name.result.now c.len.result
    c.in_ok-dues.ensures (c.len.ensures ∙ c.in_ok-dues.dues.ok.0) (name_is c.args.table.now c.args.version c.args.job job zone c.name.result.now c.name.ensures.sound is_in c.name.ensures.name)
    c.in_ok-put_count.ensures (rw c.deref.ensures.value at (appended job zone is_in)))
    c.put_dues.ensures
