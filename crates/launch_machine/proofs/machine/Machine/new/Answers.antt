use Rattle.std.proofs.Common.{List, ap, subst, ◌∙◌}
use Rattle.paxos_base.specs.declared.rows.JobRow.{JobRow}
use Rattle.paxos_base.specs.Rows.{fresh_rows, row_count}
use Rattle.paxos_base.specs.declared.rows.TableSize.{TableSize}
use Rattle.launch_machine.specs.Clerk.{table_size}
use Rattle.launch_machine.specs.Machine.{AreCalls, AreNextStarts}
use Rattle.launch_machine.proofs.MachineLemmas.{fresh_open, fresh_stand}
use Rattle.launch_machine.proofs.machine.Machine.new.Goals as goal

pub starts_of-requires : goal.starts_of-requires
starts_of-requires c = fresh_stand c.deref.result.now (table_size c.args.table.now)
    (c.deref.ensures.value ∙ c.in_ok-rows.ensures ∙ ap (λ (size : TableSize). fresh_rows (row_count size)) c.table_size.ensures.size)

pub calls_of-requires : goal.calls_of-requires
calls_of-requires c = fresh_stand c.deref-2.result.now (table_size c.args.table.now)
    (c.deref-2.ensures.value ∙ c.in_ok-rows.ensures ∙ ap (λ (size : TableSize). fresh_rows (row_count size)) c.table_size.ensures.size)

pub invariant_of-result : goal.invariant_of-result
invariant_of-result c = fresh_open c.in_ok-rows.rows.items (row_count c.table_size.result) c.in_ok-rows.ensures

pub returns-clause-stands : goal.returns-clause-stands
returns-clause-stands c = record {
  rows = fresh_stand c.in_ok-rows.rows.items (table_size c.args.table.now) (c.in_ok-rows.ensures ∙ ap (λ (size : TableSize). fresh_rows (row_count size)) c.table_size.ensures.size);
  starts = subst (λ (r : List JobRow). AreNextStarts c.args.table.now r c.in_ok-starts.starts) c.deref.ensures.value c.in_ok-starts.ensures;
  calls = subst (λ (r : List JobRow). AreCalls c.args.table.now r c.in_ok-calls.calls) c.deref-2.ensures.value c.in_ok-calls.ensures;
}
