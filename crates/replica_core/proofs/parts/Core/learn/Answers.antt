use Rattle.replica_core.proofs.parts.Core.learn.Goals as goal

pub returns-in-Some-Rebased : goal.returns-in-Some-Rebased
returns-in-Some-Rebased c = rw (c.in-Some-Rebased.is, c.in-Some-Rebased.field-0-is, ← c.rebased.view_is, ← c.into_inner.ensures) (c.take_table.ensures c.args.rows.now)
