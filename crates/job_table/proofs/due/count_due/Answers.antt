use Rattle.std.proofs.Common.{◌+◌, ◌<◌, ℕ, arith, subst, sym}
use Rattle.job_table.specs.Table.{IsDueCount}
use Rattle.job_table.proofs.DueCountLemmas.{CountsVersions, CountsVersions-next, part_of_count}
use Rattle.job_table.proofs.VariantLemmas.{if_none}
use Rattle.job_table.proofs.due.count_due.Goals as goal

pub returns-in_err-total-clause-many : goal.returns-in_err-total-clause-many
returns-in_err-total-clause-many c =
    let many : (count : ℕ) → IsDueCount c.args.table.now count → 20_000 < count = λ count counted.
    let part = part_of_count c.args.table.now c.loop-version.version c.loop-version.total count c.loop-version.invariant.counted (omega arith) counted in
    omega (arith, c.in_err-total.ensures.many part.0 part.1, part.2) in
    if_none c.from_residual.result many

pub loop-version-preserved : goal.loop-version-preserved
loop-version-preserved c =
    let (count, counted, total) = c.in_ok-total.ensures.counted in
    record {
      counted = subst (CountsVersions c.args.table.now (c.loop-version.version + 1)) (sym total)
          (CountsVersions-next c.args.table.now c.loop-version.version c.loop-version.total count c.loop-version.invariant.counted counted);
      few = c.in_ok-total.ensures.few;
    }
