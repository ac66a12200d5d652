use Rattle.std.proofs.Common.{◌≡◌, ◌-◌, ℕ, length, arith, refl, subst}
use Rattle.paxos_base.specs.Rows.{RowsStand}
use Rattle.board_tests.specs.Jobs.{IsFor}
use Rattle.board_tests.proofs.Threes.{all_three}
use Rattle.board_tests.proofs.threads.start.Goals as goal

pub install-requires-clause-stand : goal.install-requires-clause-stand
install-requires-clause-stand g c =
    let table = c.args.table.now in
    let last : c.versions.result - 1 ≡ length table.later = omega (arith, c.versions.ensures.count) in
    subst (λ (n : ℕ). RowsStand c.args.rows.now (record { jobs = length table.jobs; last_version = n })) last
    (subst (λ (n : ℕ). RowsStand c.args.rows.now (record { jobs = n; last_version = c.versions.result - 1 })) c.jobs.ensures.count (c.if-not-rows_stand.ensures.0 refl).1)

pub returns : goal.returns
returns g c = all_three (IsFor c.args.table.now) _ _ _ (c.reading.ensures c.args.table.now) c.writing.ensures (c.reading-2.ensures c.args.table.now)
