use Rattle.std.proofs.Common.{◌<◌, ◌∙◌, arith, FitsSigned, w16}
use Rattle.std.proofs.lemmas.Int.{to_z-of_z}
use Rattle.jiff.specs.Words.{plain_zone}
use Rattle.jiff_core.proofs.SignedLemmas.{signed_arith}
use Rattle.zone_minutes.specs.Zone.{PosixRule, TzifFile, IsReadAs}
use Rattle.zone_minutes.proofs.RunLemmas.{AreRunsOver-fixed, AreRunsOver-listed}
use Rattle.zone_minutes.proofs.zone.runs_over.Goals as goal

pub returns-in_ok-vec-in-Fixed-clause-built : goal.returns-in_ok-vec-in-Fixed-clause-built
returns-in_ok-vec-in-Fixed-clause-built c =
    let minutes = c.in-Fixed.minutes in
    let offset = rw c.in-Fixed.is at c.requires.offset in
    let first = c.first_known-from.ensures.first in
    let end = c.end_of-until.ensures.end in
    let some : c.first_known-from.result < c.end_of-until.result = omega (arith, signed_arith) in
    let fits : FitsSigned w16 minutes = omega (arith, signed_arith) in
    rw (c.in-Fixed.is, c.in_ok-vec-in-Fixed.ensures.items)
    (AreRunsOver-fixed minutes c.args.window c.first_known-from.result c.end_of-until.result c.make_run.result offset first end some
    c.make_run.ensures.from c.make_run.ensures.until (c.make_run.ensures.ahead ∙ to_z-of_z w16 minutes fits))

pub returns-in_ok-list_runs-in-Posix-clause-built : goal.returns-in_ok-list_runs-in-Posix-clause-built
returns-in_ok-list_runs-in-Posix-clause-built c =
    rw c.in-Posix.is
    (AreRunsOver-listed (PosixRule c.in-Posix.text.now) (plain_zone c.in_ok-read_rule-in-Posix.field-0) c.args.window c.first_known-from.result c.end_of-until.result
    c.in_ok-list_runs-in-Posix.field-0.items c.in_ok-read_rule-in-Posix.ensures.zone c.first_known-from.ensures.first c.end_of-until.ensures.end c.in_ok-list_runs-in-Posix.ensures)

pub returns-in_ok-list_runs-in-Tzif-clause-built : goal.returns-in_ok-list_runs-in-Tzif-clause-built
returns-in_ok-list_runs-in-Tzif-clause-built c =
    let read : IsReadAs (TzifFile c.in-Tzif.bytes.now) (plain_zone c.tzif.result) = rw c.tzif.ensures c.in_ok-table-in-Tzif.ensures.table in
    rw c.in-Tzif.is
    (AreRunsOver-listed (TzifFile c.in-Tzif.bytes.now) (plain_zone c.tzif.result) c.args.window c.first_known-from.result c.end_of-until.result
    c.in_ok-list_runs-in-Tzif.field-0.items read c.first_known-from.ensures.first c.end_of-until.ensures.end c.in_ok-list_runs-in-Tzif.ensures)
