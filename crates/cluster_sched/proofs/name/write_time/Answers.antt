use Rattle.std.proofs.Common.{ap, length, ◌≡◌, ◌∙◌, w64, FitsSigned, arith}
use Rattle.std.proofs.lemmas.Int.{ints, to_z-of_z}
use Rattle.zone_minutes.specs.Civil.{IsCalendarDay, IsCalendarMinute}
use Rattle.zone_minutes.proofs.StampLemmas.{length-basic_stamp_text, length-date_text}
use Rattle.due_set.specs.Table.{is_by_period}
use Rattle.cluster_sched.specs.Names.{time_text}
use Rattle.cluster_sched.proofs.NameLemmas.{told_date, told_stamp}
use Rattle.cluster_sched.proofs.name.write_time.Goals as goal

pub write_date-requires : goal.write_date-requires
write_date-requires c =
    let at = c.args.name.at in
    let says = told_date c.args.table.now c.args.name.job c.is_anacron.result at c.is_anacron.ensures.by_name c.if-is_anacron.true in
    let calendar : IsCalendarDay at = rw says.calendar at c.requires.calendar in
    let fits : FitsSigned w64 at = omega (arith, ints, calendar) in
    rw (to_z-of_z w64 at fits) calendar

pub write_basic_stamp-requires : goal.write_basic_stamp-requires
write_basic_stamp-requires c =
    let at = c.args.name.at in
    let says = told_stamp c.args.table.now c.args.name.job c.is_anacron.result at c.is_anacron.ensures.by_name c.if-is_anacron.false in
    let calendar : IsCalendarMinute at = rw says.calendar at c.requires.calendar in
    let fits : FitsSigned w64 at = omega (arith, ints, calendar) in
    rw (to_z-of_z w64 at fits) calendar

pub returns-then-is_anacron-clause-full : goal.returns-then-is_anacron-clause-full
returns-then-is_anacron-clause-full c =
    let at = c.args.name.at in
    let long : length (time_text (is_by_period c.args.table.now c.args.name.job) at) ≡ 10 = ap length (told_date c.args.table.now c.args.name.job c.is_anacron.result at c.is_anacron.ensures.by_name c.if-is_anacron.true).text ∙ length-date_text at in
    rw long c.write_date.ensures.full

pub returns-else-is_anacron-clause-full : goal.returns-else-is_anacron-clause-full
returns-else-is_anacron-clause-full c =
    let at = c.args.name.at in
    let long : length (time_text (is_by_period c.args.table.now c.args.name.job) at) ≡ 14 = ap length (told_stamp c.args.table.now c.args.name.job c.is_anacron.result at c.is_anacron.ensures.by_name c.if-is_anacron.false).text ∙ length-basic_stamp_text at in
    rw long c.write_basic_stamp.ensures.full
