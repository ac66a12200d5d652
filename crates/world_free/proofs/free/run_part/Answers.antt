use Rattle.std.proofs.Common.{◌<◌, ◌^◌, length, refl, sym, ap, ◌∙◌, arith}
use Rattle.std.specs.List.{slice_get}
use Rattle.std.proofs.lemmas.Option.{slice_get-get_or}
use Rattle.world_law.specs.Book.{BookState}
use Rattle.world_law.proofs.Lawful.{has_lawful}
use Rattle.world_free.specs.declared.job.Setting.{Setting}
use Rattle.world_free.proofs.BoardEnds.{part_shown}
use Rattle.world_free.proofs.Handed.{begins_at, begun, both_ok, goes_to, hand, if_ok, ran}
use Rattle.world_free.proofs.free.run_part.Goals as goal

pub new-requires-clause-rows : goal.new-requires-clause-rows
new-requires-clause-rows g c = has_lawful c.args.table.now c.requires.parts.rows c.args.parts.book c.requires.parts.are.at.behind

pub run_jobs-requires-clause-begun : goal.run_jobs-requires-clause-begun
run_jobs-requires-clause-begun g c =
    let setting : Setting = record { alloc = c.args.alloc; members = c.len-seats.result; at = c.args.at; turns = c.args.turns; cuts = c.args.parts.mail.cuts } in
    let few : length c.turns-first.result.now < 2 ^ 31 = omega (arith, c.if-first-gt-MOST_TURNS.false) in
    let handed =
    hand c.args.table.now c.args.parts c.in_ok-shared.shared setting c.len-seats.result c.turns-first.result.now c.letters.result.now c.in_ok-mails.mails.items
    c.in_ok-shared.places.items c.in_ok-jobs.jobs.items c.in_ok-shared.ensures.began refl (c.len-seats.ensures ∙ c.args.parts.nodes.ok.0 ∙ c.requires.parts.are.nodes.count) c.turns-first.ensures few c.in_ok-mails.ensures.mails c.letters.ensures
    c.in_ok-mails.ensures.kept c.in_ok-shared.ensures.seats c.in_ok-jobs.ensures.jobs in
    let all =
    begun g.D.Disk.view c.args.table.now c.args.parts c.in_ok-shared.shared setting
    c.in_ok-jobs.jobs.items handed c.requires.parts.rows c.requires.parts.situation c.requires.parts.are c.as_mut_slice.result.now c.as_mut_slice.ensures.value in
    λ lives borrowed. (c.requires.parts.situation, all)

pub run_jobs-requires-clause-memory : goal.run_jobs-requires-clause-memory
run_jobs-requires-clause-memory g c = λ lives borrowed who none within.
    c.in_ok-jobs.ensures.memory who _
    (ap (λ jobs. slice_get jobs who) (sym c.as_mut_slice.ensures.value) ∙ slice_get-get_or c.as_mut_slice.result.now who none within)

pub finish-requires-clause-taken : goal.finish-requires-clause-taken
finish-requires-clause-taken g c =
    let setting : Setting = record { alloc = c.args.alloc; members = c.len-seats.result; at = c.args.at; turns = c.args.turns; cuts = c.args.parts.mail.cuts } in
    let few : length c.turns-first.result.now < 2 ^ 31 = omega (arith, c.if-first-gt-MOST_TURNS.false) in
    let handed =
    hand c.args.table.now c.args.parts c.in_ok-shared.shared setting c.len-seats.result c.turns-first.result.now c.letters.result.now c.in_ok-mails.mails.items
    c.in_ok-shared.places.items c.in_ok-jobs.jobs.items c.in_ok-shared.ensures.began refl (c.len-seats.ensures ∙ c.args.parts.nodes.ok.0 ∙ c.requires.parts.are.nodes.count) c.turns-first.ensures few c.in_ok-mails.ensures.mails c.letters.ensures
    c.in_ok-mails.ensures.kept c.in_ok-shared.ensures.seats c.in_ok-jobs.ensures.jobs in
    let run =
    ran g.D.Disk.view c.args.table.now c.args.parts c.in_ok-shared.shared setting
    c.in_ok-jobs.jobs.items handed c.requires.parts.rows c.requires.parts.situation c.requires.parts.are
    c.as_mut_slice.result.now c.run_jobs.new.jobs c.in_ok-jobs.jobs.len c.as_mut_slice.ensures.value c.run_jobs.ensures.count c.in_ok-jobs.jobs.ok.0
    (c.in_ok-run_jobs.ensures.taken c.requires.parts.situation) in
    (c.requires.parts.situation, run)

pub returns-clause-goes : goal.returns-clause-goes
returns-clause-goes g c =
    let setting : Setting = record { alloc = c.args.alloc; members = c.len-seats.result; at = c.args.at; turns = c.args.turns; cuts = c.args.parts.mail.cuts } in
    let few : length c.turns-first.result.now < 2 ^ 31 = omega (arith, c.if-first-gt-MOST_TURNS.false) in
    let handed =
    hand c.args.table.now c.args.parts c.in_ok-shared.shared setting c.len-seats.result c.turns-first.result.now c.letters.result.now c.in_ok-mails.mails.items
    c.in_ok-shared.places.items c.in_ok-jobs.jobs.items c.in_ok-shared.ensures.began refl (c.len-seats.ensures ∙ c.args.parts.nodes.ok.0 ∙ c.requires.parts.are.nodes.count) c.turns-first.ensures few c.in_ok-mails.ensures.mails c.letters.ensures
    c.in_ok-mails.ensures.kept c.in_ok-shared.ensures.seats c.in_ok-jobs.ensures.jobs in
    if_ok c.finish.result _ _
    (λ new both rows situation are.
    let run =
    ran g.D.Disk.view c.args.table.now c.args.parts c.in_ok-shared.shared setting
    c.in_ok-jobs.jobs.items handed rows situation are
    c.as_mut_slice.result.now c.run_jobs.new.jobs c.in_ok-jobs.jobs.len c.as_mut_slice.ensures.value c.run_jobs.ensures.count c.in_ok-jobs.jobs.ok.0
    (c.in_ok-run_jobs.ensures.taken situation) in
    let begins =
    begins_at g.D.Disk.view c.args.table.now c.args.parts c.in_ok-shared.shared setting
    c.in_ok-jobs.jobs.items handed rows situation are in
    part_shown g.D.Disk.view c.args.table.now c.args.parts c.in_ok-shared.shared setting c.in_ok-jobs.jobs.items handed rows situation are c.requires.some
    c.as_mut_slice.result.now c.run_jobs.new.jobs c.in_ok-jobs.jobs.len c.as_mut_slice.ensures.value c.run_jobs.ensures.count c.in_ok-jobs.jobs.ok.0
    (c.in_ok-run_jobs.ensures.taken situation) c.args.board.now c.run_jobs.new.board (c.in_ok-run_jobs.ensures.shows situation) new both.1
    (goes_to g.D.Disk.view c.args.table.now c.args.parts c.in_ok-shared.shared setting
    c.in_ok-jobs.jobs.items handed rows situation new _
    (both.0 rows situation run begins)))
    (both_ok c.finish.result _ _ c.finish.ensures.ends
    (if_ok c.finish.result _ _ (λ new members. members ∙ ap (λ (state : BookState). state.members) c.in_ok-shared.ensures.began.state_is) c.finish.ensures.members))

pub returns-clause-members : goal.returns-clause-members
returns-clause-members g c =
    if_ok c.finish.result _ _ (λ new members. members ∙ ap (λ (state : BookState). state.members) c.in_ok-shared.ensures.began.state_is)
    c.finish.ensures.members
