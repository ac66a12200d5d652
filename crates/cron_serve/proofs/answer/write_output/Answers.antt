use Rattle.due_list.specs.CheckText.{IsCheckText}
use Rattle.due_list.specs.DueText.{IsDueText}
use Rattle.run_text.specs.Run.{run_of}
use Rattle.program_options.specs.declared.words.Output.TheVariants.{DueList, Check}
use Rattle.cron_serve.proofs.ServeLemmas.{ends_listing, ends_report}
use Rattle.cron_serve.proofs.answer.write_output.Goals as goal

pub returns-in_ok-played-in-Report-clause-end : goal.returns-in_ok-played-in-Report-clause-end
returns-in_ok-played-in-Report-clause-end g c =
    let (front, is, end) = c.report.ensures in
    let played = c.in_ok-played-in-Report.played in
    let run = c.in_ok-played-in-Report.ensures.run in
    rw c.in-Report.is (ends_report c.in-Report.watch c.in-Report.journal c.args.bytes.now _ _ played.table played.book played.nodes.items played.starts.items played.seen.items
    c.report.result front run (c.in_ok-played-in-Report.ensures.starts run) (c.in_ok-played-in-Report.ensures.seen run) is end)

pub returns-in_ok-_run-in-DueList-clause-end : goal.returns-in_ok-_run-in-DueList-clause-end
returns-in_ok-_run-in-DueList-clause-end g c =
    let taken = c.in_ok-_run-in-DueList.ensures.taken in
    let end = c.end_of_listing.ensures in
    rw c.in-DueList.is (ends_listing DueList c.args.bytes.now _ _ c.write_due.result (IsDueText c.in_ok-_run-in-DueList.table) c.end_of_listing.result
    (λ text is. (end.no_run, record { run = run_of c.in_ok-_run-in-DueList._run; table = c.in_ok-_run-in-DueList.table; taken = taken; list = is })) c.write_due.ensures
    end.status end.refusal end.no_run)

pub returns-in_ok-run-in-Check-clause-end : goal.returns-in_ok-run-in-Check-clause-end
returns-in_ok-run-in-Check-clause-end g c =
    let run = run_of c.in_ok-run-in-Check.run' in
    let end = c.end_of_listing-in-Check.ensures in
    rw c.in-Check.is (ends_listing Check c.args.bytes.now _ _ c.write_check.result (IsCheckText run) c.end_of_listing-in-Check.result
    (λ text is. (end.no_run, record { run = run; frame = c.in_ok-run-in-Check.ensures.taken; check = is })) c.write_check.ensures end.status end.refusal end.no_run)
