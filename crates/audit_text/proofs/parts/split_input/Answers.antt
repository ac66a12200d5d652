use Rattle.audit_text.proofs.PartLemmas.{parts_with_report, parts_without}
use Rattle.audit_text.proofs.parts.split_input.Goals as goal

pub returns-in-Some : goal.returns-in-Some
returns-in-Some c = parts_with_report c.args.input.now c.in-Some.rest.now c.behind_report-journal.result.now c.in-Some.ensures.found c.behind_report-journal.ensures

pub returns-in-None : goal.returns-in-None
returns-in-None c = parts_without c.args.input.now c.in-None.ensures.none
