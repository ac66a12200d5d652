use Rattle.std.proofs.Common.{take, subst, sym}
use Rattle.launch_safety.specs.Fits.{Fits}
use Rattle.history.proofs.Agreement.{agrees, cut_is_legal}
use Rattle.launch_safety.proofs.Whole.{cut_fits, whole}
use Rattle.world_law.proofs.Called.{held_at_rest}
use Rattle.report_text.proofs.laws.a_legal_book_agrees_and_fits.Goals as goal

pub returns-clause-agrees : goal.returns-clause-agrees
returns-clause-agrees c = λ table rows book turns few behind. agrees book.members table (take turns rows) few (cut_is_legal book.members table rows turns behind.legal)

pub returns-clause-fits : goal.returns-clause-fits
returns-clause-fits c = λ table rows book turns few behind. cut_fits book.members table rows turns few behind.legal

pub returns-clause-ledger : goal.returns-clause-ledger
returns-clause-ledger c =
    λ table rows book log few behind rest is_log.
    subst (λ held. Fits table log held) (sym (held_at_rest table rows book rest behind)) (whole book.members table rows few behind.legal log is_log)
