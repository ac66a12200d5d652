use Rattle.history.proofs.Posted.{posted_breaks_none, posted_by, posted_heard, posted_of, posted_to}
use Rattle.history.proofs.bounds.a_posted_letter_is_a_letter_of_its_poster.Goals as goal

pub returns-clause-rules : goal.returns-clause-rules
returns-clause-rules c = posted_breaks_none

pub returns-clause-sender : goal.returns-clause-sender
returns-clause-sender c = posted_by

pub returns-clause-from : goal.returns-clause-from
returns-clause-from c = posted_of

pub returns-clause-to : goal.returns-clause-to
returns-clause-to c = posted_to

pub returns-clause-heard : goal.returns-clause-heard
returns-clause-heard c = posted_heard
