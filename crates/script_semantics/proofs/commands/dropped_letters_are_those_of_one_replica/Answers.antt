use Rattle.std.proofs.Common.{sym, subst}
use Rattle.std.specs.Prelude.{Contains}
use Rattle.script_semantics.specs.Commands.{from_others}
use Rattle.script_semantics.proofs.MailLemmas.{dropped, no_more, stays}
use Rattle.script_semantics.proofs.commands.dropped_letters_are_those_of_one_replica.Goals as goal
use Rattle.history.proofs.Standings.{fact_here as own_fact}

pub returns-clause-dropped : goal.returns-clause-dropped
returns-clause-dropped c = λ situation from to number letter there same has. dropped situation.standing.posted from (situation.mails to) number letter there same (subst (λ mail. Contains mail number) (own_fact to (from_others situation.standing.posted from (situation.mails to)) situation.mails) has)

pub returns-clause-stays : goal.returns-clause-stays
returns-clause-stays c = λ situation from to number letter there differs has. subst (λ mail. Contains mail number) (sym (own_fact to (from_others situation.standing.posted from (situation.mails to)) situation.mails)) (stays situation.standing.posted from (situation.mails to) number letter there differs has)

pub returns-clause-no_more : goal.returns-clause-no_more
returns-clause-no_more c = λ situation from to number has. no_more situation.standing.posted from (situation.mails to) number (subst (λ mail. Contains mail number) (own_fact to (from_others situation.standing.posted from (situation.mails to)) situation.mails) has)
