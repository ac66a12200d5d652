use Rattle.script_semantics.proofs.MailLemmas.{once, joins, joined}
use Rattle.script_semantics.proofs.commands.repeated_letters_join_once_each.Goals as goal

pub returns-clause-from : goal.returns-clause-from
returns-clause-from c = λ situation from to number letter there same has. joins situation.standing.posted from (situation.mails to) number letter there same has

pub returns-clause-no_more : goal.returns-clause-no_more
returns-clause-no_more c = λ situation from to number letter there has. joined situation.standing.posted from (situation.mails to) number letter there has

pub returns-clause-once : goal.returns-clause-once
returns-clause-once c = once
