use Rattle.history.proofs.books.what_agreement_says.Goals as goal

pub returns-clause-chosen : goal.returns-clause-chosen
returns-clause-chosen c = λ members table book learned agrees. agrees.chosen learned

pub returns-clause-one : goal.returns-clause-one
returns-clause-one c = λ members table book a b agrees. agrees.one a b

pub returns-clause-follow : goal.returns-clause-follow
returns-clause-follow c = λ members table book log who agrees is_log runs. agrees.follow log is_log who runs

pub returns-clause-has_table : goal.returns-clause-has_table
returns-clause-has_table c = λ members table book who agrees sound runs. agrees.has_table sound who runs
