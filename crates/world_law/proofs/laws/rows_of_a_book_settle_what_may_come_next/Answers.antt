use Rattle.world_law.proofs.Rows.{may_follow, turns_are}
use Rattle.world_law.proofs.laws.rows_of_a_book_settle_what_may_come_next.Goals as goal

pub returns-clause-turns : goal.returns-clause-turns
returns-clause-turns c = turns_are

pub returns-clause-next : goal.returns-clause-next
returns-clause-next c = λ table before row behind book has may stands. (may.next, may.is, may_follow table before row behind book has may stands)
