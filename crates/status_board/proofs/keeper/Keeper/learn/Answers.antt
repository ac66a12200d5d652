use Rattle.status_board.proofs.UpkeepLemmas.{next_kept, on_ok_both}
use Rattle.status_board.proofs.keeper.Keeper.learn.Goals as goal

pub returns-clause-applies : goal.returns-clause-applies
returns-clause-applies c = rw c.append.ensures.latest c.learn-rows.ensures.applies

pub returns-clause-kept : goal.returns-clause-kept
returns-clause-kept c = on_ok_both c.append.result c.append.ensures.added c.append.ensures.changes (λ added more.
    next_kept c.args.table.now c.args.self.now c.append.new.self c.learn-rows.new.self c.learn-rows.result c.requires.kept
    (record { desk = c.append.ensures.desk; head = c.append.ensures.head; book = c.append.ensures.book; longer = c.append.ensures.longer })
    c.append.ensures.latest c.learn-rows.ensures.stands c.learn-rows.ensures.rows (c.append.ensures.history _ c.requires.kept.history) added more)
