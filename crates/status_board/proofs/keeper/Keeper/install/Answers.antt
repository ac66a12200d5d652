use Rattle.status_board.proofs.UpkeepLemmas.{next_kept, on_ok_both}
use Rattle.status_board.proofs.keeper.Keeper.install.Goals as goal

pub returns-clause-kept : goal.returns-clause-kept
returns-clause-kept c table kept stands = on_ok_both c.append.result c.append.ensures.added c.append.ensures.changes (λ added more.
    next_kept table c.args.self.now c.append.new.self c.args.latest c.args.rows kept
    (record { desk = c.append.ensures.desk; head = c.append.ensures.head; book = c.append.ensures.book; longer = c.append.ensures.longer })
    c.append.ensures.latest stands c.requires.rows (c.append.ensures.history _ kept.history) added more)
