use Rattle.std.proofs.Common.{sym, ◌∙◌}
use Rattle.world_rounds.proofs.Halts.{joined_alone, next_alone}
use Rattle.world_rounds.proofs.alone.commit_alone.Goals as goal

pub commit-requires-clause-next : goal.commit-requires-clause-next
commit-requires-clause-next c =
    next_alone c.args.table.now c.requires.alone.0 c.args.book.now c.reserve.new.self c.args.turn c.args.change c.requires.alone.1 c.change_alone-out.result c.reserve.ensures.same
    c.requires.alone.2 c.change_alone-out.ensures.alone

pub commit-requires-clause-call : goal.commit-requires-clause-call
commit-requires-clause-call c = c.reserve.ensures.same.pending ∙ c.requires.alone.2.rest ∙ sym c.requires.alone.2.call

pub returns-clause-joins : goal.returns-clause-joins
returns-clause-joins c =
    λ rows row alone.
    joined_alone c.args.table.now rows c.args.book.now c.reserve.new.self c.commit.new.self c.args.turn c.args.change row c.change_alone-out.result c.reserve.ensures.same alone
    c.change_alone-out.ensures.alone c.commit.ensures.commits c.commit.ensures.stands
