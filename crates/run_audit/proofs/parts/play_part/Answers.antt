use Rattle.std.proofs.Common.{sym, ◌∙◌}
use Rattle.run_audit.proofs.PartLemmas.{plain_comes}
use Rattle.run_audit.proofs.parts.play_part.Goals as goal

pub play_long-requires-clause-long : goal.play_long-requires-clause-long
play_long-requires-clause-long c = sym c.is_plain.ensures ∙ c.if-is_plain.false

pub returns-then-is_plain : goal.returns-then-is_plain
returns-then-is_plain c =
    plain_comes c.args.table.now c.args.replay.now.book.members c.args.command.now c.args.replay.now c.args.rest.now c.play_plain.new.replay c.play_plain.new.rest c.play_plain.result
    (sym c.is_plain.ensures ∙ c.if-is_plain.true) c.play_plain.ensures
