use Rattle.std.proofs.Common.{refl}
use Rattle.paxos_base.specs.Vote.{votes_from}
use Rattle.store_format.specs.Area.{base_records}
use Rattle.store_format.specs.Records.{AreRecords}
use Rattle.store_format.proofs.BaseLemmas.{base_stand_for}
use Rattle.store_format.proofs.FormatLemmas.{base_in_format_2}
use Rattle.store_format.proofs.WriteLemmas.{base_added, AreRecords-bytes}
use Rattle.store_format.proofs.base.write_base.Goals as goal
use Rattle.store_format.proofs.base.write_base.Goals.{In_ok-put_votes_from}

written : (c : In_ok-put_votes_from) → AreRecords c.put_votes_from.new.bodies.items (base_records c.args.kept.now c.args.own c.args.slot c.args.rows.now)
written c =
    base_added c.args.kept.now c.args.own c.args.slot c.args.rows.now (votes_from c.args.slot c.args.kept.now.votes) c.in_ok-bodies.bodies.items c.put_group.new.bodies.items c.put_ballots.new.bodies.items c.put_votes_from.new.bodies.items c.in_ok-bodies.ensures.items refl c.in_ok-put_group.ensures c.in_ok-put_ballots.ensures c.in_ok-put_votes_from.ensures

pub returns-clause-records : goal.returns-clause-records
returns-clause-records c = written c

pub returns-clause-bodies : goal.returns-clause-bodies
returns-clause-bodies c =
    AreRecords-bytes c.put_votes_from.new.bodies.items (base_records c.args.kept.now c.args.own c.args.slot c.args.rows.now) (written c)

pub returns-clause-stand : goal.returns-clause-stand
returns-clause-stand c size sound stand =
    base_stand_for size c.put_votes_from.new.bodies.items c.args.kept.now c.args.own c.args.slot c.args.rows.now (written c) sound stand

pub returns-clause-format : goal.returns-clause-format
returns-clause-format c size stand begins =
    base_in_format_2 size c.put_votes_from.new.bodies.items c.args.slot c.args.rows.now c.args.kept.now c.args.own stand (written c) begins
