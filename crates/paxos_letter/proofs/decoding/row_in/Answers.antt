use Rattle.std.proofs.Common.{rules, FitsSigned}
use Rattle.std.specs.Int.{w64}
use Rattle.std.proofs.lemmas.Int.{to_z-of_z}
use Rattle.paxos_letter.proofs.RuleLemmas.{row_again}
use Rattle.paxos_letter.proofs.decoding.row_in.Goals as goal

pub returns : goal.returns
returns c =
    let at : FitsSigned w64 c.at.result = search rules in
    let moment : FitsSigned w64 c.moment.result = search rules in
    let last : FitsSigned w64 c.last.result = search rules in
    rw (c.then_some.ensures, c.then_some-2.ensures, c.then_some-3.ensures, c.has_cursor.ensures, c.is_open.ensures, c.has_last.ensures, to_z-of_z w64 c.at.result at, to_z-of_z w64 c.moment.result moment, to_z-of_z w64 c.last.result last, c.at.ensures, c.moment.ensures, c.last.ensures, c.job.ensures, c.ballot.ensures, c.old.ensures)
    (row_again c.args.fields.now c.requires.kind c.requires.row c.requires.zeros)
