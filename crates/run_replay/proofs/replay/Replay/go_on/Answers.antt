use Rattle.std.proofs.Common.{◌∙◌, subst}
use Rattle.journal_line.specs.Told.{told_line}
use Rattle.run_replay.specs.Judged.{Judges}
use Rattle.run_replay.proofs.replay.Replay.go_on.Goals as goal

pub take-requires : goal.take-requires
take-requires c =
    let ready = c.requires.ready in
    let told = told_line c.args.line in
    let is = subst (Judges c.args.table.now told c.args.self.now c.judge.new.self) c.in-Some.is c.in_ok-judged.ensures ready.rows ready.situation ready.is in
    record { judged = record { rows = ready.rows; situation = ready.situation; told = told; old = c.args.self.now; here = ready.is; is = is } }

pub returns-in-Some : goal.returns-in-Some
returns-in-Some c = λ rows situation here.
    let told = told_line c.args.line in
    let is = subst (Judges c.args.table.now told c.args.self.now c.judge.new.self) c.in-Some.is c.in_ok-judged.ensures rows situation here in
    record {
      row = is.row;
      told_by = is.told_by;
      ready = c.take.ensures.joins rows situation told c.args.self.now here is;
      members = c.take.ensures.members ∙ is.members;
    }
