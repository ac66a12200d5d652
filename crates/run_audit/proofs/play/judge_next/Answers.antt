use Rattle.std.proofs.Common.{subst}
use Rattle.journal_line.specs.Told.{told_line}
use Rattle.run_replay.specs.Judged.{Judges}
use Rattle.run_audit.proofs.ComingLemmas.{comes_bad, comes_end, comes_judged, comes_refused}
use Rattle.run_audit.specs.Reading.{ReadsNext}
use Rattle.run_audit.proofs.play.judge_next.Goals as goal

pub returns-in-Some : goal.returns-in-Some
returns-in-Some c = λ text rest reads rows situation is.
    let line = subst (ReadsNext text rest) c.in-Line.is reads in
    let was = subst (Judges c.args.table.now (told_line c.in-Line.line) c.args.replay.now c.judge.new.self) c.in-Some.is c.in_ok-judged-in-Line.ensures rows situation is in
    comes_judged c.args.table.now rows c.args.replay.now situation is c.requires.names c.count_book.ensures.turns c.count_book.ensures.letters c.count_book.ensures.late c.judge.new.self text rest line.0
    (told_line c.in-Line.line) c.in-Some.judged line.1 line.2 line.3 was

pub returns-in-None : goal.returns-in-None
returns-in-None c = λ text rest reads rows situation is.
    let line = subst (ReadsNext text rest) c.in-Line.is reads in
    let none = subst (Judges c.args.table.now (told_line c.in-Line.line) c.args.replay.now c.judge.new.self) c.in-None.is c.in_ok-judged-in-Line.ensures rows situation is in
    comes_refused c.args.table.now rows c.args.replay.now situation is c.requires.names c.count_book.ensures.turns c.count_book.ensures.letters c.count_book.ensures.late text.text.now line.0 rest.text.now
    (told_line c.in-Line.line) c.refusal_of.result line.1 line.2 none c.refusal_of.ensures

pub returns-in-Bad : goal.returns-in-Bad
returns-in-Bad c = λ text rest reads rows situation is.
    comes_bad c.args.table.now rows c.args.replay.now situation is c.requires.names c.count_book.ensures.turns c.count_book.ensures.letters c.count_book.ensures.late text.text.now
    (subst (ReadsNext text rest) c.in-Bad.is reads).0

pub returns-in-End : goal.returns-in-End
returns-in-End c = λ text rest reads rows situation is.
    comes_end c.args.table.now rows c.args.replay.now situation is c.requires.names c.count_book.ensures.turns c.count_book.ensures.letters c.count_book.ensures.late text.text.now
    (subst (ReadsNext text rest) c.in-End.is reads).0
