use Rattle.std.proofs.Common.{◌++◌, Bool, Err, List, Ok, subst, sym, ℕ}
use Rattle.std.specs.Prelude.{Result}
use Rattle.journal_text.specs.Journal.{journal_text}
use Rattle.report_text.specs.Writes.{Writes}
use Rattle.report_text.specs.declared.fault.ReportFault.{ReportFault}
use Rattle.report_text.proofs.WritingLemmas.{writes_exit, writes_last, writes_on}
use Rattle.script_play.specs.declared.seen.Seen.{Seen}
use Rattle.cron_serve.specs.Played.{played_journal}
use Rattle.cron_serve.specs.Watch.{watch_text}
use Rattle.cron_serve.proofs.answer.write_rest.Goals as goal

pub returns-in_err-write_watch : goal.returns-in_err-write_watch
returns-in_err-write_watch g c =
    let played = c.args.played.now in
    let failed : Result (Unit {0}) ReportFault = Err c.in_err-write_watch.field-0.0 in
    writes_exit _ _ c.in_err-write_watch.field-0.0 c.from_residual.result (watch_text played.seen.items) (played_journal c.args.journal played) c.from_residual.ensures.1
    (subst (λ (l : List Seen). Writes (g.K.Sink.seen c.args.sink.now) (g.K.Sink.seen c.write_watch.new.sink) failed (watch_text l)) c.deref.ensures.value c.in_err-write_watch.ensures)

pub returns-then-journal : goal.returns-then-journal
returns-then-journal g c =
    let played = c.args.played.now in
    let done : Result (Unit {0}) ReportFault = Ok c.in_ok-write_watch.field-0 in
    let first : Writes (g.K.Sink.seen c.args.sink.now) (g.K.Sink.seen c.write_watch.new.sink) done (watch_text played.seen.items) =
    subst (λ (l : List Seen). Writes (g.K.Sink.seen c.args.sink.now) (g.K.Sink.seen c.write_watch.new.sink) done (watch_text l)) c.deref.ensures.value c.in_ok-write_watch.ensures in
    let next : Writes (g.K.Sink.seen c.write_watch.new.sink) (g.K.Sink.seen c.write_journal.new.sink) c.write_journal.result (journal_text played.table played.book.turns played.starts.items) =
    subst (λ (l : List ℕ). Writes (g.K.Sink.seen c.write_watch.new.sink) (g.K.Sink.seen c.write_journal.new.sink) c.write_journal.result (journal_text played.table played.book.turns l)) c.deref-then-journal.ensures.value c.write_journal.ensures in
    writes_on _ _ _ c.in_ok-write_watch.field-0 c.write_journal.result (watch_text played.seen.items) (played_journal c.args.journal played) first
    (subst (λ (b : Bool). Writes (g.K.Sink.seen c.write_watch.new.sink) (g.K.Sink.seen c.write_journal.new.sink) c.write_journal.result (played_journal b played)) (sym c.if-journal.true) next)

pub returns-else-journal : goal.returns-else-journal
returns-else-journal g c =
    let played = c.args.played.now in
    let done : Result (Unit {0}) ReportFault = Ok tt in
    let first : Writes (g.K.Sink.seen c.args.sink.now) (g.K.Sink.seen c.write_watch.new.sink) done (watch_text played.seen.items) =
    subst (λ (l : List Seen). Writes (g.K.Sink.seen c.args.sink.now) (g.K.Sink.seen c.write_watch.new.sink) done (watch_text l)) c.deref.ensures.value c.in_ok-write_watch.ensures in
    subst (λ (b : Bool). Writes (g.K.Sink.seen c.args.sink.now) (g.K.Sink.seen c.write_watch.new.sink) done (watch_text played.seen.items ++ played_journal b played)) (sym c.if-journal.false)
    (writes_last _ _ done (watch_text played.seen.items) first)
