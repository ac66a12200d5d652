use Rattle.std.proofs.Common.{subst, arith}
use Rattle.cron_serve.specs.Written.{EndsWriting}
use Rattle.cron_serve.proofs.CompleteLemmas.{completes_text}
use Rattle.cron_serve.proofs.ServeLemmas.{ends_text, given_by_reading}
use Rattle.cron_serve.proofs.serve.answer.Goals as goal

pub returns-clause-end : goal.returns-clause-end
returns-clause-end g c =
    let output = c.args.output in
    let bytes = c.in_ok-bytes.bytes.items in
    let end = c.in_ok-end.end in
    let read = c.in_ok-bytes.ensures in
    let writes : EndsWriting output bytes (g.K.Sink.seen c.args.sink.now) (g.K.Sink.seen c.write_output.new.sink) end =
    subst (λ bytes. EndsWriting output bytes (g.K.Sink.seen c.args.sink.now) (g.K.Sink.seen c.write_output.new.sink) end) c.deref.ensures.value c.in_ok-end.ensures.end in
    let statuses = writes.statuses in
    record {
      ends = ends_text output _ _ _ _ bytes end (given_by_reading output _ _ bytes c.requires.input read.bytes) read.read_on writes;
      complete = completes_text output _ _ _ _ bytes end read.bytes writes;
      words = λ one. absurd (omega (arith, one, statuses));
      no_read_fault = λ sure three. absurd (omega (arith, three, statuses));
      lasting = read.lasting;
    }
