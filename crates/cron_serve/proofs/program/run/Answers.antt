use Rattle.std.proofs.Common.{◌≡◌, ◌↔◌, refl, subst, sym}
use Rattle.program_options.specs.Words.{Asks, HasNoOptions}
use Rattle.cron_serve.proofs.PromiseLemmas.{reports_end}
use Rattle.program_options.proofs.WordLemmas.{behind_first}
use Rattle.cron_serve.proofs.program.run.Goals as goal

pub returns-in-Ok-clause-report : goal.returns-in-Ok-clause-report
returns-in-Ok-clause-report g c = rw c.in-Ok.is (λ asked asks report zero.
    let asks_there = subst (λ words. Asks words asked) (sym (behind_first c.in-Ok.words c.next-name.new.self c.next-name.result c.next-name.ensures.cases)) asks in
    reports_end (g.S.Source.seen c.args.source.now) (g.S.Source.seen c.cron_cluster.new.source) (g.K.Sink.seen c.args.sink.now) (g.K.Sink.seen c.cron_cluster.new.sink)
    c.cron_cluster.result asked.request report (c.cron_cluster.ensures.ends asked asks_there) zero)

pub returns-in-Ok-clause-ends : goal.returns-in-Ok-clause-ends
returns-in-Ok-clause-ends g c = rw c.in-Ok.is (λ asked asks.
    let asks_there = subst (λ words. Asks words asked) (sym (behind_first c.in-Ok.words c.next-name.new.self c.next-name.result c.next-name.ensures.cases)) asks in
    record {
      end = c.cron_cluster.result;
      ends = c.cron_cluster.ensures.ends asked asks_there;
      complete = c.cron_cluster.ensures.complete asked asks_there;
      note = c.cron_cluster.ensures.note;
      status_is = refl;
    })

pub returns-in-Ok-clause-words : goal.returns-in-Ok-clause-words
returns-in-Ok-clause-words g c = rw c.in-Ok.is
    (subst (λ words. (c.cron_cluster.result.status ≡ 1) ↔ HasNoOptions words) (behind_first c.in-Ok.words c.next-name.new.self c.next-name.result c.next-name.ensures.cases)
    c.cron_cluster.ensures.usage)

pub returns-in-Err-clause-usage : goal.returns-in-Err-clause-usage
returns-in-Err-clause-usage g c = λ one. c.stop_at_once.ensures.stops _ _

pub returns-in-Err-clause-stops : goal.returns-in-Err-clause-stops
returns-in-Err-clause-stops g c = rw c.in-Err.is (c.stop_at_once.ensures.stops _ _)
