use Rattle.std.proofs.Common.{◌∙◌, ap, subst, sym}
use Rattle.cron_serve.specs.Served.{CompletesFor, EndsFor}
use Rattle.program_options.specs.declared.words.Asked.{Asked}
use Rattle.cron_serve.proofs.ServeLemmas.{ends_unread}
use Rattle.program_options.proofs.WordLemmas.{asks_one, asks_some_lanes}
use Rattle.cron_serve.proofs.serve.cron_cluster.Goals as goal
use Rattle.cron_serve.proofs.serve.cron_cluster.Goals.{in-Some, in-None}

pub serve-end-requires-clause-lanes : goal.serve-end-requires-clause-lanes
serve-end-requires-clause-lanes g c = λ lives borrowed. asks_some_lanes _ c.in-Some.asked c.in-Some.ensures.asks

pub returns-clause-ends : goal.returns-clause-ends
returns-clause-ends g c = λ asked asks.
    elim c.match-read_words.branch [
      | in-Some w ↦ rw w.end-is (rw w.source-is (rw w.sink-is
          (subst (λ (a : Asked). EndsFor a.request (g.S.Source.seen c.args.source.now) (g.S.Source.seen w.serve-end.new.source) (g.K.Sink.seen c.args.sink.now) (g.K.Sink.seen w.serve-end.new.sink) w.serve-end.result) (asks_one _ w.in-Some.asked asked w.in-Some.ensures.asks asks) w.serve-end.ensures.end.ends)))
      | in-None w ↦ absurd (w.in-None.ensures.none asks.0 asks.1)
    ]

pub returns-clause-complete : goal.returns-clause-complete
returns-clause-complete g c = λ asked asks.
    elim c.match-read_words.branch [
      | in-Some w ↦ rw w.end-is (rw w.source-is (rw w.sink-is
          (subst (λ (a : Asked). CompletesFor a.request (g.S.Source.seen c.args.source.now) (g.S.Source.seen w.serve-end.new.source) (g.K.Sink.seen c.args.sink.now) (g.K.Sink.seen w.serve-end.new.sink) w.serve-end.result) (asks_one _ w.in-Some.asked asked w.in-Some.ensures.asks asks) w.serve-end.ensures.end.complete)))
      | in-None w ↦ absurd (w.in-None.ensures.none asks.0 asks.1)
    ]

pub returns-clause-unread : goal.returns-clause-unread
returns-clause-unread g c = λ one.
    elim c.match-read_words.branch [
      | in-Some w ↦ absurd (w.serve-end.ensures.end.words (sym (ap (λ end. end.status) w.end-is) ∙ one))
      | in-None w ↦ rw w.end-is (rw w.source-is (rw w.sink-is (ends_unread _ _ w.stopped-end.result
          (record { status = w.stopped-end.ensures.status; refusal = w.stopped-end.ensures.refusal; no_run = w.stopped-end.ensures.no_run }))))
    ]

pub returns-clause-made : goal.returns-clause-made
returns-clause-made g c = λ asked seed asks is.
    elim c.match-read_words.branch [
      | in-Some w ↦ rw w.source-is (w.serve-end.ensures.made seed (ap (λ (a : Asked). a.request) (asks_one _ w.in-Some.asked asked w.in-Some.ensures.asks asks) ∙ is))
      | in-None w ↦ absurd (w.in-None.ensures.none asks.0 asks.1)
    ]
