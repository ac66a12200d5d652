use Rattle.std.proofs.Common.{◌∙◌, ◌++◌, ◌∷◌, [], ℕ, List, ap, arith, get_or, sym}
use Rattle.std.proofs.lemmas.List.{take_all}
use Rattle.script_play.specs.declared.seen.Seen.{Seen}
use Rattle.cron_serve.specs.Watch.{watch_line, watch_text}
use Rattle.cron_serve.proofs.WatchLemmas.{watch_more}
use Rattle.cron_serve.proofs.watch.text_of.Goals as goal

-- what a read past the end would give
abbrev default_seen : Seen
default_seen = record { number = 0; prefix = 0; jobs_open = 0 }

pub rows-preserved : goal.rows-preserved
rows-preserved c =
    let seen = c.args.seen.now in
    let i = c.rows.row-index in
    c.in_ok-push_line.ensures ∙ ap (λ (text : List ℕ). text ++ (watch_line (get_or seen i default_seen) ++ 10 ∷ [])) c.rows.invariant
    ∙ sym (watch_more seen i default_seen c.rows-test.true)

pub returns : goal.returns
returns c = c.rows.invariant ∙ ap watch_text (take_all c.rows.row-index c.args.seen.now (omega (arith, c.rows-test.false)))
