use Rattle.std.proofs.Common.{◌*◌, ◌+◌}
use Rattle.due_set.specs.Matching.{MatchNoTimeBetween}
use Rattle.due_set.proofs.TableLemmas.{IfNone-map}
use Rattle.due_set.proofs.TimeLemmas.{MatchNoTimeBetween-all}
use Rattle.due_set.proofs.matching.next_time.Goals as goal

pub returns-clause-none : goal.returns-clause-none
returns-clause-none c =
    let fields = c.args.fields.now in
    let later = c.in_ok-later.later in
    IfNone-map (MatchNoTimeBetween fields (later * 60 + 0) (later * 60 + 60)) (MatchNoTimeBetween fields c.args.from 1440) c.next_of_hour-2.result c.next_of_hour-2.ensures.none
    (λ none. MatchNoTimeBetween-all fields c.args.from later 1440 c.in_ok-later.ensures.found.has none)
