use Rattle.std.specs.Int.{w64}
use Rattle.std.proofs.lemmas.Int.{to_z-of_z}
use Rattle.std.proofs.Common.{sym, ◌∙◌, ap}
use Rattle.script_semantics.specs.Round.{clock_reading}
use Rattle.run_audit.proofs.ProgressLemmas.{idle_leading, idle_no_time, idle_standing}
use Rattle.run_audit.proofs.free.idle_of.Goals as goal

pub returns-then-not-is_time_to_stand : goal.returns-then-not-is_time_to_stand
returns-then-not-is_time_to_stand c = λ seen skew leads.
    idle_no_time c.args.window c.args.at.0 c.args.who c.args.progress.taken seen c.reading_of-now.result (c.reading_of-now.ensures ∙ ap (clock_reading c.args.window c.args.at.0) (to_z-of_z w64 c.args.skew c.ranges.skew ∙ skew))
    (sym c.is_time_to_stand.ensures ∙ c.if-not-is_time_to_stand.true)

pub returns-then-progress : goal.returns-then-progress
returns-then-progress c = λ seen skew leads.
    idle_leading c.args.window c.args.at.0 c.args.who c.args.progress.taken seen c.reading_of-now.result (c.reading_of-now.ensures ∙ ap (clock_reading c.args.window c.args.at.0) (to_z-of_z w64 c.args.skew c.ranges.skew ∙ skew))
    (sym leads ∙ c.if-progress.true)

pub returns : goal.returns
returns c = λ seen skew leads.
    idle_standing c.args.window c.args.at.0 c.args.who c.args.progress.taken seen (sym c.is_time_to_stand.ensures ∙ c.if-not-is_time_to_stand.false) (sym leads ∙ c.if-progress.false)
