use Rattle.std.proofs.Common.{◌∷◌, [], ◌+◌, string_bytes}
use Rattle.generated_run.specs.Made.{hourly_line, hourly_lines}
use Rattle.generated_run.proofs.LoopLemmas.{hours_none, hours_more, text_more, state_next, draw_is, hour_put}
use Rattle.generated_run.proofs.make.put_hours.Goals as goal

pub jobs-init : goal.jobs-init
jobs-init c = λ seed is. (is, hours_none seed (string_bytes c.args.into.now))

pub jobs-preserved : goal.jobs-preserved
jobs-preserved c = λ seed is.
    let number = c.jobs.number in
    let before = c.jobs.invariant seed is in
    let now = c.jobs.draws.state in
    let next = c.below-minute.new.self.state in
    let minute = draw_is seed number now next 60 c.below-minute.result before.0 c.below-minute.ensures.state c.below-minute.ensures.value in
    let put = hour_put seed number c.below-minute.result (string_bytes c.jobs.into) (string_bytes c.put_hour.new.into) minute c.in_ok-put_hour.ensures in (
      state_next seed number now next before.0 c.below-minute.ensures.state,
      text_more (string_bytes c.args.into.now) (string_bytes c.jobs.into) (string_bytes c.put_hour.new.into) (hourly_lines seed number) (hourly_line seed number ∷ []) (hourly_lines seed (number + 1))
          before.1 put (hours_more seed number),
    )
