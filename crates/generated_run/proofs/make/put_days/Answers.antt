use Rattle.std.proofs.Common.{◌≡◌, ◌∷◌, [], ℕ, ◌+◌, ◌*◌, arith, ap, ◌∙◌, string_bytes}
use Rattle.generated_run.specs.Draws.{state_at}
use Rattle.generated_run.specs.Made.{daily_line, daily_lines}
use Rattle.generated_run.proofs.LoopLemmas.{days_none, days_more, text_more, state_next, draw_is, day_put}
use Rattle.generated_run.proofs.make.put_days.Goals as goal

pub jobs-init : goal.jobs-init
jobs-init c = λ seed is. (is, days_none seed (string_bytes c.args.into.now))

pub jobs-preserved : goal.jobs-preserved
jobs-preserved c = λ seed is.
    let number = c.jobs.number in
    let before = c.jobs.invariant seed is in
    let now = c.jobs.draws.state in
    let middle = c.below-minute.new.self.state in
    let next = c.below-hour.new.self.state in
    let minute = draw_is seed (40 + 2 * number) now middle 60 c.below-minute.result before.0 c.below-minute.ensures.state c.below-minute.ensures.value in
    let second : middle ≡ state_at seed (41 + 2 * number) = state_next seed (40 + 2 * number) now middle before.0 c.below-minute.ensures.state ∙ ap (state_at seed) (one_more number) in
    let hour = draw_is seed (41 + 2 * number) middle next 24 c.below-hour.result second c.below-hour.ensures.state c.below-hour.ensures.value in
    let put = day_put seed number c.below-minute.result c.below-hour.result (string_bytes c.jobs.into) (string_bytes c.put_day.new.into) minute hour c.in_ok-put_day.ensures in (
      state_next seed (41 + 2 * number) middle next second c.below-hour.ensures.state ∙ ap (state_at seed) (two_more number),
      text_more (string_bytes c.args.into.now) (string_bytes c.jobs.into) (string_bytes c.put_day.new.into) (daily_lines seed number) (daily_line seed number ∷ []) (daily_lines seed (number + 1))
          before.1 put (days_more seed number),
    )
  where
    one_more : (n : ℕ) → 40 + 2 * n + 1 ≡ 41 + 2 * n
    one_more n = omega arith

    two_more : (n : ℕ) → 41 + 2 * n + 1 ≡ 40 + 2 * (n + 1)
    two_more n = omega arith
