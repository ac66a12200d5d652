use Rattle.std.proofs.Common.{◌≡◌, ℕ, ◌+◌, ◌*◌, pos, ◌+ℤ◌, of_z, to_z, w64, arith, ap, ◌∙◌, string_bytes}
use Rattle.jiff_core.proofs.SignedLemmas.{signed_arith}
use Rattle.generated_run.specs.Draws.{state_at}
use Rattle.generated_run.proofs.LoopLemmas.{state_next, draw_is}
use Rattle.generated_run.proofs.PartLemmas.{instant_at, part_put}
use Rattle.generated_run.proofs.make.put_part.Goals as goal

one_more : (n : ℕ) → 360 + 2 * n + 1 ≡ 361 + 2 * n
one_more n = omega arith

two_more : (n : ℕ) → 361 + 2 * n + 1 ≡ 362 + 2 * n
two_more n = omega arith

pub returns-clause-drawn : goal.returns-clause-drawn
returns-clause-drawn c = λ seed is.
    let number = c.args.number in
    let middle = c.below-stops.new.self.state in
    let second : middle ≡ state_at seed (361 + 2 * number) = state_next seed (360 + 2 * number) c.args.draws.now.state middle is c.below-stops.ensures.state ∙ ap (state_at seed) (one_more number) in
    state_next seed (361 + 2 * number) middle c.below-leads.new.self.state second c.below-leads.ensures.state ∙ ap (state_at seed) (two_more number)

pub returns-clause-put : goal.returns-clause-put
returns-clause-put c = λ seed is.
    let number = c.args.number in
    let now = c.args.draws.now.state in
    let middle = c.below-stops.new.self.state in
    let second : middle ≡ state_at seed (361 + 2 * number) = state_next seed (360 + 2 * number) now middle is c.below-stops.ensures.state ∙ ap (state_at seed) (one_more number) in
    let stops = draw_is seed (360 + 2 * number) now middle 3 c.below-stops.result is c.below-stops.ensures.state c.below-stops.ensures.value in
    let leads = draw_is seed (361 + 2 * number) middle c.below-leads.new.self.state 3 c.below-leads.result second c.below-leads.ensures.state c.below-leads.ensures.value in
    let minute : to_z w64 (of_z w64 (pos 28_487_520 +ℤ to_z w64 (of_z w64 c.from.result))) ≡ pos (28_487_520 + 720 * number) = omega (arith, signed_arith, c.from.ensures, c.requires) in
    part_put seed number c.below-stops.result c.below-leads.result (instant_at (to_z w64 (of_z w64 (pos 28_487_520 +ℤ to_z w64 (of_z w64 c.from.result))))) (string_bytes c.args.into.now) (string_bytes c.put_rounds.new.into) (string_bytes c.put_change.new.into) (string_bytes c.put_rounds-2.new.into)
    (string_bytes c.push_str.new.self) (ap instant_at minute) stops leads c.in_ok-put_rounds.ensures c.in_ok-put_change.ensures c.in_ok-put_rounds-2.ensures c.in_ok-push_str.ensures.bytes
