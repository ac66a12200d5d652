use Rattle.std.proofs.Common.{◌∙◌, List, Contains, ap, drop, length, subst}
use Rattle.std.proofs.Math.Seq.{drop-append_seam}
use Rattle.status_board.specs.declared.shown.Shown.{Shown}
use Rattle.world_free.proofs.laws.each_state_of_a_board_is_one_of_the_log.Goals as goal

pub returns : goal.returns
returns c = λ members who table situation begun more old new state shows has.
    shows.each state
    (subst (λ (states : List Shown). Contains states state) (ap (drop (length old.states)) shows.states ∙ drop-append_seam old.states shows.added) has)
