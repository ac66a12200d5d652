-- What two beginnings of the states of one board say of each other.
use Rattle.std.proofs.Common.{◌≡◌, ℕ, ◌<◌, ◌≤◌, List, length, subst, arith}
use mathlib.Core.List.{IsPrefix}
use Rattle.logbook.specs.Pages.{Cell}
use Rattle.status_board.specs.declared.shown.Shown.{Shown}
use Rattle.status_board.specs.History.{IsKept}
use Rattle.status_board.specs.Shown.{IsHistory}
use Rattle.status_board.specs.Sight.{HasLastPrefix}
use Rattle.status_board.proofs.StateLemmas.{begins_later, history_front, last_stands, same_jobs}

-- both begin these states, which the book has
pub record AreFronts (mine others both : List Shown) : Type 0 where
  pub mine_begins : IsPrefix mine both
  pub others_begin : IsPrefix others both
  pub kept : (cells : List Cell) × IsKept cells both

pub some_states : (states : List Shown) (prefix : ℕ) → HasLastPrefix states prefix → 0 < length states
some_states states prefix ends = let stands = last_stands states prefix ends.0 ends.1 in omega (arith, stands.1)

-- the others are the states of a board of as many rows
pub front_history : (total : ℕ) (mine others both : List Shown) (prefix : ℕ) → AreFronts mine others both → IsHistory total mine → HasLastPrefix others prefix
    → IsHistory total others
front_history total mine others both prefix fronts history ends =
    let kept = fronts.kept.1 in
    let same : kept.total ≡ total = same_jobs total kept.total mine both history kept.history fronts.mine_begins in
    let all : IsHistory total both = subst (λ (n : ℕ). IsHistory n both) same kept.history in
    history_front total others both all fronts.others_begin (some_states others prefix ends)

-- the one whose last prefix is not higher begins the other
pub mine_first : (mine others both : List Shown) (low high : ℕ) → AreFronts mine others both → HasLastPrefix mine low → HasLastPrefix others high → low ≤ high
    → IsPrefix mine others
mine_first mine others both low high fronts my_end their_end order =
    begins_later mine others both low high my_end.0 their_end.0 fronts.mine_begins fronts.others_begin fronts.kept.1.history.rise my_end.1 their_end.1 order

pub others_first : (mine others both : List Shown) (low high : ℕ) → AreFronts mine others both → HasLastPrefix others low → HasLastPrefix mine high → low ≤ high
    → IsPrefix others mine
others_first mine others both low high fronts their_end my_end order =
    begins_later others mine both low high their_end.0 my_end.0 fronts.others_begin fronts.mine_begins fronts.kept.1.history.rise their_end.1 my_end.1 order
