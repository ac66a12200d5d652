-- For callers: what stands of a turn after room was made.
use Rattle.std.proofs.Common.{◌≡◌, List, ◌∙◌, ap, subst, sym}
use Rattle.turn_book.specs.declared.law.Law.{Ghosts}
use Rattle.turn_book.specs.declared.turn.Turn.{Turn}
use Rattle.turn_book.specs.declared.view.Opening.{Opening}
use Rattle.turn_book.specs.Rule.{IsAtRest}
use Rattle.turn_book.specs.Turns.{IsSameTurn, KeepsState, ShowsRest, opening_at, shown_at, state_at}

module _ {L K R M : Type 0} (law : Ghosts L K R M) where
  pub rests_still : (old new : Turn L K R M) → KeepsState law (state_at old) (state_at new) → IsSameTurn old new → ShowsRest law old → ShowsRest law new
  rests_still old new keeps same rests =
      let opening = opening_at old in
      let kept : IsAtRest law opening (shown_at old) (state_at new) =
      record {
        rows = keeps.rows opening.key.value (shown_at old) rests.rows;
        number = keeps.number ∙ rests.number;
        rest = keeps.rest.1 rests.rest;
      } in
      let shown : shown_at new ≡ shown_at old = ap (λ inner. inner.me.0.seen) same.inner in
      subst (λ (o : Opening L K). IsAtRest law o (shown_at new) (state_at new)) (sym (ap (λ book. book.now.table.shared.key) same.of_book))
      (subst (λ (rows : List R). IsAtRest law opening rows (state_at new)) (sym shown) kept)
