use Rattle.std.proofs.Common.{ℕ, ◌∷◌, ◌++◌, [], refl, ap, ◌∙◌}
use Rattle.status_board.specs.Shown.{shown_state_of}
use Rattle.status_board.proofs.writer.BoardWriter.learn.Goals as goal

pub returns-clause-learned : goal.returns-clause-learned
returns-clause-learned c same =
    let old = c.self.inside.keeper in
    let new = c.learn.new.self in
    rw (← c.self.view_is) (record {
      applies = c.learn.ensures.applies;
      next = record {
        states = c.in_ok-learn.ensures.states ∙ ap (λ (n : ℕ). old.past.log ++ shown_state_of n new.latest.machine.rows ∷ []) c.learn.ensures.prefix;
        prefix_is = c.learn.ensures.prefix;
        rows_are = refl;
      };
    })
