use Rattle.std.proofs.Common.{◌≡◌, ℕ, ◌∷◌, [], List, refl, sym, ap, subst}
use Rattle.launch_machine.specs.Clerk.{table_size}
use Rattle.paxos_base.specs.declared.rows.JobRow.{JobRow}
use Rattle.paxos_base.specs.Rows.{AreNumbered, fresh_rows, row_count}
use Rattle.status_board.specs.declared.shown.Shown.{Shown}
use Rattle.status_board.specs.Shown.{IsHistory, shown_state_of}
use Rattle.status_board.proofs.StateLemmas.{history_first}
use Rattle.status_board.proofs.past.begin.Goals as goal

-- the state before the log
first_is : (prefix total : ℕ) (rows : List JobRow) → prefix ≡ 0 → rows ≡ fresh_rows total → AreNumbered rows total → IsHistory total (shown_state_of prefix rows ∷ [])
first_is prefix total rows none fresh stand =
    subst (λ (s : Shown). IsHistory total (s ∷ [])) (λ i. shown_state_of (sym none i) (sym fresh i))
    (history_first total (subst (λ (r : List JobRow). AreNumbered r total) fresh stand))

pub open_row-past-requires : goal.open_row-past-requires
open_row-past-requires c = (
  record {
    total = row_count (table_size c.args.table.now);
    prefix = 0;
    rows = c.args.latest.now.machine.rows;
    word = refl;
    last = ([], ap (λ (n : ℕ). shown_state_of n c.args.latest.now.machine.rows ∷ []) c.requires.prefix);
    history = first_is _ _ _ c.requires.prefix c.requires.rows c.requires.stand.numbered;
  },
  λ _. tt,
  c.alone.ensures.1,
)

pub returns-clause-history : goal.returns-clause-history
returns-clause-history c =
    subst (λ (s : List Shown). IsHistory (row_count (table_size c.args.table.now)) s) (sym c.open_row-past.ensures.1) (first_is _ _ _ c.requires.prefix c.requires.rows c.requires.stand.numbered)
