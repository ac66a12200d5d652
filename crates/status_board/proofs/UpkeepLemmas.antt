-- What the writer's parts are after one more state, and after a publish.
use Rattle.std.proofs.Common.{◌≡◌, ℕ, List, [], ◌∷◌, ◌++◌, Bool, true, Some, refl, ap, sym, ◌∙◌, subst}
use Rattle.std.specs.Prelude.{Result, Ok, Err, OnOk, MatchResult, fold}
use Rattle.std.proofs.lemmas.List.Sums.{fold-append}
use mathlib.Core.List.{IsPrefix}
use Rattle.due_set.specs.Table.{Table}
use Rattle.launch_machine.specs.Machine.{StandsFor}
use Rattle.left_right.specs.Sides.{view}
use Rattle.paxos_base.specs.Rows.{AreNumbered, RowsStand, row_count}
use Rattle.launch_machine.specs.Clerk.{table_size}
use Rattle.paxos_base.specs.declared.rows.JobRow.{JobRow}
use Rattle.status_board.specs.declared.change.Change.{Change}
use Rattle.status_board.specs.declared.keeper.Keeper.{Keeper}
use Rattle.status_board.specs.declared.latest.Latest.{Latest}
use Rattle.status_board.specs.Change.{changed, with_new}
use Rattle.status_board.specs.declared.change.NewRows.{NewRows}
use Rattle.status_board.specs.History.{word_of}
use Rattle.status_board.specs.Naming.{IsShown, board_name_of}
use Rattle.status_board.specs.Posted.{Posted}
use Rattle.status_board.specs.Shown.{IsHistory, shown_state_of}
use Rattle.status_board.specs.declared.shown.Shown.{Shown}
use Rattle.status_board.specs.Upkeep.{IsKeptUp, changes_unshown, latest_posted, shown_by}
use Rattle.status_board.proofs.Beginnings.{prefix_self, prefix_trans}
use Rattle.status_board.proofs.StateLemmas.{same_jobs}

-- rows of the table are as many as those of the states
pub rows_for : (table : Table) (states : List Shown) (rows : List JobRow) → IsHistory (row_count (table_size table)) states → RowsStand rows (table_size table)
    → (total : ℕ) → IsHistory total states → AreNumbered rows total
rows_for table states rows history stand total other =
    subst (λ (n : ℕ). AreNumbered rows n) (same_jobs total (row_count (table_size table)) states states other history (prefix_self states)) stand.numbered

-- one change more
pub more_changes : (shown before after : Posted) (old new : List Change) (change : Change) → fold changed shown old ≡ before → new ≡ old ++ change ∷ []
    → changed before change ≡ after → fold changed shown new ≡ after
more_changes shown before after old new change led is leads =
    ap (λ (l : List Change). fold changed shown l) is ∙ (fold-append changed shown old (change ∷ []) ∙ (ap (λ (p : Posted). changed p change) led ∙ leads))

-- what `append` changes, or what it leaves where it fails
pub record Follows (old new : Keeper) : Type 0 where
  pub desk : new.shower.desk ≡ old.shower.desk
  pub head : new.head ≡ old.head
  pub book : new.past.book ≡ old.past.book
  pub longer : IsPrefix old.past.log new.past.log

pub kept_up : (table : Table) (was ready : Bool) (old new : Keeper) → IsKeptUp table was old → Follows old new → IsHistory (row_count (table_size table)) new.past.log
    → StandsFor table new.latest.machine → (ready ≡ true → IsShown (latest_posted new)) → (ready ≡ true → fold changed (shown_by new) (changes_unshown new) ≡ latest_posted new)
    → IsKeptUp table ready new
kept_up table was ready old new kept follows history stands last changes = record {
  word = follows.head ∙ (kept.word ∙ ap (λ b. word_of b) (sym follows.book));
  named = ap (λ d. view d.place) follows.desk ∙ (kept.named ∙ ap (λ b. Some (board_name_of b)) (sym follows.book));
  board = ap (λ d. d.shown.value.board) follows.desk ∙ (kept.board ∙ sym follows.book);
  begins = prefix_trans (shown_by new).states old.past.log new.past.log
      (subst (λ (p : Posted). IsPrefix p.states old.past.log) (sym (ap (λ d. d.shown.value) follows.desk)) kept.begins) follows.longer;
  history = history;
  stands = stands;
  last = last;
  changes = changes;
}

-- one state more, by what is new in its rows
pub next_kept : (table : Table) (old new : Keeper) (latest : Latest) (rows : NewRows) → IsKeptUp table true old → Follows old new → new.latest ≡ latest
    → StandsFor table latest.machine → with_new rows old.latest.machine.rows ≡ latest.machine.rows → IsHistory (row_count (table_size table)) new.past.log
    → new.past.log ≡ old.past.log ++ shown_state_of latest.prefix latest.machine.rows ∷ []
    → changes_unshown new ≡ changes_unshown old ++ record { past = new.past; prefix = latest.prefix; rows = rows } ∷ [] → IsKeptUp table true new
next_kept table old new latest rows kept follows is stands fresh history added more = kept_up table true true old new kept follows history
    (subst (λ (l : Latest). StandsFor table l.machine) (sym is) stands)
    (λ _. subst (λ (l : Latest). IsShown (record { board = new.past.book; states = new.past.log; prefix = l.prefix; rows = l.machine.rows })) (sym is) (old.past.log, added))
    (λ _.
    let shown : shown_by new ≡ shown_by old = ap (λ d. d.shown.value) follows.desk in
    let led : fold changed (shown_by new) (changes_unshown old) ≡ latest_posted old =
    ap (λ (p : Posted). fold changed p (changes_unshown old)) shown ∙ kept.changes refl in
    more_changes (shown_by new) (latest_posted old) (latest_posted new) (changes_unshown old) (changes_unshown new) (record { past = new.past; prefix = latest.prefix; rows = rows }) led more
    (λ i. record { board = new.past.book; states = new.past.log; prefix = (sym is i).prefix; rows = (fresh ∙ ap (λ (l : Latest). l.machine.rows) (sym is)) i }))

-- what two facts of an answer that is Ok give
pub on_ok_both : {X E : Type 0} {A B C : Type 0} (answer : Result X E) → OnOk answer A → OnOk answer B → (A → B → C) → OnOk answer C
on_ok_both (Ok x) a b gives = gives a b
on_ok_both (Err e) a b gives = tt

-- what an answer that is Ok says
pub matched_ok : {X E : Type 0} (P : X → Type 0) (Q : E → Type 0) (answer : Result X E) (x : X) → answer ≡ Ok x → MatchResult answer P Q → P x
matched_ok {X} {E} P Q answer x is says = subst (λ (r : Result X E). MatchResult r P Q) is says

-- what holds for one table holds for each that the machine stands for
pub for_table : (one other : Table) (ready : Bool) (keeper : Keeper) → IsKeptUp one ready keeper → StandsFor other keeper.latest.machine
    → IsKeptUp other ready keeper
for_table one other ready keeper kept stands = record {
  word = kept.word;
  named = kept.named;
  board = kept.board;
  begins = kept.begins;
  history = subst (λ (n : ℕ). IsHistory n keeper.past.log) (sym kept.stands.rows.numbered.count ∙ stands.rows.numbered.count) kept.history;
  stands = stands;
  last = kept.last;
  changes = kept.changes;
}
