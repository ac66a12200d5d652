use Rattle.std.proofs.Common.{◌≡◌, ℕ, List, Some, [], ap, sym, ◌∙◌, subst}
use Rattle.std.specs.Prelude.{drop, fold}
use mathlib.Core.List.{IsPrefix}
use Rattle.left_right.specs.Sides.{view}
use Rattle.paxos_base.specs.Rows.{fresh_rows, row_count}
use Rattle.status_board.specs.declared.change.Change.{Change}
use Rattle.status_board.specs.declared.shown.Shown.{Shown}
use Rattle.status_board.specs.Change.{changed}
use Rattle.status_board.specs.Naming.{IsShown, ShowsIt, board_name_of}
use Rattle.status_board.specs.Posted.{Posted}
use Rattle.status_board.proofs.Beginnings.{prefix_self}
use Rattle.status_board.proofs.NamingLemmas.{shows}
use Rattle.status_board.proofs.UpkeepLemmas.{matched_ok}
use Rattle.status_board.proofs.keeper.Keeper.begin.Goals as goal

-- a sheet with the first state is the latest state
posted_first : (first latest : Posted) (total count : ℕ) → first.board ≡ latest.board → first.states ≡ latest.states → first.prefix ≡ 0 → latest.prefix ≡ 0
    → first.rows ≡ fresh_rows count → count ≡ total → latest.rows ≡ fresh_rows total → first ≡ latest
posted_first first latest total count board states none none' fresh same fresh' =
    λ i. record {
      board = board i;
      states = states i;
      prefix = (none ∙ sym none') i;
      rows = (fresh ∙ (ap fresh_rows same ∙ sym fresh')) i;
    }

pub publish_as-shower-requires : goal.publish_as-shower-requires
publish_as-shower-requires g c next is =
    let first = c.in_ok-first.first in
    let old = c.in_ok-shower.shower in
    let latest : Posted = record { board = c.begin-past.result.0.book; states = c.begin-past.result.0.log; prefix = c.in_ok-latest.latest.prefix; rows = c.in_ok-latest.latest.machine.rows } in
    let same : first ≡ latest = posted_first first latest _ _ c.in_ok-first.ensures.board c.in_ok-first.ensures.states c.in_ok-first.ensures.prefix
    c.in_ok-latest.ensures.prefix c.in_ok-first.ensures.rows (ap row_count c.table_size.ensures.size) c.in_ok-latest.ensures.rows in
    let shown : old.desk.shown.value ≡ latest = c.in_ok-shower.ensures.0 ∙ same in
    let later : next ≡ latest = is ∙ (ap (λ (l : List Change). fold changed old.desk.shown.value l) c.in_ok-shower.ensures.1 ∙ shown) in
    shows _ _ _ next (ap (λ (p : Posted). p.board) (later ∙ sym shown)) (subst IsShown (sym later) ([], c.begin-past.ensures.states))

pub returns-clause-kept : goal.returns-clause-kept
returns-clause-kept g c =
    let first = c.in_ok-first.first in
    let old = c.in_ok-shower.shower in
    let next = c.publish_as-shower.result.0 in
    let latest : Posted = record { board = c.begin-past.result.0.book; states = c.begin-past.result.0.log; prefix = c.in_ok-latest.latest.prefix; rows = c.in_ok-latest.latest.machine.rows } in
    let same : first ≡ latest = posted_first first latest _ _ c.in_ok-first.ensures.board c.in_ok-first.ensures.states c.in_ok-first.ensures.prefix
    c.in_ok-latest.ensures.prefix c.in_ok-first.ensures.rows (ap row_count c.table_size.ensures.size) c.in_ok-latest.ensures.rows in
    let values = matched_ok (λ _. (next.desk.shown.value ≡ fold changed old.desk.shown.value (drop old.behind old.log.items)) × (drop next.behind next.log.items ≡ [])) _ _ _ c.in-Ok.is c.publish_as-shower.ensures.values in
    let rule = matched_ok (λ _. ShowsIt (view old.desk.place) old.desk.shown.value next.desk.shown.value (view next.desk.place)) _ _ _ c.in-Ok.is c.publish_as-shower.ensures.rule in
    let shown : next.desk.shown.value ≡ latest =
    values.0 ∙ (ap (λ (l : List Change). fold changed old.desk.shown.value l) c.in_ok-shower.ensures.1 ∙ (c.in_ok-shower.ensures.0 ∙ same)) in record {
      word = c.begin-past.ensures.word;
      named = rule ∙ ap (λ (p : Posted). Some (board_name_of p.board)) shown;
      board = ap (λ (p : Posted). p.board) shown;
      begins = subst (λ (l : List Shown). IsPrefix l latest.states) (sym (ap (λ (p : Posted). p.states) shown)) (prefix_self latest.states);
      history = c.begin-past.ensures.history;
      stands = c.in_ok-latest.ensures.stands;
      last = λ _. ([], c.begin-past.ensures.states);
      changes = λ _. ap (λ (l : List Change). fold changed next.desk.shown.value l) values.1 ∙ shown;
    }
