use Rattle.std.proofs.Common.{◌≡◌, List, Some, refl, ap, sym, ◌∙◌, subst}
use Rattle.std.specs.Prelude.{[], drop, fold}
use Rattle.left_right.specs.Sides.{view}
use mathlib.Core.List.{IsPrefix}
use Rattle.status_board.specs.declared.change.Change.{Change}
use Rattle.status_board.specs.declared.shown.Shown.{Shown}
use Rattle.status_board.specs.Change.{changed}
use Rattle.status_board.specs.Naming.{IsShown, ShowsIt, board_name_of}
use Rattle.status_board.specs.Posted.{Posted}
use Rattle.status_board.proofs.Beginnings.{prefix_self}
use Rattle.status_board.proofs.NamingLemmas.{shows}
use Rattle.status_board.proofs.UpkeepLemmas.{matched_ok}
use Rattle.status_board.proofs.keeper.Keeper.publish.Goals as goal

pub publish_as-shower-requires : goal.publish_as-shower-requires
publish_as-shower-requires g c next is =
    let latest = is ∙ c.requires.1.changes refl in
    shows _ _ _ next (ap (λ (p : Posted). p.board) latest ∙ sym c.requires.1.board) (subst IsShown (sym latest) (c.requires.1.last refl))

pub returns-clause-kept : goal.returns-clause-kept
returns-clause-kept g c table kept =
    let next = c.publish_as-shower.result.0 in
    let old = c.args.self.shower in
    let values = matched_ok (λ _. (next.desk.shown.value ≡ fold changed old.desk.shown.value (drop old.behind old.log.items)) × (drop next.behind next.log.items ≡ [])) _ _ _ c.in-Ok.is c.publish_as-shower.ensures.values in
    let rule = matched_ok (λ _. ShowsIt (view old.desk.place) old.desk.shown.value next.desk.shown.value (view next.desk.place)) _ _ _ c.in-Ok.is c.publish_as-shower.ensures.rule in
    let shown = values.0 ∙ kept.changes refl in record {
      word = kept.word;
      named = rule ∙ ap (λ (p : Posted). Some (board_name_of p.board)) shown;
      board = ap (λ (p : Posted). p.board) shown;
      begins = subst (λ (l : List Shown). IsPrefix l c.args.self.past.log) (sym (ap (λ (p : Posted). p.states) shown)) (prefix_self c.args.self.past.log);
      history = kept.history;
      stands = kept.stands;
      last = kept.last;
      changes = λ _. ap (λ (l : List Change). fold changed next.desk.shown.value l) values.1 ∙ shown;
    }
