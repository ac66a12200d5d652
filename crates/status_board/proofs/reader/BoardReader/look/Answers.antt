use Rattle.std.proofs.Common.{◌≡◌, ◌≤◌, List, Some, ap, sym, ◌∙◌, subst, arith}
use mathlib.Core.List.{IsPrefix}
use Rattle.logbook.specs.Pages.{Book}
use Rattle.status_board.specs.declared.shown.Shown.{Shown}
use Rattle.status_board.specs.Naming.{board_name_of}
use Rattle.status_board.specs.Posted.{Posted}
use Rattle.status_board.specs.Sight.{Sight}
use Rattle.status_board.proofs.NamingLemmas.{lets_in, named_board}
use Rattle.status_board.proofs.ReaderLemmas.{AreFronts, front_history, mine_first}
use Rattle.status_board.proofs.reader.BoardReader.look.Goals as goal

pub enter_as-requires : goal.enter_as-requires
enter_as-requires c = lets_in _ _

pub invariant_of-result-2 : goal.invariant_of-result-2
invariant_of-result-2 c =
    let posted = c.in-Ok.reading.part.value in
    let saw = c.in-Ok.ensures.1 in
    let mine = c.self.inside.past.log in
    let board : posted.board ≡ c.self.inside.past.book = named_board _ c.self.inside.past.book posted.board c.self.invariant.0 saw.2 in
    let found : c.past.result.log ≡ posted.states = c.past.ensures.states ∙ ap (λ (p : Posted). p.states) c.get-2.ensures in
    let fronts : AreFronts mine posted.states c.learn.new.self.log = record {
      mine_begins = c.learn.ensures.2;
      others_begin = subst (λ (l : List Shown). IsPrefix l c.learn.new.self.log) found c.learn.ensures.3;
      kept = c.learn.ensures.4;
    } in (
      saw.0 ∙ (c.self.invariant.0 ∙ ap (λ (b : Book). Some (board_name_of b)) (sym board)),
      saw.1,
      front_history _ mine posted.states c.learn.new.self.log posted.prefix fronts c.self.invariant.2 (posted.rows, saw.1),
    )

pub returns : goal.returns
returns c =
    let posted = c.in-Ok.reading.part.value in
    let saw = c.in-Ok.ensures.1 in
    let mine = c.self.inside.past.log in
    let board : posted.board ≡ c.self.inside.past.book = named_board _ c.self.inside.past.book posted.board c.self.invariant.0 saw.2 in
    let found : c.past.result.log ≡ posted.states = c.past.ensures.states ∙ ap (λ (p : Posted). p.states) c.get-2.ensures in
    let fronts : AreFronts mine posted.states c.learn.new.self.log = record {
      mine_begins = c.learn.ensures.2;
      others_begin = subst (λ (l : List Shown). IsPrefix l c.learn.new.self.log) found c.learn.ensures.3;
      kept = c.learn.ensures.4;
    } in
    let prefix : c.prefix.result ≡ posted.prefix = c.prefix.ensures ∙ ap (λ (p : Posted). p.prefix) c.get.ensures in
    let order : c.self.inside.prefix ≤ posted.prefix = omega (arith, c.if-prefix.false, prefix) in record {
      board = board ∙ ap (λ (r : Sight). r.board) c.self.view_is;
      total = ap (λ (r : Sight). r.total) c.self.view_is;
      begins = subst (λ (r : Sight). IsPrefix r.states posted.states) c.self.view_is
          (mine_first mine posted.states c.learn.new.self.log _ posted.prefix fronts c.self.invariant.1 (posted.rows, saw.1) order);
      last = saw.1;
      history = front_history _ mine posted.states c.learn.new.self.log posted.prefix fronts c.self.invariant.2 (posted.rows, saw.1);
    }
