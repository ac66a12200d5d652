use Rattle.std.proofs.Common.{◌≡◌, ◌≤◌, List, Some, ap, sym, ◌∙◌, subst, arith}
use Rattle.logbook.specs.Pages.{Book}
use Rattle.status_board.specs.declared.shown.Shown.{Shown}
use Rattle.status_board.specs.Naming.{board_name_of}
use Rattle.status_board.specs.Shown.{IsHistory}
use Rattle.status_board.specs.Sight.{HasLastPrefix, Marked, Sight}
use Rattle.status_board.proofs.ReaderLemmas.{AreFronts, front_history, mine_first, others_first}
use Rattle.status_board.proofs.reader.BoardReader.told.Goals as goal

known : (mine others copied both : List Shown) → copied ≡ mine → AreFronts copied others both → AreFronts mine others both
known mine others copied both same fronts = subst (λ (l : List Shown). AreFronts l others both) same fronts

pub returns-then-mark-self-clause-told : goal.returns-then-mark-self-clause-told
returns-then-mark-self-clause-told c =
    let mine = c.self.inside.past.log in
    let others = c.mark.inside.past.log in
    let fronts = known mine others c.again-both.result.log c.learn.new.self.log (ap (λ s. s.log) c.again-both.ensures) record {
      mine_begins = c.learn.ensures.2;
      others_begin = c.learn.ensures.3;
      kept = c.learn.ensures.4;
    } in
    rw (← c.mark.view_is) (others_first mine others c.learn.new.self.log _ _ fronts c.mark.invariant c.self.invariant.1 c.if-mark-self.true)

pub invariant_of-result-2 : goal.invariant_of-result-2
invariant_of-result-2 c =
    let mine = c.self.inside.past.log in
    let others = c.mark.inside.past.log in
    let fronts = known mine others c.again-both.result.log c.learn.new.self.log (ap (λ s. s.log) c.again-both.ensures) record {
      mine_begins = c.learn.ensures.2;
      others_begin = c.learn.ensures.3;
      kept = c.learn.ensures.4;
    } in
    let board : c.mark.inside.past.book ≡ c.self.inside.past.book =
    ap (λ (m : Marked). m.board) c.mark.view_is ∙ (c.requires ∙ sym (ap (λ (r : Sight). r.board) c.self.view_is)) in
    let same = c.again.ensures in (
      c.self.invariant.0 ∙ ap (λ (b : Book). Some (board_name_of b)) (sym board ∙ sym (ap (λ s. s.book) same)),
      subst (λ (l : List Shown). HasLastPrefix l c.mark.inside.prefix) (sym (ap (λ s. s.log) same)) c.mark.invariant,
      subst (λ (l : List Shown). IsHistory c.self.inside.total l) (sym (ap (λ s. s.log) same))
          (front_history _ mine others c.learn.new.self.log _ fronts c.self.invariant.2 c.mark.invariant),
    )

pub returns-clause-begins : goal.returns-clause-begins
returns-clause-begins c =
    let mine = c.self.inside.past.log in
    let others = c.mark.inside.past.log in
    let fronts = known mine others c.again-both.result.log c.learn.new.self.log (ap (λ s. s.log) c.again-both.ensures) record {
      mine_begins = c.learn.ensures.2;
      others_begin = c.learn.ensures.3;
      kept = c.learn.ensures.4;
    } in
    let order : c.self.inside.prefix ≤ c.mark.inside.prefix = omega (arith, c.if-mark-self.false) in
    rw (← c.self.view_is, ap (λ s. s.log) c.again.ensures) (mine_first mine others c.learn.new.self.log _ _ fronts c.self.invariant.1 c.mark.invariant order)
