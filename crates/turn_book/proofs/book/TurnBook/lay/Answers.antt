use Rattle.std.proofs.Common.{◌≡◌, List, [], ◌∷◌, ◌++◌, Option, Some, ap, sym, ◌∙◌, subst, arith}
use Rattle.atomic_table.specs.Table.{opening}
use Rattle.turn_book.specs.Rows.{IsLawful}
use Rattle.turn_book.specs.Rule.{Fair}
use Rattle.turn_book.specs.Views.{first_view}
use Rattle.turn_book.specs.declared.view.Opening.{Opening}
use Rattle.turn_book.proofs.SeatLemmas.{begins}
use Rattle.turn_book.proofs.book.TurnBook.lay.Goals as goal

pub new-requires : goal.new-requires
new-requires g c =
    let L : Type 0 = g.row.L.Denot in
    let K : Type 0 = g.row.L-Key.Denot in
    let R : Type 0 = g.row.L-Row.Denot in
    let began : Opening L K = record { key = c.of.result; state = c.of-2.result; seats = c.args.seats } in
    let rows = c.requires.rows in
    let slots : c.push_reserved.new.self.items ≡ Some c.args.state ∷ [] = c.push_reserved.ensures.items ∙ ap (λ (l : List (Option L)). l ++ Some c.args.state ∷ []) c.in_ok-slots.ensures.items in
    let the_key : began.key.value ≡ c.args.key.now = c.of.ensures in
    let the_state : began.state.value ≡ c.args.state = c.of-2.ensures in
    subst (λ (l : List (Option L)). Fair g.L.Law began (opening (0 ∷ 0 ∷ 0 ∷ []) l (first_view {R = R} began))) (sym slots)
    (begins g.L.Law began c.args.state rows.first
    (record {
      seats = (let seats = c.requires.seats in (omega arith, seats.1));
      rows = subst (λ (k : K). g.L.Law.has_rows k began.state.value rows.first) (sym the_key) (subst (λ (x : L). g.L.Law.has_rows c.args.key.now x rows.first) (sym the_state) rows.are);
      lawful =
          subst (λ (k : K). IsLawful (g.L.Law.follows k (g.L.Law.number began.state.value)) rows.first) (sym the_key)
          (subst (λ (x : L). IsLawful (g.L.Law.follows c.args.key.now (g.L.Law.number x)) rows.first) (sym the_state) rows.lawful);
      rests =
          record {
            rows = subst (λ (k : K). g.L.Law.has_rows k c.args.state rows.first) (sym the_key) rows.are;
            number = ap g.L.Law.number (sym the_state);
            rest = c.requires.rest;
          };
    }))
