use Rattle.std.proofs.Common.{ℕ, ◌%◌, ◌<◌, List, length, vec_len, vec_capacity, Vec, Global, sym, ap, ◌∙◌, subst}
use Rattle.turn_book.proofs.CallerLemmas.{rests_still}
use Rattle.turn_tests.specs.declared.rota.Rota.{Rota}
use Rattle.turn_tests.specs.declared.rota.Shift.{Shift}
use Rattle.turn_tests.specs.contracts.rota.RotaLaw.TheImpl as rota
use Rattle.turn_tests.proofs.rota_turns.shift_one.Goals as goal

pub leave-requires : goal.leave-requires
leave-requires g c = rests_still rota.ghosts c.enter-turn.result c.reserve.new.self c.in-Err.ensures.keeps c.in-Err.ensures.same c.enter-turn.ensures.rest

pub commit-requires-clause-room : goal.commit-requires-clause-room
commit-requires-clause-room g c =
    let shifts = c.call_next.ensures.shifts ∙ ap (λ (r : Rota). r.shifts) c.state.ensures.state in
    subst (λ (v : Vec Shift Global). vec_len v < vec_capacity v) (sym shifts) (c.in-Ok.ensures.room (record { seat = c.args.who }) tt)

pub commit-requires-clause-follows : goal.commit-requires-clause-follows
commit-requires-clause-follows g c =
    let rests = rests_still rota.ghosts c.enter-turn.result c.reserve.new.self c.in-Ok.ensures.keeps c.in-Ok.ensures.same c.enter-turn.ensures.rest in
    let called = c.state.result.now in
    let items = ap (λ (r : Rota). r.shifts.items) c.state.ensures.state ∙ rests.rows in
    let seats = ap (λ (r : Rota). r.seats) c.state.ensures.state ∙ rests.number in
    sym (ap (λ (n : ℕ). length c.reserve.new.self.inner.me.0.seen % n) seats) ∙ sym (ap (λ (l : List Shift). length l % called.seats) items) ∙ c.call_next.ensures.next c.if-call_next.true

pub commit-requires-clause-rows : goal.commit-requires-clause-rows
commit-requires-clause-rows g c =
    let rests = rests_still rota.ghosts c.enter-turn.result c.reserve.new.self c.in-Ok.ensures.keeps c.in-Ok.ensures.same c.enter-turn.ensures.rest in
    ap (λ (v : Vec Shift Global). v.items) c.call_next.ensures.shifts ∙ ap (λ (r : Rota). r.shifts.items) c.state.ensures.state ∙ rests.rows

pub leave-requires-else-call_next : goal.leave-requires-else-call_next
leave-requires-else-call_next g c =
    let rests = rests_still rota.ghosts c.enter-turn.result c.reserve.new.self c.in-Ok.ensures.keeps c.in-Ok.ensures.same c.enter-turn.ensures.rest in
    let st = c.state.ensures.state in
    record {
      rows = ap (λ (v : Vec Shift Global). v.items) c.call_next.ensures.shifts ∙ ap (λ (r : Rota). r.shifts.items) st ∙ rests.rows;
      number = c.call_next.ensures.seats ∙ ap (λ (r : Rota). r.seats) st ∙ rests.number;
      rest = c.if-call_next.ensures.called ∙ ap (λ (r : Rota). r.called) st ∙ rests.rest;
    }
