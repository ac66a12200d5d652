use Rattle.std.proofs.Common.{ℕ, refl, subst}
use Rattle.world_law.specs.Rows.{MayComeNext}
use Rattle.world_law.proofs.Rows.{rows_stay}
use Rattle.world_steps.proofs.Joined.{may_call, next_alike}
use Rattle.world_free.specs.Ready.{row_of_step}
use Rattle.world_free.proofs.Readying.{step_comes_next}
use Rattle.world_free.proofs.ready.make_ready.Goals as goal

pub call_for-requires-clause-asks : goal.call_for-requires-clause-asks
call_for-requires-clause-asks c =
    let may = c.requires.may in
    may_call c.args.table.now may.rows c.reserve.new.self c.args.who c.args.taken.now may.old may.new
    (next_alike c.args.table.now may.rows c.args.book.now c.reserve.new.self c.args.who c.args.taken.now may.old may.new c.reserve.ensures.same may.next) c.in_ok-reserve.ensures.room
    c.args.taken.now.out.call refl

pub returns-clause-next : goal.returns-clause-next
returns-clause-next c =
    λ rows has.
    let may = c.requires.may in
    let ready = c.reserve.new.self in
    let next = next_alike c.args.table.now may.rows c.args.book.now ready c.args.who c.args.taken.now may.old may.new c.reserve.ensures.same may.next in
    subst (λ (n : ℕ). MayComeNext n c.args.table.now rows (row_of_step c.args.who c.args.taken.now c.in_ok-made.made)) c.reserve.ensures.same.members
    (step_comes_next c.args.table.now may.rows ready c.args.who c.args.taken.now may.old may.new c.in_ok-made.made next (c.in_ok-made.ensures.made may.rows next.behind) rows
    (rows_stay c.args.table.now rows c.args.book.now ready c.reserve.ensures.same has))
