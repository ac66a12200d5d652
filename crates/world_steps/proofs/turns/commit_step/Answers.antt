use Rattle.std.proofs.Common.{◌∙◌, refl}
use Rattle.world_steps.proofs.Joined.{has_joined, may_call, next_alike, turn_may_come}
use Rattle.world_steps.proofs.turns.commit_step.Goals as goal

pub call_for-requires-clause-rest : goal.call_for-requires-clause-rest
call_for-requires-clause-rest c = c.reserve.ensures.same.pending ∙ c.requires.may.next.rest

pub call_for-requires-clause-asks : goal.call_for-requires-clause-asks
call_for-requires-clause-asks c =
    let may = c.requires.may in
    may_call c.args.table.now may.rows c.reserve.new.self c.args.who c.args.taken may.old may.new
    (next_alike c.args.table.now may.rows c.args.book.now c.reserve.new.self c.args.who c.args.taken may.old may.new c.reserve.ensures.same may.next) c.in_ok-reserve.ensures.room
    c.args.taken.out.call refl

pub commit-requires-clause-next : goal.commit-requires-clause-next
commit-requires-clause-next c =
    let may = c.requires.may in
    let next = next_alike c.args.table.now may.rows c.args.book.now c.reserve.new.self c.args.who c.args.taken may.old may.new c.reserve.ensures.same may.next in
    turn_may_come c.args.table.now may.rows c.reserve.new.self c.call_for.new.book c.args.who c.args.taken may.old may.new c.in_ok-call.call next c.in_ok-call.ensures.members
    (c.call_for.ensures.stands may.rows next.behind) (c.in_ok-call.ensures.made may.rows next.behind)

pub commit-requires-clause-room : goal.commit-requires-clause-room
commit-requires-clause-room c = c.call_for.ensures.room _ c.in_ok-reserve.ensures.room

pub returns-clause-joined : goal.returns-clause-joined
returns-clause-joined c =
    λ rows old new next.
    let alike = next_alike c.args.table.now rows c.args.book.now c.reserve.new.self c.args.who c.args.taken old new c.reserve.ensures.same next in
    has_joined c.args.table.now rows c.args.book.now c.reserve.new.self c.call_for.new.book _ c.args.who c.args.taken old new c.in_ok-call.call next c.reserve.ensures.same
    c.in_ok-call.ensures.members c.in_ok-call.ensures.letters (c.call_for.ensures.stands rows alike.behind) (c.in_ok-call.ensures.made rows alike.behind)
    c.commit.ensures.commits c.commit.ensures.stands
