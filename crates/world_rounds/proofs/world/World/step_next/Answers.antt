use Rattle.std.proofs.Common.{◌≡◌, [], Some, length, refl, subst, arith}
use Rattle.std.specs.List.{slice_get}
use Rattle.std.proofs.lemmas.List.{length-set}
use Rattle.std.proofs.lemmas.Option.{slice_get_read}
use Rattle.world_rounds.proofs.OneByOne.{idle_here, may_commit_step, may_take_beside, step_ahead, stepped}
use Rattle.world_rounds.specs.OneByOne.{EndsStep, KeepsRest}
use Rattle.world_rounds.specs.World.{none_taken}
use Rattle.history.specs.Book.{with_fact}
use Rattle.std.proofs.Common.{◌∷◌}
use Rattle.world_rounds.proofs.world.World.step_next.Goals as goal
use Rattle.history.proofs.Standings.{fact_here}

pub take_next-requires-clause-may : goal.take_next-requires-clause-may
take_next-requires-clause-may g c =
    let there : slice_get c.args.self.now.members.items c.args.who ≡ Some c.index_mut-member.result.now =
    slice_get_read c.args.self.now.members.items (length c.args.self.now.members.items) c.args.who c.index_mut-member.result.now refl c.requires.member c.index_mut-member.ensures.value in
    may_take_beside g.D.Disk.view c.args.table.now c.requires.may.0 c.args.self.now c.requires.may.1 c.args.who c.args.cause c.index_mut-member.result.now c.requires.may.2 c.requires.may.3 there

pub commit_taken-requires : goal.commit_taken-requires
commit_taken-requires g c =
    let there : slice_get c.args.self.now.members.items c.args.who ≡ Some c.index_mut-member.result.now =
    slice_get_read c.args.self.now.members.items (length c.args.self.now.members.items) c.args.who c.index_mut-member.result.now refl c.requires.member c.index_mut-member.ensures.value in
    let ends = subst (λ e. EndsStep g.D.Disk.view c.args.table.now c.requires.may.0 c.args.self.now.book c.requires.may.1 c.args.who c.args.cause e c.take_next.new.self) c.in-Taken.is
    (c.in_ok-taken.ensures.ends c.requires.may.0 c.requires.may.1 (idle_here g.D.Disk.view c.args.table.now c.requires.may.0 c.args.self.now c.requires.may.1 c.args.who c.index_mut-member.result.now c.requires.may.2 there) c.requires.may.3) in
    record {
      may = (
        [],
        may_commit_step g.D.Disk.view c.args.table.now c.requires.may.0 c.args.self.now _ c.requires.may.1 c.args.who c.in-Taken.taken c.take_next.new.self c.requires.may.2 ends.2 refl refl refl refl
            (let same = length-set c.args.self.now.members.items c.args.who c.take_next.new.self in omega (arith, same, c.requires.member)),
      );
    }

pub commit_stopped-requires-clause-may : goal.commit_stopped-requires-clause-may
commit_stopped-requires-clause-may g c =
    let there : slice_get c.args.self.now.members.items c.args.who ≡ Some c.index_mut-member.result.now =
    slice_get_read c.args.self.now.members.items (length c.args.self.now.members.items) c.args.who c.index_mut-member.result.now refl c.requires.member c.index_mut-member.ensures.value in
    let ends = subst (λ e. EndsStep g.D.Disk.view c.args.table.now c.requires.may.0 c.args.self.now.book c.requires.may.1 c.args.who c.args.cause e c.take_next.new.self) c.in-Stopped.is
    (c.in_ok-taken.ensures.ends c.requires.may.0 c.requires.may.1 (idle_here g.D.Disk.view c.args.table.now c.requires.may.0 c.args.self.now c.requires.may.1 c.args.who c.index_mut-member.result.now c.requires.may.2 there) c.requires.may.3) in (
      c.requires.may.0,
      c.requires.may.1,
      ends.arm,
      (record {
        before = c.args.self.now;
        is = c.requires.may.2;
        may = c.requires.may.3;
        armed = ends.armed;
        old = c.index_mut-member.result.now;
        there = there;
        new = c.take_next.new.self;
        members = refl;
        stopped = ends.stopped;
        attached = ends.attached;
        mail = subst (λ e. KeepsRest e c.index_mut-member.result.now c.take_next.new.self) c.in-Stopped.is c.in_ok-taken.ensures.rest;
        steps = ends.none;
        book = refl;
        cuts = refl;
        latest = refl;
      }),
    )

pub returns-in_ok-commit_taken-in-Taken-clause-steps : goal.returns-in_ok-commit_taken-in-Taken-clause-steps
returns-in_ok-commit_taken-in-Taken-clause-steps g c =
    λ rows situation is may.
    let there : slice_get c.args.self.now.members.items c.args.who ≡ Some c.index_mut-member.result.now =
    slice_get_read c.args.self.now.members.items (length c.args.self.now.members.items) c.args.who c.index_mut-member.result.now refl c.requires.member c.index_mut-member.ensures.value in
    let ends = subst (λ e. EndsStep g.D.Disk.view c.args.table.now rows c.args.self.now.book situation c.args.who c.args.cause e c.take_next.new.self) c.in-Taken.is
    (c.in_ok-taken.ensures.ends rows situation (idle_here g.D.Disk.view c.args.table.now rows c.args.self.now situation c.args.who c.index_mut-member.result.now is there) may) in
    stepped g.D.Disk.view c.args.table.now rows c.args.self.now _ c.commit_taken.new.self situation c.args.who c.args.cause c.in-Taken.taken c.index_mut-member.result.now c.take_next.new.self is may there ends
    (subst (λ e. KeepsRest e c.index_mut-member.result.now c.take_next.new.self) c.in-Taken.is c.in_ok-taken.ensures.rest) refl refl refl refl
    (c.in_ok-commit_taken-in-Taken.ensures.did []) c.in_ok-commit_taken-in-Taken.ensures.steps

pub returns-in_ok-commit_taken-in-Taken-clause-members : goal.returns-in_ok-commit_taken-in-Taken-clause-members
returns-in_ok-commit_taken-in-Taken-clause-members g c =
    let there : slice_get c.args.self.now.members.items c.args.who ≡ Some c.index_mut-member.result.now =
    slice_get_read c.args.self.now.members.items (length c.args.self.now.members.items) c.args.who c.index_mut-member.result.now refl c.requires.member c.index_mut-member.ensures.value in
    let ends = subst (λ e. EndsStep g.D.Disk.view c.args.table.now c.requires.may.0 c.args.self.now.book c.requires.may.1 c.args.who c.args.cause e c.take_next.new.self) c.in-Taken.is
    (c.in_ok-taken.ensures.ends c.requires.may.0 c.requires.may.1 (idle_here g.D.Disk.view c.args.table.now c.requires.may.0 c.args.self.now c.requires.may.1 c.args.who c.index_mut-member.result.now c.requires.may.2 there) c.requires.may.3) in
    (c.in_ok-commit_taken-in-Taken.ensures.did [] c.requires.may.0 c.requires.may.1 (with_fact c.args.who (c.in-Taken.taken ∷ []) none_taken)
    (step_ahead g.D.Disk.view c.args.table.now c.requires.may.0 c.args.self.now _ c.requires.may.1 c.args.who c.in-Taken.taken c.take_next.new.self c.requires.may.2 ends.2 refl refl refl refl)
    (fact_here c.args.who (c.in-Taken.taken ∷ []) none_taken)).members_are

pub returns-in_ok-commit_stopped-in-Stopped-clause-steps : goal.returns-in_ok-commit_stopped-in-Stopped-clause-steps
returns-in_ok-commit_stopped-in-Stopped-clause-steps g c =
    λ rows situation is may.
    let there : slice_get c.args.self.now.members.items c.args.who ≡ Some c.index_mut-member.result.now =
    slice_get_read c.args.self.now.members.items (length c.args.self.now.members.items) c.args.who c.index_mut-member.result.now refl c.requires.member c.index_mut-member.ensures.value in
    let ends = subst (λ e. EndsStep g.D.Disk.view c.args.table.now rows c.args.self.now.book situation c.args.who c.args.cause e c.take_next.new.self) c.in-Stopped.is
    (c.in_ok-taken.ensures.ends rows situation (idle_here g.D.Disk.view c.args.table.now rows c.args.self.now situation c.args.who c.index_mut-member.result.now is there) may) in
    c.in_ok-commit_stopped-in-Stopped.ensures.stops rows situation ends.arm (record {
      before = c.args.self.now;
      is = is;
      may = may;
      armed = ends.armed;
      old = c.index_mut-member.result.now;
      there = there;
      new = c.take_next.new.self;
      members = refl;
      stopped = ends.stopped;
      attached = ends.attached;
      mail = subst (λ e. KeepsRest e c.index_mut-member.result.now c.take_next.new.self) c.in-Stopped.is c.in_ok-taken.ensures.rest;
      steps = ends.none;
      book = refl;
      cuts = refl;
      latest = refl;
    })
