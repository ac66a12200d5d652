use Rattle.std.proofs.Common.{◌≡◌, Some, length, refl, sym, ap, ◌∙◌, arith}
use Rattle.std.specs.List.{slice_get}
use Rattle.std.proofs.lemmas.Option.{slice_get_read}
use Rattle.world_rounds.proofs.Next.{answer_runs, answer_stopped, answer_world, hear_runs, hear_stopped, hear_world, same_lengths, ticked}
use Rattle.world_rounds.proofs.InOrder.{passed_stopped}
use Rattle.world_rounds.proofs.Worlds.{some_same}
use Rattle.world_rounds.proofs.world.World.round_of.Goals as goal

pub returns-then-not-index-clause-passes : goal.returns-then-not-index-clause-passes
returns-then-not-index-clause-passes g c =
    let there : slice_get c.args.self.now.members.items c.args.who ≡ Some c.index.result.now =
    slice_get_read c.args.self.now.members.items (length c.args.self.now.members.items) c.args.who c.index.result.now refl c.requires.member c.index.ensures in
    λ rows situation is.
    passed_stopped g.D.Disk.view c.args.table.now c.args.self.now.book.members rows c.args.self.now situation c.args.who c.args.at.0 is (sym (is.ahead.each c.args.who c.index.result.now there).mail.runs ∙ c.if-not-index.true)

pub answer_next-requires-clause-runs : goal.answer_next-requires-clause-runs
answer_next-requires-clause-runs g c =
    let there : slice_get c.args.self.now.members.items c.args.who ≡ Some c.index.result.now =
    slice_get_read c.args.self.now.members.items (length c.args.self.now.members.items) c.args.who c.index.result.now refl c.requires.member c.index.ensures in
    λ member found. ap (λ m. m.mail.runs) (some_same (slice_get c.args.self.now.members.items c.args.who) member c.index.result.now found there) ∙ c.if-not-index.false

pub returns-then-not-branch-clause-passes : goal.returns-then-not-branch-clause-passes
returns-then-not-branch-clause-passes g c =
    let there : slice_get c.args.self.now.members.items c.args.who ≡ Some c.index.result.now =
    slice_get_read c.args.self.now.members.items (length c.args.self.now.members.items) c.args.who c.index.result.now refl c.requires.member c.index.ensures in
    answer_stopped g.D.Disk.view c.args.table.now c.args.who c.args.at.0 c.args.self.now c.answer_next.new.self c.index.result.now there c.if-not-index.false c.requires.world c.in_ok-answer_next.field-0 c.in_ok-answer_next.ensures.led c.if-not-branch.true

pub hear_next-requires-clause-world : goal.hear_next-requires-clause-world
hear_next-requires-clause-world g c =
    let there : slice_get c.args.self.now.members.items c.args.who ≡ Some c.index.result.now =
    slice_get_read c.args.self.now.members.items (length c.args.self.now.members.items) c.args.who c.index.result.now refl c.requires.member c.index.ensures in
    answer_world g.D.Disk.view c.args.table.now c.args.who c.args.at.0 c.args.self.now c.answer_next.new.self c.index.result.now there c.if-not-index.false c.requires.world c.in_ok-answer_next.field-0 c.in_ok-answer_next.ensures.led

pub hear_next-requires-clause-member : goal.hear_next-requires-clause-member
hear_next-requires-clause-member g c =
    let there : slice_get c.args.self.now.members.items c.args.who ≡ Some c.index.result.now =
    slice_get_read c.args.self.now.members.items (length c.args.self.now.members.items) c.args.who c.index.result.now refl c.requires.member c.index.ensures in
    let world = answer_world g.D.Disk.view c.args.table.now c.args.who c.args.at.0 c.args.self.now c.answer_next.new.self c.index.result.now there c.if-not-index.false c.requires.world c.in_ok-answer_next.field-0 c.in_ok-answer_next.ensures.led in
    let same = same_lengths g.D.Disk.view c.args.table.now c.args.self.now c.answer_next.new.self c.requires.world world c.in_ok-answer_next.ensures.members in
    omega (arith, same, c.requires.member)

pub hear_next-requires-clause-runs : goal.hear_next-requires-clause-runs
hear_next-requires-clause-runs g c =
    let there : slice_get c.args.self.now.members.items c.args.who ≡ Some c.index.result.now =
    slice_get_read c.args.self.now.members.items (length c.args.self.now.members.items) c.args.who c.index.result.now refl c.requires.member c.index.ensures in
    answer_runs g.D.Disk.view c.args.table.now c.args.who c.args.at.0 c.args.self.now c.answer_next.new.self c.index.result.now there c.if-not-index.false c.requires.world c.in_ok-answer_next.field-0 c.in_ok-answer_next.ensures.led c.if-not-branch.false

pub returns-then-not-branch-2-clause-passes : goal.returns-then-not-branch-2-clause-passes
returns-then-not-branch-2-clause-passes g c =
    let there : slice_get c.args.self.now.members.items c.args.who ≡ Some c.index.result.now =
    slice_get_read c.args.self.now.members.items (length c.args.self.now.members.items) c.args.who c.index.result.now refl c.requires.member c.index.ensures in
    λ rows situation is.
    hear_stopped g.D.Disk.view c.args.table.now c.args.who c.args.at.0 c.args.self.now c.answer_next.new.self c.index.result.now there c.if-not-index.false c.requires.world c.in_ok-answer_next.field-0 c.in_ok-answer_next.ensures.led c.if-not-branch.false
    c.in_ok-answer_next.ensures.members c.hear_next.new.self c.in_ok-hear_next.field-0 c.in_ok-hear_next.ensures.led rows situation is c.if-not-branch-2.true

pub tick_next-requires-clause-world : goal.tick_next-requires-clause-world
tick_next-requires-clause-world g c =
    let there : slice_get c.args.self.now.members.items c.args.who ≡ Some c.index.result.now =
    slice_get_read c.args.self.now.members.items (length c.args.self.now.members.items) c.args.who c.index.result.now refl c.requires.member c.index.ensures in
    hear_world g.D.Disk.view c.args.table.now c.args.who c.args.at.0 c.args.self.now c.answer_next.new.self c.index.result.now there c.if-not-index.false c.requires.world c.in_ok-answer_next.field-0 c.in_ok-answer_next.ensures.led c.if-not-branch.false
    c.in_ok-answer_next.ensures.members c.hear_next.new.self c.in_ok-hear_next.field-0 c.in_ok-hear_next.ensures.led

pub tick_next-requires-clause-member : goal.tick_next-requires-clause-member
tick_next-requires-clause-member g c =
    let there : slice_get c.args.self.now.members.items c.args.who ≡ Some c.index.result.now =
    slice_get_read c.args.self.now.members.items (length c.args.self.now.members.items) c.args.who c.index.result.now refl c.requires.member c.index.ensures in
    let world = hear_world g.D.Disk.view c.args.table.now c.args.who c.args.at.0 c.args.self.now c.answer_next.new.self c.index.result.now there c.if-not-index.false c.requires.world c.in_ok-answer_next.field-0 c.in_ok-answer_next.ensures.led c.if-not-branch.false
    c.in_ok-answer_next.ensures.members c.hear_next.new.self c.in_ok-hear_next.field-0 c.in_ok-hear_next.ensures.led in
    let same = same_lengths g.D.Disk.view c.args.table.now c.args.self.now c.hear_next.new.self c.requires.world world (c.in_ok-hear_next.ensures.members ∙ c.in_ok-answer_next.ensures.members) in
    omega (arith, same, c.requires.member)

pub tick_next-requires-clause-runs : goal.tick_next-requires-clause-runs
tick_next-requires-clause-runs g c =
    let there : slice_get c.args.self.now.members.items c.args.who ≡ Some c.index.result.now =
    slice_get_read c.args.self.now.members.items (length c.args.self.now.members.items) c.args.who c.index.result.now refl c.requires.member c.index.ensures in
    hear_runs g.D.Disk.view c.args.table.now c.args.who c.args.at.0 c.args.self.now c.answer_next.new.self c.index.result.now there c.if-not-index.false c.requires.world c.in_ok-answer_next.field-0 c.in_ok-answer_next.ensures.led c.if-not-branch.false
    c.in_ok-answer_next.ensures.members c.hear_next.new.self c.in_ok-hear_next.field-0 c.in_ok-hear_next.ensures.led c.if-not-branch-2.false

pub returns-clause-passes : goal.returns-clause-passes
returns-clause-passes g c =
    let there : slice_get c.args.self.now.members.items c.args.who ≡ Some c.index.result.now =
    slice_get_read c.args.self.now.members.items (length c.args.self.now.members.items) c.args.who c.index.result.now refl c.requires.member c.index.ensures in
    λ rows situation is.
    ticked g.D.Disk.view c.args.table.now c.args.who c.args.at.0 c.args.self.now c.answer_next.new.self c.index.result.now there c.if-not-index.false c.requires.world c.in_ok-answer_next.field-0 c.in_ok-answer_next.ensures.led c.if-not-branch.false
    c.in_ok-answer_next.ensures.members c.hear_next.new.self c.in_ok-hear_next.field-0 c.in_ok-hear_next.ensures.led rows situation is c.if-not-branch-2.false c.in_ok-hear_next.ensures.members c.in_ok-tick_next.field-0 c.tick_next.new.self
    c.in_ok-tick_next.ensures.led
