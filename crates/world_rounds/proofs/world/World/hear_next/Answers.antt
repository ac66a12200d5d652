use Rattle.std.proofs.Common.{◌≡◌, ◌<◌, Some, length, refl, arith}
use Rattle.std.specs.List.{slice_get}
use Rattle.std.proofs.lemmas.Option.{slice_get_read}
use Rattle.world_rounds.proofs.Next.{next_heard, next_may, next_stopped, next_there}
use Rattle.world_rounds.proofs.InOrder.{heard_all, heard_none, runs_here}
use Rattle.world_rounds.proofs.world.World.hear_next.Goals as goal

pub letters-init : goal.letters-init
letters-init g c = heard_none g.D.Disk.view c.args.table.now c.args.self.now.book.members c.args.who c.args.self.now c.requires.world

pub index-letter-requires : goal.index-letter-requires
index-letter-requires g c =
    let there : slice_get c.args.self.now.members.items c.args.who ≡ Some c.index.result.now =
    slice_get_read c.args.self.now.members.items (length c.args.self.now.members.items) c.args.who c.index.result.now refl c.requires.member c.index.ensures in
    let within : c.args.who < length c.letters.self.members.items = omega (arith, c.letters.invariant.count_is, c.requires.member) in
    let found : slice_get c.letters.self.members.items c.args.who ≡ Some c.index-in-letters.result.now =
    slice_get_read c.letters.self.members.items (length c.letters.self.members.items) c.args.who c.index-in-letters.result.now refl within c.index-in-letters.ensures in
    let below : c.letters._heard < length c.index.result.now.mail.letters.items = omega (arith, c.letters-test.true, c.len-count.ensures) in
    let some =
    next_there g.D.Disk.view c.args.table.now c.args.who c.letters._heard c.args.self.now c.letters.self c.index.result.now c.index-in-letters.result.now c.letters.invariant there found below
    c.requires.world (c.requires.runs c.index.result.now there) in
    omega (arith, some, c.index-in-letters.result.now.mail.letters.ok.0)

pub step_next-requires-clause-may : goal.step_next-requires-clause-may
step_next-requires-clause-may g c =
    let there : slice_get c.args.self.now.members.items c.args.who ≡ Some c.index.result.now =
    slice_get_read c.args.self.now.members.items (length c.args.self.now.members.items) c.args.who c.index.result.now refl c.requires.member c.index.ensures in
    let within : c.args.who < length c.letters.self.members.items = omega (arith, c.letters.invariant.count_is, c.requires.member) in
    let found : slice_get c.letters.self.members.items c.args.who ≡ Some c.index-in-letters.result.now =
    slice_get_read c.letters.self.members.items (length c.letters.self.members.items) c.args.who c.index-in-letters.result.now refl within c.index-in-letters.ensures in
    let below : c.letters._heard < length c.index.result.now.mail.letters.items = omega (arith, c.letters-test.true, c.len-count.ensures) in
    next_may g.D.Disk.view c.args.table.now c.args.who c.letters._heard c.index-letter.result.now c.args.self.now c.letters.self c.index.result.now c.index-in-letters.result.now c.letters.invariant there found below c.index-letter.ensures
    c.requires.world (c.requires.runs c.index.result.now there)

pub returns-then-not-branch-clause-led : goal.returns-then-not-branch-clause-led
returns-then-not-branch-clause-led g c =
    let there : slice_get c.args.self.now.members.items c.args.who ≡ Some c.index.result.now =
    slice_get_read c.args.self.now.members.items (length c.args.self.now.members.items) c.args.who c.index.result.now refl c.requires.member c.index.ensures in
    let within : c.args.who < length c.letters.self.members.items = omega (arith, c.letters.invariant.count_is, c.requires.member) in
    let found : slice_get c.letters.self.members.items c.args.who ≡ Some c.index-in-letters.result.now =
    slice_get_read c.letters.self.members.items (length c.letters.self.members.items) c.args.who c.index-in-letters.result.now refl within c.index-in-letters.ensures in
    let below : c.letters._heard < length c.index.result.now.mail.letters.items = omega (arith, c.letters-test.true, c.len-count.ensures) in
    next_stopped g.D.Disk.view c.args.table.now c.args.who c.letters._heard c.index-letter.result.now c.args.self.now c.letters.self c.index.result.now c.index-in-letters.result.now c.letters.invariant there found below c.index-letter.ensures
    c.requires.world (c.requires.runs c.index.result.now there) c.step_next.new.self c.in_ok-step_next.field-0 c.in_ok-step_next.ensures.steps c.if-not-branch.true

pub letters-preserved : goal.letters-preserved
letters-preserved g c =
    let there : slice_get c.args.self.now.members.items c.args.who ≡ Some c.index.result.now =
    slice_get_read c.args.self.now.members.items (length c.args.self.now.members.items) c.args.who c.index.result.now refl c.requires.member c.index.ensures in
    let within : c.args.who < length c.letters.self.members.items = omega (arith, c.letters.invariant.count_is, c.requires.member) in
    let found : slice_get c.letters.self.members.items c.args.who ≡ Some c.index-in-letters.result.now =
    slice_get_read c.letters.self.members.items (length c.letters.self.members.items) c.args.who c.index-in-letters.result.now refl within c.index-in-letters.ensures in
    let below : c.letters._heard < length c.index.result.now.mail.letters.items = omega (arith, c.letters-test.true, c.len-count.ensures) in
    next_heard g.D.Disk.view c.args.table.now c.args.who c.letters._heard c.index-letter.result.now c.args.self.now c.letters.self c.index.result.now c.index-in-letters.result.now c.letters.invariant there found below c.index-letter.ensures
    c.requires.world (c.requires.runs c.index.result.now there) c.step_next.new.self c.in_ok-step_next.field-0 c.in_ok-step_next.ensures.steps c.if-not-branch.false c.in_ok-step_next.ensures.members

pub returns-clause-led : goal.returns-clause-led
returns-clause-led g c =
    let there : slice_get c.args.self.now.members.items c.args.who ≡ Some c.index.result.now =
    slice_get_read c.args.self.now.members.items (length c.args.self.now.members.items) c.args.who c.index.result.now refl c.requires.member c.index.ensures in
    λ rows situation is.
    heard_all g.D.Disk.view c.args.table.now c.args.self.now.book.members c.args.who c.letters._heard c.args.self.now c.letters.self c.index.result.now c.letters.invariant there (let whole : c.letters._heard ≡ length c.index.result.now.mail.letters.items = omega (arith, c.letters-test.false, c.letters.auto._heard-end, c.len-count.ensures) in whole) rows situation is
    (runs_here g.D.Disk.view c.args.table.now rows c.args.self.now situation c.args.who c.index.result.now is there (c.requires.runs c.index.result.now there))
