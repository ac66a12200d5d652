use Rattle.std.proofs.Common.{◌≡◌, ◌<◌, ◌≤◌, Some, length, refl, sym, ap, ◌∙◌, arith}
use Rattle.std.specs.List.{slice_get}
use Rattle.std.proofs.lemmas.Option.{slice_get_past, slice_get_read}
use Rattle.world_steps.proofs.Foreseen.{there_is}
use Rattle.world_rounds.proofs.Delivery.{addressee}
use Rattle.world_rounds.proofs.Waiting.{again_moved, again_none, again_stopped}
use Rattle.world_rounds.proofs.Worlds.{some_same}
use Rattle.world_rounds.proofs.world.World.send_again.Goals as goal

pub returns-then-number-letters-clause-sets : goal.returns-then-number-letters-clause-sets
returns-then-number-letters-clause-sets g c =
    let past : length c.args.self.now.book.letters ≤ c.args.number = (let same = ap length c.letters.ensures in omega (arith, same, c.if-number-letters.true)) in
    again_none g.D.Disk.view c.args.self.now c.args.number (slice_get_past c.args.self.now.book.letters c.args.number past)

pub letter_at-requires : goal.letter_at-requires
letter_at-requires g c =
    let below : c.args.number < length c.args.self.now.book.letters = (let same = ap length c.letters.ensures in omega (arith, same, c.if-number-letters.false)) in
    record { there = there_is c.args.self.now.book.letters c.args.number below }

pub index-requires : goal.index-requires
index-requires g c =
    let world = c.requires.world.1 in
    let below =
    addressee g.D.Disk.view c.requires.world.0 world.rows c.args.self.now world.situation c.args.number c.letter_at.result.now world.is
    c.letter_at.ensures.letter in
    omega (arith, c.args.self.now.members.ok.0, below)

pub returns-then-not-index-clause-sets : goal.returns-then-not-index-clause-sets
returns-then-not-index-clause-sets g c =
    let world = c.requires.world.1 in
    let below : c.letter_at.result.now.to < length c.args.self.now.members.items =
    addressee g.D.Disk.view c.requires.world.0 world.rows c.args.self.now world.situation c.args.number c.letter_at.result.now world.is c.letter_at.ensures.letter in
    let one : slice_get c.args.self.now.members.items c.letter_at.result.now.to ≡ Some c.index.result.now =
    slice_get_read c.args.self.now.members.items (length c.args.self.now.members.items) c.letter_at.result.now.to c.index.result.now refl below c.index.ensures in
    again_stopped g.D.Disk.view c.args.self.now c.args.number c.letter_at.result.now c.index.result.now c.letter_at.ensures.letter one c.if-not-index.true

pub index_mut-requires : goal.index_mut-requires
index_mut-requires g c =
    let world = c.requires.world.1 in
    let below =
    addressee g.D.Disk.view c.requires.world.0 world.rows c.args.self.now world.situation c.args.number c.letter_at.result.now world.is
    c.letter_at.ensures.letter in
    omega (arith, c.args.self.now.members.ok.0, below)

pub returns-clause-sets : goal.returns-clause-sets
returns-clause-sets g c =
    let world = c.requires.world.1 in
    let below : c.letter_at.result.now.to < length c.args.self.now.members.items =
    addressee g.D.Disk.view c.requires.world.0 world.rows c.args.self.now world.situation c.args.number c.letter_at.result.now world.is c.letter_at.ensures.letter in
    let one : slice_get c.args.self.now.members.items c.letter_at.result.now.to ≡ Some c.index.result.now =
    slice_get_read c.args.self.now.members.items (length c.args.self.now.members.items) c.letter_at.result.now.to c.index.result.now refl below c.index.ensures in
    let there : slice_get c.args.self.now.members.items c.letter_at.result.now.to ≡ Some c.index_mut.result.now =
    slice_get_read c.args.self.now.members.items (length c.args.self.now.members.items) c.letter_at.result.now.to c.index_mut.result.now refl below c.index_mut.ensures.value in
    let same : c.index.result.now ≡ c.index_mut.result.now = some_same (slice_get c.args.self.now.members.items c.letter_at.result.now.to) c.index.result.now c.index_mut.result.now one there in
    again_moved g.D.Disk.view c.args.self.now _ c.args.number c.letter_at.result.now c.index_mut.result.now _ c.letter_at.ensures.letter there
    (ap (λ member. member.mail.runs) (sym same) ∙ c.if-not-index.false) refl refl refl refl refl refl refl refl refl refl refl c.in_ok-push_back.ensures.items
