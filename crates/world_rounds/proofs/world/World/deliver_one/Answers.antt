use Rattle.std.proofs.Common.{◌≡◌, ◌<◌, Some, length, arith, refl, sym, ap, ◌∙◌}
use Rattle.std.specs.List.{slice_get}
use Rattle.std.proofs.lemmas.Option.{slice_get_read}
use Rattle.world_rounds.proofs.Delivery.{addressee, arrival_is, by_cut, moved, none_arrives, unmoved}
use Rattle.world_rounds.proofs.Worlds.{some_same}
use Rattle.world_rounds.proofs.world.World.deliver_one.Goals as goal

pub returns-then-is_cut-clause-arrives : goal.returns-then-is_cut-clause-arrives
returns-then-is_cut-clause-arrives g c =
    λ table rows situation is.
    unmoved g.D.Disk.view table rows c.args.self.now situation c.args.number is
    (λ who member found.
    arrival_is g.D.Disk.view table rows c.args.self.now situation c.args.number c.letter_at-letter.result.now who is c.letter_at-letter.ensures.letter
    ∙ by_cut c.args.number c.letter_at-letter.result.now.to who _ _ (rw (sym c.deref.ensures.value) (sym c.is_cut.ensures.cut ∙ c.if-is_cut.true)))

pub index-requires : goal.index-requires
index-requires g c =
    let world = c.requires.world.1 in
    let below =
    addressee g.D.Disk.view c.requires.world.0 world.rows c.args.self.now world.situation c.args.number c.letter_at-letter.result.now world.is
    c.letter_at-letter.ensures.letter in
    omega (arith, c.args.self.now.members.ok.0, below)

pub returns-then-not-index-clause-arrives : goal.returns-then-not-index-clause-arrives
returns-then-not-index-clause-arrives g c =
    λ table rows situation is.
    let below : c.letter_at-letter.result.now.to < length c.args.self.now.members.items =
    addressee g.D.Disk.view table rows c.args.self.now situation c.args.number c.letter_at-letter.result.now is c.letter_at-letter.ensures.letter in
    let there : slice_get c.args.self.now.members.items c.letter_at-letter.result.now.to ≡ Some c.index.result.now =
    slice_get_read c.args.self.now.members.items (length c.args.self.now.members.items) c.letter_at-letter.result.now.to c.index.result.now refl below c.index.ensures in
    unmoved g.D.Disk.view table rows c.args.self.now situation c.args.number is
    (λ who member found.
    none_arrives g.D.Disk.view table rows c.args.self.now situation c.args.number c.letter_at-letter.result.now c.index.result.now who is c.letter_at-letter.ensures.letter there
    c.if-not-index.true)

pub index_mut-requires : goal.index_mut-requires
index_mut-requires g c =
    let world = c.requires.world.1 in
    let below =
    addressee g.D.Disk.view c.requires.world.0 world.rows c.args.self.now world.situation c.args.number c.letter_at-letter.result.now world.is
    c.letter_at-letter.ensures.letter in
    omega (arith, c.args.self.now.members.ok.0, below)

pub returns-clause-arrives : goal.returns-clause-arrives
returns-clause-arrives g c =
    λ table rows situation is.
    let below : c.letter_at-letter.result.now.to < length c.args.self.now.members.items =
    addressee g.D.Disk.view table rows c.args.self.now situation c.args.number c.letter_at-letter.result.now is c.letter_at-letter.ensures.letter in
    let one : slice_get c.args.self.now.members.items c.letter_at-letter.result.now.to ≡ Some c.index.result.now =
    slice_get_read c.args.self.now.members.items (length c.args.self.now.members.items) c.letter_at-letter.result.now.to c.index.result.now refl below c.index.ensures in
    let there : slice_get c.args.self.now.members.items c.letter_at-letter.result.now.to ≡ Some c.index_mut.result.now =
    slice_get_read c.args.self.now.members.items (length c.args.self.now.members.items) c.letter_at-letter.result.now.to c.index_mut.result.now refl below c.index_mut.ensures.value in
    let same : c.index.result.now ≡ c.index_mut.result.now = some_same (slice_get c.args.self.now.members.items c.letter_at-letter.result.now.to) c.index.result.now c.index_mut.result.now one there in
    moved g.D.Disk.view table rows c.args.self.now _ situation c.args.number c.letter_at-letter.result.now c.index_mut.result.now _ is
    c.letter_at-letter.ensures.letter there (rw (sym c.deref.ensures.value) (sym c.is_cut.ensures.cut ∙ c.if-is_cut.false)) (ap (λ member. member.mail.runs) (sym same) ∙ c.if-not-index.false) refl refl refl refl
    refl refl c.in_ok-push_back.ensures.items refl refl refl refl refl
