use Rattle.std.proofs.Common.{◌≡◌, length, take, sym, ap, subst, ◌∙◌, arith}
use Rattle.std.proofs.lemmas.Bool.{false≢true}
use Rattle.std.proofs.lemmas.Option.{none-some}
use Rattle.store_format.specs.Area.{IsFirstRecordAtFault, StandFor}
use Rattle.store_format.specs.Places.{next_place}
use Rattle.store_format.proofs.BodyLemmas.{Behind-next, up_to, fault_here, broken_off, all_read, StandFor-same}
use Rattle.store_format.proofs.RecordLemmas.{IsRecord-same}
use Rattle.store_format.proofs.SoundLemmas.{StandFor-sound}
use Rattle.store_format.proofs.reading.read_records.Goals as goal
use Rattle.store_format.proofs.reading.read_records.Goals.{After-drop-reader-in_default, After-drop-reader-in_default-next-2, Else-is_in_group}

-- a body that is no record
unread : (c : After-drop-reader-in_default) → IsFirstRecordAtFault c.args.size c.args.bodies.now c.loop-number.number
unread c =
    let bodies = c.args.bodies.now in
    let k = c.loop-number.number in
    fault_here c.args.size bodies k c.loop-number.reader.place c.loop-number.reader.kept c.loop-number.reader.own c.body.inside.bytes (omega (arith, c.well_formed)) c.loop-number-test.true (up_to bodies k c.index-bodies-number.result c.body.inside.bytes c.loop-number-test.true c.index-bodies-number.is c.body.view_is) c.loop-number.invariant
    (λ item is. absurd (none-some item (c.in_default.ensures.only item is)))

pub returns-in_default-clause-damaged : goal.returns-in_default-clause-damaged
returns-in_default-clause-damaged c j same =
    let number : c.loop-number.number ≡ j = cc same in
    subst (IsFirstRecordAtFault c.args.size c.args.bodies.now) number (unread c)

pub returns-in_default-clause-only : goal.returns-in_default-clause-only
returns-in_default-clause-only c kept own stand = absurd ((unread c).for_none kept own stand)

-- a record that can't come next
unfit : (c : After-drop-reader-in_default-next-2) → IsFirstRecordAtFault c.args.size c.args.bodies.now c.loop-number.number
unfit c =
    let bodies = c.args.bodies.now in
    let k = c.loop-number.number in
    fault_here c.args.size bodies k c.loop-number.reader.place c.loop-number.reader.kept c.loop-number.reader.own c.body.inside.bytes (omega (arith, c.well_formed)) c.loop-number-test.true (up_to bodies k c.index-bodies-number.result c.body.inside.bytes c.loop-number-test.true c.index-bodies-number.is c.body.view_is) c.loop-number.invariant
    (λ other is. ap (next_place c.args.size c.loop-number.reader.place c.loop-number.reader.kept) (IsRecord-same c.body.inside.bytes other c.in-Some.item is c.in-Some.ensures.found) ∙ sym c.in_default-next.ensures)

pub returns-in_default-next-clause-damaged : goal.returns-in_default-next-clause-damaged
returns-in_default-next-clause-damaged c j same =
    let number : c.loop-number.number ≡ j = cc same in
    subst (IsFirstRecordAtFault c.args.size c.args.bodies.now) number (unfit c)

pub returns-in_default-next-clause-only : goal.returns-in_default-next-clause-only
returns-in_default-next-clause-only c kept own stand = absurd ((unfit c).for_none kept own stand)

pub loop-number-preserved : goal.loop-number-preserved
loop-number-preserved c =
    let bodies = c.args.bodies.now in
    let k = c.loop-number.number in
    rw (up_to bodies k c.index-bodies-number.result c.body.inside.bytes c.loop-number-test.true c.index-bodies-number.is c.body.view_is, c.in_ok-take.ensures.place, c.in_ok-take.ensures.kept, c.in_ok-take.ensures.own)
    (Behind-next c.args.size (take k bodies) c.loop-number.reader.place c.in-Some-next.place c.loop-number.reader.kept c.loop-number.reader.own c.body.inside.bytes c.in-Some.item c.loop-number.invariant c.in-Some.ensures.found (sym c.in-Some-next.ensures))

pub returns-then-is_in_group-clause-damaged : goal.returns-then-is_in_group-clause-damaged
returns-then-is_in_group-clause-damaged c j same =
    let number : length c.args.bodies.now ≡ j = cc same in
    subst (IsFirstRecordAtFault c.args.size c.args.bodies.now) number
    (broken_off c.args.size c.args.bodies.now c.loop-number.number c.loop-number.reader.place c.loop-number.reader.kept c.loop-number.reader.own (omega (arith, c.well_formed)) c.loop-number-test.false c.loop-number.invariant (sym c.if-is_in_group.ensures))

pub returns-then-is_in_group-clause-only : goal.returns-then-is_in_group-clause-only
returns-then-is_in_group-clause-only c kept own stand =
    let fault = broken_off c.args.size c.args.bodies.now c.loop-number.number c.loop-number.reader.place c.loop-number.reader.kept c.loop-number.reader.own (omega (arith, c.well_formed)) c.loop-number-test.false c.loop-number.invariant (sym c.if-is_in_group.ensures) in
    absurd (fault.for_none kept own stand)

-- what was read
whole : (c : Else-is_in_group) → StandFor c.args.size c.args.bodies.now c.loop-number.reader.kept c.loop-number.reader.own
whole c =
    all_read c.args.size c.args.bodies.now c.loop-number.number c.loop-number.reader.place c.loop-number.reader.kept c.loop-number.reader.own c.loop-number-test.false c.loop-number.invariant
    (λ is_rows. false≢true (c.if-is_in_group.ensures ∙ is_rows))

pub returns-clause-found : goal.returns-clause-found
returns-clause-found c = whole c

pub returns-clause-sound : goal.returns-clause-sound
returns-clause-sound c = StandFor-sound c.args.size c.args.bodies.now c.loop-number.reader.kept c.loop-number.reader.own (whole c)

pub returns-clause-only : goal.returns-clause-only
returns-clause-only c kept own stand =
    StandFor-same c.args.size c.args.bodies.now c.loop-number.reader.kept kept c.loop-number.reader.own own (whole c) stand
