use Rattle.std.proofs.Common.{◌≡◌, List, ℕ, Option, take, sym, subst, arith}
use Rattle.std.proofs.lemmas.List.{take_all}
use Rattle.paxos_base.specs.declared.durable.Durable.{Durable}
use Rattle.store_format.specs.Area.{StandFor}
use Rattle.store_format.specs.Beside.{beside}
use Rattle.store_format.proofs.BodyLemmas.{up_to}
use Rattle.store_format.proofs.PassLemmas.{ReadsBehind, ReadsBehind-none, ReadsBehind-next, exact_beside, passed_all, sound_so}
use Rattle.store_format.proofs.reading.read_beside_rows.Goals as goal
use Rattle.store_format.proofs.reading.read_beside_rows.Goals.{After-loop-body}

pub returns-in_default-clause-only : goal.returns-in_default-clause-only
returns-in_default-clause-only c kept own stand = exact_beside kept own c.read_records.result (c.read_records.ensures.only kept own stand)

pub loop-body-init : goal.loop-body-init
loop-body-init c =
    rw (c.behind_group-reader.ensures.place, c.behind_group-reader.ensures.kept, c.behind_group-reader.ensures.own) (ReadsBehind-none c.args.size c.in-Some.slot)

pub returns-in_default-record_in-clause-only : goal.returns-in_default-record_in-clause-only
returns-in_default-record_in-clause-only c kept own stand = exact_beside kept own c.read_records-in_default-record_in.result (c.read_records-in_default-record_in.ensures.only kept own stand)

pub returns-in_default-next-clause-only : goal.returns-in_default-next-clause-only
returns-in_default-next-clause-only c kept own stand = exact_beside kept own c.read_records-in_default-next.result (c.read_records-in_default-next.ensures.only kept own stand)

pub loop-body-preserved : goal.loop-body-preserved
loop-body-preserved c =
    let rest = c.in-Some.rest.now in
    let k = c.loop-body.body-index in
    rw (up_to rest k c.body-item.result c.body.inside.bytes c.loop-body-test.true c.body-item.is c.body.view_is, c.in_ok-take.ensures.place, c.in_ok-take.ensures.kept, c.in_ok-take.ensures.own)
    (ReadsBehind-next c.args.size c.in-Some.slot (take k rest) c.loop-body.reader.place c.in-Some-next.place c.loop-body.reader.kept c.loop-body.reader.own c.body.inside.bytes c.in-Some-record_in.item c.loop-body.invariant c.in-Some-record_in.ensures.found (sym c.in-Some-next.ensures))

-- what was read, but for the rows
read : (c : After-loop-body) (kept : Durable) (own : Option ℕ) → StandFor c.args.size c.args.bodies.now kept own → (c.loop-body.reader.kept ≡ beside c.loop-body.reader.kept.rows kept) × (c.loop-body.reader.own ≡ own)
read c kept own stand =
    let rest = c.in-Some.rest.now in
    let all : take c.loop-body.body-index rest ≡ rest = take_all c.loop-body.body-index rest (omega (arith, c.loop-body-test.false)) in
    let reads : ReadsBehind c.args.size c.in-Some.slot rest c.loop-body.reader.place c.loop-body.reader.kept c.loop-body.reader.own =
    subst (λ (bodies : List (List ℕ)). ReadsBehind c.args.size c.in-Some.slot bodies c.loop-body.reader.place c.loop-body.reader.kept c.loop-body.reader.own) all c.loop-body.invariant in
    passed_all c.args.size c.in-Some.slot c.args.bodies.now rest c.loop-body.reader.place kept c.loop-body.reader.kept c.loop-body.reader.own own c.in-Some.ensures reads stand

pub returns-clause-only : goal.returns-clause-only
returns-clause-only c kept own stand = read c kept own stand

pub returns-clause-sound : goal.returns-clause-sound
returns-clause-sound c kept own stand =
    sound_so c.args.size c.args.bodies.now kept c.loop-body.reader.kept c.loop-body.reader.own own stand (read c kept own stand)
