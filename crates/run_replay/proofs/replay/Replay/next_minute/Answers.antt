use Rattle.std.proofs.Common.{◌≡◌, is_some, true, IfNone, IfSome, Some, length, refl, subst, arith}
use Rattle.std.specs.List.{slice_get}
use Rattle.std.proofs.lemmas.Option.{slice_get_read}
use Rattle.script_semantics.specs.Settling.{AsksNothingUntil, IsNextMinute}
use Rattle.run_replay.proofs.QuietLemmas.{running_at, running_state, some_none}
use Rattle.run_replay.proofs.replay.Replay.next_minute.Goals as goal

pub next_minute_of-requires-clause-of_table : goal.next_minute_of-requires-clause-of_table
next_minute_of-requires-clause-of_table c =
    let count = c.requires.ready.is.seated.count in
    let there : slice_get c.args.self.now.seats.items c.args.who ≡ Some c.index.result.now =
    slice_get_read c.args.self.now.seats.items (length c.args.self.now.seats.items) c.args.who c.index.result.now refl (omega (arith, c.requires.member, count)) c.index.ensures in
    (running_at c.args.table.now c.requires.ready.rows c.args.self.now c.requires.ready.situation c.requires.ready.is c.args.who c.index.result.now c.in-Some.replica there c.in-Some.is).stands.of_table

pub unreachable-requires : goal.unreachable-requires
unreachable-requires c =
    let count = c.requires.ready.is.seated.count in
    let there : slice_get c.args.self.now.seats.items c.args.who ≡ Some c.index.result.now =
    slice_get_read c.args.self.now.seats.items (length c.args.self.now.seats.items) c.args.who c.index.result.now refl (omega (arith, c.requires.member, count)) c.index.ensures in
    let runs : is_some c.index.result.now.replica ≡ true = c.requires.runs c.index.result.now there in
    some_none c.index.result.now.replica runs c.in-None.is

pub returns-clause-found : goal.returns-clause-found
returns-clause-found c =
    let count = c.requires.ready.is.seated.count in
    let there : slice_get c.args.self.now.seats.items c.args.who ≡ Some c.index.result.now =
    slice_get_read c.args.self.now.seats.items (length c.args.self.now.seats.items) c.args.who c.index.result.now refl (omega (arith, c.requires.member, count)) c.index.ensures in
    λ rows situation is.
    subst (λ state. IfSome c.next_minute_of.result (λ minute. IsNextMinute c.args.table.now state c.args.above.0 c.args.to.0 minute.0))
    (running_state c.args.table.now rows c.args.self.now situation is c.args.who c.index.result.now c.in-Some.replica there c.in-Some.is) c.next_minute_of.ensures.found

pub returns-clause-none : goal.returns-clause-none
returns-clause-none c =
    let count = c.requires.ready.is.seated.count in
    let there : slice_get c.args.self.now.seats.items c.args.who ≡ Some c.index.result.now =
    slice_get_read c.args.self.now.seats.items (length c.args.self.now.seats.items) c.args.who c.index.result.now refl (omega (arith, c.requires.member, count)) c.index.ensures in
    λ rows situation is.
    subst (λ state. IfNone c.next_minute_of.result (AsksNothingUntil c.args.table.now c.args.above.0 c.args.to.0 state))
    (running_state c.args.table.now rows c.args.self.now situation is c.args.who c.index.result.now c.in-Some.replica there c.in-Some.is) c.next_minute_of.ensures.none
