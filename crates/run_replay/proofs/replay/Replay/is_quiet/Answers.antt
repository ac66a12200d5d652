use Rattle.std.proofs.Common.{◌≡◌, ◌↔◌, IsTrue, Some, length, refl, sym, ◌∙◌, subst, arith}
use Rattle.std.specs.List.{slice_get}
use Rattle.std.proofs.lemmas.Option.{slice_get_read}
use Rattle.run_replay.proofs.QuietLemmas.{HaveCaughtUp, TellsQuiet, busy_tells, idle_tells, running_at, stopped_tells, waiting_tells}
use Rattle.run_replay.proofs.replay.Replay.is_quiet.Goals as goal

pub returns-then-is_some : goal.returns-then-is_some
returns-then-is_some c =
    let count = c.requires.ready.is.seated.count in
    let there : slice_get c.args.self.now.seats.items c.args.who ≡ Some c.index.result.now =
    slice_get_read c.args.self.now.seats.items (length c.args.self.now.seats.items) c.args.who c.index.result.now refl (omega (arith, c.requires.member, count)) c.index.ensures in
    let total = c.requires.ready.is.seated.set in
    let here : slice_get c.args.self.now.settings.items c.args.who ≡ Some c.index-in-Some.result.now =
    slice_get_read c.args.self.now.settings.items (length c.args.self.now.settings.items) c.args.who c.index-in-Some.result.now refl (omega (arith, c.requires.member, total)) c.index-in-Some.ensures in
    waiting_tells c.args.table.now c.args.self.now c.args.who c.args.at.0 c.index.result.now there c.index-in-Some.result.now here (sym c.is_some.ensures ∙ c.if-is_some.true)

pub is_idle-requires-clause-of_table : goal.is_idle-requires-clause-of_table
is_idle-requires-clause-of_table c =
    let count = c.requires.ready.is.seated.count in
    let there : slice_get c.args.self.now.seats.items c.args.who ≡ Some c.index.result.now =
    slice_get_read c.args.self.now.seats.items (length c.args.self.now.seats.items) c.args.who c.index.result.now refl (omega (arith, c.requires.member, count)) c.index.ensures in
    (running_at c.args.table.now c.requires.ready.rows c.args.self.now c.requires.ready.situation c.requires.ready.is c.args.who c.index.result.now c.in-Some.replica there c.in-Some.is).stands.of_table

pub returns-in-None : goal.returns-in-None
returns-in-None c =
    let count = c.requires.ready.is.seated.count in
    let there : slice_get c.args.self.now.seats.items c.args.who ≡ Some c.index.result.now =
    slice_get_read c.args.self.now.seats.items (length c.args.self.now.seats.items) c.args.who c.index.result.now refl (omega (arith, c.requires.member, count)) c.index.ensures in
    stopped_tells c.args.table.now c.args.self.now c.args.who c.args.at.0 c.index.result.now there c.in-None.is

pub returns-then-is_idle : goal.returns-then-is_idle
returns-then-is_idle c =
    let count = c.requires.ready.is.seated.count in
    let there : slice_get c.args.self.now.seats.items c.args.who ≡ Some c.index.result.now =
    slice_get_read c.args.self.now.seats.items (length c.args.self.now.seats.items) c.args.who c.index.result.now refl (omega (arith, c.requires.member, count)) c.index.ensures in
    let total = c.requires.ready.is.seated.set in
    let here : slice_get c.args.self.now.settings.items c.args.who ≡ Some c.index-in-Some.result.now =
    slice_get_read c.args.self.now.settings.items (length c.args.self.now.settings.items) c.args.who c.index-in-Some.result.now refl (omega (arith, c.requires.member, total)) c.index-in-Some.ensures in
    idle_tells c.args.table.now c.args.self.now c.args.who c.args.at.0 c.index.result.now there c.in-Some.replica c.in-Some.is c.index-in-Some.result.now c.is_idle.result c.are_caught_up.result here
    (sym c.is_some.ensures ∙ c.if-is_some.false) c.if-is_idle.true c.is_idle.ensures
    (subst (λ prefix. IsTrue c.are_caught_up.result ↔ HaveCaughtUp c.args.self.now.seats.items prefix) c.prefix.ensures
    (subst (λ items. IsTrue c.are_caught_up.result ↔ HaveCaughtUp items c.prefix.result) c.deref.ensures.value c.are_caught_up.ensures))

pub returns-else-is_idle : goal.returns-else-is_idle
returns-else-is_idle c =
    let count = c.requires.ready.is.seated.count in
    let there : slice_get c.args.self.now.seats.items c.args.who ≡ Some c.index.result.now =
    slice_get_read c.args.self.now.seats.items (length c.args.self.now.seats.items) c.args.who c.index.result.now refl (omega (arith, c.requires.member, count)) c.index.ensures in
    subst (λ answer. TellsQuiet c.args.table.now c.args.self.now c.args.who c.args.at.0 c.index.result.now there answer) (sym c.if-is_idle.false)
    (busy_tells c.args.table.now c.args.self.now c.args.who c.args.at.0 c.index.result.now there c.in-Some.replica c.in-Some.is c.is_idle.result c.if-is_idle.false c.is_idle.ensures)
