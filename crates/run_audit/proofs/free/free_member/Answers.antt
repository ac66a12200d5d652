use Rattle.std.proofs.Common.{◌≡◌, ◌<◌, IfSome, Some, length, refl, sym, subst, arith}
use Rattle.std.specs.List.{slice_get}
use Rattle.std.proofs.lemmas.Option.{slice_get_read}
use Rattle.run_audit.proofs.FreelyLemmas.{goes_next, none_does, none_left_to_take, none_member}
use Rattle.run_audit.proofs.free.free_member.Goals as goal

pub returns-in-None-clause-none : goal.returns-in-None-clause-none
returns-in-None-clause-none c = none_member c.args.window c.args.at.0 c.args.turns c.args.replay.now c.args.list.now c.args.judged.now (sym c.in-None.ensures)

pub progress_of-progress-requires : goal.progress_of-progress-requires
progress_of-progress-requires c =
    let below : c.in-Some.who < length c.args.replay.now.settings.items = subst (λ found. IfSome found (λ who. who < length c.args.replay.now.settings.items)) (sym c.in-Some.ensures) c.requires.member in
    record { there = omega (arith, below, c.requires.count) }

pub returns-then-progress-turns-clause-none : goal.returns-then-progress-turns-clause-none
returns-then-progress-turns-clause-none c =
    let below : c.in-Some.who < length c.args.replay.now.settings.items = subst (λ found. IfSome found (λ who. who < length c.args.replay.now.settings.items)) (sym c.in-Some.ensures) c.requires.member in
    none_left_to_take c.args.window c.args.at.0 c.args.turns c.args.replay.now c.args.list.now c.args.judged.now c.in-Some.who (sym c.in-Some.ensures) c.progress_of-progress.result c.progress_of-progress.ensures c.if-progress-turns.true

pub index-requires : goal.index-requires
index-requires c =
    let below : c.in-Some.who < length c.args.replay.now.settings.items = subst (λ found. IfSome found (λ who. who < length c.args.replay.now.settings.items)) (sym c.in-Some.ensures) c.requires.member in
    omega (arith, below, c.args.replay.now.settings.ok.0)

pub is_turn_by_arm-requires : goal.is_turn_by_arm-requires
is_turn_by_arm-requires c = record { member = c.requires.member }

pub returns-then-not-is_turn_by_arm-clause-none : goal.returns-then-not-is_turn_by_arm-clause-none
returns-then-not-is_turn_by_arm-clause-none c =
    let below : c.in-Some.who < length c.args.replay.now.settings.items = subst (λ found. IfSome found (λ who. who < length c.args.replay.now.settings.items)) (sym c.in-Some.ensures) c.requires.member in
    let set : slice_get c.args.replay.now.settings.items c.in-Some.who ≡ Some c.index.result.now =
    slice_get_read c.args.replay.now.settings.items (length c.args.replay.now.settings.items) c.in-Some.who c.index.result.now refl below c.index.ensures in
    none_does c.args.window c.args.at.0 c.args.turns c.args.replay.now c.args.list.now c.args.judged.now c.in-Some.who (sym c.in-Some.ensures) c.progress_of-progress.result c.progress_of-progress.ensures c.index.result.now set
    c.cause_of_next-cause.result c.is_turn_by_arm.result c.change.result.now c.change.ensures c.cause_of_next-cause.ensures c.is_turn_by_arm.ensures c.if-not-is_turn_by_arm.true

pub returns-clause-some : goal.returns-clause-some
returns-clause-some c =
    let below : c.in-Some.who < length c.args.replay.now.settings.items = subst (λ found. IfSome found (λ who. who < length c.args.replay.now.settings.items)) (sym c.in-Some.ensures) c.requires.member in
    let set : slice_get c.args.replay.now.settings.items c.in-Some.who ≡ Some c.index.result.now =
    slice_get_read c.args.replay.now.settings.items (length c.args.replay.now.settings.items) c.in-Some.who c.index.result.now refl below c.index.ensures in
    goes_next c.args.window c.args.at.0 c.args.turns c.args.replay.now c.args.list.now c.args.judged.now c.in-Some.who (sym c.in-Some.ensures) c.progress_of-progress.result c.progress_of-progress.ensures c.index.result.now set
    c.cause_of_next-cause.result c.is_turn_by_arm.result c.change.result.now c.change.ensures c.cause_of_next-cause.ensures c.is_turn_by_arm.ensures c.if-not-is_turn_by_arm.false c.if-progress-turns.false
