use Rattle.std.proofs.Common.{ℕ, arith, refl, subst, sym}
use Rattle.run_replay.specs.Replay.{IsInSituation}
use Rattle.run_audit.proofs.ScriptLemmas.{HasComeTo}
use Rattle.run_audit.proofs.EndingLemmas.{command_fault, command_on, end_comes, first_fault, last_fault, plays_fault, walk_fault, walked}
use Rattle.run_audit.proofs.NewlineLemmas.{unblank_names}
use Rattle.std.proofs.lemmas.Option.{slice_get-get_or}
use Rattle.run_audit.proofs.script.play_script.Goals as goal

pub play_command_part-requires-clause-names : goal.play_command_part-requires-clause-names
play_command_part-requires-clause-names c = unblank_names c.args.table.now c.requires.names

pub play_last-requires-clause-names : goal.play_last-requires-clause-names
play_last-requires-clause-names c = unblank_names c.args.table.now c.requires.names

pub pass_heading-requires-2-clause-names : goal.pass_heading-requires-2-clause-names
pass_heading-requires-2-clause-names c = unblank_names c.args.table.now c.requires.names

pub pass_end-requires-clause-names : goal.pass_end-requires-clause-names
pass_end-requires-clause-names c = unblank_names c.args.table.now c.requires.names

pub returns-in_err-play_command_part-clause-plays : goal.returns-in_err-play_command_part-clause-plays
returns-in_err-play_command_part-clause-plays c =
    plays_fault c.args.table.now c.args.script.now c.args.text.now c.args.replay.now c.play_command_part.new.replay _ c.in_err-play_command_part.field-0.0 c.from_residual-in_err-play_command_part.ensures.1
    (command_fault c.args.replay.now.book.members c.args.table.now c.args.script.now c.requires.first.few c.requires.first.sound.limits c.requires.names c.args.text.now c.parts.place c.parts.replay c.parts.rest
    c.parts.invariant c.parts-test.true _ (slice_get-get_or c.args.script.now c.parts.place _ c.parts-test.true) c.in_err-play_command_part.field-0.0 c.in_err-play_command_part.ensures)

pub parts-preserved : goal.parts-preserved
parts-preserved c =
    command_on c.args.replay.now.book.members c.args.table.now c.args.script.now c.requires.first.few c.requires.first.sound.limits c.requires.names c.args.text.now c.parts.place c.parts.replay c.parts.rest
    c.parts.invariant c.parts-test.true _ c.play_command_part.new.replay c.play_command_part.new.rest (slice_get-get_or c.args.script.now c.parts.place _ c.parts-test.true) c.in_ok-play_command_part.ensures

pub returns-in_err-pass_heading-clause-plays : goal.returns-in_err-pass_heading-clause-plays
returns-in_err-pass_heading-clause-plays c =
    plays_fault c.args.table.now c.args.script.now c.args.text.now c.args.replay.now c.pass_heading.new.replay _ c.in_err-pass_heading.field-0.0 c.from_residual.ensures.1
    (first_fault c.args.table.now c.args.script.now c.args.text.now c.args.replay.now _ c.requires.first.sound.limits c.requires.first refl refl c.in_err-pass_heading.field-0.0 c.in_err-pass_heading.ensures.stops)

pub returns-in_err-play_last-clause-plays : goal.returns-in_err-play_last-clause-plays
returns-in_err-play_last-clause-plays c =
    let all = subst (λ (n : ℕ). HasComeTo c.args.replay.now.book.members c.args.table.now c.args.script.now c.args.text.now n c.parts.replay c.parts.rest) (omega (arith, c.parts-test.false, c.parts.auto.place-end)) c.parts.invariant in
    plays_fault c.args.table.now c.args.script.now c.args.text.now c.args.replay.now c.play_last.new.replay _ c.in_err-play_last.field-0.0 c.from_residual-in_err-play_last.ensures.1
    (walk_fault c.args.replay.now.book.members c.args.table.now c.args.script.now c.requires.first.few c.requires.first.sound.limits c.requires.names c.args.text.now c.parts.replay c.parts.rest all
    c.in_err-play_last.field-0.0 c.in_err-play_last.ensures)

pub pass_heading-requires-2-clause-ready : goal.pass_heading-requires-2-clause-ready
pass_heading-requires-2-clause-ready c =
    let all = subst (λ (n : ℕ). HasComeTo c.args.replay.now.book.members c.args.table.now c.args.script.now c.args.text.now n c.parts.replay c.parts.rest) (omega (arith, c.parts-test.false, c.parts.auto.place-end)) c.parts.invariant in
    let walk = walked c.args.replay.now.book.members c.args.table.now c.args.script.now c.requires.first.few c.requires.first.sound.limits c.requires.names c.args.text.now c.parts.replay c.parts.rest all
    c.play_last.new.replay c.play_last.new.rest c.in_ok-play_last.ensures in
    record { rows = walk.rows; situation = walk.situation; is = walk.ready }

pub pass_end-requires-clause-ready : goal.pass_end-requires-clause-ready
pass_end-requires-clause-ready c =
    let all = subst (λ (n : ℕ). HasComeTo c.args.replay.now.book.members c.args.table.now c.args.script.now c.args.text.now n c.parts.replay c.parts.rest) (omega (arith, c.parts-test.false, c.parts.auto.place-end)) c.parts.invariant in
    let walk = walked c.args.replay.now.book.members c.args.table.now c.args.script.now c.requires.first.few c.requires.first.sound.limits c.requires.names c.args.text.now c.parts.replay c.parts.rest all
    c.play_last.new.replay c.play_last.new.rest c.in_ok-play_last.ensures in
    subst (IsInSituation c.args.table.now) (sym c.in_ok-pass_heading-2.ensures.stays) (record { rows = walk.rows; situation = walk.situation; is = walk.ready })

pub returns-in_err-pass_heading-2-clause-plays : goal.returns-in_err-pass_heading-2-clause-plays
returns-in_err-pass_heading-2-clause-plays c =
    let all = subst (λ (n : ℕ). HasComeTo c.args.replay.now.book.members c.args.table.now c.args.script.now c.args.text.now n c.parts.replay c.parts.rest) (omega (arith, c.parts-test.false, c.parts.auto.place-end)) c.parts.invariant in
    let walk = walked c.args.replay.now.book.members c.args.table.now c.args.script.now c.requires.first.few c.requires.first.sound.limits c.requires.names c.args.text.now c.parts.replay c.parts.rest all
    c.play_last.new.replay c.play_last.new.rest c.in_ok-play_last.ensures in
    plays_fault c.args.table.now c.args.script.now c.args.text.now c.args.replay.now c.pass_heading-2.new.replay _ c.in_err-pass_heading-2.field-0.0 c.from_residual-in_err-pass_heading-2.ensures.1
    (last_fault c.args.replay.now.book.members c.args.table.now c.args.script.now c.requires.first.few c.requires.first.sound.limits c.requires.names c.args.text.now c.play_last.new.replay c.play_last.new.rest walk
    c.in_err-pass_heading-2.field-0.0 c.in_err-pass_heading-2.ensures.stops)

pub returns-clause-plays : goal.returns-clause-plays
returns-clause-plays c =
    let all = subst (λ (n : ℕ). HasComeTo c.args.replay.now.book.members c.args.table.now c.args.script.now c.args.text.now n c.parts.replay c.parts.rest) (omega (arith, c.parts-test.false, c.parts.auto.place-end)) c.parts.invariant in
    let walk = walked c.args.replay.now.book.members c.args.table.now c.args.script.now c.requires.first.few c.requires.first.sound.limits c.requires.names c.args.text.now c.parts.replay c.parts.rest all
    c.play_last.new.replay c.play_last.new.rest c.in_ok-play_last.ensures in
    end_comes c.args.replay.now c.args.table.now c.args.script.now c.requires.first.few c.requires.first.sound.limits c.requires.names c.args.text.now c.play_last.new.replay c.pass_heading-2.new.replay
    c.pass_end.new.replay c.play_last.new.rest c.pass_heading-2.new.rest walk c.in_ok-pass_heading-2.ensures.passes c.in_ok-pass_heading-2.ensures.stays c.pass_end.result c.pass_end.ensures.ends
    c.pass_end.ensures.stays c.pass_end.ensures.stops
