use Rattle.std.proofs.Common.{◌≡◌, codes, arith, pos, to_z, w16}
use Rattle.std.proofs.lemmas.Int.{to_z_pos}
use Rattle.run_text.specs.Zones.{ahead, behind}
use Rattle.run_text.proofs.OffsetLemmas.{no_offset_ahead, no_offset_behind, negated}
use Rattle.run_text.proofs.zone.offset_of.Goals as goal
use Rattle.crontab_text.proofs.VariantLemmas.{if_none}
use Rattle.script_text.proofs.CutLemmas.{strips}

pub returns-in_err-minutes-in-Some-clause-none : goal.returns-in_err-minutes-in-Some-clause-none
returns-in_err-minutes-in-Some-clause-none c =
    if_none _ (no_offset_ahead c.args.text.now c.in-Some.clock.now (strips (codes "+") _ _ c.in-Some.ensures.cases) c.in_err-minutes-in-Some.ensures.none)

pub returns-in_err-minutes-in-None-clause-none : goal.returns-in_err-minutes-in-None-clause-none
returns-in_err-minutes-in-None-clause-none c =
    if_none _ (no_offset_behind c.args.text.now c.in_ok-clock-in-None.clock.now (strips (codes "-") _ _ c.in_ok-clock-in-None.ensures.cases) c.in_err-minutes-in-None.ensures.none)

pub returns-in_ok-minutes-in-Some-clause-read : goal.returns-in_ok-minutes-in-Some-clause-read
returns-in_ok-minutes-in-Some-clause-read c =
    let read = c.in_ok-minutes-in-Some.ensures.read in
    ahead c.in-Some.clock.now c.in_ok-minutes-in-Some.minutes (strips (codes "+") _ _ c.in-Some.ensures.cases) read.0 read.1 (to_z_pos w16 c.in_ok-minutes-in-Some.minutes (omega (arith, read.1)))

pub returns-in_ok-minutes-in-None-clause-read : goal.returns-in_ok-minutes-in-None-clause-read
returns-in_ok-minutes-in-None-clause-read c =
    let minutes = c.in_ok-minutes-in-None.minutes in
    let read = c.in_ok-minutes-in-None.ensures.read in
    let unsigned : to_z w16 minutes ≡ pos minutes = to_z_pos w16 minutes (omega (arith, read.1)) in
    behind c.in_ok-clock-in-None.clock.now minutes (strips (codes "-") _ _ c.in_ok-clock-in-None.ensures.cases) read.0 read.1
    (rw unsigned (negated minutes read.1))
