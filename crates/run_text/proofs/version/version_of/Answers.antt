use Rattle.std.proofs.Common.{◌≢◌, ◌≤◌, ℕ, codes}
use Rattle.zone_minutes.specs.Civil.{IsCalendarMinute}
use Rattle.zone_minutes.specs.declared.minute.Minute.{Minute}
use Rattle.crontab_text.proofs.VariantLemmas.{if_none}
use Rattle.script_text.proofs.CutLemmas.{strips, no_space, cut_at_space}
use Rattle.run_text.specs.Versions.{version_line}
use Rattle.run_text.proofs.VersionLemmas.{behind_version_word, version_parts}
use Rattle.run_text.proofs.version.version_of.Goals as goal

pub returns-in_err-version-clause-none : goal.returns-in_err-version-clause-none
returns-in_err-version-clause-none c =
    let none : (version : ℕ) (from : Minute) → version ≤ 7 → IsCalendarMinute from.0 → c.args.line.now ≢ version_line version from =
    λ version from small calendar is.
    no_space c.in_ok-strip_prefix.field-0.now c.in_err-version.ensures.cases _ _
    (behind_version_word _ _ (strips (codes "version ") _ _ c.in_ok-strip_prefix.ensures.cases) version from is) in
    if_none _ none

pub returns-in_err-version-2-clause-none : goal.returns-in_err-version-2-clause-none
returns-in_err-version-2-clause-none c =
    let cut = cut_at_space c.in_ok-strip_prefix.field-0.now (c.in_ok-version.version, c.in_ok-version.from) c.in_ok-version.ensures.cases in
    let none : (version : ℕ) (from : Minute) → version ≤ 7 → IsCalendarMinute from.0 → c.args.line.now ≢ version_line version from =
    λ version from small calendar is.
    c.in_err-version-2.ensures.none version small
    (version_parts _ _ (strips (codes "version ") _ _ c.in_ok-strip_prefix.ensures.cases) version from is _ _ cut small).0 in
    if_none _ none

pub returns-in_err-from-clause-none : goal.returns-in_err-from-clause-none
returns-in_err-from-clause-none c =
    let cut = cut_at_space c.in_ok-strip_prefix.field-0.now (c.in_ok-version.version, c.in_ok-version.from) c.in_ok-version.ensures.cases in
    let none : (version : ℕ) (from : Minute) → version ≤ 7 → IsCalendarMinute from.0 → c.args.line.now ≢ version_line version from =
    λ version from small calendar is.
    c.in_err-from.ensures.none from.0 calendar
    (version_parts _ _ (strips (codes "version ") _ _ c.in_ok-strip_prefix.ensures.cases) version from is _ _ cut small).1 in
    if_none _ none
