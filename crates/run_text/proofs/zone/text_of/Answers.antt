use Rattle.std.proofs.Common.{◌≡◌, ◌≢◌, codes, ap, arith, rules}
use Rattle.std.proofs.lemmas.Grind.{common_steps}
use Rattle.zone_minutes.specs.Zone.{FixedOffset}
use Rattle.run_text.specs.Zones.{fixed, IsHexText}
use Rattle.run_text.proofs.OffsetLemmas.{kept_offset}
use Rattle.run_text.proofs.ZoneLemmas.{decodes, hex_source, no_fixed, no_source}
use Rattle.run_text.proofs.zone.text_of.Goals.{else-eq-3-via-then-eq-3+else-is_hex_text, else-eq-3-via-else-eq-3}
use Rattle.run_text.proofs.zone.text_of.Goals as goal
use Rattle.crontab_text.proofs.VariantLemmas.{if_none}

pub returns-in_err-minutes-clause-none : goal.returns-in_err-minutes-clause-none
returns-in_err-minutes-clause-none c =
    let kind : c.args.kind.now ≡ codes "fixed" = search rules in
    if_none _ (no_fixed c.args.kind.now c.args.text.now kind c.in_err-minutes.ensures.none)

pub returns-in_ok-minutes-clause-read : goal.returns-in_ok-minutes-clause-read
returns-in_ok-minutes-clause-read c =
    let kind : c.args.kind.now ≡ codes "fixed" = search rules in
    fixed kind c.in_ok-minutes.minutes c.in_ok-minutes.ensures.read (ap FixedOffset (kept_offset c.args.text.now c.in_ok-minutes.minutes c.in_ok-minutes.ensures.read))

pub returns-then-is_hex_text-clause-read : goal.returns-then-is_hex_text-clause-read
returns-then-is_hex_text-clause-read c =
    let kind : c.args.kind.now ≡ codes "tzif" = search rules in
    hex_source c.args.kind.now c.args.text.now kind (c.is_hex_text.ensures.0 c.if-is_hex_text.true)

pub returns-then-is_hex_text-clause-digits : goal.returns-then-is_hex_text-clause-digits
returns-then-is_hex_text-clause-digits c =
    let read = decodes c.args.text.now (c.is_hex_text.ensures.0 c.if-is_hex_text.true) in
    (read.0, read.1)

pub returns-else-eq-3-clause-none : goal.returns-else-eq-3-clause-none
returns-else-eq-3-clause-none c =
    let no_fixed : c.args.kind.now ≢ codes "fixed" = grind (arith, common_steps) in
    let no_posix : c.args.kind.now ≢ codes "posix" = grind (arith, common_steps) in
    let no_hex : c.args.kind.now ≡ codes "tzif" → IsHexText c.args.text.now → ⊥ =
    elim c.else-eq-3.branch [
      | else-eq-3-via-then-eq-3+else-is_hex_text w ↦ λ kind hex. let yes = w.is_hex_text.ensures.1 hex in cc (yes, w.if-is_hex_text.false)
      | else-eq-3-via-else-eq-3 w ↦ λ kind hex. let other : c.args.kind.now ≢ codes "tzif" = grind (arith, common_steps) in other kind
    ] in
    no_source c.args.kind.now c.args.text.now no_fixed no_posix no_hex
