use Rattle.std.proofs.Common.{refl, sym, subst}
use Rattle.crontab_text.specs.Blanks.{IsBlank}
use Rattle.anacron_text.proofs.SpacedLemmas.{newline_blank, backslash_read, other_stays}
use Rattle.anacron_text.proofs.blank.is_blank_at.Goals as goal

pub returns-then-byte-eq10 : goal.returns-then-byte-eq10
returns-then-byte-eq10 c = (λ yes. newline_blank c.args.bytes.now c.args.index c.requires c.if-byte-eq10.true, λ blank. refl)

pub returns-then-byte-eq92 : goal.returns-then-byte-eq92
returns-then-byte-eq92 c =
    backslash_read c.args.bytes.now c.args.index c.is_at_line_end.result c.requires c.if-byte-eq92.true c.is_at_line_end.ensures

pub returns-else-byte-eq92 : goal.returns-else-byte-eq92
returns-else-byte-eq92 c =
    let stays = other_stays c.args.bytes.now c.args.index c.requires c.if-byte-eq10.false c.if-byte-eq92.false in
    (λ yes. subst IsBlank (sym stays) (c.is_blank.ensures.0 yes), λ blank. c.is_blank.ensures.1 (subst IsBlank stays blank))
