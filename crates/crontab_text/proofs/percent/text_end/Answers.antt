use Rattle.std.proofs.Common.{subst}
use Rattle.std.proofs.lemmas.List.{take_rest}
use Rattle.crontab_text.specs.Blanks.{IsFirstIndex}
use Rattle.crontab_text.specs.Percent.{IsPercent}
use Rattle.crontab_text.proofs.PercentLemmas.{ends_before_escape, ends_before_percent}
use Rattle.crontab_text.proofs.percent.text_end.Goals as goal

pub returns-in-Some-clause-lacks : goal.returns-in-Some-clause-lacks
returns-in-Some-clause-lacks c =
    let first = subst (λ t. IsFirstIndex IsPercent t c.in-Some.index) (take_rest c.args.bytes.now 1) c.in-Some.ensures.found in
    (ends_before_escape c.args.bytes.now c.in-Some.index c.requires.bare first c.if-bytes-index-eq92.true).lacks

pub returns-in-Some-clause-end : goal.returns-in-Some-clause-end
returns-in-Some-clause-end c =
    let first = subst (λ t. IsFirstIndex IsPercent t c.in-Some.index) (take_rest c.args.bytes.now 1) c.in-Some.ensures.found in
    (ends_before_escape c.args.bytes.now c.in-Some.index c.requires.bare first c.if-bytes-index-eq92.true).ends

pub returns-in-Some-2-clause-lacks : goal.returns-in-Some-2-clause-lacks
returns-in-Some-2-clause-lacks c =
    let first = subst (λ t. IsFirstIndex IsPercent t c.in-Some.index) (take_rest c.args.bytes.now 1) c.in-Some.ensures.found in
    (ends_before_percent c.args.bytes.now c.in-Some.index first c.if-bytes-index-eq92.false).lacks

pub returns-in-Some-2-clause-end : goal.returns-in-Some-2-clause-end
returns-in-Some-2-clause-end c =
    let first = subst (λ t. IsFirstIndex IsPercent t c.in-Some.index) (take_rest c.args.bytes.now 1) c.in-Some.ensures.found in
    (ends_before_percent c.args.bytes.now c.in-Some.index first c.if-bytes-index-eq92.false).ends
