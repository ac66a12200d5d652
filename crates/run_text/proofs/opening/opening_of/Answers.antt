use Rattle.std.proofs.Common.{ℕ, List, sym, subst}
use Rattle.run_text.specs.Grammar.{IsLabel, IsZoneName, IsSectionLine}
use Rattle.run_text.specs.declared.run.SectionKind.{SectionKind}
use Rattle.run_text.proofs.PhraseLemmas.{behind_word, behind_label, behind_zone, section_from_parts}
use Rattle.run_text.proofs.opening.opening_of.Goals as goal
use Rattle.crontab_text.proofs.VariantLemmas.{if_none}
use Rattle.script_text.proofs.CutLemmas.{no_space, cut_at_space}

pub returns-in_err-kind-clause-none : goal.returns-in_err-kind-clause-none
returns-in_err-kind-clause-none c =
    let cut = cut_at_space c.args.line.now (c.in_ok-word.word, c.in_ok-word.rest) c.in_ok-word.ensures.cases in
    let none : (kind : SectionKind) (label zone : List ℕ) (count : ℕ) → IsSectionLine c.args.line.now kind label zone count → ⊥ =
    λ kind label zone count is. c.in_err-kind.ensures.none kind (behind_word _ kind label zone count is _ _ cut).0 in
    if_none _ none

pub returns-in_err-label-clause-none : goal.returns-in_err-label-clause-none
returns-in_err-label-clause-none c =
    let cut = cut_at_space c.args.line.now (c.in_ok-word.word, c.in_ok-word.rest) c.in_ok-word.ensures.cases in
    let none : (kind : SectionKind) (label zone : List ℕ) (count : ℕ) → IsSectionLine c.args.line.now kind label zone count → ⊥ =
    λ kind label zone count is. no_space c.in_ok-word.rest.now c.in_err-label.ensures.cases _ _ (behind_word _ kind label zone count is _ _ cut).1 in
    if_none _ none

pub returns-in_err-zone-clause-none : goal.returns-in_err-zone-clause-none
returns-in_err-zone-clause-none c =
    let cut = cut_at_space c.args.line.now (c.in_ok-word.word, c.in_ok-word.rest) c.in_ok-word.ensures.cases in
    let next = cut_at_space c.in_ok-word.rest.now (c.in_ok-label.label, c.in_ok-label.rest) c.in_ok-label.ensures.cases in
    let none : (kind : SectionKind) (label zone : List ℕ) (count : ℕ) → IsSectionLine c.args.line.now kind label zone count → ⊥ =
    λ kind label zone count is. no_space c.in_ok-label.rest.now c.in_err-zone.ensures.cases _ _ (behind_label _ kind label zone count is _ _ _ _ cut next).1 in
    if_none _ none

pub returns-in_err-count-clause-none : goal.returns-in_err-count-clause-none
returns-in_err-count-clause-none c =
    let cut = cut_at_space c.args.line.now (c.in_ok-word.word, c.in_ok-word.rest) c.in_ok-word.ensures.cases in
    let next = cut_at_space c.in_ok-word.rest.now (c.in_ok-label.label, c.in_ok-label.rest) c.in_ok-label.ensures.cases in
    let third = cut_at_space c.in_ok-label.rest.now (c.in_ok-zone.zone, c.in_ok-zone.count) c.in_ok-zone.ensures.cases in
    let none : (kind : SectionKind) (label zone : List ℕ) (count : ℕ) → IsSectionLine c.args.line.now kind label zone count → ⊥ =
    λ kind label zone count is. c.in_err-count.ensures.none count is.short (behind_zone _ kind label zone count is _ _ _ _ _ _ cut next third).1 in
    if_none _ none

pub returns-then-not-is_label-clause-none : goal.returns-then-not-is_label-clause-none
returns-then-not-is_label-clause-none c kind label zone count is =
    let cut = cut_at_space c.args.line.now (c.in_ok-word.word, c.in_ok-word.rest) c.in_ok-word.ensures.cases in
    let next = cut_at_space c.in_ok-word.rest.now (c.in_ok-label.label, c.in_ok-label.rest) c.in_ok-label.ensures.cases in
    let label_is : IsLabel c.in_ok-label.label.now = subst IsLabel (sym (behind_label _ kind label zone count is _ _ _ _ cut next).0) is.is_label in
    let yes = c.is_label.ensures.1 label_is in cc (yes, c.if-not-is_label.true)

pub returns-then-not-is_zone_name-clause-none : goal.returns-then-not-is_zone_name-clause-none
returns-then-not-is_zone_name-clause-none c kind label zone count is =
    let cut = cut_at_space c.args.line.now (c.in_ok-word.word, c.in_ok-word.rest) c.in_ok-word.ensures.cases in
    let next = cut_at_space c.in_ok-word.rest.now (c.in_ok-label.label, c.in_ok-label.rest) c.in_ok-label.ensures.cases in
    let third = cut_at_space c.in_ok-label.rest.now (c.in_ok-zone.zone, c.in_ok-zone.count) c.in_ok-zone.ensures.cases in
    let zone_is : IsZoneName c.in_ok-zone.zone.now = subst IsZoneName (sym (behind_zone _ kind label zone count is _ _ _ _ _ _ cut next third).0) is.is_zone in
    let yes = c.is_zone_name.ensures.1 zone_is in cc (yes, c.if-not-is_zone_name.true)

pub returns-clause-read : goal.returns-clause-read
returns-clause-read c =
    let cut = cut_at_space c.args.line.now (c.in_ok-word.word, c.in_ok-word.rest) c.in_ok-word.ensures.cases in
    let next = cut_at_space c.in_ok-word.rest.now (c.in_ok-label.label, c.in_ok-label.rest) c.in_ok-label.ensures.cases in
    let third = cut_at_space c.in_ok-label.rest.now (c.in_ok-zone.zone, c.in_ok-zone.count) c.in_ok-zone.ensures.cases in
    section_from_parts c.args.line.now c.in_ok-kind.kind c.in_ok-label.label.now c.in_ok-zone.zone.now c.in_ok-count.count _ _ _ _ cut next third
    c.in_ok-kind.ensures.found c.in_ok-count.ensures.read.1 (c.is_label.ensures.0 c.if-not-is_label.false) (c.is_zone_name.ensures.0 c.if-not-is_zone_name.false) c.in_ok-count.ensures.read.0
