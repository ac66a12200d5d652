use Rattle.std.proofs.Common.{ℕ, List, codes, sym, subst}
use Rattle.zone_minutes.specs.Zone.{Source}
use Rattle.run_text.specs.Grammar.{IsZoneName}
use Rattle.run_text.specs.Zones.{IsZoneLine}
use Rattle.run_text.proofs.ZoneLemmas.{behind_zone_word, behind_name, source_behind, zone_from_parts}
use Rattle.run_text.proofs.zone.zone_of.Goals as goal
use Rattle.crontab_text.proofs.VariantLemmas.{if_none}
use Rattle.script_text.proofs.CutLemmas.{strips, no_space, cut_at_space}

pub returns-in_err-name-clause-none : goal.returns-in_err-name-clause-none
returns-in_err-name-clause-none c =
    let none : (name : List ℕ) (source : Source) → IsZoneLine c.args.line.now name source → ⊥ =
    λ name source is. no_space c.in_ok-words.words.now c.in_err-name.ensures.cases _ _ (behind_zone_word _ name source is _ (strips (codes "zone ") _ _ c.in_ok-words.ensures.cases)) in
    if_none _ none

pub returns-in_err-kind-clause-none : goal.returns-in_err-kind-clause-none
returns-in_err-kind-clause-none c =
    let cut = cut_at_space c.in_ok-words.words.now (c.in_ok-name.name, c.in_ok-name.rest) c.in_ok-name.ensures.cases in
    let none : (name : List ℕ) (source : Source) → IsZoneLine c.args.line.now name source → ⊥ =
    λ name source is. no_space c.in_ok-name.rest.now c.in_err-kind.ensures.cases _ _ (behind_name _ name source is _ _ _ (strips (codes "zone ") _ _ c.in_ok-words.ensures.cases) cut).1 in
    if_none _ none

pub returns-in_err-source-clause-none : goal.returns-in_err-source-clause-none
returns-in_err-source-clause-none c =
    let cut = cut_at_space c.in_ok-words.words.now (c.in_ok-name.name, c.in_ok-name.rest) c.in_ok-name.ensures.cases in
    let next = cut_at_space c.in_ok-name.rest.now (c.in_ok-kind.kind, c.in_ok-kind.text) c.in_ok-kind.ensures.cases in
    let none : (name : List ℕ) (source : Source) → IsZoneLine c.args.line.now name source → ⊥ =
    λ name source is. c.in_err-source.ensures.none source (source_behind _ name source is _ _ _ _ _ (strips (codes "zone ") _ _ c.in_ok-words.ensures.cases) cut next) in
    if_none _ none

pub returns-then-not-is_zone_name-clause-none : goal.returns-then-not-is_zone_name-clause-none
returns-then-not-is_zone_name-clause-none c name source is =
    let cut = cut_at_space c.in_ok-words.words.now (c.in_ok-name.name, c.in_ok-name.rest) c.in_ok-name.ensures.cases in
    let name_is : IsZoneName c.in_ok-name.name.now =
    subst IsZoneName (sym (behind_name _ name source is _ _ _ (strips (codes "zone ") _ _ c.in_ok-words.ensures.cases) cut).0) is.is_name in
    let yes = c.is_zone_name.ensures.1 name_is in cc (yes, c.if-not-is_zone_name.true)

pub returns-clause-read : goal.returns-clause-read
returns-clause-read c =
    let cut = cut_at_space c.in_ok-words.words.now (c.in_ok-name.name, c.in_ok-name.rest) c.in_ok-name.ensures.cases in
    let next = cut_at_space c.in_ok-name.rest.now (c.in_ok-kind.kind, c.in_ok-kind.text) c.in_ok-kind.ensures.cases in
    zone_from_parts c.args.line.now _ c.in_ok-name.name.now _ _ _ _ (strips (codes "zone ") _ _ c.in_ok-words.ensures.cases) cut next
    c.in_ok-source.ensures.read (c.is_zone_name.ensures.0 c.if-not-is_zone_name.false)
