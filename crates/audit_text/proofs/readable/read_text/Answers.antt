use Rattle.std.proofs.Common.{◌≡◌, ◌<◌, ◌++◌, ◌∷◌, [], length, ap, sym, subst, ◌∙◌, string_bytes, arith}
use Rattle.std.proofs.lemmas.Bool.Decides.{nat_tests}
use Rattle.audit_text.specs.Readable.{line_as_read}
use Rattle.audit_text.proofs.ReadLemmas.{IsReadSoFar, read_all_of_it, read_ended, read_last, read_nothing}
use Rattle.audit_text.proofs.TextLemmas.{text_is_short}
use Rattle.audit_text.proofs.readable.read_text.Goals as goal

pub lines-init : goal.lines-init
lines-init c = subst (IsReadSoFar c.args.bytes.now c.args.bytes.now) (sym c.in_ok-text.ensures.bytes) (read_nothing c.args.bytes.now)

pub lines-preserved-in_ok-push_str-2 : goal.lines-preserved-in_ok-push_str-2
lines-preserved-in_ok-push_str-2 c =
    let first : string_bytes c.push_str.new.self ≡ string_bytes c.lines.text ++ line_as_read c.in-Some.line.now =
    c.in_ok-push_str.ensures.bytes ∙ ap (λ t. string_bytes c.lines.text ++ t) c.as_read.ensures in
    let second : string_bytes c.push_str-then-line-rest.new.self ≡ string_bytes c.push_str.new.self ++ 10 ∷ [] = c.in_ok-push_str-2.ensures.bytes in
    let longer : length c.in-Some.line.now < length c.lines.rest.now = grind (arith, nat_tests) in
    subst (IsReadSoFar c.args.bytes.now c.in-Some.after.now) (sym (second ∙ ap (λ t. t ++ 10 ∷ []) first))
    (read_ended c.args.bytes.now c.lines.rest.now (string_bytes c.lines.text) c.in-Some.line.now c.in-Some.after.now c.lines.invariant c.in-Some.ensures.line longer)

pub lines-preserved : goal.lines-preserved
lines-preserved c =
    let first : string_bytes c.push_str.new.self ≡ string_bytes c.lines.text ++ line_as_read c.in-Some.line.now =
    c.in_ok-push_str.ensures.bytes ∙ ap (λ t. string_bytes c.lines.text ++ t) c.as_read.ensures in
    let no_longer : length c.in-Some.line.now < length c.lines.rest.now → ⊥ = grind (arith, nat_tests) in
    subst (IsReadSoFar c.args.bytes.now c.in-Some.after.now) (sym first)
    (read_last c.args.bytes.now c.lines.rest.now (string_bytes c.lines.text) c.in-Some.line.now c.in-Some.after.now c.lines.invariant c.in-Some.ensures.line no_longer)

pub returns-clause-text : goal.returns-clause-text
returns-clause-text c = read_all_of_it c.args.bytes.now c.lines.rest.now (string_bytes c.lines.text) c.lines.invariant c.in_default.ensures.none

pub returns-clause-short : goal.returns-clause-short
returns-clause-short c = text_is_short c.args.bytes.now (string_bytes c.lines.text) (read_all_of_it c.args.bytes.now c.lines.rest.now (string_bytes c.lines.text) c.lines.invariant c.in_default.ensures.none)
