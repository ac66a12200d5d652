use Rattle.std.proofs.Common.{◌≡◌, ◌≢◌, ℕ, ℤ, ◌<◌, ◌^◌, ◌∷◌, ◌++◌, codes, decimal, arith}
use Rattle.std.specs.Fmt.{signed_decimal}
use Rattle.script_text.specs.Command.{fate_word, IsSkew}
use Rattle.script_text.specs.declared.command.FateWord.{FateWord}
use Rattle.script_text.proofs.CutLemmas.{cut_at_space, no_space, if_none}
use Rattle.script_text.proofs.OperandLemmas.{number_parts}
use Rattle.script_text.proofs.read.of_member_and_more.Goals as goal

pub returns-in_err-member-clause-no_break : goal.returns-in_err-member-clause-no_break
returns-in_err-member-clause-no_break c =
    let none : c.args.word.now ≡ codes "break" → (member pass image : ℕ) → member < c.args.members → pass < 2 ^ 32 → image < 2 ^ 32 → c.args.operands.now ≢ decimal member ++ (32 ∷ decimal pass ++ 32 ∷ decimal image) =
    λ word member pass image small few some is. no_space c.args.operands.now c.in_err-member.ensures.cases (decimal member) (decimal pass ++ 32 ∷ decimal image) is in
    if_none _ none

pub returns-in_err-member-clause-no_skew : goal.returns-in_err-member-clause-no_skew
returns-in_err-member-clause-no_skew c =
    let none : c.args.word.now ≡ codes "skew" → (member : ℕ) (minutes : ℤ) → member < c.args.members → IsSkew minutes → c.args.operands.now ≢ decimal member ++ 32 ∷ signed_decimal minutes =
    λ word member minutes small range is. no_space c.args.operands.now c.in_err-member.ensures.cases (decimal member) (signed_decimal minutes) is in
    if_none _ none

pub returns-in_err-member-clause-no_fate : goal.returns-in_err-member-clause-no_fate
returns-in_err-member-clause-no_fate c =
    let none : c.args.word.now ≡ codes "fate" → (member : ℕ) (fate : FateWord) → member < c.args.members → c.args.operands.now ≢ decimal member ++ 32 ∷ fate_word fate =
    λ word member fate small is. no_space c.args.operands.now c.in_err-member.ensures.cases (decimal member) (fate_word fate) is in
    if_none _ none

pub returns-in_err-member-2-clause-no_break : goal.returns-in_err-member-2-clause-no_break
returns-in_err-member-2-clause-no_break c =
    let fits = c.ranges.members.fits in
    let cut = cut_at_space c.args.operands.now (c.in_ok-member.member, c.in_ok-member.rest) c.in_ok-member.ensures.cases in
    let none : c.args.word.now ≡ codes "break" → (member pass image : ℕ) → member < c.args.members → pass < 2 ^ 32 → image < 2 ^ 32 → c.args.operands.now ≢ decimal member ++ (32 ∷ decimal pass ++ 32 ∷ decimal image) =
    λ word member pass image small few some is. c.in_err-member-2.ensures.none member small (number_parts _ _ _ member (decimal pass ++ 32 ∷ decimal image) cut (omega arith) is).0 in
    if_none _ none

pub returns-in_err-member-2-clause-no_skew : goal.returns-in_err-member-2-clause-no_skew
returns-in_err-member-2-clause-no_skew c =
    let fits = c.ranges.members.fits in
    let cut = cut_at_space c.args.operands.now (c.in_ok-member.member, c.in_ok-member.rest) c.in_ok-member.ensures.cases in
    let none : c.args.word.now ≡ codes "skew" → (member : ℕ) (minutes : ℤ) → member < c.args.members → IsSkew minutes → c.args.operands.now ≢ decimal member ++ 32 ∷ signed_decimal minutes =
    λ word member minutes small range is. c.in_err-member-2.ensures.none member small (number_parts _ _ _ member (signed_decimal minutes) cut (omega arith) is).0 in
    if_none _ none

pub returns-in_err-member-2-clause-no_fate : goal.returns-in_err-member-2-clause-no_fate
returns-in_err-member-2-clause-no_fate c =
    let fits = c.ranges.members.fits in
    let cut = cut_at_space c.args.operands.now (c.in_ok-member.member, c.in_ok-member.rest) c.in_ok-member.ensures.cases in
    let none : c.args.word.now ≡ codes "fate" → (member : ℕ) (fate : FateWord) → member < c.args.members → c.args.operands.now ≢ decimal member ++ 32 ∷ fate_word fate =
    λ word member fate small is. c.in_err-member-2.ensures.none member small (number_parts _ _ _ member (fate_word fate) cut (omega arith) is).0 in
    if_none _ none

pub returns-in_err-pass-in-break-clause-no_break : goal.returns-in_err-pass-in-break-clause-no_break
returns-in_err-pass-in-break-clause-no_break c =
    let fits = c.ranges.members.fits in
    let cut = cut_at_space c.args.operands.now (c.in_ok-member.member, c.in_ok-member.rest) c.in_ok-member.ensures.cases in
    let none : c.args.word.now ≡ codes "break" → (member pass image : ℕ) → member < c.args.members → pass < 2 ^ 32 → image < 2 ^ 32 → c.args.operands.now ≢ decimal member ++ (32 ∷ decimal pass ++ 32 ∷ decimal image) =
    λ word member pass image small few some is. c.in_err-pass-in-break.ensures.none pass image few some (number_parts _ _ _ member (decimal pass ++ 32 ∷ decimal image) cut (omega arith) is).1 in
    if_none _ none

pub returns-in_err-minutes-in-skew-clause-no_skew : goal.returns-in_err-minutes-in-skew-clause-no_skew
returns-in_err-minutes-in-skew-clause-no_skew c =
    let fits = c.ranges.members.fits in
    let cut = cut_at_space c.args.operands.now (c.in_ok-member.member, c.in_ok-member.rest) c.in_ok-member.ensures.cases in
    let none : c.args.word.now ≡ codes "skew" → (member : ℕ) (minutes : ℤ) → member < c.args.members → IsSkew minutes → c.args.operands.now ≢ decimal member ++ 32 ∷ signed_decimal minutes =
    λ word member minutes small range is. c.in_err-minutes-in-skew.ensures.none minutes range (number_parts _ _ _ member (signed_decimal minutes) cut (omega arith) is).1 in
    if_none _ none

pub returns-in_err-fate-in-fate-clause-no_fate : goal.returns-in_err-fate-in-fate-clause-no_fate
returns-in_err-fate-in-fate-clause-no_fate c =
    let fits = c.ranges.members.fits in
    let cut = cut_at_space c.args.operands.now (c.in_ok-member.member, c.in_ok-member.rest) c.in_ok-member.ensures.cases in
    let none : c.args.word.now ≡ codes "fate" → (member : ℕ) (fate : FateWord) → member < c.args.members → c.args.operands.now ≢ decimal member ++ 32 ∷ fate_word fate =
    λ word member fate small is. c.in_err-fate-in-fate.ensures.none fate (number_parts _ _ _ member (fate_word fate) cut (omega arith) is).1 in
    if_none _ none
