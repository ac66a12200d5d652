use Rattle.std.proofs.Common.{◌≡◌, ◌<◌, ◌↔◌, IsTrue, IfSome, Some, true, false, length, refl, sym, ◌∙◌, subst, arith}
use Rattle.std.specs.List.{slice_get}
use Rattle.std.specs.Option.{option_to_list}
use Rattle.std.proofs.lemmas.Option.{slice_get_read}
use Rattle.script_semantics.specs.Arms.{IsEnough}
use Rattle.run_audit.proofs.arms.is_saved_step.Goals as goal

pub returns-then-not-is_turn_for : goal.returns-then-not-is_turn_for
returns-then-not-is_turn_for c = λ situation set. (
  λ yes. absurd (let wrong : false ≡ true = yes in cc),
  λ both. absurd (let wrong : true ≡ false = sym ((c.is_turn_for.ensures situation.fates (λ who setting there. (set who setting there).fate)).1 both.0) ∙ c.if-not-is_turn_for.true in cc),
)

pub index-requires : goal.index-requires
index-requires c =
    let below : c.args.who < length c.args.replay.now.settings.items = subst (λ found. IfSome found (λ who. who < length c.args.replay.now.settings.items)) c.requires.mine c.requires.member in
    omega (arith, c.args.replay.now.settings.ok.0, below)

pub returns : goal.returns
returns c = λ situation set.
    let below : c.args.who < length c.args.replay.now.settings.items = subst (λ found. IfSome found (λ who. who < length c.args.replay.now.settings.items)) c.requires.mine c.requires.member in
    let there : slice_get c.args.replay.now.settings.items c.args.who ≡ Some c.index.result.now =
    slice_get_read c.args.replay.now.settings.items (length c.args.replay.now.settings.items) c.args.who c.index.result.now refl below c.index.ensures in
    let arm = (set c.args.who c.index.result.now there).arm in
    let turn = (c.is_turn_for.ensures situation.fates (λ who setting there. (set who setting there).fate)).0 c.if-not-is_turn_for.false in
    let enough = subst (λ arm. IsTrue c.is_enough.result ↔ IsEnough arm (option_to_list c.args.change.now)) arm c.is_enough.ensures in
    (λ yes. (turn, enough.0 yes), λ both. enough.1 both.1)
