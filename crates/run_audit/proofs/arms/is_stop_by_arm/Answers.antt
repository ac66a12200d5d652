use Rattle.std.proofs.Common.{◌≡◌, ◌<◌, ◌↔◌, IsTrue, IfSome, Some, true, false, length, refl, sym, ◌∙◌, subst, arith}
use Rattle.std.specs.List.{slice_get}
use Rattle.std.proofs.lemmas.Option.{slice_get_read}
use Rattle.history.specs.Book.{turn_of}
use Rattle.run_audit.specs.ByArms.{StopsBy}
use Rattle.run_audit.proofs.arms.is_stop_by_arm.Goals as goal

pub returns-then-not-is_stop_within : goal.returns-then-not-is_stop_within
returns-then-not-is_stop_within c = λ situation set. (
  λ yes. absurd (let wrong : false ≡ true = yes in cc),
  λ both. absurd (let wrong : true ≡ false = sym (c.is_stop_within.ensures.1 both.0) ∙ c.if-not-is_stop_within.true in cc),
)

pub index-requires : goal.index-requires
index-requires c =
    let is = c.is_stop_within.ensures.0 c.if-not-is_stop_within.false in
    let below : c.args.who < length c.args.replay.now.settings.items = subst (λ turn. IfSome (turn_of turn) (λ who. who < length c.args.replay.now.settings.items)) is c.requires.member in
    omega (arith, c.args.replay.now.settings.ok.0, below)

pub returns : goal.returns
returns c = λ situation set.
    let is = c.is_stop_within.ensures.0 c.if-not-is_stop_within.false in
    let below : c.args.who < length c.args.replay.now.settings.items = subst (λ turn. IfSome (turn_of turn) (λ who. who < length c.args.replay.now.settings.items)) is c.requires.member in
    let there : slice_get c.args.replay.now.settings.items c.args.who ≡ Some c.index.result.now =
    slice_get_read c.args.replay.now.settings.items (length c.args.replay.now.settings.items) c.args.who c.index.result.now refl below c.index.ensures in
    let here = set c.args.who c.index.result.now there in
    let stops = subst (λ arm. IsTrue c.stops_by.result ↔ StopsBy arm (situation.bases c.args.who) c.args.change.now c.args.kept) here.arm (c.stops_by.ensures (situation.bases c.args.who) here.area) in
    (λ yes. (is, stops.0 yes), λ both. stops.1 both.1)
