use Rattle.std.proofs.Common.{◌≡◌, ◌++◌, List, All, sym, ap, subst, ◌∙◌, ℕ, take, drop, take-append-drop, arith}
use Rattle.std.proofs.lemmas.Grind.{common_steps}
use Rattle.std.proofs.lemmas.List.Elements.{All-take}
use Rattle.history.specs.declared.turn.Turn.{Turn}
use Rattle.journal_text.specs.Told.{CanBeTold}
use Rattle.journal_text.proofs.PartLemmas.{IsTelling, telling_all, telling_exit, telling_left, telling_more}
use Rattle.journal_text.proofs.journal.write_turns.Goals as goal

-- a list by its two parts
cut : (rest group others : List Turn) (middle : ℕ) → group ≡ take middle rest → others ≡ drop middle rest → rest ≡ group ++ others
cut rest group others middle front back =
    sym (ap (λ (l : List Turn). l ++ others) front ∙ ap (λ (l : List Turn). take middle rest ++ l) back ∙ take-append-drop middle rest)

pub write_group-requires-clause-told : goal.write_group-requires-clause-told
write_group-requires-clause-told g c =
    let left = telling_left _ _ _ _ _ _ _ (CanBeTold c.args.table.now) c.groups.invariant c.requires.told in
    subst (All (CanBeTold c.args.table.now)) (sym c.split_at.ensures.front) (All-take (CanBeTold c.args.table.now) c.min.result c.groups.rest.now left)

pub returns-in_err-write_group : goal.returns-in_err-write_group
returns-in_err-write_group g c =
    let group = c.split_at.result.0.now in
    let others = c.split_at.result.1.now in
    let parts : c.groups.rest.now ≡ group ++ others = cut c.groups.rest.now group others c.min.result c.split_at.ensures.front c.split_at.ensures.back in
    telling_exit c.args.table.now _ (g.K.Sink.seen c.groups.sink) _ c.args.first c.args.turns.now c.groups.next group others _ _
    (subst (λ (left : List Turn). IsTelling c.args.table.now (g.K.Sink.seen c.args.sink.now) (g.K.Sink.seen c.groups.sink) c.args.first c.args.turns.now c.groups.next left) parts c.groups.invariant)
    c.from_residual.ensures.1 c.in_err-write_group.ensures

pub groups-preserved : goal.groups-preserved
groups-preserved g c =
    let group = c.split_at.result.0.now in
    let others = c.split_at.result.1.now in
    let parts : c.groups.rest.now ≡ group ++ others = cut c.groups.rest.now group others c.min.result c.split_at.ensures.front c.split_at.ensures.back in
    telling_more c.args.table.now _ (g.K.Sink.seen c.groups.sink) _ c.args.first c.args.turns.now c.groups.next group others
    (subst (λ (left : List Turn). IsTelling c.args.table.now (g.K.Sink.seen c.args.sink.now) (g.K.Sink.seen c.groups.sink) c.args.first c.args.turns.now c.groups.next left) parts c.groups.invariant)
    c.in_ok-write_group.ensures

pub returns : goal.returns
returns g c = telling_all _ _ _ _ _ _ _ c.groups.invariant (grind (arith, common_steps))
