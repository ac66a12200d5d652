use Rattle.std.proofs.Common.{◌∷◌, refl, ap, ◌∙◌}
use Rattle.script_semantics.specs.Situation.{is_cut}
use Rattle.run_replay.proofs.SettingLemmas.{cut_pushed, cuts_set}
use Rattle.run_replay.proofs.replay.Replay.cut.Goals as goal

pub returns-clause-sets : goal.returns-clause-sets
returns-clause-sets c =
    cuts_set c.args.self.now _ (λ pairs. (c.args.from, c.args.to) ∷ pairs) refl refl refl refl
    (λ pairs same from to. ap (is_cut from to) c.in_ok-push.ensures.items ∙ cut_pushed from to c.args.self.now.cuts.items pairs (c.args.from, c.args.to) (same from to))
