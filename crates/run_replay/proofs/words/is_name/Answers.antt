use Rattle.run_replay.proofs.StepLemmas.{name_told}
use Rattle.run_replay.proofs.words.is_name.Goals as goal

pub returns-in-Some : goal.returns-in-Some
returns-in-Some c =
    let tells = name_told c.args.table.now c.args.text.now c.in-Some.read c.args.name c.requires.sound c.requires.named c.in-Some.ensures.read in
    let same = c.is_same_name.ensures in
    (λ holds. tells.0 (same.0 holds), λ told. same.1 (tells.1 told))
