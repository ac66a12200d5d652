use Rattle.step_spec.proofs.LineLemmas.{acts_sound}
use Rattle.step_spec.proofs.SoundLemmas.{act_sound, start_sound}
use Rattle.step_spec.proofs.laws.replicas_stay_coherent.Goals as goal

pub returns-clause-start : goal.returns-clause-start
returns-clause-start c = start_sound

pub returns-clause-act : goal.returns-clause-act
returns-clause-act c = λ setting act state. act_sound setting state act

pub returns-clause-acts : goal.returns-clause-acts
returns-clause-acts c = λ setting acts state. acts_sound setting state acts
