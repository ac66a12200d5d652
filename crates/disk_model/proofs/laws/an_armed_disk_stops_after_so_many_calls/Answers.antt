use Rattle.disk_model.proofs.StopLemmas.{all_pass, never_stops, stops_at}
use Rattle.disk_model.proofs.laws.an_armed_disk_stops_after_so_many_calls.Goals as goal

pub returns-clause-passes : goal.returns-clause-passes
returns-clause-passes c = all_pass

pub returns-clause-stops : goal.returns-clause-stops
returns-clause-stops c = stops_at

pub returns-clause-unarmed : goal.returns-clause-unarmed
returns-clause-unarmed c = never_stops
