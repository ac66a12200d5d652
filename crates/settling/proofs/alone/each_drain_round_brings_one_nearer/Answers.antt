use Rattle.settling.proofs.AloneBookLemmas.{has_table, rest_goes_on, round_brings_nearer, round_leads}
use Rattle.settling.proofs.alone.each_drain_round_brings_one_nearer.Goals as goal

pub returns-clause-leads : goal.returns-clause-leads
returns-clause-leads c = round_leads

pub returns-clause-nearer : goal.returns-clause-nearer
returns-clause-nearer c = round_brings_nearer

pub returns-clause-launch : goal.returns-clause-launch
returns-clause-launch c = has_table

pub returns-clause-rests : goal.returns-clause-rests
returns-clause-rests c = rest_goes_on
