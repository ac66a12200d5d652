use Rattle.script_play.proofs.Runs.{legal_book, at_rest, obeying}
use Rattle.script_play.proofs.laws.a_played_run_obeys_its_script.Goals as goal

pub returns-clause-legal : goal.returns-clause-legal
returns-clause-legal c = legal_book

pub returns-clause-rest : goal.returns-clause-rest
returns-clause-rest c = at_rest

pub returns-clause-obeys : goal.returns-clause-obeys
returns-clause-obeys c = obeying
