-- A legal book that obeys a script within the limits is a whole run of it.
use Rattle.std.proofs.Common.{◌≡◌, ℕ, ◌≤◌, List, ℤ, take, length, refl, subst}
use Rattle.paxos_base.specs.declared.entry.Entry.{Entry}
use Rattle.due_set.specs.Table.{IsSound, Table}
use Rattle.launch_machine.specs.Starts.{AdoptionsOf}
use Rattle.launch_machine.proofs.ExistLemmas.{adoptions_of_exist}
use Rattle.script_text.specs.declared.command.Command.{Command}
use Rattle.step_spec.specs.State.{prefix_of}
use Rattle.agreement.specs.Log.{IsLog}
use Rattle.history.specs.Book.{Row, Standing, votes_in}
use Rattle.history.specs.Legal.{IsLegal}
use Rattle.history.proofs.Agreement.{agrees, book_log, cut_is_legal}
use Rattle.launch_safety.proofs.Whole.{cut_fits, log_takes}
use Rattle.script_semantics.specs.Script.{Obeys}
use Rattle.settling.specs.Rounds.{IsWithinBounds}
use Rattle.run_outcome.proofs.AtOnceLemmas.{called_under}
use Rattle.run_outcome.proofs.WalkWhole.{each_ended, each_launched}
use Rattle.run_outcome.proofs.ScriptLemmas.{script_ends, script_learned, script_settled}
use Rattle.run_outcome.specs.Whole.{HaveLearnedAll, IsWholeRun}

module _ (members : ℕ) (table : Table) (script : List Command) (rows : List Row) (obeyed : Obeys members table script rows) (some : 1 ≤ members) (few : members ≤ 7) (sound : IsSound table)
    (legal : IsLegal members table rows) (limits : IsWithinBounds rows obeyed.after.standing.posted) (log : List Entry) (is_log : IsLog members (votes_in rows) log) where
  -- the situation in which the script ends stands as the book does
  all_learned : HaveLearnedAll members table rows log
  all_learned who member =
      subst (λ (standing : Standing). prefix_of (standing.replicas who) ≡ length log)
      (script_ends members table script rows obeyed log some few sound legal limits is_log).standing
      (script_learned members table script rows obeyed log who some few sound legal limits is_log member)

  -- its log adopts versions at these instants
  abbrev adoptions : List ℤ
  adoptions = (adoptions_of_exist table sound log).0

  adopted : AdoptionsOf table log adoptions
  adopted = (adoptions_of_exist table sound log).1

  -- by the same parts
  is_whole : (whole : IsWholeRun members table script rows) × (whole.obeyed ≡ obeyed)
  is_whole = (
    record {
      legal = legal;
      obeyed = obeyed;
      logged = λ turns. book_log members table (take turns rows) few (cut_is_legal members table rows turns legal);
      agree = λ turns. agrees members table (take turns rows) few (cut_is_legal members table rows turns legal);
      fits = λ turns. cut_fits members table rows turns few legal;
      log = log;
      is_log = is_log;
      learned = all_learned;
      adoptions = adoptions;
      adopted = adopted;
      effective = λ before after entry. log_takes members table rows log before after entry few legal is_log;
      settled = script_settled members table script rows obeyed log some few sound legal limits is_log;
      ended = λ job at. each_ended members table script rows obeyed log adoptions job at some few sound legal limits is_log adopted;
      later = λ job at. called_under members table script rows obeyed log adoptions job at some few sound legal limits is_log adopted;
      all = λ long job at. each_launched members table script rows obeyed log adoptions job at some few sound legal limits is_log adopted long;
    },
    refl,
  )

pub script_whole : (members : ℕ) (table : Table) (script : List Command) (rows : List Row) (obeyed : Obeys members table script rows) → 1 ≤ members → members ≤ 7 → IsSound table → IsLegal members table rows
    → IsWithinBounds rows obeyed.after.standing.posted → (whole : IsWholeRun members table script rows) × (whole.obeyed ≡ obeyed)
script_whole members table script rows obeyed some few sound legal limits =
    let (log, is_log) = book_log members table rows few legal in
    is_whole members table script rows obeyed some few sound legal limits log is_log
