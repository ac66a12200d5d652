-- The log of a book goes on: what was in it stays, and what one of its entries was voted for.
use Rattle.std.proofs.Common.{◌≡◌, ℕ, suc, ◌+◌, ◌≤◌, List, [], ◌∷◌, ◌++◌, length, drop, sym, ap, ◌∙◌, arith, subst, append_assoc}
use Rattle.std.specs.List.{Contains}
use Rattle.std.proofs.lemmas.List.{take-append-drop}
use Rattle.paxos_base.specs.declared.entry.Entry.{Entry}
use Rattle.due_set.specs.Table.{Table}
use Rattle.launch_machine.specs.Clerk.{first_rows}
use Rattle.step_spec.specs.State.{State}
use Rattle.agreement.specs.Agree.{IsChosen, vote_for}
use Rattle.agreement.specs.Log.{AreChosen, IsLog}
use Rattle.agreement.specs.World.{CastVote}
use Rattle.agreement.proofs.LogLemmas.{chosen_front, chosen_short}
use Rattle.history.specs.Book.{Row, standing_after, votes_in}
use Rattle.history.specs.Legal.{IsLegal}
use Rattle.agreement.proofs.Tables.{known_chosen, chosen_append}
use Rattle.history.proofs.BookLemmas.{stands}

-- votes are among others
abbrev pub AreAmong : List CastVote → List CastVote → Type 0
AreAmong cast more = (vote : CastVote) → Contains cast vote → Contains more vote

chosen_more : (n : ℕ) (cast more : List CastVote) (slot : ℕ) (entry : Entry) → AreAmong cast more → IsChosen n cast slot entry → IsChosen n more slot entry
chosen_more n cast more slot entry among chosen = record {
  ballot = chosen.ballot;
  voters = chosen.voters;
  below = chosen.below;
  majority = chosen.majority;
  each = λ by has. among (record { by = by; vote = vote_for slot chosen.ballot entry }) (chosen.each by has);
}

are_chosen_more : (n : ℕ) (cast more : List CastVote) (slot : ℕ) (entries : List Entry) → AreAmong cast more → AreChosen n cast slot entries → AreChosen n more slot entries
are_chosen_more n cast more slot [] among chosen = tt
are_chosen_more n cast more slot (entry ∷ entries) among chosen =
    (chosen_more n cast more slot entry among chosen.0, are_chosen_more n cast more (slot + 1) entries among chosen.1)

-- the log of fewer votes is a front of that of more
pub log_goes_on : (n : ℕ) (table : Table) (book : List Row) (cast : List CastVote) (log later : List Entry) → n ≤ 7 → IsLegal n table book → AreAmong cast (votes_in book)
    → IsLog n cast log → IsLog n (votes_in book) later → (more : List Entry) × (later ≡ log ++ more)
log_goes_on n table book cast log later few legal among is_log is_later =
    let there = stands n table book few legal in
    let chosen : AreChosen n there.w.cast 0 log = subst (λ some. AreChosen n some 0 log) (sym there.matches.cast) (are_chosen_more n cast (votes_in book) 0 log among is_log.chosen) in
    let whole : IsLog n there.w.cast later = subst (λ some. IsLog n some later) (sym there.matches.cast) is_later in
    let short = chosen_short n there.w log later chosen whole in
    let front = chosen_front n there.w 0 log later there.followed.whole.kept there.followed.whole.safe chosen whole.chosen short in
    (drop (length log) later, sym (take-append-drop (length log) later) ∙ ap (λ some. some ++ drop (length log) later) front)

-- an entry among chosen ones was chosen for its slot
pub chosen_there : (n : ℕ) (cast : List CastVote) (slot : ℕ) (before after : List Entry) (entry : Entry) → AreChosen n cast slot (before ++ entry ∷ after) → IsChosen n cast (slot + length before) entry
chosen_there n cast slot [] after entry chosen = let at : slot + 0 ≡ slot = omega arith in rw at chosen.0
chosen_there n cast slot (first ∷ before) after entry chosen =
    let at : slot + 1 + length before ≡ slot + suc (length before) = omega arith in
    rw (← at) (chosen_there n cast (slot + 1) before after entry chosen.1)

-- ---- what a replica has learned

-- the entries stand in the log from that slot on
pub record StandAt (log : List Entry) (slot : ℕ) (entries : List Entry) : Type 0 where
  pub before : List Entry
  pub after : List Entry
  pub parts : log ≡ before ++ (entries ++ after)
  pub long : length before ≡ slot

-- what a replica has learned stands in the log from its base on
pub learned_stands : (n : ℕ) (table : Table) (book : List Row) (log : List Entry) (who : ℕ) → n ≤ 7 → IsLegal n table book → IsLog n (votes_in book) log
    → StandAt log ((standing_after n (first_rows table) book).replicas who).kept.base ((standing_after n (first_rows table) book).replicas who).learned
learned_stands n table book log who few legal is_log =
    let there = stands n table book few legal in
    let state = there.w.replicas who in
    let base = there.followed.tables.bases who in
    let at : 0 + length base.entries ≡ state.kept.base = omega (arith, base.long) in
    let learned = known_chosen n there.w.cast state.kept.base state.learned (there.followed.whole.known.learned who) in
    let chosen : AreChosen n there.w.cast 0 (base.entries ++ state.learned) = chosen_append n there.w.cast 0 base.entries state.learned base.chosen (rw at learned) in
    let whole : IsLog n there.w.cast log = subst (λ some. IsLog n some log) (sym there.matches.cast) is_log in
    let short = chosen_short n there.w (base.entries ++ state.learned) log chosen whole in
    let front = chosen_front n there.w 0 (base.entries ++ state.learned) log there.followed.whole.kept there.followed.whole.safe chosen whole.chosen short in
    let more = drop (length (base.entries ++ state.learned)) log in
    subst (λ (s : State). StandAt log s.kept.base s.learned) (there.matches.replicas who) (record {
      before = base.entries;
      after = more;
      parts = sym (take-append-drop (length (base.entries ++ state.learned)) log) ∙ ap (λ some. some ++ more) front ∙ append_assoc base.entries state.learned more;
      long = base.long;
    })
