-- What a turn leaves of replicas, of their mails and of steps beside the book that are no turns yet.
use Rattle.std.proofs.Common.{◌≡◌, ◌≢◌, ℕ, ◌≤◌, Bool, true, List, [], ◌∷◌, ◌++◌, drop, Option, None, Some, refl, sym, ap, ◌∙◌, subst, append_assoc}
use Rattle.std.specs.Option.{option_to_list}
use Rattle.disk_model.specs.View.{DiskView}
use Rattle.cluster_sched.specs.declared.fate.Fate.{Fate}
use Rattle.cluster_sched.specs.declared.row.SchedRow.{SchedRow}
use Rattle.due_set.specs.Table.{Table}
use Rattle.launch_machine.specs.Clerk.{first_rows}
use Rattle.paxos_base.specs.declared.durable.Delta.{Delta}
use Rattle.step_spec.specs.State.{Identity}
use Rattle.step_spec.specs.Step.{Event}
use Rattle.step_spec.specs.declared.out.OutLetter.{OutLetter}
use Rattle.history.specs.Book.{Row, Standing, after_row, answer_to, standing_after, turn_of}
use Rattle.history.specs.declared.turn.CallRow.{CallRow}
use Rattle.history.specs.declared.turn.Cause.{Cause}
use Rattle.history.specs.declared.turn.Cause.TheVariants.{Campaign, Tick, Hear, Answer}
use Rattle.history.specs.declared.turn.Turn.{Turn}
use Rattle.history.specs.declared.turn.Turn.TheVariants.{Did, Stopped, Restarted, Arrived}
use Rattle.history.proofs.Keeping.{stands_next}
use Rattle.replica_core.specs.Replica.{ReplicaState}
use Rattle.replica_core.specs.declared.input.Input.{Input}
use Rattle.replica_node.specs.declared.node.Node.{Node}
use Rattle.replica_node.specs.Node.{replica_of}
use Rattle.script_semantics.specs.Situation.{Armed, Situation, after_turn, armed_after, arms_after, bases_with, calls_for, changes_in, fates_after, mails_after}
use Rattle.world_law.specs.Book.{BookState, StandsBehind, standing_behind}
use Rattle.world_law.specs.declared.letter.LetterRow.{LetterRow}
use Rattle.world_steps.specs.Nodes.{IsDiskAt, bases_behind}
use Rattle.world_steps.specs.Parts.{IsBookAt, IsMailOf, IsSentTo}
use Rattle.world_steps.specs.declared.mail.MemberMail.{MemberMail}
use Rattle.world_steps.proofs.Bases.{arm_spent, bases_here, bases_more, others_armed, others_keep}
use Rattle.world_steps.specs.Steps.{IsNodeAhead, IsNodeStopped, IsToldOf, TookSteps, causes_of, changes_of, heard_for, letters_heard_in, waits_in}
use Rattle.world_steps.specs.Turns.{HasJoinedAt, HasLetters, IsNextStep, fate_then, noted}
use Rattle.world_steps.specs.declared.steps.Taken.{Taken}
use Rattle.history.proofs.Standings.{fact_here, fact_there, is_another, waits_others}
use Rattle.world_law.proofs.Others.{others_run, others_stay}

-- ---- the others

-- A turn leaves a replica, its mail and the fate of its next call as they are, and what waits for it.
pub record Leaves (n : ℕ) (situation : Situation) (row : Row) (other : ℕ) : Type 0 where
  pub replica : (after_turn n situation row).standing.replicas other ≡ situation.standing.replicas other
  pub runs : (after_turn n situation row).standing.runs other ≡ situation.standing.runs other
  pub waits : (after_turn n situation row).standing.waits other ≡ situation.standing.waits other
  pub mail : (after_turn n situation row).mails other ≡ situation.mails other
  pub fate : (after_turn n situation row).fates other ≡ situation.fates other
  pub arm : (after_turn n situation row).arms other ≡ situation.arms other
  pub base : (after_turn n situation row).bases other ≡ situation.bases other

others_mail : (turn : Turn) (mails : ℕ → List ℕ) (other : ℕ) → turn_of turn ≢ Some other → mails_after turn mails other ≡ mails other
others_mail (Did who Campaign made) mails other differs = refl
others_mail (Did who (Tick now) made) mails other differs = refl
others_mail (Did who (Hear number) made) mails other differs = fact_there who _ mails other (is_another who other differs)
others_mail (Did who Answer made) mails other differs = refl
others_mail (Stopped who cause kept) mails other differs = fact_there who _ mails other (is_another who other differs)
others_mail (Restarted who) mails other differs = refl
others_mail (Arrived number) mails other differs = refl

others_fate : (turn : Turn) (fates : ℕ → Fate) (other : ℕ) → turn_of turn ≢ Some other → fates_after turn fates other ≡ fates other
others_fate (Did who cause None) fates other differs = refl
others_fate (Did who cause (Some made)) fates other differs = fact_there who _ fates other (is_another who other differs)
others_fate (Stopped who cause kept) fates other differs = refl
others_fate (Restarted who) fates other differs = refl
others_fate (Arrived number) fates other differs = refl

pub leaves_other : (n : ℕ) (situation : Situation) (row : Row) (other : ℕ) → turn_of row.turn ≢ Some other → Leaves n situation row other
leaves_other n situation row other differs = record {
  replica = others_stay n situation.standing row.turn row.event row.letters other differs;
  runs = others_run n situation.standing row.turn row.event row.letters other differs;
  waits = waits_others n situation.standing row.turn row.event row.letters other differs;
  mail = others_mail row.turn situation.mails other differs;
  fate = others_fate row.turn situation.fates other differs;
  arm = others_armed row.turn (changes_in n situation.standing row.turn row.event) situation.arms other differs;
  base = others_keep row.turn (changes_in n situation.standing row.turn row.event) situation.bases other differs;
}

-- an arrival leaves all
pub leaves_all : (n : ℕ) (situation : Situation) (row : Row) (number other : ℕ) → row.turn ≡ Arrived number → Leaves n situation row other
unfolding after_row
leaves_all n situation row number other is =
    record { replica = rw is refl; runs = rw is refl; waits = rw is refl; mail = rw is refl; fate = rw is refl; arm = rw is refl; base = rw is refl }

-- ---- steps that aren't turns yet

pub sent_later : (letters : List LetterRow) (after : BookState) (who number : ℕ) → HasLetters letters after → IsSentTo letters who number → IsSentTo after.letters who number
sent_later letters after who number has sent = record { letter = sent.letter; there = has number sent.letter sent.there; to = sent.to }

pub told_later : (letters : List LetterRow) (after : BookState) (waits later : Option SchedRow) (who : ℕ) (cause : Cause) (input : Input) → HasLetters letters after
    → ((row : SchedRow) → waits ≡ Some row → later ≡ Some row) → IsToldOf letters waits who cause input → IsToldOf after.letters later who cause input
unfolding sent_later
told_later letters after waits later who Campaign input has waiting told = told
told_later letters after waits later who (Tick now) input has waiting told = told
told_later letters after waits later who (Hear number) input has waiting told = record { sent = sent_later letters after who number has told.sent; is = told.is }
told_later letters after waits later who Answer input has waiting told = record { row = told.row; waiting = waiting told.row told.waiting; is = told.is }

pub took_later : (table : Table) (letters : List LetterRow) (after : BookState) (waits later : Option SchedRow) (who : ℕ) (steps : List Taken) (old new : ReplicaState) → HasLetters letters after
    → ((row : SchedRow) → waits ≡ Some row → later ≡ Some row) → TookSteps table letters waits who steps old new → TookSteps table after.letters later who steps old new
took_later table letters after waits later who [] old new has waiting took = took
took_later table letters after waits later who (taken ∷ more) old new has waiting took = (
  took.0,
  record { input = took.1.input; is_told = told_later letters after waits later who taken.cause took.1.input has waiting took.1.is_told; inside = took.1.inside; steps = took.1.steps },
  took_later table letters after None None who more took.0 new has (λ row is. is) took.2,
)

-- ---- a replica after a turn

-- what stands after one row more
pub stands_after : (table : Table) (rows : List Row) (row : Row) (book after : BookState) (situation : Situation) → IsBookAt table rows book situation → after.members ≡ book.members
    → standing_behind table (rows ++ row ∷ []) after ≡ (after_turn book.members situation row).standing
stands_after table rows row book after situation at members =
    ap (λ n. standing_after n (first_rows table) (rows ++ row ∷ [])) members ∙ stands_next book.members (first_rows table) rows row
    ∙ ap (λ s. after_row book.members s row.turn row.event row.letters) (sym at.standing)

module _ {D : Type 0} (view : DiskView D) (table : Table) where
  pub node_stays : (rows : List Row) (row : Row) (book after : BookState) (other : ℕ) (steps : List Taken) (node : Node D) → after.members ≡ book.members → HasLetters book.letters after
      → (standing_behind table (rows ++ row ∷ []) after).replicas other ≡ (standing_behind table rows book).replicas other
      → (standing_behind table (rows ++ row ∷ []) after).runs other ≡ true → (standing_behind table (rows ++ row ∷ []) after).waits other ≡ (standing_behind table rows book).waits other
      → bases_behind table (rows ++ row ∷ []) after other ≡ bases_behind table rows book other
      → IsNodeAhead view table rows book other steps node → IsNodeAhead view table (rows ++ row ∷ []) after other steps node
  node_stays rows row book after other steps node members has replica runs waits bases ahead = record {
    at_rest = ahead.at_rest;
    trusted = ahead.trusted;
    disk = subst (λ (count : ℕ). IsDiskAt view (bases_with (changes_of steps) count) node) (sym bases) ahead.disk;
    first = ahead.first;
    stands = record {
      identity = rw members ahead.stands.identity;
      member = rw members ahead.stands.member;
      runs = rw ahead.me runs;
      state = ahead.stands.state ∙ ap (standing_behind table rows book).replicas ahead.me ∙ sym replica ∙ sym (ap (standing_behind table (rows ++ row ∷ []) after).replicas ahead.me);
      of_table = ahead.stands.of_table;
    };
    me = ahead.me;
    took = took_later table book.letters after (waits_in table rows book other) (waits_in table (rows ++ row ∷ []) after other) other steps ahead.first (replica_of node) has (λ row is. waits ∙ is) ahead.took;
  }

  -- the node of a replica that is stopped keeps what the replica does
  pub stopped_stays : (members count other : ℕ) (old new : Standing) (before after : ℕ) (steps : List Taken) (node : Node D) → count ≡ members → new.replicas other ≡ old.replicas other → after ≡ before
      → IsNodeStopped view table members old before other steps node → IsNodeStopped view table count new after other steps node
  stopped_stays members count other old new before after steps node same replica bases was = record {
    at_rest = was.at_rest;
    trusted = was.trusted;
    disk = subst (λ (count : ℕ). IsDiskAt view count node) (sym bases) was.disk;
    identity = rw same was.identity;
    none = was.none;
    kept = replica ∙ was.kept;
  }

pub mail_stays : (n : ℕ) (situation : Situation) (row : Row) (other : ℕ) (heard : List ℕ) (letters : List LetterRow) (after : BookState) (mail : MemberMail) → HasLetters letters after
    → Leaves n situation row other → IsMailOf letters situation other heard mail → IsMailOf after.letters (after_turn n situation row) other heard mail
mail_stays n situation row other heard letters after mail has leaves is = record {
  runs = is.runs ∙ sym leaves.runs;
  letters_are = leaves.mail ∙ is.letters_are;
  skew = is.skew;
  small = is.small;
  fate = is.fate ∙ sym leaves.fate;
  waits = is.waits ∙ sym leaves.waits;
  arm = is.arm ∙ sym leaves.arm;
  sent = λ number there. sent_later letters after other number has (is.sent number there);
}

-- ---- the replica that took the turn

pub did_runs : (n : ℕ) (s : Standing) (who : ℕ) (cause : Cause) (made : Option CallRow) (event : Event) (letters : List OutLetter) → (after_row n s (Did who cause made) event letters).runs ≡ s.runs
unfolding after_row
did_runs n s who cause made event letters = refl

pub row_runs : (n : ℕ) (s : Standing) (row : Row) (who : ℕ) (cause : Cause) (made : Option CallRow) → row.turn ≡ Did who cause made
    → (after_row n s row.turn row.event row.letters).runs ≡ s.runs
row_runs n s row who cause made turn = ap (λ turn. (after_row n s turn row.event row.letters).runs) turn ∙ did_runs n s who cause made row.event row.letters

pub did_waits : (n : ℕ) (s : Standing) (who : ℕ) (cause : Cause) (made : Option CallRow) (event : Event) (letters : List OutLetter)
    → (after_row n s (Did who cause made) event letters).waits who ≡ answer_to made
unfolding after_row
did_waits n s who cause made event letters = fact_here who (answer_to made) s.waits

pub did_fate : (who : ℕ) (cause : Cause) (made : Option CallRow) (fates : ℕ → Fate) → fates_after (Did who cause made) fates who ≡ fate_then made (fates who)
did_fate who cause None fates = refl
did_fate who cause (Some made) fates = fact_here who _ fates

-- and the disk has so many calls less left, where it is armed
pub did_arm : (who : ℕ) (cause : Cause) (made : Option CallRow) (changes : List Delta) (arms : ℕ → Option Armed) → arms_after (Did who cause made) changes arms who ≡ armed_after changes (arms who)
did_arm who cause made changes arms = fact_here who (armed_after changes (arms who)) arms

-- the letter that is heard leaves the mail
pub did_mail : (who : ℕ) (cause : Cause) (made : Option CallRow) (mails : ℕ → List ℕ) (rest : List ℕ) → mails who ≡ heard_for cause ++ rest
    → mails_after (Did who cause made) mails who ≡ rest
did_mail who Campaign made mails rest is = is
did_mail who (Tick now) made mails rest is = is
did_mail who (Hear number) made mails rest is = fact_here who (drop 1 (mails who)) mails ∙ ap (drop 1) is
did_mail who Answer made mails rest is = is

-- its mail has lost the letter that it heard, and an answer of its call waits for it
pub mail_did : (n : ℕ) (situation : Situation) (row : Row) (who : ℕ) (taken : Taken) (more : List Taken) (made : Option CallRow) (letters : List LetterRow) (after : BookState) (mail : MemberMail)
    → row.turn ≡ Did who taken.cause made → changes_in n situation.standing row.turn row.event ≡ option_to_list taken.out.delta
    → HasLetters letters after → IsMailOf letters situation who (letters_heard_in (causes_of (taken ∷ more))) mail
    → IsMailOf after.letters (after_turn n situation row) who (letters_heard_in (causes_of more)) (noted made (calls_for (option_to_list taken.out.delta)) mail)
mail_did n situation row who taken more made letters after mail turn changes has is = record {
  runs = is.runs ∙ sym (ap (λ (runs : ℕ → Bool). runs who) (row_runs n situation.standing row who taken.cause made turn));
  letters_are =
      ap (λ turn. mails_after turn situation.mails who) turn
      ∙ did_mail who taken.cause made situation.mails (letters_heard_in (causes_of more) ++ mail.letters.items)
      (is.letters_are ∙ append_assoc (heard_for taken.cause) (letters_heard_in (causes_of more)) mail.letters.items);
  skew = is.skew;
  small = is.small;
  fate = ap (fate_then made) is.fate ∙ sym (did_fate who taken.cause made situation.fates) ∙ sym (ap (λ turn. fates_after turn situation.fates who) turn);
  waits = sym (ap (λ turn. (after_row n situation.standing turn row.event row.letters).waits who) turn ∙ did_waits n situation.standing who taken.cause made row.event row.letters);
  arm =
      arm_spent (option_to_list taken.out.delta) mail.arm
      ∙ ap (armed_after (option_to_list taken.out.delta)) is.arm
      ∙ sym (did_arm who taken.cause made (option_to_list taken.out.delta) situation.arms)
      ∙ ap (λ (deltas : List Delta). arms_after (Did who taken.cause made) deltas situation.arms who) (sym changes)
      ∙ ap (λ (had : Turn). arms_after had (changes_in n situation.standing row.turn row.event) situation.arms who) (sym turn);
  sent = λ number there. sent_later letters after who number has (is.sent number there);
}

module _ {D : Type 0} (view : DiskView D) (table : Table) where
  -- its first step may become a turn
  pub next_step : (rows : List Row) (book : BookState) (situation : Situation) (who : ℕ) (taken : Taken) (more : List Taken) (node : Node D) → IsBookAt table rows book situation
      → (ahead : IsNodeAhead view table rows book who (taken ∷ more) node) → IsNextStep table rows book who taken ahead.first ahead.took.0
  next_step rows book situation who taken more node at ahead =
      record { behind = at.behind; rest = at.rest; few = at.few; stands = ahead.stands; me = ahead.me; step = ahead.took.1 }

  -- and is a turn then: the node is ahead by the other steps
  pub node_did : (rows : List Row) (book after : BookState) (who : ℕ) (taken : Taken) (more : List Taken) (made : Option CallRow) (node : Node D)
      → StandsBehind table rows book → book.pending ≡ None → book.members ≤ 7 → (ahead : IsNodeAhead view table rows book who (taken ∷ more) node) → (joined : HasJoinedAt table rows book after who taken made ahead.took.0)
      → IsNodeAhead view table (rows ++ joined.row ∷ []) after who more node
  node_did rows book after who taken more made node behind rest few ahead joined = record {
    at_rest = ahead.at_rest;
    trusted = ahead.trusted;
    disk = subst (λ (count : ℕ). IsDiskAt view count node) (sym bases) ahead.disk;
    first = ahead.took.0;
    stands = joined.stands;
    me = ap (λ (self : Identity). self.me) ahead.took.1.steps.took.identity ∙ ahead.me;
    took = took_later table book.letters after None (waits_in table (rows ++ joined.row ∷ []) after who) who more ahead.took.0 (replica_of node) joined.joined.has (λ row is. absurd cc) ahead.took.2;
  }
    where
      next : IsNextStep table rows book who taken ahead.first ahead.took.0
      next = record { behind = behind; rest = rest; few = few; stands = ahead.stands; me = ahead.me; step = ahead.took.1 }

      bases : bases_with (changes_of more) (bases_behind table (rows ++ joined.row ∷ []) after who) ≡ bases_with (changes_of (taken ∷ more)) (bases_behind table rows book who)
      bases =
          ap (bases_with (changes_of more)) (bases_here table rows book after who taken ahead.first ahead.took.0 made joined.row next joined.joined)
          ∙ sym (bases_more (option_to_list taken.out.delta) (changes_of more) (bases_behind table rows book who))
