-- A round of a legal book without a fault is a synchronous round.
use Rattle.std.proofs.Common.{◌≡◌, ℕ, ◌<◌, List, [], ◌++◌, length, ℤ, pos, refl, sym, ap, ◌∙◌, arith, subst}
use Rattle.std.proofs.lemmas.Int.{ints, clamps}
use Rattle.std.specs.List.{AllZip}
use Rattle.due_set.specs.Table.{Table}
use Rattle.launch_machine.specs.Clerk.{first_rows, table_size}
use Rattle.zone_minutes.specs.Window.{IsInWindow}
use Rattle.zone_minutes.specs.declared.minute.Window.{Window}
use Rattle.step_spec.specs.Coherent.{IsCoherent}
use Rattle.agreement.specs.Transition.{identity_of}
use Rattle.history.specs.Book.{PostedLetter, Row, Standing, standing_after}
use Rattle.history.proofs.Turns.{AllFollow, all_follow}
use Rattle.synchronous_rounds.specs.Cluster.{Cluster, cluster_round}
use Rattle.script_semantics.specs.Round.{clock_reading, tasks_of}
use Rattle.script_semantics.specs.Situation.{Situation, after_turns, delivered, letters_for}
use Rattle.settling.specs.Rounds.{GoesRound, IsFaultless, IsWithinBounds, StandsForRound}
use Rattle.settling.specs.Stands.{IsLetterAt, StandsForCluster}
use Rattle.settling.proofs.AllLemmas.{BeginsPart, HadPart, HadParts, all_parts}
use Rattle.history.proofs.FrontLemmas.{front_legal}
use Rattle.settling.proofs.BookLemmas.{book_coherent, letters_are_whole, stand_after}
use Rattle.settling.proofs.DeliverLemmas.{letters_join}
use Rattle.settling.proofs.PassLemmas.{whole_right}
use Rattle.settling.proofs.PostLemmas.{AreWhole}

-- a clock that is right reads the instant
reads_right : (window : Window) (at : ℤ) → IsInWindow window at → (clock_reading window at (pos 0)).0 ≡ at
reads_right window at within =
    let low = within.since in
    let high = within.before in
    omega (arith, ints, clamps, low, high)

-- a replica at the beginning of the round
begins : (members : ℕ) (table : Table) (at : ℤ) (book rows : List Row) (situation after : Situation) (cluster : Cluster) → GoesRound members table at book rows situation after
    → StandsForCluster members (table_size table) situation cluster → (who : ℕ) → who < members
    → BeginsPart members table at (tasks_of table.window at situation) cluster situation who
begins members table at book rows situation after cluster goes there who member =
    let runs = goes.faultless.runs who member in
    let now = clock_reading table.window at (situation.skews who) in
    record {
      replica = sym (there.replicas who member);
      waits = sym (there.waits who member);
      letters = there.mails who member;
      done = goes.faultless.done who member;
      now = now;
      reads = ap (λ skew. (clock_reading table.window at skew).0) (goes.faultless.right who member) ∙ reads_right table.window at goes.within;
      tasks_are = rw (runs, there.waits who member) refl;
    }

-- what all have done
parts_of : (members : ℕ) (table : Table) (at : ℤ) (book rows : List Row) (situation after : Situation) (cluster : Cluster) → GoesRound members table at book rows situation after
    → StandsForCluster members (table_size table) situation cluster → HadParts members table at 0 members cluster situation rows
parts_of members table at book rows situation after cluster goes there =
    all_parts members table at 0 members (tasks_of table.window at situation) cluster situation rows
    (λ who least below. begins members table at book rows situation after cluster goes there who (omega (arith, below)))
    goes.round.turns
    (subst (λ standing. AllFollow members table standing rows) (sym goes.standing) (all_follow members table book rows goes.legal))

-- what was posted in the round is heard whole
posted_whole : (members : ℕ) (table : Table) (at : ℤ) (book rows : List Row) (situation after : Situation) (more : List PostedLetter) → GoesRound members table at book rows situation after
    → (after_turns members situation rows).standing.posted ≡ situation.standing.posted ++ more → AreWhole members (table_size table) more
posted_whole members table at book rows situation after more goes posted =
    let size = table_size table in
    let all = (standing_after members (first_rows table) (book ++ rows)).posted in
    let stood : (after_turns members situation rows).standing ≡ standing_after members (first_rows table) (book ++ rows) = stand_after members table book rows situation goes.standing in
    let same : after.standing.posted ≡ all = ap (λ (s : Situation). s.standing.posted) goes.round.is ∙ ap (λ (s : Standing). s.posted) stood in
    let parts : all ≡ situation.standing.posted ++ more = ap (λ (s : Standing). s.posted) (sym stood) ∙ posted in
    let whole = letters_are_whole members table (book ++ rows) goes.few goes.sound goes.legal (subst (λ list. IsWithinBounds (book ++ rows) list) same goes.limits) in
    whole_right members size situation.standing.posted more (subst (λ list. AreWhole members size list) parts whole)

-- the mails after the round
mails_then : (members : ℕ) (table : Table) (at : ℤ) (book rows : List Row) (situation after : Situation) (cluster : Cluster) → GoesRound members table at book rows situation after
    → (had : HadParts members table at 0 members cluster situation rows) → (who : ℕ) → who < members
    → AllZip (IsLetterAt members (table_size table) after.standing.posted who) (after.mails who) ((cluster_round members at had.advice had.answers cluster).mails who)
mails_then members table at book rows situation after cluster goes had who member =
    let size = table_size table in
    let letters = (cluster_round members at had.advice had.answers cluster).mails who in
    let first = length situation.standing.posted in
    let is : after ≡ delivered first had.later = goes.round.is ∙ ap (λ (s : Situation). delivered first s) had.is in
    let whole = posted_whole members table at book rows situation after had.more goes (ap (λ (s : Situation). s.standing.posted) had.is ∙ had.posted) in
    let joined = letters_join members size had.later situation.standing.posted had.more who letters had.posted
    (ap (λ runs. runs who) had.runs ∙ goes.faultless.runs who member) (had.cuts ∙ goes.faultless.uncut) (had.letters whole who member) in
    let none : had.later.mails who ≡ [] = (had.own who (omega arith) (omega (arith, member))).mailed in
    let mail : after.mails who ≡ letters_for had.later first who =
    ap (λ (s : Situation). s.mails who) is ∙ ap (λ list. list ++ letters_for had.later first who) none in
    subst (λ list. AllZip (IsLetterAt members size after.standing.posted who) list letters) (sym mail)
    (subst (λ posted. AllZip (IsLetterAt members size posted who) (letters_for had.later first who) letters) (ap (λ (s : Situation). s.standing.posted) (sym is)) joined)

pub round_is_synchronous : (members : ℕ) (table : Table) (at : ℤ) (book rows : List Row) (situation after : Situation) (cluster : Cluster) → GoesRound members table at book rows situation after
    → StandsForCluster members (table_size table) situation cluster → StandsForRound members table at cluster after
round_is_synchronous members table at book rows situation after cluster goes there =
    let had = parts_of members table at book rows situation after cluster goes there in
    let own : (who : ℕ) → who < members → HadPart members table at cluster had.later who (had.advice who) (had.answers who) =
    λ who member. had.own who (omega arith) (omega (arith, member)) in
    let is : after.standing ≡ had.later.standing = ap (λ (s : Situation). s.standing) (goes.round.is ∙ ap (λ (s : Situation). delivered (length situation.standing.posted) s) had.is) in
    record {
      advice = had.advice;
      answers = had.answers;
      advised = record {
        coherent = λ who member. subst (λ s. IsCoherent (identity_of members who) s)
            (ap (λ (s : Standing). s.replicas who) (sym goes.standing) ∙ sym (there.replicas who member))
            (book_coherent members table book who goes.few (front_legal members table book rows goes.legal) member);
        planned = λ who member. (own who member).planned;
      };
      answered = λ who member. (own who member).answered;
      stands = record {
        replicas = λ who member. sym (ap (λ (s : Standing). s.replicas who) is ∙ (own who member).replica);
        waits = λ who member. sym (ap (λ (s : Standing). s.waits who) is ∙ (own who member).waits);
        mails = λ who member. mails_then members table at book rows situation after cluster goes had who member;
      };
    }

pub round_leaves_no_fault : (members : ℕ) (table : Table) (at : ℤ) (book rows : List Row) (situation after : Situation) (cluster : Cluster) → GoesRound members table at book rows situation after
    → StandsForCluster members (table_size table) situation cluster → IsFaultless members after
round_leaves_no_fault members table at book rows situation after cluster goes there =
    let had = parts_of members table at book rows situation after cluster goes there in
    let is : after ≡ delivered (length situation.standing.posted) had.later = goes.round.is ∙ ap (λ (s : Situation). delivered (length situation.standing.posted) s) had.is in
    record {
      runs = λ who member. ap (λ (s : Situation). s.standing.runs who) is ∙ ap (λ runs. runs who) had.runs ∙ goes.faultless.runs who member;
      uncut = ap (λ (s : Situation). s.cuts) is ∙ had.cuts ∙ goes.faultless.uncut;
      right = λ who member. ap (λ (s : Situation). s.skews who) is ∙ ap (λ skews. skews who) had.skews ∙ goes.faultless.right who member;
      done = λ who member. ap (λ (s : Situation). s.fates who) is ∙ had.done who (goes.faultless.done who member);
    }
