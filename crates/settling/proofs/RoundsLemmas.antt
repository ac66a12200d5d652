-- Rounds of a legal book, one after another, are synchronous rounds.
use Rattle.std.proofs.Common.{◌≡◌, ℕ, zero, suc, List, [], ◌∷◌, ◌++◌, append_assoc, append-nil, ℤ, sym, ap, ◌∙◌, arith, subst}
use Rattle.std.specs.List.{Contains}
use Rattle.std.proofs.lemmas.List.{length-append}
use Rattle.std.proofs.lemmas.List.Elements.{Contains-append_left}
use Rattle.std.proofs.lemmas.List.Sums.{fold-append}
use Rattle.due_set.specs.Table.{Table}
use Rattle.launch_machine.specs.Clerk.{first_rows, table_size}
use Rattle.history.specs.Book.{PostedLetter, Row, Standing, after_row, first_standing, post, standing_after}
use Rattle.history.specs.Legal.{IsLegal}
use Rattle.history.specs.declared.turn.Turn.{Turn}
use Rattle.history.specs.declared.turn.Turn.TheVariants.{Did, Stopped, Restarted, Arrived}
use Rattle.history.proofs.Turns.{after_rows}
use Rattle.step_spec.specs.Step.{Event}
use Rattle.step_spec.specs.declared.out.OutLetter.{OutLetter}
use Rattle.synchronous_rounds.specs.Cluster.{Cluster}
use Rattle.script_semantics.specs.Arms.{AreRoundsByArms, AreUnarmed, PlaysByArms}
use Rattle.script_semantics.specs.Parts.{Then}
use Rattle.script_semantics.specs.Round.{round_tasks}
use Rattle.script_semantics.specs.Situation.{Performs, Situation}
use Rattle.script_semantics.proofs.ArmsLemmas.{unarmed_performed, unarmed_performs}
use Rattle.settling.specs.Rounds.{GoesRound, GoesRounds, IsWithinBounds, StandsForRounds}
use Rattle.settling.specs.Stands.{StandsForCluster}
use Rattle.history.proofs.FrontLemmas.{front_legal}
use Rattle.settling.proofs.BookLemmas.{stand_after}
use Rattle.settling.proofs.ClusterLemmas.{round_is_synchronous, round_leaves_no_fault}

-- what was posted stays posted
posted_stays : (members : ℕ) (standing : Standing) (turn : Turn) (event : Event) (letters : List OutLetter) (letter : PostedLetter)
    → Contains standing.posted letter → Contains (after_row members standing turn event letters).posted letter
unfolding after_row
posted_stays members standing (Did who cause made) event letters letter has = Contains-append_left standing.posted (post who letters) letter has
posted_stays members standing (Stopped who cause kept) event letters letter has = has
posted_stays members standing (Restarted who) event letters letter has = has
posted_stays members standing (Arrived number) event letters letter has = has

posted_on : (members : ℕ) (letter : PostedLetter) (standing : Standing) (rows : List Row) → Contains standing.posted letter → Contains (after_rows members standing rows).posted letter
posted_on members letter standing [] has = has
posted_on members letter standing (row ∷ rows) has =
    posted_on members letter (after_row members standing row.turn row.event row.letters) rows (posted_stays members standing row.turn row.event row.letters letter has)

-- what stands after some tasks of a book
performed_stands : (members : ℕ) (table : Table) (at : ℤ) (book rows : List Row) (situation after : Situation) → PlaysByArms members (round_tasks members table.window at) situation rows after
    → situation.standing ≡ standing_after members (first_rows table) book → after.standing ≡ standing_after members (first_rows table) (book ++ rows)
performed_stands members table at book rows situation after round is =
    ap (λ (s : Situation). s.standing) round.is ∙ stand_after members table book rows situation is

rounds_stand : (members : ℕ) (table : Table) (at : ℤ) (rounds : ℕ) (book rows : List Row) (situation after : Situation) → AreRoundsByArms members table.window at rounds situation rows after
    → situation.standing ≡ standing_after members (first_rows table) book → after.standing ≡ standing_after members (first_rows table) (book ++ rows)
rounds_stand members table at zero book rows situation after stays is =
    ap (λ (s : Situation). s.standing) stays.is ∙ is ∙ ap (standing_after members (first_rows table)) (sym (ap (λ list. book ++ list) stays.none ∙ append-nil book))
rounds_stand members table at (suc more) book rows situation after parts is =
    rounds_stand members table at more (book ++ parts.front) parts.back parts.middle after parts.two
    (performed_stands members table at book parts.front situation parts.middle parts.one is)
    ∙ ap (standing_after members (first_rows table)) (append_assoc book parts.front parts.back ∙ ap (λ list. book ++ list) (sym parts.parts))

-- a front of a book is within the limits of the book
pub front_bounds : (members : ℕ) (table : Table) (book rows : List Row) → IsWithinBounds (book ++ rows) (standing_after members (first_rows table) (book ++ rows)).posted
    → IsWithinBounds book (standing_after members (first_rows table) book).posted
front_bounds members table book rows bounds =
    let long = length-append book rows in
    let turns = bounds.turns in
    let start = first_standing members (first_rows table) in
    record {
      turns = omega (arith, long, turns);
      letters = λ letter has. bounds.letters letter
          (subst (λ (s : Standing). Contains s.posted letter) (sym (fold-append (λ (standing : Standing) (row : Row). after_row members standing row.turn row.event row.letters) start book rows))
          (posted_on members letter (standing_after members (first_rows table) book) rows has));
    }

-- the first round of some, where no disk is armed
unarmed_round : (members : ℕ) (table : Table) (at : ℤ) (situation after : Situation) (rows : List Row) → AreUnarmed situation
    → PlaysByArms members (round_tasks members table.window at) situation rows after → Performs members (round_tasks members table.window at situation) situation rows after
unarmed_round members table at situation after rows none round = unarmed_performs members (round_tasks members table.window at situation) situation after rows none round

first_round : (members : ℕ) (table : Table) (at : ℤ) (more : ℕ) (book rows : List Row) (situation after : Situation) → GoesRounds members table at (suc more) book rows situation after
    → AreUnarmed situation
    → (parts : Then (PlaysByArms members (round_tasks members table.window at)) (AreRoundsByArms members table.window at more) situation rows after)
    → GoesRound members table at book parts.front situation parts.middle
first_round members table at more book rows situation after goes none parts =
    let whole : book ++ rows ≡ (book ++ parts.front) ++ parts.back = ap (λ list. book ++ list) parts.parts ∙ sym (append_assoc book parts.front parts.back) in
    let stands = rounds_stand members table at (suc more) book rows situation after parts goes.standing in
    let bounds = subst (λ list. IsWithinBounds list (standing_after members (first_rows table) list).posted) whole
    (subst (λ (s : Standing). IsWithinBounds (book ++ rows) s.posted) stands goes.limits) in
    record {
      few = goes.few;
      sound = goes.sound;
      within = goes.within;
      legal = front_legal members table (book ++ parts.front) parts.back (subst (λ list. IsLegal members table list) whole goes.legal);
      standing = goes.standing;
      faultless = goes.faultless;
      round = unarmed_round members table at situation parts.middle parts.front none parts.one;
      limits = subst (λ (s : Standing). IsWithinBounds (book ++ parts.front) s.posted) (sym (performed_stands members table at book parts.front situation parts.middle parts.one goes.standing))
          (front_bounds members table (book ++ parts.front) parts.back bounds);
    }

pub rounds_are_synchronous : (members : ℕ) (table : Table) (at : ℤ) (rounds : ℕ) (book rows : List Row) (situation after : Situation) (cluster : Cluster) → GoesRounds members table at rounds book rows situation after
    → AreUnarmed situation → StandsForCluster members (table_size table) situation cluster → StandsForRounds members table at rounds cluster after
rounds_are_synchronous members table at zero book rows situation after cluster goes none there =
    subst (λ (s : Situation). StandsForCluster members (table_size table) s cluster) (sym goes.round.is) there
rounds_are_synchronous members table at (suc more) book rows situation after cluster goes none there =
    let parts = goes.round in
    let whole : book ++ rows ≡ (book ++ parts.front) ++ parts.back = ap (λ list. book ++ list) parts.parts ∙ sym (append_assoc book parts.front parts.back) in
    let first = first_round members table at more book rows situation after goes none parts in
    let one = round_is_synchronous members table at book parts.front situation parts.middle cluster first there in (
      one.advice,
      one.answers,
      one.advised,
      one.answered,
      rounds_are_synchronous members table at more (book ++ parts.front) parts.back parts.middle after _
          (record {
            few = goes.few;
            sound = goes.sound;
            within = goes.within;
            legal = subst (λ list. IsLegal members table list) whole goes.legal;
            standing = performed_stands members table at book parts.front situation parts.middle parts.one goes.standing;
            faultless = round_leaves_no_fault members table at book parts.front situation parts.middle cluster first there;
            round = parts.two;
            limits = subst (λ list. IsWithinBounds list after.standing.posted) whole goes.limits;
          })
          (unarmed_performed members (round_tasks members table.window at situation) situation parts.middle parts.front none first.round)
          one.stands,
    )
