-- Rows that have the same turns and come to the same.
use Rattle.std.proofs.Common.{◌≡◌, ℕ, List, [], ◌∷◌, ◌++◌, length, map, take, append_assoc, refl, sym, subst, ap, ◌∙◌}
use Rattle.std.specs.Prelude.{⊤}
use Rattle.std.proofs.lemmas.List.{map-append}
use Rattle.std.proofs.Math.Seq.{take-append_seam}
use Rattle.due_set.specs.Table.{Table}
use Rattle.launch_machine.specs.Clerk.{first_rows}
use Rattle.paxos_base.specs.declared.durable.Delta.{Delta}
use Rattle.history.specs.Book.{Row, Standing, after_row, standing_after}
use Rattle.history.specs.Legal.{IsLegal, MayFollow}
use Rattle.history.specs.declared.turn.Turn.{Turn}
use Rattle.history.proofs.Agreement.{cut_is_legal}
use Rattle.history.proofs.Keeping.{stands_next}
use Rattle.script_semantics.specs.Situation.{Situation, after_turn, after_turns, arms_after, bases_kept, changes_in, fates_after, latest_after, mails_after}
use Rattle.world_law.proofs.Settled.{turns_settle}
use Rattle.history.proofs.FrontLemmas.{follows_there as may_next}
use Rattle.script_semantics.proofs.TurnLemmas.{same_changes}

-- from a standing on, the turns are the same, change the same and come to the same
abbrev pub AreTwins : ℕ → Standing → List Row → List Row → Type 0
AreTwins members standing [] [] = ⊤
AreTwins members standing [] (other ∷ others) = ⊥
AreTwins members standing (row ∷ rows) [] = ⊥
AreTwins members standing (row ∷ rows) (other ∷ others) =
    (row.turn ≡ other.turn)
    × (after_row members standing row.turn row.event row.letters ≡ after_row members standing other.turn other.event other.letters)
    × (changes_in members standing row.turn row.event ≡ changes_in members standing other.turn other.event)
    × AreTwins members (after_row members standing row.turn row.event row.letters) rows others

pub twins_refl : (members : ℕ) (standing : Standing) (rows : List Row) → AreTwins members standing rows rows
twins_refl members standing [] = tt
twins_refl members standing (row ∷ rows) = (refl, refl, refl, twins_refl members (after_row members standing row.turn row.event row.letters) rows)

-- a situation after a turn that leaves this standing and makes these changes
abbrev turned : Situation → Turn → Standing → List Delta → Situation
turned situation turn standing changes = record {
  standing = standing;
  mails = mails_after turn situation.mails;
  cuts = situation.cuts;
  skews = situation.skews;
  fates = fates_after turn situation.fates;
  latest = latest_after turn situation.latest;
  arms = arms_after turn changes situation.arms;
  bases = bases_kept turn changes situation.bases;
}

pub after_twin : (members : ℕ) (situation : Situation) (row other : Row) → row.turn ≡ other.turn
    → after_row members situation.standing row.turn row.event row.letters ≡ after_row members situation.standing other.turn other.event other.letters
    → changes_in members situation.standing row.turn row.event ≡ changes_in members situation.standing other.turn other.event
    → after_turn members situation row ≡ after_turn members situation other
after_twin members situation row other turn stands same =
    let standing = after_row members situation.standing row.turn row.event row.letters in
    let next = after_row members situation.standing other.turn other.event other.letters in
    let changes = changes_in members situation.standing row.turn row.event in
    ap (λ (had : Turn). turned situation had standing changes) turn
    ∙ ap (λ (now : Standing). turned situation other.turn now changes) stands
    ∙ ap (λ (made : List Delta). turned situation other.turn next made) same

-- twins, as many of each, come to one situation
pub record EndAsOne (members : ℕ) (situation : Situation) (a b more rest : List Row) : Type 0 where
  pub after : after_turns members situation a ≡ after_turns members situation b
  pub twins : AreTwins members (after_turns members situation a).standing more rest

pub turned_alike : (members : ℕ) (situation : Situation) (a b more rest : List Row) → length a ≡ length b
    → AreTwins members situation.standing (a ++ more) (b ++ rest) → EndAsOne members situation a b more rest
turned_alike members situation [] [] more rest size twins = record { after = refl; twins = twins }
turned_alike members situation [] (other ∷ b) more rest size twins = absurd cc
turned_alike members situation (row ∷ a) [] more rest size twins = absurd cc
turned_alike members situation (row ∷ a) (other ∷ b) more rest size twins =
    let (turn, stands, changes, others) = twins in
    let shorter : length a ≡ length b = cc in
    let next = turned_alike members (after_turn members situation row) a b more rest shorter others in
    record {
      after = next.after ∙ ap (λ (here : Situation). after_turns members here b) (after_twin members situation row other turn stands changes);
      twins = next.twins;
    }

module _ (members : ℕ) (table : Table) where
  abbrev pub after_all : List Row → Standing
  after_all = standing_after members (first_rows table)

  abbrev pub turns_of : List Row → List Turn
  turns_of = map (λ (row : Row). row.turn)

  front_is_legal : (front : List Row) (row : Row) (rows : List Row) → IsLegal members table (front ++ row ∷ rows) → IsLegal members table (front ++ row ∷ [])
  front_is_legal front row rows legal =
      let whole : (front ++ row ∷ []) ++ rows ≡ front ++ row ∷ rows = append_assoc front (row ∷ []) rows in
      subst (IsLegal members table) (ap (take (length (front ++ row ∷ []))) (sym whole) ∙ take-append_seam (front ++ row ∷ []) rows)
      (cut_is_legal members table (front ++ row ∷ rows) (length (front ++ row ∷ [])) legal)

  -- legal rows with the same turns come to the same from each turn on
  twins_from : (front before rows others : List Row) → IsLegal members table (front ++ rows) → IsLegal members table (before ++ others)
      → after_all front ≡ after_all before → turns_of front ≡ turns_of before → turns_of rows ≡ turns_of others
      → AreTwins members (after_all front) rows others
  twins_from front before [] [] legal lawful stands ahead turns = tt
  twins_from front before [] (other ∷ others) legal lawful stands ahead turns = absurd cc
  twins_from front before (row ∷ rows) [] legal lawful stands ahead turns = absurd cc
  twins_from front before (row ∷ rows) (other ∷ others) legal lawful stands ahead turns =
      let turn : row.turn ≡ other.turn = cc in
      let behind : turns_of rows ≡ turns_of others = cc in
      let longer : turns_of (front ++ row ∷ []) ≡ turns_of (before ++ other ∷ []) =
      map-append (λ (r : Row). r.turn) front (row ∷ []) ∙ ap (λ (l : List Turn). l ++ row.turn ∷ []) ahead ∙ ap (λ (t : Turn). turns_of before ++ t ∷ []) turn
      ∙ sym (map-append (λ (r : Row). r.turn) before (other ∷ [])) in
      let one = front_is_legal front row rows legal in
      let two = front_is_legal before other others lawful in
      let next : after_all (front ++ row ∷ []) ≡ after_all (before ++ other ∷ []) =
      (turns_settle members table (front ++ row ∷ []) (before ++ other ∷ []) one two longer).stands in
      let here = stands_next members (first_rows table) front row in
      let there = stands_next members (first_rows table) before other in
      let same : after_row members (after_all front) row.turn row.event row.letters ≡ after_row members (after_all front) other.turn other.event other.letters =
      sym here ∙ next ∙ there ∙ ap (λ (s : Standing). after_row members s other.turn other.event other.letters) (sym stands) in
      let beside : MayFollow members table (after_all front) row.turn other =
      subst (λ (t : Turn). MayFollow members table (after_all front) t other) (sym turn)
      (subst (λ (s : Standing). MayFollow members table s other.turn other) (sym stands) (may_next members table before others other lawful)) in
      let changes : changes_in members (after_all front) row.turn row.event ≡ changes_in members (after_all front) other.turn other.event =
      same_changes members table (after_all front) row.turn row other (may_next members table front rows row legal) beside
      ∙ ap (λ (t : Turn). changes_in members (after_all front) t other.event) turn in (
        turn,
        same,
        changes,
        subst (λ (s : Standing). AreTwins members s rows others) here
            (twins_from (front ++ row ∷ []) (before ++ other ∷ []) rows others
            (subst (IsLegal members table) (sym (append_assoc front (row ∷ []) rows)) legal)
            (subst (IsLegal members table) (sym (append_assoc before (other ∷ []) others)) lawful)
            next longer behind),
      )

  pub twins_of_turns : (rows others : List Row) → IsLegal members table rows → IsLegal members table others → turns_of rows ≡ turns_of others
      → AreTwins members (after_all []) rows others
  twins_of_turns rows others legal lawful turns = twins_from [] [] rows others legal lawful refl refl turns
