-- Turns on disks that are armed: which of them stops, what is left of the arm, and how many bases are kept.
use Rattle.std.proofs.Common.{◌≡◌, ◌≢◌, ℕ, ◌-◌, ◌<◌, ◌≤◌, ◌==◌, Bool, true, false, List, [], ◌∷◌, Option, None, Some, inl, inr, refl, sym, ap, ◌∙◌, subst, arith}
use Rattle.std.proofs.lemmas.Bool.{eq-eqb, ne_eqb}
use Rattle.paxos_base.specs.declared.durable.Delta.{Delta}
use Rattle.save_calls.specs.Save.{bases_after, calls_of_delta, is_kept}
use Rattle.step_spec.specs.Folds.{deltas_of}
use Rattle.history.specs.Book.{Row, acts_at}
use Rattle.history.specs.declared.turn.CallRow.{CallRow}
use Rattle.history.specs.declared.turn.Cause.{Cause}
use Rattle.history.specs.declared.turn.Turn.{Turn}
use Rattle.history.specs.declared.turn.Turn.TheVariants.{Did, Stopped, Restarted, Arrived}
use Rattle.script_semantics.specs.Arms.{IsEnough, IsTurnByArm, StopsInStep}
use Rattle.script_semantics.specs.Free.{is_turn_of}
use Rattle.script_semantics.specs.Situation.{Armed, Does, Situation, Do, after_turn, armed_after, arms_after, bases_kept, bases_with, calls_for, changes_in}
use Rattle.history.proofs.Standings.{fact_here as own_fact, fact_there as other_fact}

is_other : (who other : ℕ) → (who == other) ≡ false → other ≢ who
is_other who other others same = (let is = eq-eqb who other (sym same) in cc)

-- ---- arms after a turn

-- what the step of a turn changes
abbrev changed : ℕ → Situation → ℕ → Row → List Delta
changed members situation who row = deltas_of (acts_at members situation.standing who row.event)

changes_of_step : (members : ℕ) (situation : Situation) (who : ℕ) (cause : Cause) (made : Option CallRow) (row : Row) → row.turn ≡ Did who cause made
    → changes_in members situation.standing row.turn row.event ≡ changed members situation who row
changes_of_step members situation who cause made row is = ap (λ (turn : Turn). changes_in members situation.standing turn row.event) is

changes_of_stop : (members : ℕ) (situation : Situation) (who : ℕ) (cause : Cause) (kept : Bool) (row : Row) → row.turn ≡ Stopped who (Some cause) kept
    → changes_in members situation.standing row.turn row.event ≡ changed members situation who row
changes_of_stop members situation who cause kept row is = ap (λ (turn : Turn). changes_in members situation.standing turn row.event) is

arms_of_step : (members : ℕ) (situation : Situation) (who : ℕ) (cause : Cause) (made : Option CallRow) (row : Row) → row.turn ≡ Did who cause made
    → (after_turn members situation row).arms who ≡ armed_after (changed members situation who row) (situation.arms who)
arms_of_step members situation who cause made row is =
    ap (λ (turn : Turn). arms_after turn (changes_in members situation.standing turn row.event) situation.arms who) is
    ∙ own_fact who (armed_after (changed members situation who row) (situation.arms who)) situation.arms

pub arms_of_stop : (members : ℕ) (situation : Situation) (row : Row) (who : ℕ) (cause : Option Cause) (kept : Bool) → row.turn ≡ Stopped who cause kept
    → (after_turn members situation row).arms who ≡ None
arms_of_stop members situation row who cause kept is =
    ap (λ (turn : Turn). arms_after turn (changes_in members situation.standing turn row.event) situation.arms who) is ∙ own_fact who None situation.arms

other_arm : (turn : Turn) (changes : List Delta) (arms : ℕ → Option Armed) (other : ℕ) → is_turn_of other turn ≡ false → arms_after turn changes arms other ≡ arms other
other_arm (Did who cause made) changes arms other others = other_fact who (armed_after changes (arms who)) arms other (is_other who other others)
other_arm (Stopped who cause kept) changes arms other others = other_fact who None arms other (is_other who other others)
other_arm (Restarted who) changes arms other others = refl
other_arm (Arrived number) changes arms other others = refl

pub other_arms : (members : ℕ) (situation : Situation) (row : Row) (other : ℕ) → is_turn_of other row.turn ≡ false
    → (after_turn members situation row).arms other ≡ situation.arms other
other_arms members situation row other others = other_arm row.turn (changes_in members situation.standing row.turn row.event) situation.arms other others

pub other_arms_by_stop : (members : ℕ) (situation : Situation) (row : Row) (who other : ℕ) (cause : Option Cause) (kept : Bool)
    → row.turn ≡ Stopped who cause kept → other ≢ who → (after_turn members situation row).arms other ≡ situation.arms other
other_arms_by_stop members situation row who other cause kept is differs =
    other_arms members situation row other (ap (is_turn_of other) is ∙ ne_eqb who other (λ same. differs (sym same)))

-- ---- which turn stops

pub comes_unarmed : (members : ℕ) (situation : Situation) (who : ℕ) (cause : Cause) (row : Row) → IsTurnByArm members situation (Do who cause) row
    → situation.arms who ≡ None → Does situation.fates who cause row.turn × ((after_turn members situation row).arms who ≡ None)
comes_unarmed members situation who cause row (inl takes) none =
    (takes.does, arms_of_step members situation who cause takes.does.made row takes.does.is ∙ ap (armed_after (changed members situation who row)) none)
comes_unarmed members situation who cause row (inr stops) none = absurd (let no : None ≡ Some stops.armed = sym none ∙ stops.is_armed in cc)

-- so many calls less are left after a step
less_left : (members : ℕ) (situation : Situation) (who : ℕ) (cause : Cause) (made : Option CallRow) (row : Row) (armed : Armed) (changes : List Delta) (left : ℕ)
    → row.turn ≡ Did who cause made → situation.arms who ≡ Some armed → changed members situation who row ≡ changes → armed.left - calls_for changes ≡ left
    → (after_turn members situation row).arms who ≡ Some (record armed { left = left })
less_left members situation who cause made row armed changes left is is_armed are same =
    arms_of_step members situation who cause made row is
    ∙ (ap (armed_after (changed members situation who row)) is_armed
    ∙ (ap (λ (some : List Delta). armed_after some (Some armed)) are ∙ ap (λ (n : ℕ). Some (record armed { left = n })) same))

pub comes_without_change : (members : ℕ) (situation : Situation) (who : ℕ) (cause : Cause) (row : Row) (armed : Armed) → IsTurnByArm members situation (Do who cause) row
    → situation.arms who ≡ Some armed → changed members situation who row ≡ []
    → Does situation.fates who cause row.turn × ((after_turn members situation row).arms who ≡ Some armed)
comes_without_change members situation who cause row armed (inl takes) is are =
    (takes.does, less_left members situation who cause takes.does.made row armed [] armed.left takes.does.is is are (omega arith))
comes_without_change members situation who cause row armed (inr stops) is are =
    absurd (let no : stops.change ∷ [] ≡ [] = sym stops.changes ∙ (changes_of_stop members situation who cause _ row stops.is ∙ are) in cc)

-- the arm and the change of a stop are those of the replica
same_arm : (members : ℕ) (situation : Situation) (who : ℕ) (cause : Cause) (row : Row) (armed : Armed) (stops : StopsInStep members situation who cause row)
    → situation.arms who ≡ Some armed → stops.armed ≡ armed
same_arm members situation who cause row armed stops is = (let both : Some stops.armed ≡ Some armed = sym stops.is_armed ∙ is in cc)

same_change : (members : ℕ) (situation : Situation) (who : ℕ) (cause : Cause) (row : Row) (change : Delta) (stops : StopsInStep members situation who cause row)
    → changed members situation who row ≡ change ∷ [] → stops.change ≡ change
same_change members situation who cause row change stops are =
    (let both : stops.change ∷ [] ≡ change ∷ [] = sym stops.changes ∙ (changes_of_stop members situation who cause _ row stops.is ∙ are) in cc)

pub comes_whole : (members : ℕ) (situation : Situation) (who : ℕ) (cause : Cause) (row : Row) (armed : Armed) (change : Delta) → IsTurnByArm members situation (Do who cause) row
    → situation.arms who ≡ Some armed → changed members situation who row ≡ change ∷ [] → calls_of_delta change ≤ armed.left
    → Does situation.fates who cause row.turn × ((after_turn members situation row).arms who ≡ Some (record armed { left = armed.left - calls_of_delta change }))
comes_whole members situation who cause row armed change (inl takes) is are enough =
    (takes.does, less_left members situation who cause takes.does.made row armed (change ∷ []) (armed.left - calls_of_delta change) takes.does.is is are (omega arith))
comes_whole members situation who cause row armed change (inr stops) is are enough =
    let few : armed.left < calls_of_delta change =
    subst (λ (a : Armed). a.left < calls_of_delta change) (same_arm members situation who cause row armed stops is)
    (subst (λ (d : Delta). stops.armed.left < calls_of_delta d) (same_change members situation who cause row change stops are) stops.few) in
    absurd (omega (arith, few, enough))

pub stops_there : (members : ℕ) (situation : Situation) (who : ℕ) (cause : Cause) (row : Row) (armed : Armed) (change : Delta) → IsTurnByArm members situation (Do who cause) row
    → situation.arms who ≡ Some armed → changed members situation who row ≡ change ∷ [] → armed.left < calls_of_delta change
    → (row.turn ≡ Stopped who (Some cause) (is_kept (situation.bases who) change armed.left armed.image)) × ((after_turn members situation row).arms who ≡ None)
stops_there members situation who cause row armed change (inl takes) is are few =
    let enough : calls_for (change ∷ []) ≤ armed.left =
    subst (λ (arm : Option Armed). IsEnough arm (change ∷ [])) is
    (subst (λ (changes : List Delta). IsEnough (situation.arms who) changes) (changes_of_step members situation who cause takes.does.made row takes.does.is ∙ are) takes.saved) in
    absurd (omega (arith, few, enough))
stops_there members situation who cause row armed change (inr stops) is are few = (
  stops.is
      ∙ (ap (λ (d : Delta). Stopped who (Some cause) (is_kept (situation.bases who) d stops.armed.left stops.armed.image)) (same_change members situation who cause row change stops are)
      ∙ ap (λ (a : Armed). Stopped who (Some cause) (is_kept (situation.bases who) change a.left a.image)) (same_arm members situation who cause row armed stops is)),
  arms_of_stop members situation row who (Some cause) _ stops.is,
)

-- ---- bases

pub bases_of_step : (members : ℕ) (situation : Situation) (row : Row) (who : ℕ) (cause : Cause) (made : Option CallRow) (change : Delta) → row.turn ≡ Did who cause made
    → changed members situation who row ≡ change ∷ [] → (after_turn members situation row).bases who ≡ bases_after change (situation.bases who)
bases_of_step members situation row who cause made change is are =
    ap (λ (turn : Turn). bases_kept turn (changes_in members situation.standing turn row.event) situation.bases who) is
    ∙ (own_fact who (bases_with (changed members situation who row) (situation.bases who)) situation.bases
    ∙ ap (λ (changes : List Delta). bases_with changes (situation.bases who)) are)

pub bases_of_stop : (members : ℕ) (situation : Situation) (row : Row) (who : ℕ) (cause : Cause) (change : Delta) → row.turn ≡ Stopped who (Some cause) true
    → changed members situation who row ≡ change ∷ [] → (after_turn members situation row).bases who ≡ bases_after change (situation.bases who)
bases_of_stop members situation row who cause change is are =
    ap (λ (turn : Turn). bases_kept turn (changes_in members situation.standing turn row.event) situation.bases who) is
    ∙ (own_fact who (bases_with (changed members situation who row) (situation.bases who)) situation.bases
    ∙ ap (λ (changes : List Delta). bases_with changes (situation.bases who)) are)

pub bases_of_none : (members : ℕ) (situation : Situation) (row : Row) (who : ℕ) (cause : Cause) (made : Option CallRow) → row.turn ≡ Did who cause made
    → changed members situation who row ≡ [] → (after_turn members situation row).bases who ≡ situation.bases who
bases_of_none members situation row who cause made is are =
    ap (λ (turn : Turn). bases_kept turn (changes_in members situation.standing turn row.event) situation.bases who) is
    ∙ (own_fact who (bases_with (changed members situation who row) (situation.bases who)) situation.bases
    ∙ ap (λ (changes : List Delta). bases_with changes (situation.bases who)) are)

pub bases_of_loss : (members : ℕ) (situation : Situation) (row : Row) (who : ℕ) (cause : Option Cause) → row.turn ≡ Stopped who cause false
    → (after_turn members situation row).bases ≡ situation.bases
bases_of_loss members situation row who cause is =
    ap (λ (turn : Turn). bases_kept turn (changes_in members situation.standing turn row.event) situation.bases) is

other_base : (turn : Turn) (changes : List Delta) (bases : ℕ → ℕ) (other : ℕ) → is_turn_of other turn ≡ false → bases_kept turn changes bases other ≡ bases other
other_base (Did who cause made) changes bases other others = other_fact who (bases_with changes (bases who)) bases other (is_other who other others)
other_base (Stopped who cause true) changes bases other others = other_fact who (bases_with changes (bases who)) bases other (is_other who other others)
other_base (Stopped who cause false) changes bases other others = refl
other_base (Restarted who) changes bases other others = refl
other_base (Arrived number) changes bases other others = refl

pub other_bases : (members : ℕ) (situation : Situation) (row : Row) (other : ℕ) → is_turn_of other row.turn ≡ false
    → (after_turn members situation row).bases other ≡ situation.bases other
other_bases members situation row other others = other_base row.turn (changes_in members situation.standing row.turn row.event) situation.bases other others
