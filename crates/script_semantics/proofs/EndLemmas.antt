-- What begins an arm and what ends it.
use Rattle.std.proofs.Common.{◌≡◌, ◌≢◌, ℕ, zero, suc, ◌==◌, Bool, true, false, List, [], ◌∷◌, ℤ, Option, None, Some, inl, inr, refl, sym, ap, ◌∙◌, subst, if◌then◌else◌}
use Rattle.std.specs.Int.{int_min}
use Rattle.std.proofs.lemmas.Bool.{cases_Bool}
use Rattle.due_set.specs.Table.{Table}
use Rattle.script_text.specs.declared.command.Command.TheVariants as command
use Rattle.history.specs.Book.{Row, with_fact}
use Rattle.history.specs.declared.turn.Cause.TheVariants.{Campaign}
use Rattle.script_semantics.specs.Arms.{AreUnarmed, armed_by}
use Rattle.script_semantics.specs.Round.{round_tasks}
use Rattle.script_semantics.specs.Script.{IsPartOf}
use Rattle.script_semantics.specs.Settling.{Drains, DrainsIn, Settles, Walks, WalksIn, campaign_tasks, coordinator}
use Rattle.script_semantics.specs.Situation.{AreTurnsFor, Armed, Performs, Situation, Do, Stop, after_turn, after_turns}
use Rattle.script_semantics.proofs.ArmsLemmas.{unarmed_performed}
use Rattle.script_semantics.proofs.StopLemmas.{arms_of_stop}
use Rattle.history.proofs.Standings.{fact_here as own_fact, fact_there as other_fact}

-- ---- an arm begins

pub begins : (situation : Situation) (who : ℕ) (armed : Armed) → situation.standing.runs who ≡ true → (armed_by who armed.left armed.image situation).arms who ≡ Some armed
begins situation who armed runs = rw runs (own_fact who (Some armed) situation.arms)

anew_there : (who every : ℕ) (new old : Option Armed) (arms : ℕ → Option Armed) → with_fact who new (with_fact who old arms) every ≡ with_fact who new arms every
anew_there who every new old arms = elim (cases_Bool (every == who)) [ inl same ↦ rw same refl | inr differs ↦ rw differs refl ]

pub begins_anew : (situation : Situation) (who pass image first had every : ℕ)
    → (armed_by who pass image (armed_by who first had situation)).arms every ≡ (armed_by who pass image situation).arms every
begins_anew situation who pass image first had every = elim (cases_Bool (situation.standing.runs who)) [
  | inl runs ↦ rw runs (rw runs (anew_there who every (Some (record { left = pass; image = image })) (Some (record { left = first; image = had })) situation.arms))
  | inr stopped ↦ rw stopped (rw stopped refl)
]

pub not_begun : (situation : Situation) (who pass image : ℕ) → situation.standing.runs who ≡ false → armed_by who pass image situation ≡ situation
not_begun situation who pass image stopped = rw stopped refl

pub others_unarmed : (situation : Situation) (who pass image other : ℕ) → other ≢ who → (armed_by who pass image situation).arms other ≡ situation.arms other
others_unarmed situation who pass image other differs = elim (cases_Bool (situation.standing.runs who)) [
  | inl runs ↦ rw runs (other_fact who (Some (record { left = pass; image = image })) situation.arms other differs)
  | inr stopped ↦ rw stopped refl
]

-- ---- an arm ends

one_stop : (members : ℕ) (situation : Situation) (who : ℕ) (rows : List Row) → AreTurnsFor members situation (Stop who ∷ []) rows
    → (after_turns members situation rows).arms who ≡ None
one_stop members situation who [] turns = absurd cc
one_stop members situation who (row ∷ rows) (turn, rest) =
    ap (λ (more : List Row). (after_turns members (after_turn members situation row) more).arms who) rest ∙ arms_of_stop members situation row who None false turn

pub stopped_part : (members : ℕ) (table : Table) (who : ℕ) (situation after : Situation) (rows : List Row) → situation.standing.runs who ≡ true
    → IsPartOf members table (command.Stop who) situation rows after → after.arms who ≡ None
stopped_part members table who situation after rows runs parts =
    let performs : Performs members (Stop who ∷ []) situation parts.front parts.middle =
    subst (λ (b : Bool). Performs members (if b then Stop who ∷ [] else []) situation parts.front parts.middle) runs parts.one in
    ap (λ (s : Situation). s.arms who) parts.two.is
    ∙ (ap (λ (s : Situation). s.arms who) performs.is ∙ one_stop members situation who parts.front performs.turns)

drained_in : (rounds members : ℕ) (table : Table) (who : ℕ) (at : ℤ) (situation : Situation) (rows : List Row) (after : Situation) → AreUnarmed situation
    → DrainsIn rounds members table who at situation rows after → AreUnarmed after
drained_in zero members table who at situation rows after none drains = subst AreUnarmed (sym drains.stays.is) none
drained_in (suc more) members table who at situation rows after none drains =
    let parts = drains.goes_on in
    let turns = parts.one in
    drained_in more members table who at parts.middle parts.back after
    (unarmed_performed members (round_tasks members table.window at turns.middle) turns.middle parts.middle turns.back
    (unarmed_performed members (campaign_tasks who (situation.standing.replicas who).term) situation turns.middle turns.front none turns.one) turns.two) parts.two

drained : (members : ℕ) (table : Table) (who : ℕ) (at : ℤ) (situation : Situation) (rows : List Row) (after : Situation) → AreUnarmed situation
    → Drains members table who at situation rows after → AreUnarmed after
drained members table who at situation rows after none (rounds, drains) = drained_in rounds members table who at situation rows after none drains

pub settled_unarmed : (members : ℕ) (table : Table) (at : ℤ) (situation after : Situation) (rows : List Row) → Settles members table at situation rows after → AreUnarmed after
settled_unarmed members table at situation after rows settles =
    let led = settles.two in
    let who = coordinator members settles.middle in
    drained members table who at led.middle led.back after
    (unarmed_performed members (Do who Campaign ∷ []) settles.middle led.middle led.front (λ other. ap (λ (s : Situation). s.arms other) settles.one.two.is) led.one) led.two

walked_in : (minutes members : ℕ) (table : Table) (who : ℕ) (above to : ℤ) (situation : Situation) (rows : List Row) (after : Situation) → AreUnarmed situation
    → WalksIn minutes members table who above to situation rows after → AreUnarmed after
walked_in zero members table who above to situation rows after none walks = subst AreUnarmed (sym walks.stays.is) none
walked_in (suc more) members table who above to situation rows after none (minute, next, parts) =
    walked_in more members table who minute to parts.middle parts.back after
    (drained members table who minute situation parts.front parts.middle none parts.one) parts.two

pub walked_unarmed : (members : ℕ) (table : Table) (to : ℤ) (situation after : Situation) (rows : List Row) → Walks members table to situation rows after → AreUnarmed after
walked_unarmed members table to situation after rows walks =
    let at = int_min situation.latest to in
    walked_in walks.two.0 members table (coordinator members situation) at to walks.middle walks.back after
    (settled_unarmed members table at situation walks.middle walks.front walks.one) walks.two.1
