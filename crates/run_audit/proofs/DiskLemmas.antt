-- What the numbers say by which a disk is armed.
use Rattle.std.proofs.Common.{◌≡◌, ◌↔◌, ◌+◌, ◌<◌, ◌≤◌, ◌%◌, ◌==◌, IsTrue, Bool, true, false, ℕ, [], ◌∷◌, Option, None, Some, refl, sym, ap, ◌∙◌, subst, inl, inr, arith}
use Rattle.std.specs.Option.{option_to_list}
use Rattle.std.proofs.lemmas.Bool.{eqb-true}
use Rattle.paxos_base.specs.declared.durable.Delta.{Delta}
use Rattle.save_calls.specs.Save.{calls_of_delta, is_kept}
use Rattle.history.specs.Book.{Row}
use Rattle.history.specs.declared.turn.CallRow.{CallRow}
use Rattle.history.specs.declared.turn.Cause.{Cause}
use Rattle.history.specs.declared.turn.Turn.{Turn}
use Rattle.history.specs.declared.turn.Turn.TheVariants.{Did, Stopped}
use Rattle.script_semantics.specs.Arms.{IsEnough, IsTurnByArm}
use Rattle.script_semantics.specs.Situation.{Armed, Does, Situation, Do, calls_for, changes_in}
use Rattle.run_replay.proofs.TakeLemmas.{odd_or_even}
use Rattle.run_replay.specs.Replay.{armed_of}
use Rattle.run_replay.specs.declared.replay.Arm.{Arm}
use Rattle.run_audit.specs.ByArms.{StopsBy}

-- the low bit of the byte that selects the other area
pub other_when_odd : (bases byte : ℕ) (second : Bool) → second ≡ true → second ≡ (bases % 2 == 1) → (byte % 2 == 0) ≡ (byte % 2 == (bases + 1) % 2)
other_when_odd bases byte second is_odd same =
    let odd : bases % 2 ≡ 1 = eqb-true (bases % 2) 1 (sym same ∙ is_odd) in
    let next : (bases + 1) % 2 ≡ 0 = omega (arith, odd) in
    rw next refl

pub other_when_even : (bases byte : ℕ) (second : Bool) → second ≡ false → second ≡ (bases % 2 == 1) → (byte % 2 == 1) ≡ (byte % 2 == (bases + 1) % 2)
other_when_even bases byte second isnt same = elim (odd_or_even bases) [
  | inl even ↦ let next : (bases + 1) % 2 ≡ 1 = omega (arith, even) in rw next refl
  | inr odd ↦
      let one : (bases % 2 == 1) ≡ true = rw odd refl in
      let both : false ≡ true = sym isnt ∙ same ∙ one in
      absurd cc
]

-- ---- a stop within a save

pub no_arm : (found : Option Arm) (bases : ℕ) (change : Option Delta) (kept : Bool) → found ≡ None → IsTrue false ↔ StopsBy (armed_of found) bases change kept
no_arm found bases change kept none = (
  λ yes. absurd (let wrong : false ≡ true = yes in cc),
  λ stops. absurd (let both : None ≡ Some stops.armed = sym (ap armed_of none) ∙ stops.is_armed in cc),
)

pub no_change : (arm : Option Armed) (bases : ℕ) (change : Option Delta) (kept : Bool) → change ≡ None → IsTrue false ↔ StopsBy arm bases change kept
no_change arm bases change kept none = (
  λ yes. absurd (let wrong : false ≡ true = yes in cc),
  λ stops. absurd (let both : None ≡ Some stops.delta = sym none ∙ stops.change_is in cc),
)

-- as many calls save one change
one_calls : (change : Option Delta) (delta : Delta) → change ≡ Some delta → calls_for (option_to_list change) ≡ calls_of_delta delta
one_calls change delta is =
    let one : calls_of_delta delta + 0 ≡ calls_of_delta delta = omega arith in
    ap (λ found. calls_for (option_to_list found)) is ∙ one

module _ (found : Option Arm) (arm : Arm) (bases : ℕ) (change : Option Delta) (delta : Delta) (kept : Bool) (is_armed : found ≡ Some arm) (is : change ≡ Some delta) where
  -- the disk that is armed, and the change, are these
  arm_is : (stops : StopsBy (armed_of found) bases change kept) → (stops.armed.left ≡ arm.left) × (stops.armed.image ≡ arm.image) × (stops.delta ≡ delta)
  arm_is stops =
      let same : Some stops.armed ≡ armed_of (Some arm) = sym stops.is_armed ∙ ap armed_of is_armed in
      let one : Some stops.delta ≡ Some delta = sym stops.change_is ∙ is in
      ((let left : stops.armed.left ≡ arm.left = cc in left), (let image : stops.armed.image ≡ arm.image = cc in image), (let what : stops.delta ≡ delta = cc in what))

  -- calls enough are left for the save
  pub enough_left : calls_for (option_to_list change) ≤ arm.left → IsTrue false ↔ StopsBy (armed_of found) bases change kept
  enough_left enough = (
    λ yes. absurd (let wrong : false ≡ true = yes in cc),
    λ stops.
        let these = arm_is stops in
        let left = these.0 in
        let few : stops.armed.left < calls_of_delta delta = subst (λ d. stops.armed.left < calls_of_delta d) these.2 stops.few in
        let calls = one_calls change delta is in
        absurd (omega (arith, enough, left, few, calls)),
  )

  -- too few are left, and the numbers say whether the change is kept
  pub too_few : (answer : Bool) → arm.left < calls_for (option_to_list change) → IsTrue answer ↔ (kept ≡ is_kept bases delta arm.left arm.image) → IsTrue answer ↔ StopsBy (armed_of found) bases change kept
  too_few answer few tells = (
    λ yes. record {
      armed = record { left = arm.left; image = arm.image };
      is_armed = ap armed_of is_armed;
      delta = delta;
      change_is = is;
      few = let calls = one_calls change delta is in omega (arith, few, calls);
      keeps = tells.0 yes;
    },
    λ stops.
        let these = arm_is stops in
        tells.1 (stops.keeps ∙ ap (λ d. is_kept bases d stops.armed.left stops.armed.image) these.2 ∙ ap (λ left. is_kept bases delta left stops.armed.image) these.0
        ∙ ap (is_kept bases delta arm.left) these.1),
  )

-- ---- the turn of a task

-- the step of another cause or of none is no turn by an arm
module _ (members : ℕ) (situation : Situation) (row : Row) (who : ℕ) (cause : Cause) (change : Option Delta) (changes : changes_in members situation.standing row.turn row.event ≡ option_to_list change) where
  abbrev pub Turns : Type 0
  Turns = IsTurnByArm members situation (Do who cause) row

  -- a turn of a step is so just where it is for the cause, and its change is saved
  pub saved_turn : (other : ℕ) (why : Cause) (made : Option CallRow) (answer : Bool) → row.turn ≡ Did other why made
      → IsTrue answer ↔ (Does situation.fates who cause row.turn × IsEnough (situation.arms other) (option_to_list change)) → IsTrue answer ↔ Turns
  saved_turn other why made answer is tells = (
    λ yes. (let both = tells.0 yes in inl (record { does = both.0; saved = enough both.0 both.1 })),
    λ turns. tells.1 (by turns),
  )
    where
      mine : Does situation.fates who cause row.turn → other ≡ who
      mine does = let same : Did other why made ≡ Did who cause does.made = sym is ∙ does.is in cc

      enough : Does situation.fates who cause row.turn → IsEnough (situation.arms other) (option_to_list change) → IsEnough (situation.arms who) (changes_in members situation.standing row.turn row.event)
      enough does saved = subst (IsEnough (situation.arms who)) (sym changes) (subst (λ (k : ℕ). IsEnough (situation.arms k) (option_to_list change)) (mine does) saved)

      by : Turns → Does situation.fates who cause row.turn × IsEnough (situation.arms other) (option_to_list change)
      by (inl takes) =
          (takes.does, subst (λ (k : ℕ). IsEnough (situation.arms k) (option_to_list change)) (sym (mine takes.does)) (subst (IsEnough (situation.arms who)) changes takes.saved))
      by (inr stops) = absurd (let wrong : Did other why made ≡ Stopped who (Some cause) (is_kept (situation.bases who) stops.change stops.armed.left stops.armed.image) = sym is ∙ stops.is in cc)

  -- a stop is so just where it is within the step for the cause, as the numbers have it
  pub stopped_turn : (other : ℕ) (why : Option Cause) (kept answer : Bool) → row.turn ≡ Stopped other why kept
      → IsTrue answer ↔ ((row.turn ≡ Stopped who (Some cause) kept) × StopsBy (situation.arms who) (situation.bases who) change kept) → IsTrue answer ↔ Turns
  stopped_turn other why kept answer is tells = (
    λ yes.
        let both = tells.0 yes in
        let stops = both.1 in
        inr (record {
          armed = stops.armed;
          is_armed = stops.is_armed;
          change = stops.delta;
          is = both.0 ∙ ap (Stopped who (Some cause)) stops.keeps;
          changes = changes ∙ ap option_to_list stops.change_is;
          few = stops.few;
        }),
    λ turns. tells.1 (by turns),
  )
    where
      one_of : (found : Option Delta) (delta : Delta) → option_to_list found ≡ delta ∷ [] → found ≡ Some delta
      one_of None delta same = absurd cc
      one_of (Some found) delta same = let one : found ≡ delta = cc in ap Some one

      by : Turns → (row.turn ≡ Stopped who (Some cause) kept) × StopsBy (situation.arms who) (situation.bases who) change kept
      by (inl takes) = absurd (let wrong : Stopped other why kept ≡ Did who cause takes.does.made = sym is ∙ takes.does.is in cc)
      by (inr stops) =
          let whole : Stopped other why kept ≡ Stopped who (Some cause) (is_kept (situation.bases who) stops.change stops.armed.left stops.armed.image) = sym is ∙ stops.is in
          let keeps : kept ≡ is_kept (situation.bases who) stops.change stops.armed.left stops.armed.image = cc in (
            stops.is ∙ ap (Stopped who (Some cause)) (sym keeps),
            record {
              armed = stops.armed;
              is_armed = stops.is_armed;
              delta = stops.change;
              change_is = one_of change stops.change (sym changes ∙ stops.changes);
              few = stops.few;
              keeps = keeps;
            },
          )

  -- no other turn is
  pub other_turn : (turn : Turn) → row.turn ≡ turn → ((made : Option CallRow) → turn ≡ Did who cause made → ⊥) → ((kept : Bool) → turn ≡ Stopped who (Some cause) kept → ⊥) → IsTrue false ↔ Turns
  other_turn turn is not_did not_stopped = (λ yes. absurd (let wrong : false ≡ true = yes in cc), λ turns. absurd (by turns))
    where
      by : Turns → ⊥
      by (inl takes) = not_did takes.does.made (sym is ∙ takes.does.is)
      by (inr stops) = not_stopped (is_kept (situation.bases who) stops.change stops.armed.left stops.armed.image) (sym is ∙ stops.is)
