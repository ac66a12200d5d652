-- A turn of another leaves a replica.
use Rattle.std.proofs.Common.{◌≡◌, ℕ, ◌==◌, false, List, [], ◌++◌, Some, None, refl, sym}
use Rattle.std.proofs.lemmas.Bool.{eqb-false, ne_eqb}
use Rattle.std.proofs.lemmas.List.{append-nil}
use Rattle.cluster_sched.specs.declared.fate.Fate.{Fate}
use Rattle.history.specs.Book.{PostedLetter, Standing, after_row, post, with_fact}
use Rattle.step_spec.specs.State.{State}
use Rattle.step_spec.specs.Step.{Event}
use Rattle.agreement.specs.World.{with_replica}
use Rattle.step_spec.specs.declared.out.OutLetter.{OutLetter}
use Rattle.history.specs.declared.turn.Cause.TheVariants.{Campaign, Tick, Hear, Answer}
use Rattle.history.specs.declared.turn.Turn.{Turn}
use Rattle.history.specs.declared.turn.Turn.TheVariants.{Did, Stopped, Restarted, Arrived}
use Rattle.script_semantics.specs.Situation.{fates_after, mails_after}
use Rattle.script_semantics.specs.Free.{is_turn_of}

flip : (one two : ℕ) → (one == two) ≡ false → (two == one) ≡ false
flip one two differs = ne_eqb two one (λ same. eqb-false one two differs (sym same))

fact_there : {A : Type 0} (who : ℕ) (fact : A) (facts : ℕ → A) (other : ℕ) → (who == other) ≡ false → with_fact who fact facts other ≡ facts other
fact_there who fact facts other differs = rw (flip who other differs) refl

state_there : (who : ℕ) (state : State) (replicas : ℕ → State) (other : ℕ) → (who == other) ≡ false → with_replica who state replicas other ≡ replicas other
state_there who state replicas other differs = rw (flip who other differs) refl

pub replica_stays : (n : ℕ) (s : Standing) (turn : Turn) (event : Event) (letters : List OutLetter) (other : ℕ) → is_turn_of other turn ≡ false
    → (after_row n s turn event letters).replicas other ≡ s.replicas other
unfolding after_row
replica_stays n s (Did who cause made) event letters other differs = state_there who _ s.replicas other differs
replica_stays n s (Stopped who cause kept) event letters other differs = state_there who _ s.replicas other differs
replica_stays n s (Restarted who) event letters other differs = refl
replica_stays n s (Arrived number) event letters other differs = refl

pub runs_stay : (n : ℕ) (s : Standing) (turn : Turn) (event : Event) (letters : List OutLetter) (other : ℕ) → is_turn_of other turn ≡ false
    → (after_row n s turn event letters).runs other ≡ s.runs other
unfolding after_row
runs_stay n s (Did who cause made) event letters other differs = refl
runs_stay n s (Stopped who cause kept) event letters other differs = fact_there who _ s.runs other differs
runs_stay n s (Restarted who) event letters other differs = fact_there who _ s.runs other differs
runs_stay n s (Arrived number) event letters other differs = refl

pub waits_stay : (n : ℕ) (s : Standing) (turn : Turn) (event : Event) (letters : List OutLetter) (other : ℕ) → is_turn_of other turn ≡ false
    → (after_row n s turn event letters).waits other ≡ s.waits other
unfolding after_row
waits_stay n s (Did who cause made) event letters other differs = fact_there who _ s.waits other differs
waits_stay n s (Stopped who cause kept) event letters other differs = fact_there who _ s.waits other differs
waits_stay n s (Restarted who) event letters other differs = refl
waits_stay n s (Arrived number) event letters other differs = refl

pub mail_stays : (turn : Turn) (mails : ℕ → List ℕ) (other : ℕ) → is_turn_of other turn ≡ false → mails_after turn mails other ≡ mails other
mail_stays (Did who Campaign made) mails other differs = refl
mail_stays (Did who (Tick now) made) mails other differs = refl
mail_stays (Did who (Hear number) made) mails other differs = fact_there who _ mails other differs
mail_stays (Did who Answer made) mails other differs = refl
mail_stays (Stopped who cause kept) mails other differs = fact_there who _ mails other differs
mail_stays (Restarted who) mails other differs = refl
mail_stays (Arrived number) mails other differs = refl

pub fate_stays : (turn : Turn) (fates : ℕ → Fate) (other : ℕ) → is_turn_of other turn ≡ false → fates_after turn fates other ≡ fates other
fate_stays (Did who cause None) fates other differs = refl
fate_stays (Did who cause (Some made)) fates other differs = fact_there who _ fates other differs
fate_stays (Stopped who cause kept) fates other differs = refl
fate_stays (Restarted who) fates other differs = refl
fate_stays (Arrived number) fates other differs = refl

-- a turn posts letters behind those that were posted
pub posts : (n : ℕ) (s : Standing) (turn : Turn) (event : Event) (letters : List OutLetter)
    → (new : List PostedLetter) × ((after_row n s turn event letters).posted ≡ s.posted ++ new)
unfolding after_row
posts n s (Did who cause made) event letters = (post who letters, refl)
posts n s (Stopped who cause kept) event letters = ([], sym (append-nil s.posted))
posts n s (Restarted who) event letters = ([], sym (append-nil s.posted))
posts n s (Arrived number) event letters = ([], sym (append-nil s.posted))
