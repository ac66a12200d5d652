-- What a replica does next, by what waits for it and by how many turns it has had.
use Rattle.std.proofs.Common.{◌≡◌, ◌≢◌, ℕ, ◌+◌, ◌*◌, ◌/◌, ◌%◌, ◌<◌, true, false, List, [], ◌∷◌, Option, None, Some, ℤ, eq-eqb, ne_eqb, refl, ap, ◌∙◌, inl, inr, arith}
use Rattle.std.proofs.lemmas.Bool.{cases_Bool}
use Rattle.zone_minutes.specs.declared.minute.Window.{Window}
use Rattle.cluster_sched.specs.declared.row.SchedRow.{SchedRow}
use Rattle.paxos_base.specs.declared.entry.Vote.{Vote}
use Rattle.term_core.specs.Term.{is_leader}
use Rattle.term_core.specs.declared.flight.Flight.{Flight}
use Rattle.term_core.specs.declared.term.Term.{Term}
use Rattle.term_core.specs.declared.term.Term.TheVariants.{Follower, Candidate, Leader}
use Rattle.history.specs.declared.turn.Cause.{Cause}
use Rattle.history.specs.declared.turn.Cause.TheVariants.{Campaign, Tick, Hear, Answer}
use Rattle.script_semantics.specs.Free.{idle_cause, is_time_to_stand, next_cause, next_cause_by}
use Rattle.script_semantics.specs.Round.{clock_reading}
use Rattle.script_semantics.specs.Situation.{Situation}

-- ---- when it is time to

pub in_time : (who times : ℕ) → who < 8 → is_time_to_stand who (64 * times + 8 * who) ≡ true
in_time who times few = eq-eqb ((64 * times + 8 * who) % 64) (8 * who) (omega arith)

pub out_of_time : (who taken : ℕ) → ((times : ℕ) → taken ≢ 64 * times + 8 * who) → is_time_to_stand who taken ≡ false
out_of_time who taken never = ne_eqb (taken % 64) (8 * who) (λ is. never (taken / 64) (omega (arith, is)))

pub no_leader : (term : Term) → ((ballot : ℕ) (best : List Vote) (flight : Option Flight) → term ≢ Leader ballot best flight) → is_leader term ≡ false
no_leader (Follower ended) none = refl
no_leader (Candidate ballot first heard best) none = refl
no_leader (Leader ballot best flight) none = absurd (none ballot best flight refl)

module _ (window : Window) (at : ℤ) (who taken : ℕ) (seen : Situation) where
  abbrev idle : Cause
  idle = idle_cause window at who taken seen

  -- ---- what waits comes first

  pub answers : (row : SchedRow) → seen.standing.waits who ≡ Some row → next_cause window at who taken seen ≡ Answer
  answers row waits = ap (λ (w : Option SchedRow). next_cause_by w (seen.mails who) idle) waits

  pub hears : (number : ℕ) (mail : List ℕ) → seen.standing.waits who ≡ None → seen.mails who ≡ number ∷ mail → next_cause window at who taken seen ≡ Hear number
  hears number mail waits letters =
      ap (λ (w : Option SchedRow). next_cause_by w (seen.mails who) idle) waits ∙ ap (λ (m : List ℕ). next_cause_by None m idle) letters

  idles : seen.standing.waits who ≡ None → seen.mails who ≡ [] → next_cause window at who taken seen ≡ idle
  idles waits letters =
      ap (λ (w : Option SchedRow). next_cause_by w (seen.mails who) idle) waits ∙ ap (λ (m : List ℕ). next_cause_by None m idle) letters

  -- ---- else it stands for leader, or its clock ticks

  pub stands : seen.standing.waits who ≡ None → seen.mails who ≡ [] → is_time_to_stand who taken ≡ true → is_leader (seen.standing.replicas who).term ≡ false
      → next_cause window at who taken seen ≡ Campaign
  stands waits letters time follows = idles waits letters ∙ rw (time, follows) refl

  pub ticks_late : seen.standing.waits who ≡ None → seen.mails who ≡ [] → is_time_to_stand who taken ≡ false
      → next_cause window at who taken seen ≡ Tick (clock_reading window at (seen.skews who))
  ticks_late waits letters late = idles waits letters ∙ rw late refl

  pub ticks_leading : seen.standing.waits who ≡ None → seen.mails who ≡ [] → is_leader (seen.standing.replicas who).term ≡ true
      → next_cause window at who taken seen ≡ Tick (clock_reading window at (seen.skews who))
  ticks_leading waits letters leads = elim (cases_Bool (is_time_to_stand who taken)) [
    | inl time ↦ idles waits letters ∙ rw (time, leads) refl
    | inr late ↦ ticks_late waits letters late
  ]
