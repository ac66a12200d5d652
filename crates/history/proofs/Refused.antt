-- Turns that no book of two replicas without jobs may begin with.
use Rattle.std.proofs.Common.{◌≡◌, ◌<◌, ℕ, ℤ, pos, Bool, true, false, Option, Some, None, List, [], ◌∷◌, length, refl, ap, arith, subst}
use Rattle.std.specs.List.{Contains, slice_get}
use Rattle.launch_machine.specs.Clerk.{first_rows}
use Rattle.launch_machine.specs.declared.machine.Intent.TheVariants as intent
use Rattle.paxos_base.specs.Members.{with_member}
use Rattle.cluster_sched.specs.declared.row.SchedRow.{SchedRow}
use Rattle.step_spec.specs.Folds.{calls_of, deltas_of, learnt_of, calls_by, learnt_by, sent_by}
use Rattle.step_spec.specs.Propose.{campaign, tick}
use Rattle.step_spec.specs.Step.{IsPlanned, step}
use Rattle.step_spec.specs.Step as told
use Rattle.history.specs.Book.{PostedLetter, Row, Standing, acts_at, after_row, votes_of, post, standing_after}
use Rattle.agreement.specs.Transition.{identity_of}
use Rattle.history.specs.Legal.{IsMade, MayFollow}
use Rattle.step_spec.specs.Letters.{AreLettersOf}
use Rattle.history.specs.Some.{beginning, no_jobs}
use Rattle.history.specs.declared.turn.CallRow.{CallRow}
use Rattle.history.specs.declared.turn.Cause.{Cause}
use Rattle.history.specs.declared.turn.Cause.TheVariants.{Campaign, Tick, Hear, Answer}
use Rattle.history.specs.declared.turn.Turn.TheVariants.{Did, Stopped, Restarted, Arrived}
use Rattle.step_spec.specs.declared.out.OutLetter.{OutLetter}

pub no_stranger : (row : Row) (cause : Cause) (made : Option CallRow) → MayFollow 2 no_jobs beginning (Did 2 cause made) row → ⊥
no_stranger row cause made (takes, brings) = omega (arith, takes.member)

pub no_letter : (row : Row) (number : ℕ) (made : Option CallRow) → MayFollow 2 no_jobs beginning (Did 0 (Hear number) made) row → ⊥
no_letter row number made (takes, brings) = let there = takes.event_of.there in cc

pub no_answer : (row : Row) (made : Option CallRow) → MayFollow 2 no_jobs beginning (Did 0 Answer made) row → ⊥
no_answer row made (takes, brings) = let waits = takes.event_of.waits in cc

pub no_minute : (row : Row) (made : Option CallRow) → MayFollow 2 no_jobs beginning (Did 0 (Tick (record { 0 = pos 1 })) made) row → ⊥
no_minute row made (takes, brings) = let before = takes.event_of.0.before in grind (arith, before)

no_call_of : (held : List SchedRow) (call : CallRow) → IsMade held [] (Some call) → ⊥
no_call_of held call is = cc

pub no_call : (row : Row) (call : CallRow) → MayFollow 2 no_jobs beginning (Did 0 Campaign (Some call)) row → ⊥
unfolding step campaign calls_by with_member
no_call row call (takes, brings) =
    no_call_of [] call (subst (λ event. IsMade [] (calls_of (acts_at 2 beginning 0 event)) (Some call)) takes.event_of brings.call)

pub not_kept : (row : Row) → MayFollow 2 no_jobs beginning (Stopped 0 None true) row → ⊥
not_kept row (member, runs, kept, nothing) = cc

pub no_start : (row : Row) → MayFollow 2 no_jobs beginning (Restarted 0) row → ⊥
no_start row (member, stopped, nothing) = cc

pub no_arrival : (row : Row) (number : ℕ) → MayFollow 2 no_jobs beginning (Arrived number) row → ⊥
no_arrival row number (late, nothing) = let there = late.there in cc

pub no_change : (row : Row) (kept : Bool) → MayFollow 2 no_jobs beginning (Stopped 0 (Some (Tick (record { 0 = pos 0 }))) kept) row → ⊥
unfolding step tick
no_change row kept (takes, within) =
    let none : [] ≡ within.delta ∷ [] = subst (λ event. deltas_of (acts_at 2 beginning 0 event) ≡ within.delta ∷ []) takes.event_of.2 within.changes in
    cc

pub no_votes_of_a_campaign : (row : Row) → MayFollow 2 no_jobs beginning (Did 0 Campaign None) row → row.votes ≡ []
unfolding step campaign with_member
no_votes_of_a_campaign row (takes, brings) =
    subst (λ event. row.votes ≡ votes_of (acts_at 2 beginning 0 event)) takes.event_of brings.votes

pub one_letter_of_a_campaign : (row : Row) → MayFollow 2 no_jobs beginning (Did 0 Campaign None) row → length row.letters ≡ 1
unfolding step campaign sent_by with_member
one_letter_of_a_campaign row (takes, brings) =
    one row.letters (subst (λ event. AreLettersOf (identity_of 2 0) (acts_at 2 beginning 0 event) row.letters) takes.event_of brings.letters)
  where
    one : (letters : List OutLetter) → AreLettersOf (identity_of 2 0) (campaign (identity_of 2 0) (beginning.replicas 0)) letters → length letters ≡ 1
    one [] zips = absurd zips
    one (letter ∷ []) zips = refl
    one (letter ∷ other ∷ letters) zips = absurd zips.1

-- a replica that has stopped takes no turn
pub no_turn_of_a_stopped : (first row : Row) (cause : Cause) (made : Option CallRow) → first.turn ≡ Stopped 0 None false → MayFollow 2 no_jobs (standing_after 2 (first_rows no_jobs) (first ∷ [])) (Did 0 cause made) row → ⊥
unfolding after_row
no_turn_of_a_stopped first row cause made is (takes, brings) =
    let runs : false ≡ true = subst (λ turn. (after_row 2 beginning turn first.event first.letters).runs 0 ≡ true) is takes.runs in cc

pub no_entries_of_a_campaign : (row : Row) → MayFollow 2 no_jobs beginning (Did 0 Campaign None) row → row.learnt ≡ []
unfolding step campaign learnt_by with_member
no_entries_of_a_campaign row (takes, brings) =
    subst (λ event. row.learnt ≡ learnt_of (acts_at 2 beginning 0 event)) takes.event_of brings.learnt

-- a launch table without jobs asks for no start
pub no_plan : (row : Row) (job : ℕ) (at : ℤ) → row.event ≡ told.Tick (pos 0) (record { rows = first_rows no_jobs; intent = intent.Start job at }) → MayFollow 2 no_jobs beginning (Did 0 (Tick (record { 0 = pos 0 })) None) row → ⊥
no_plan row job at is (takes, brings) =
    let planned : IsPlanned no_jobs (beginning.replicas 0) (told.Tick (pos 0) (record { rows = first_rows no_jobs; intent = intent.Start job at })) =
    subst (λ event. IsPlanned no_jobs (beginning.replicas 0) event) is takes.planned in
    let below : job < 0 = planned.1.1.takes.known in
    omega (arith, below)

-- a letter is heard by its addressee alone
pub no_other_addressee : (first row : Row) (made : Option CallRow) → first.turn ≡ Did 0 Campaign None → MayFollow 2 no_jobs beginning first.turn first → MayFollow 2 no_jobs (standing_after 2 (first_rows no_jobs) (first ∷ [])) (Did 0 (Hear 0) made) row → ⊥
unfolding step campaign sent_by with_member after_row
no_other_addressee first row made is may (takes, brings) =
    let began : MayFollow 2 no_jobs beginning (Did 0 Campaign None) first = subst (λ turn. MayFollow 2 no_jobs beginning turn first) is may in
    let letters : AreLettersOf (identity_of 2 0) (campaign (identity_of 2 0) (beginning.replicas 0)) first.letters =
    subst (λ event. AreLettersOf (identity_of 2 0) (acts_at 2 beginning 0 event) first.letters) began.0.event_of began.1.letters in
    let there : slice_get (post 0 first.letters) 0 ≡ Some takes.event_of.letter =
    subst (λ turn. slice_get (after_row 2 beginning turn first.event first.letters).posted 0 ≡ Some takes.event_of.letter) is takes.event_of.there in
    to_one first.letters letters takes.event_of.letter there takes.event_of.to
  where
    to_one : (letters : List OutLetter) → AreLettersOf (identity_of 2 0) (campaign (identity_of 2 0) (beginning.replicas 0)) letters → (letter : PostedLetter) → slice_get (post 0 letters) 0 ≡ Some letter → letter.to ≡ 0 → ⊥
    to_one [] zips letter there to = absurd zips
    to_one (sent ∷ letters) zips letter there to =
        let posted : PostedLetter = record { from = 0; to = sent.to; bytes = sent.bytes } in
        let same : posted ≡ letter = cc in
        let at : sent.to ≡ letter.to = ap (λ (l : PostedLetter). l.to) same in
        omega (arith, zips.0.to, at, to)

-- a late call arrives once
pub no_second_arrival : (standing : Standing) (row : Row) (number : ℕ) → Contains standing.arrived number → MayFollow 2 no_jobs standing (Arrived number) row → ⊥
no_second_arrival standing row number has (late, nothing) = late.first has

-- a call that a step asks for is made
pub no_call_left_out : (standing : Standing) (row : Row) (who : ℕ) (cause : Cause) (call : SchedRow) (calls : List SchedRow) → calls_of (acts_at 2 standing who row.event) ≡ call ∷ calls → MayFollow 2 no_jobs standing (Did who cause None) row → ⊥
no_call_left_out standing row who cause call calls is (takes, brings) =
    subst (λ asked. IsMade standing.held asked None) is brings.call
