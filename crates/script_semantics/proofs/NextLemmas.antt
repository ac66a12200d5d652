-- The mail of a replica after its next turn.
use Rattle.std.proofs.Common.{◌≡◌, ℕ, Bool, true, false, List, [], ◌∷◌, ◌++◌, ◌&&◌, not, if◌then◌else◌, drop, length, Option, Some, None, ap, ◌∙◌, ℤ}
use Rattle.zone_minutes.specs.declared.minute.Minute.{Minute}
use Rattle.zone_minutes.specs.declared.minute.Window.{Window}
use Rattle.cluster_sched.specs.declared.row.SchedRow.{SchedRow}
use Rattle.history.specs.Book.{Row}
use Rattle.history.specs.declared.turn.CallRow.{CallRow}
use Rattle.history.specs.declared.turn.Cause.{Cause}
use Rattle.history.specs.declared.turn.Cause.TheVariants.{Campaign, Tick, Hear, Answer}
use Rattle.history.specs.declared.turn.Turn.TheVariants.{Did}
use Rattle.term_core.specs.Term.{is_leader}
use Rattle.script_semantics.specs.Round.{clock_reading}
use Rattle.script_semantics.specs.Situation.{Situation, after_turn, letters_for, mails_after}
use Rattle.script_semantics.specs.Free.{after_all_posted, after_posted, is_time_to_stand, next_cause, next_cause_by}
use Rattle.script_semantics.specs.Others.{AreOthers, mail_behind}
use Rattle.script_semantics.proofs.FreeMailLemmas.{others_pass}
use Rattle.history.proofs.Standings.{fact_here}

-- a replica without a letter hears none
pub idle_hears_none : (stands : Bool) (now : Minute) (number : ℕ) → Hear number ≡ (if stands then Campaign else Tick now) → ⊥
idle_hears_none true now number is = cc
idle_hears_none false now number is = cc

-- what a replica hears is the first of its mail, whatever has joined the mail since
heard_first : (waits : Option SchedRow) (mail new : List ℕ) (stands : Bool) (now : Minute) (number who : ℕ) (made : Option CallRow) (mails : ℕ → List ℕ)
    → Hear number ≡ next_cause_by waits mail (if stands then Campaign else Tick now) → mails who ≡ mail ++ new
    → mails_after (Did who (Hear number) made) mails who ≡ drop 1 mail ++ new
heard_first (Some row) mail new stands now number who made mails is has = absurd cc
heard_first None [] new stands now number who made mails is has = absurd (idle_hears_none stands now number is)
heard_first None (first ∷ mail) new stands now number who made mails is has = fact_here who (drop 1 (mails who)) mails ∙ ap (drop 1) has

mail_then : (waits : Option SchedRow) (mail new : List ℕ) (stands : Bool) (now : Minute) (cause : Cause) (who : ℕ) (made : Option CallRow) (mails : ℕ → List ℕ)
    → cause ≡ next_cause_by waits mail (if stands then Campaign else Tick now) → mails who ≡ mail ++ new
    → mails_after (Did who cause made) mails who ≡ mail_behind cause mail ++ new
mail_then waits mail new stands now Campaign who made mails is has = has
mail_then waits mail new stands now (Tick minute) who made mails is has = has
mail_then waits mail new stands now Answer who made mails is has = has
mail_then waits mail new stands now (Hear number) who made mails is has = heard_first waits mail new stands now number who made mails is has

-- **The mail after the next turn of a replica**, by the one that it saw directly after the turn before: without the letter that is
-- heard, with those that came meanwhile, and with those that the turn posts to it.
pub mail_next : (members who taken : ℕ) (window : Window) (at : ℤ) (seen : Situation) (more : List Row) (row : Row) (cause : Cause) (made : Option CallRow)
    → AreOthers who more → row.turn ≡ Did who cause made → cause ≡ next_cause window at who taken seen
    → (after_posted members (after_all_posted members seen more) row).mails who
    ≡ (mail_behind cause (seen.mails who) ++ letters_for (after_all_posted members seen more) (length seen.standing.posted) who)
    ++ letters_for (after_turn members (after_all_posted members seen more) row) (length (after_all_posted members seen more).standing.posted) who
mail_next members who taken window at seen more row cause made others did is =
    let here = after_all_posted members seen more in
    let meanwhile = letters_for here (length seen.standing.posted) who in
    let stands = is_time_to_stand who taken && not (is_leader (seen.standing.replicas who).term) in
    let now = clock_reading window at (seen.skews who) in
    ap (λ l. l ++ letters_for (after_turn members here row) (length here.standing.posted) who)
    (ap (λ turn. mails_after turn here.mails who) did
    ∙ mail_then (seen.standing.waits who) (seen.mails who) meanwhile stands now cause who made here.mails is (others_pass members who seen more others).mail)
