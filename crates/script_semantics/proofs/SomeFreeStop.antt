-- Two replicas over a table without jobs have two turns each, and the disk of the one lets no call pass: it stops as it stands for
-- leader, and has no turn more.
use Rattle.std.proofs.Common.{◌≡◌, ℕ, zero, suc, ◌<◌, pos, false, Some, List, [], ◌∷◌, ◌++◌, refl, arith, lit<, inr}
use Rattle.std.specs.List.{slice_get}
use Rattle.paxos_base.specs.Durable.{after_delta}
use Rattle.paxos_base.specs.Members.{with_member}
use Rattle.paxos_base.specs.Vote.{votes_from}
use Rattle.paxos_base.specs.declared.durable.Delta.TheVariants.{Tried}
use Rattle.step_spec.specs.Act.{after_act}
use Rattle.step_spec.specs.Folds.{calls_by, deltas_by, learnt_by, sent_by}
use Rattle.step_spec.specs.Propose.{campaign, tick}
use Rattle.step_spec.specs.Step.{Campaign, step}
use Rattle.history.specs.Book.{Row, after_row}
use Rattle.history.specs.Legal.{IsLegal}
use Rattle.history.specs.Some.{no_jobs}
use Rattle.history.specs.declared.turn.Cause.TheVariants as cause
use Rattle.history.specs.declared.turn.Turn.TheVariants.{Stopped}
use Rattle.history.proofs.Turns.{legal_append}
use Rattle.script_semantics.specs.Arms.{armed_by}
use Rattle.script_semantics.specs.Free.{GoesFreely, IsFreePart, IsFreeTurn, TakesFreeTurns, after_all_posted, course_of, is_turn_of}
use Rattle.script_semantics.specs.Situation.{Situation, first_situation}
use Rattle.script_semantics.proofs.PartLemmas.{goes_none, goes_other, goes_own}
use Rattle.script_semantics.proofs.SomeParts.{IsOfMember, May, in_turn, named, none_is_legal, takes_campaign, takes_tick, ticks}

-- ---- the turns

-- the change isn't kept
abbrev stops : Row
stops = record { turn = Stopped 0 (Some cause.Campaign) false; event = Campaign; letters = []; votes = []; learnt = [] }

abbrev pub stopped : List Row
stopped = stops ∷ ticks 1 ∷ ticks 1 ∷ []

-- ---- they are legal

stops_first : May [] stops
unfolding step campaign after_row after_act after_delta deltas_by learnt_by calls_by sent_by with_member votes_from
stops_first =
    (takes_campaign _ 0 (lit< tt) refl, record { delta = Tried 8; changes = refl; letters = refl; votes = refl; learnt = refl })

ticks_second : May (stops ∷ []) (ticks 1)
unfolding step campaign tick after_row after_act after_delta deltas_by learnt_by calls_by sent_by with_member votes_from
ticks_second = (takes_tick _ 1 (lit< tt) refl refl, record { letters = tt; votes = refl; learnt = refl; call = refl })

ticks_third : May (stops ∷ ticks 1 ∷ []) (ticks 1)
unfolding step campaign tick after_row after_act after_delta deltas_by learnt_by calls_by sent_by with_member votes_from
ticks_third = (takes_tick _ 1 (lit< tt) refl refl, record { letters = tt; votes = refl; learnt = refl; call = refl })

pub stopped_is_legal : IsLegal 2 no_jobs stopped
stopped_is_legal = legal_append 2 no_jobs [] stopped none_is_legal (stops_first, (ticks_second, (ticks_third, tt)))

-- ---- they are a part

abbrev start : Situation
start = armed_by 0 0 0 (first_situation 2 no_jobs)

abbrev Goes : (who : ℕ) → List Row → Type 0
Goes who rows = GoesFreely 2 no_jobs.window (pos 0) 2 who start rows

none_goes : (who : ℕ) → Goes who []
none_goes who = goes_none 2 who no_jobs.window (pos 0) 2 start

own : (who : ℕ) (rows : List Row) (row : Row) → Goes who rows → IsFreeTurn 2 no_jobs.window (pos 0) 2 who (course_of 2 who start rows) row
    → Goes who (rows ++ row ∷ [])
own who rows row = goes_own 2 who no_jobs.window (pos 0) 2 start rows row

other : (who : ℕ) (rows : List Row) (row : Row) → Goes who rows → is_turn_of who row.turn ≡ false → Goes who (rows ++ row ∷ [])
other who rows row = goes_other 2 who no_jobs.window (pos 0) 2 start rows row

stops_freely : IsFreeTurn 2 no_jobs.window (pos 0) 2 0 (course_of 2 0 start []) stops
unfolding step campaign deltas_by with_member
stops_freely = record {
  runs = refl;
  left = lit< tt;
  does = inr (record { armed = record { left = 0; image = 0 }; is_armed = refl; change = Tried 8; is = refl; changes = refl; few = lit< tt });
}

goes_first : Goes 0 stopped
unfolding after_row
goes_first = other 0 (stops ∷ ticks 1 ∷ []) (ticks 1) (other 0 (stops ∷ []) (ticks 1) (own 0 [] stops (none_goes 0) stops_freely) refl) refl

goes_second : Goes 1 stopped
unfolding after_row
goes_second =
    own 1 (stops ∷ ticks 1 ∷ []) (ticks 1) (own 1 (stops ∷ []) (ticks 1) (other 1 [] stops (none_goes 1) refl) (in_turn refl (lit< tt) refl tt))
    (in_turn refl (lit< tt) refl tt)

stopped_named : (place : ℕ) (row : Row) → slice_get stopped place ≡ Some row → IsOfMember row
stopped_named zero row is = named stops row is (0, lit< tt, refl)
stopped_named (suc zero) row is = named (ticks 1) row is (1, lit< tt, refl)
stopped_named (suc (suc zero)) row is = named (ticks 1) row is (1, lit< tt, refl)
stopped_named (suc (suc (suc place))) row is = absurd cc

stopped_each : (who : ℕ) → who < 2 → TakesFreeTurns 2 no_jobs.window (pos 0) 2 who start stopped
unfolding after_row
stopped_each zero member = record { goes = goes_first; all = λ runs. absurd cc }
stopped_each (suc zero) member = record { goes = goes_second; all = λ runs. refl }
stopped_each (suc (suc who)) member = absurd (omega arith)

pub stopped_is_part : IsFreePart 2 no_jobs.window (pos 0) 2 start stopped (after_all_posted 2 start stopped)
stopped_is_part = record { named = stopped_named; each = stopped_each; is = refl }
