-- Rounds until nothing is left to do at an instant, and from one instant to the next at which there is something.
use Rattle.std.specs.Prelude.{◌≡◌, ℕ, zero, suc, ◌-◌, ◌<◌, nat_lt, List, [], ◌∷◌, None, ℤ, pos, ◌≤ℤ◌, ◌<ℤ◌, if◌then◌else◌}
use Rattle.std.specs.List.{flat_map, range_with_len}
use Rattle.std.specs.Int.{int_min}
use Rattle.cluster_sched.specs.declared.fate.Fate.TheVariants as fate
use Rattle.paxos_base.specs.Vote.{votes_from}
use Rattle.paxos_base.specs.declared.rows.JobRow.{JobRow}
use Rattle.due_set.specs.Table.{Table}
use Rattle.launch_machine.specs.Answers.{IsIntent}
use Rattle.launch_machine.specs.declared.machine.Intent.TheVariants.{Rest}
use Rattle.term_core.specs.declared.term.Term.{Term}
use Rattle.term_core.specs.declared.term.Term.TheVariants.{Follower, Leader}
use Rattle.step_spec.specs.State.{State, prefix_of}
use Rattle.step_spec.specs.Step.{IsLaunchTable}
use Rattle.history.specs.Book.{Row}
use Rattle.history.specs.declared.turn.Cause.TheVariants.{Campaign}
use Rattle.script_semantics.specs.Commands.{Plain}
use Rattle.script_semantics.specs.Parts.{Plays, Stays, Then}
use Rattle.script_semantics.specs.Round.{IsRound}
use Rattle.script_semantics.specs.Situation.{Situation, Task, Do, Restart}

-- ---- the coordinator

-- the replica with the greatest prefix, of the first and so many more; of equal ones that with the lowest number
abbrev pub furthest : (ℕ → State) → ℕ → ℕ
furthest replicas zero = 0
furthest replicas (suc more) =
    let best = furthest replicas more in
    if nat_lt (prefix_of (replicas best)) (prefix_of (replicas (suc more))) then suc more else best

-- the replica that is to lead
abbrev pub coordinator : ℕ → Situation → ℕ
coordinator members situation = furthest situation.standing.replicas (members - 1)

-- ---- quiet

-- the leader has nothing in flight, and no vote that it was promised binds it at its prefix or behind
abbrev pub IsFreeTerm : (prefix : ℕ) → Term → Type 0
IsFreeTerm prefix (Leader ballot best None) = votes_from prefix best ≡ []
IsFreeTerm prefix term = ⊥

-- its launch table asks for nothing at the instant
pub record AsksNothing (table : Table) (at : ℤ) (state : State) : Type 0 where
  pub rows : List JobRow
  pub rows_are : IsLaunchTable table state rows
  pub rests : IsIntent table rows at Rest

-- The situation is quiet: the coordinator leads and has nothing left to do, no answer waits for it, and all have learned as much.
pub record IsQuiet (members : ℕ) (table : Table) (who : ℕ) (at : ℤ) (situation : Situation) : Type 0 where
  pub free : IsFreeTerm (prefix_of (situation.standing.replicas who)) (situation.standing.replicas who).term
  pub answered : situation.standing.waits who ≡ None
  pub rests : AsksNothing table at (situation.standing.replicas who)
  pub caught_up : (other : ℕ) → other < members → prefix_of (situation.standing.replicas other) ≡ prefix_of (situation.standing.replicas who)

-- ---- draining

-- it stands for leader where it follows
abbrev pub campaign_tasks : ℕ → Term → List Task
campaign_tasks who (Follower ended) = Do who Campaign ∷ []
campaign_tasks who term = []

-- the coordinator stands for leader where it follows, and a round comes after that
abbrev pub IsDrainRound : ℕ → Table → (who : ℕ) → (at : ℤ) → Situation → List Row → Situation → Type 0
IsDrainRound members table who at =
    Then (Plays members (λ situation. campaign_tasks who (situation.standing.replicas who).term)) (IsRound members table.window at)

-- it isn't quiet yet, and so this comes
pub record GoesOnTo (quiet : Situation → Type 0) (part : Situation → List Row → Situation → Type 0) (situation : Situation) (rows : List Row)
    (after : Situation) : Type 0 where
  pub not_yet : quiet situation → ⊥
  pub goes_on : part situation rows after

-- it is quiet, and nothing comes
pub record EndsAt (quiet : Situation → Type 0) (situation : Situation) (rows : List Row) (after : Situation) : Type 0 where
  pub is_quiet : quiet situation
  pub stays : Stays situation rows after

-- so many rounds until it is quiet, and none after that
abbrev pub DrainsIn : ℕ → ℕ → Table → (who : ℕ) → (at : ℤ) → Situation → List Row → Situation → Type 0
DrainsIn zero members table who at = EndsAt (IsQuiet members table who at)
DrainsIn (suc more) members table who at =
    GoesOnTo (IsQuiet members table who at) (Then (IsDrainRound members table who at) (DrainsIn more members table who at))

-- rounds until it is quiet
abbrev pub Drains : ℕ → Table → (who : ℕ) → (at : ℤ) → Situation → List Row → Situation → Type 0
Drains members table who at situation rows after = (rounds : ℕ) × DrainsIn rounds members table who at situation rows after

-- ---- settling

-- those that are stopped start again
abbrev pub restart_tasks : ℕ → Situation → List Task
restart_tasks members situation =
    flat_map (λ who. if situation.standing.runs who then [] else Restart who ∷ []) (range_with_len 0 members)

-- no letter waits or is lost, each clock is right, each call is answered, and no disk is armed
abbrev pub cleared : Situation → Situation
cleared situation = record situation { mails = λ who. []; cuts = []; skews = λ who. pos 0; fates = λ who. fate.Done; arms = λ who. None }

-- the coordinator stands for leader, and rounds follow until it is quiet
abbrev pub IsLedToQuiet : ℕ → Table → (at : ℤ) → Situation → List Row → Situation → Type 0
IsLedToQuiet members table at situation =
    let who = coordinator members situation in
    Then (Plays members (λ here. Do who Campaign ∷ [])) (Drains members table who at) situation

-- **Settling at an instant**: all start that are stopped, faults end, and rounds follow until it is quiet.
abbrev pub Settles : ℕ → Table → (at : ℤ) → Situation → List Row → Situation → Type 0
Settles members table at = Then (Plain members (restart_tasks members) cleared) (IsLedToQuiet members table at)

-- ---- walking

-- the first minute above one, and at most another, at which the launch table asks for something
pub record IsNextMinute (table : Table) (state : State) (above to minute : ℤ) : Type 0 where
  pub later : above <ℤ minute
  pub within : minute ≤ℤ to
  pub asks : AsksNothing table minute state → ⊥
  pub least : (other : ℤ) → above <ℤ other → other <ℤ minute → AsksNothing table other state

-- there is no such minute
abbrev pub AsksNothingUntil : Table → (above to : ℤ) → State → Type 0
AsksNothingUntil table above to state = (minute : ℤ) → above <ℤ minute → minute ≤ℤ to → AsksNothing table minute state

-- so many minutes at which there is something to do, each drained, and none after them
abbrev pub WalksIn : ℕ → ℕ → Table → (who : ℕ) → (above to : ℤ) → (Situation → List Row → Situation → Type 0)
WalksIn zero members table who above to situation rows after =
    EndsAt (λ here. AsksNothingUntil table above to (here.standing.replicas who)) situation rows after
WalksIn (suc more) members table who above to situation rows after =
    (minute : ℤ) × IsNextMinute table (situation.standing.replicas who) above to minute
    × Then (Drains members table who minute) (WalksIn more members table who minute to) situation rows after

-- each later minute at which there is something to do is drained
abbrev pub WalksOn : ℕ → Table → (who : ℕ) → (above to : ℤ) → Situation → List Row → Situation → Type 0
WalksOn members table who above to situation rows after = (minutes : ℕ) × WalksIn minutes members table who above to situation rows after

-- **Walking to an instant**: it settles at the latest clock reading so far, or at this instant where that is later, and goes on from there.
abbrev pub Walks : ℕ → Table → (to : ℤ) → Situation → List Row → Situation → Type 0
Walks members table to situation =
    let at = int_min situation.latest to in
    Then (Settles members table at) (WalksOn members table (coordinator members situation) at to) situation
