-- The lines of a legal book settle its turns.
use Rattle.std.proofs.Common.{◌≡◌, ℕ, suc, ◌+◌, ◌<◌, ◌≤◌, ◌^◌, Bool, List, [], ◌∷◌, ◌++◌, Option, None, Some, All, append_assoc, map, refl, ap, sym, ◌∙◌, subst, arith, codes, decimal}
use Rattle.std.specs.Prelude.{IfSome}
use Rattle.std.specs.List.{enumerate_from}
use Rattle.std.proofs.lemmas.List.{append_cancel_left}
use Rattle.std.proofs.lemmas.Fmt.{decimal_injective}
use Rattle.zone_minutes.specs.Window.{IsWithinLimits}
use Rattle.cluster_sched.specs.Fates.{call}
use Rattle.cluster_sched.specs.declared.fate.Fate.{Fate}
use Rattle.cluster_sched.specs.declared.row.SchedRow.{SchedRow}
use Rattle.due_set.specs.Table.{Table}
use Rattle.launch_machine.specs.Clerk.{first_rows}
use Rattle.step_spec.specs.Folds.{calls_of}
use Rattle.history.specs.Book.{Row, Standing, acts_at, after_row, standing_after, under}
use Rattle.history.specs.Legal.{IsLegal, IsMade, MayFollow, MayStop, TakesTurn, answered}
use Rattle.history.specs.declared.turn.CallRow.{CallRow}
use Rattle.history.specs.declared.turn.Cause.{Cause}
use Rattle.history.specs.declared.turn.Turn.{Turn}
use Rattle.history.specs.declared.turn.Turn.TheVariants.{Did, Stopped, Restarted, Arrived}
use Rattle.history.proofs.Keeping.{one_event, stands_next}
use Rattle.history.proofs.FrontLemmas.{follows_there}
use Rattle.world_law.proofs.Settled.{alike_after}
use Rattle.script_text.proofs.CutLemmas.{same_cut}
use Rattle.script_text.proofs.OperandLemmas.{decimal_no_space, no_sign}
use Rattle.journal_text.specs.Journal.{call_words, cause_words, stop_words, turn_line, turn_words}
use Rattle.journal_text.specs.Told.{HasNumbers, HasStamp, IsNumbered}
use Rattle.journal_text.proofs.ToldLemmas.{stamped}
use Rattle.journal_text.proofs.WordLemmas.{fate_in, same_step, same_stop, step_no_restart, step_no_stop, stop_no_restart}

-- whose turn it is, and what stands behind the number
who_first : (a b : ℕ) (x y : List ℕ) → a < 2 ^ 64 → b < 2 ^ 64 → decimal a ++ 32 ∷ x ≡ decimal b ++ 32 ∷ y → (a ≡ b) × (x ≡ y)
who_first a b x y small low e =
    let cut = same_cut 32 (decimal a) (decimal b) x y (decimal_no_space a small) (decimal_no_space b low) e in
    (decimal_injective a b small low cut.0, cut.1)

-- no replica's number is the sign of an arrival
no_arrival : (who : ℕ) (x y : List ℕ) → who < 2 ^ 64 → decimal who ++ 32 ∷ x ≡ 45 ∷ 32 ∷ y → ⊥
no_arrival who x y small e =
    let dash : List ℕ = 45 ∷ [] in
    let cut = same_cut 32 (decimal who) dash x y (decimal_no_space who small) ((λ (is : 45 ≡ 32). omega (arith, is)), tt) e in
    no_sign who small [] cut.0

small_who : (who members : ℕ) → who < members → members ≤ 7 → who < 2 ^ 64
small_who who members lt few = omega arith

abbrev call_row : SchedRow → Fate → Option SchedRow → CallRow
call_row row fate answer = record { row = row; fate = fate; answer = answer }

some_fate : (a b : Fate) → (let one : Option Fate = Some a in one ≡ Some b) → a ≡ b
some_fate a b e = cc

-- a step's call is settled by its fate
same_made : (held calls : List SchedRow) (a b : Option CallRow) → IsMade held calls a → IsMade held calls b → fate_in a ≡ fate_in b → a ≡ b
same_made held [] a b one other e = one ∙ sym other
same_made held (row ∷ calls) None b one other e = absurd one
same_made held (row ∷ calls) (Some a) None one other e = absurd other
same_made held (row ∷ calls) (Some a) (Some b) one other e =
    let rows : a.row ≡ b.row = one.1 ∙ sym other.1 in
    let fates : a.fate ≡ b.fate = some_fate a.fate b.fate e in
    let answers : a.answer ≡ b.answer = one.2 ∙ ap (λ fate. answered (call fate row (under row.name held)).answer) fates ∙ sym other.2 in
    let same : a ≡ b =
    ap (λ r. call_row r a.fate a.answer) rows ∙ ap (λ f. call_row b.row f a.answer) fates ∙ ap (λ answer. call_row b.row b.fate answer) answers in
    ap Some same

module _ (members : ℕ) (table : Table) (standing : Standing) (few : members ≤ 7) (limits : IsWithinLimits table.window) where
  -- ---- steps

  stamp_of : (who : ℕ) (cause : Cause) (row : Row) → TakesTurn members table standing who cause row.event → HasStamp cause
  stamp_of who cause row takes = stamped members table standing who cause row.event limits takes.event_of

  moved : (who other : ℕ) (cause after : Cause) (row : Row) → who ≡ other → cause ≡ after → TakesTurn members table standing other after row.event
      → TakesTurn members table standing who cause row.event
  moved who other cause after row same is takes =
      subst (λ c. TakesTurn members table standing who c row.event) (sym is)
      (subst (λ w. TakesTurn members table standing w after row.event) (sym same) takes)

  same_did : (who other : ℕ) (cause after : Cause) (made called : Option CallRow) (a b : Row)
      → MayFollow members table standing (Did who cause made) a → MayFollow members table standing (Did other after called) b
      → IsNumbered cause → IsNumbered after → turn_words table (Did who cause made) ≡ turn_words table (Did other after called)
      → Did who cause made ≡ Did other after called
  same_did who other cause after made called a b one two na nb e =
      let cut = who_first who other (cause_words cause ++ call_words table made) (cause_words after ++ call_words table called)
      (small_who who members one.0.member few) (small_who other members two.0.member few) e in
      let says = same_step table cause after made called (stamp_of who cause a one.0) (stamp_of other after b two.0) na nb cut.1 in
      let event : a.event ≡ b.event = one_event members table standing who cause a.event b.event one.0 (moved who other cause after b cut.0 says.0 two.0) in
      let calls : IsMade standing.held (calls_of (acts_at members standing who a.event)) called =
      subst (λ event. IsMade standing.held (calls_of (acts_at members standing who event)) called) (sym event)
      (subst (λ w. IsMade standing.held (calls_of (acts_at members standing w b.event)) called) (sym cut.0) two.1.call) in
      let same = same_made standing.held (calls_of (acts_at members standing who a.event)) made called one.1.call calls says.1 in
      ap (λ w. Did w cause made) cut.0 ∙ ap (λ c. Did other c made) says.0 ∙ ap (λ m. Did other after m) same

  -- ---- stops

  stop_member : (who : ℕ) (cause : Option Cause) (kept : Bool) (row : Row) → MayStop members table standing who cause row kept → who < members
  stop_member who None kept row may = may.0
  stop_member who (Some cause) kept row may = may.0.member

  stop_stamp : (who : ℕ) (cause : Option Cause) (kept : Bool) (row : Row) → MayStop members table standing who cause row kept → IfSome cause HasStamp
  stop_stamp who None kept row may = tt
  stop_stamp who (Some cause) kept row may = stamp_of who cause row may.0

  -- of a stop between two turns nothing is kept
  same_kept_of : (who other : ℕ) (cause after : Option Cause) (kept had : Bool) (a b : Row) → MayStop members table standing who cause a kept
      → MayStop members table standing other after b had → cause ≡ after → IfSome cause (λ c. kept ≡ had) → kept ≡ had
  same_kept_of who other None None kept had a b one two is same = one.2 ∙ sym two.2
  same_kept_of who other None (Some after) kept had a b one two is same = absurd cc
  same_kept_of who other (Some cause) after kept had a b one two is same = same

  same_stopped : (who other : ℕ) (cause after : Option Cause) (kept had : Bool) (a b : Row)
      → MayStop members table standing who cause a kept → MayStop members table standing other after b had
      → IfSome cause IsNumbered → IfSome after IsNumbered → turn_words table (Stopped who cause kept) ≡ turn_words table (Stopped other after had)
      → Stopped who cause kept ≡ Stopped other after had
  same_stopped who other cause after kept had a b one two na nb e =
      let cut = who_first who other (stop_words cause kept) (stop_words after had)
      (small_who who members (stop_member who cause kept a one) few) (small_who other members (stop_member other after had b two) few) e in
      let says = same_stop cause after kept had (stop_stamp who cause kept a one) (stop_stamp other after had b two) na nb cut.1 in
      let keeps = same_kept_of who other cause after kept had a b one two says.0 says.1 in
      ap (λ w. Stopped w cause kept) cut.0 ∙ ap (λ c. Stopped other c kept) says.0 ∙ ap (λ k. Stopped other after k) keeps

  -- ---- any turns

  did_stopped : (who other : ℕ) (cause : Cause) (after : Option Cause) (made : Option CallRow) (kept : Bool) (a b : Row)
      → MayFollow members table standing (Did who cause made) a → MayStop members table standing other after b kept
      → turn_words table (Did who cause made) ≡ turn_words table (Stopped other after kept) → ⊥
  did_stopped who other cause after made kept a b one two e =
      let cut = who_first who other (cause_words cause ++ call_words table made) (stop_words after kept)
      (small_who who members one.0.member few) (small_who other members (stop_member other after kept b two) few) e in
      step_no_stop table cause made after kept cut.1

  did_restarted : (who other : ℕ) (cause : Cause) (made : Option CallRow) (a : Row) → MayFollow members table standing (Did who cause made) a → other < members
      → turn_words table (Did who cause made) ≡ turn_words table (Restarted other) → ⊥
  did_restarted who other cause made a one two e =
      let cut = who_first who other (cause_words cause ++ call_words table made) (codes "restart")
      (small_who who members one.0.member few) (small_who other members two few) e in
      step_no_restart table cause made cut.1

  stopped_restarted : (who other : ℕ) (cause : Option Cause) (kept : Bool) (a : Row) → MayStop members table standing who cause a kept → other < members
      → turn_words table (Stopped who cause kept) ≡ turn_words table (Restarted other) → ⊥
  stopped_restarted who other cause kept a one two e =
      let cut = who_first who other (stop_words cause kept) (codes "restart")
      (small_who who members (stop_member who cause kept a one) few) (small_who other members two few) e in
      stop_no_restart cause kept cut.1

  arrived : (who late : ℕ) (x : List ℕ) → who < members → decimal who ++ 32 ∷ x ≡ turn_words table (Arrived late) → ⊥
  arrived who late x lt e = no_arrival who x (codes "arrive " ++ decimal late) (small_who who members lt few) e

  same_restarted : (who other : ℕ) → who < members → other < members → turn_words table (Restarted who) ≡ turn_words table (Restarted other)
      → Restarted who ≡ Restarted other
  same_restarted who other lt below e =
      ap Restarted (who_first who other (codes "restart") (codes "restart") (small_who who members lt few) (small_who other members below few) e).0

  same_arrived : (late other : ℕ) → late < 2 ^ 64 → other < 2 ^ 64 → turn_words table (Arrived late) ≡ turn_words table (Arrived other)
      → Arrived late ≡ Arrived other
  same_arrived late other small low e =
      ap Arrived (decimal_injective late other small low (append_cancel_left (codes "- arrive ") (decimal late) (decimal other) e))

  same_turn_of : (one other : Turn) (a b : Row) → MayFollow members table standing one a → MayFollow members table standing other b
      → HasNumbers one → HasNumbers other → turn_words table one ≡ turn_words table other → one ≡ other
  same_turn_of (Did who cause made) (Did other after called) a b one two na nb e = same_did who other cause after made called a b one two na nb e
  same_turn_of (Stopped who cause kept) (Stopped other after had) a b one two na nb e = same_stopped who other cause after kept had a b one two na nb e
  same_turn_of (Restarted who) (Restarted other) a b one two na nb e = same_restarted who other one.0 two.0 e
  same_turn_of (Arrived late) (Arrived other) a b one two na nb e = same_arrived late other na nb e
  same_turn_of (Did who cause made) (Stopped other after kept) a b one two na nb e = absurd (did_stopped who other cause after made kept a b one two e)
  same_turn_of (Stopped other after kept) (Did who cause made) a b one two na nb e = absurd (did_stopped who other cause after made kept b a two one (sym e))
  same_turn_of (Did who cause made) (Restarted other) a b one two na nb e = absurd (did_restarted who other cause made a one two.0 e)
  same_turn_of (Restarted other) (Did who cause made) a b one two na nb e = absurd (did_restarted who other cause made b two one.0 (sym e))
  same_turn_of (Stopped who cause kept) (Restarted other) a b one two na nb e = absurd (stopped_restarted who other cause kept a one two.0 e)
  same_turn_of (Restarted other) (Stopped who cause kept) a b one two na nb e = absurd (stopped_restarted who other cause kept b two one.0 (sym e))
  same_turn_of (Did who cause made) (Arrived late) a b one two na nb e = absurd (arrived who late (cause_words cause ++ call_words table made) one.0.member e)
  same_turn_of (Arrived late) (Did who cause made) a b one two na nb e = absurd (arrived who late (cause_words cause ++ call_words table made) two.0.member (sym e))
  same_turn_of (Stopped who cause kept) (Arrived late) a b one two na nb e = absurd (arrived who late (stop_words cause kept) (stop_member who cause kept a one) e)
  same_turn_of (Arrived late) (Stopped who cause kept) a b one two na nb e =
      absurd (arrived who late (stop_words cause kept) (stop_member who cause kept b two) (sym e))
  same_turn_of (Restarted who) (Arrived late) a b one two na nb e = absurd (arrived who late (codes "restart") one.0 e)
  same_turn_of (Arrived late) (Restarted who) a b one two na nb e = absurd (arrived who late (codes "restart") two.0 (sym e))

-- of two turns that may come next there is one, where a line tells the same of both
pub same_turn : (members : ℕ) (table : Table) (standing : Standing) (a b : Row) → members ≤ 7 → IsWithinLimits table.window
    → MayFollow members table standing a.turn a → MayFollow members table standing b.turn b → HasNumbers a.turn → HasNumbers b.turn
    → turn_words table a.turn ≡ turn_words table b.turn → a.turn ≡ b.turn
same_turn members table standing a b few limits one two na nb e = same_turn_of members table standing few limits a.turn b.turn a b one two na nb e

-- ---- books

abbrev turns_of : List Row → List Turn
turns_of rows = map (λ (row : Row). row.turn) rows

abbrev lines_of : Table → ℕ → List Row → List (List ℕ)
lines_of table first rows = map (turn_line table) (enumerate_from first (turns_of rows))

abbrev AreNumbered : List Row → Type 0
AreNumbered rows = All (λ (row : Row). HasNumbers row.turn) rows

numbered_first : (row : Row) (rows : List Row) → AreNumbered (row ∷ rows) → HasNumbers row.turn
numbered_first row rows all = all 0 row (omega arith)

numbered_rest : (row : Row) (rows : List Row) → AreNumbered (row ∷ rows) → AreNumbered rows
numbered_rest row rows all k d lt = all (suc k) d (omega arith)

same_words : (table : Table) (number : ℕ) (a b : Turn) → turn_line table (number, a) ≡ turn_line table (number, b) → turn_words table a ≡ turn_words table b
same_words table number a b e =
    let rest : 32 ∷ turn_words table a ≡ 32 ∷ turn_words table b = append_cancel_left (decimal number) (32 ∷ turn_words table a) (32 ∷ turn_words table b) e in
    cc

module _ (members : ℕ) (table : Table) (few : members ≤ 7) (limits : IsWithinLimits table.window) where
  abbrev stands : List Row → Standing
  stands rows = standing_after members (first_rows table) rows

  walk : (first : ℕ) (one other back behind : List Row) → IsLegal members table (one ++ back) → IsLegal members table (other ++ behind)
      → stands one ≡ stands other → AreNumbered back → AreNumbered behind → lines_of table first back ≡ lines_of table first behind
      → turns_of back ≡ turns_of behind
  walk first one other [] [] legal lawful come na nb e = refl
  walk first one other [] (second ∷ behind) legal lawful come na nb e = absurd cc
  walk first one other (row ∷ back) [] legal lawful come na nb e = absurd cc
  walk first one other (row ∷ back) (second ∷ behind) legal lawful come na nb e =
      let line : turn_line table (first, row.turn) ≡ turn_line table (first, second.turn) = cc in
      let rest : lines_of table (first + 1) back ≡ lines_of table (first + 1) behind = cc in
      let a = follows_there members table one back row legal in
      let b : MayFollow members table (stands one) second.turn second =
      subst (λ s. MayFollow members table s second.turn second) (sym come) (follows_there members table other behind second lawful) in
      let turn : row.turn ≡ second.turn =
      same_turn members table (stands one) row second few limits a b (numbered_first row back na) (numbered_first second behind nb)
      (same_words table first row.turn second.turn line) in
      let beside : MayFollow members table (stands one) row.turn second = subst (λ turn. MayFollow members table (stands one) turn second) (sym turn) b in
      let alike = alike_after members table (stands one) row.turn row second a beside in
      let come_on : stands (one ++ row ∷ []) ≡ stands (other ++ second ∷ []) =
      stands_next members (first_rows table) one row ∙ alike.stands
      ∙ ap (λ turn. after_row members (stands one) turn second.event second.letters) turn
      ∙ ap (λ s. after_row members s second.turn second.event second.letters) come ∙ sym (stands_next members (first_rows table) other second) in
      let more = walk (first + 1) (one ++ row ∷ []) (other ++ second ∷ []) back behind
      (subst (λ rows. IsLegal members table rows) (sym (append_assoc one (row ∷ []) back)) legal)
      (subst (λ rows. IsLegal members table rows) (sym (append_assoc other (second ∷ []) behind)) lawful)
      come_on (numbered_rest row back na) (numbered_rest second behind nb) rest in
      ap (λ t. t ∷ turns_of back) turn ∙ ap (λ turns. second.turn ∷ turns) more

-- legal books with the same lines have the same turns
pub same_turns : (members : ℕ) (table : Table) (a b : List Row) → members ≤ 7 → IsWithinLimits table.window → IsLegal members table a → IsLegal members table b
    → All (λ (row : Row). HasNumbers row.turn) a → All (λ (row : Row). HasNumbers row.turn) b
    → map (turn_line table) (enumerate_from 0 (map (λ (row : Row). row.turn) a)) ≡ map (turn_line table) (enumerate_from 0 (map (λ (row : Row). row.turn) b))
    → map (λ (row : Row). row.turn) a ≡ map (λ (row : Row). row.turn) b
same_turns members table a b few limits legal lawful na nb e = walk members table few limits 0 [] [] a b legal lawful refl na nb e
