-- What one replica does in a round: it takes an answer, hears its mail, and its clock ticks.
use Rattle.std.proofs.Common.{◌≡◌, ℕ, Option, None, Some, IfSome, List, [], ◌∷◌, ◌++◌, drop, ℤ, refl, sym, ap, ◌∙◌, subst}
use Rattle.std.specs.List.{AllZip}
use Rattle.cluster_sched.specs.declared.fate.Fate.{Fate}
use Rattle.cluster_sched.specs.declared.fate.Fate.TheVariants as fate
use Rattle.cluster_sched.specs.declared.row.SchedRow.{SchedRow}
use Rattle.launch_machine.specs.Clerk.{table_size}
use Rattle.paxos_base.specs.declared.rows.TableSize.{TableSize}
use Rattle.due_set.specs.Table.{Table}
use Rattle.paxos_base.specs.declared.rows.JobRow.{JobRow}
use Rattle.zone_minutes.specs.declared.minute.Minute.{Minute}
use Rattle.step_spec.specs.Folds.{calls_of}
use Rattle.step_spec.specs.Step.{Event, Plan, step}
use Rattle.step_spec.specs.Step as told
use Rattle.agreement.specs.Transition.{identity_of}
use Rattle.history.specs.Book.{PostedLetter, Row, after_row, answer_to}
use Rattle.history.specs.Legal.{MayFollow, TakesTurn}
use Rattle.history.specs.declared.turn.CallRow.{CallRow}
use Rattle.history.specs.declared.turn.Cause.{Cause}
use Rattle.history.specs.declared.turn.Cause.TheVariants.{Tick, Hear, Answer}
use Rattle.history.specs.declared.turn.Turn.TheVariants.{Did}
use Rattle.history.proofs.Standings.{waits_made, waits_none, fact_here}
use Rattle.history.proofs.Turns.{AllFollow}
use Rattle.history.proofs.Keeping.{one_event}
use Rattle.synchronous_rounds.specs.Cluster.{Advice, HeardLetter, after_events, answer_events, events_of, hear_events}
use Rattle.synchronous_rounds.specs.Rounds.{IsAnswerTo}
use Rattle.script_semantics.specs.Round.{answer_tasks, hear_tasks}
use Rattle.script_semantics.specs.Situation.{AreTurnsFor, Situation, Task, Do, Does, after_turn, after_turns, mails_after}
use Rattle.step_spec.proofs.ListLemmas.{found_still}
use Rattle.settling.specs.Stands.{IsLetterAt}
use Rattle.settling.proofs.NameLemmas.{made_answer}
use Rattle.settling.proofs.PassLemmas.{Passes, pass_join, pass_none, turn_passes}
use Rattle.launch_machine.proofs.IntentLemmas.{same_some}

-- The first turns are those of a replica that has taken the events, with this mail left; then come those of the tasks that are left.
pub record Part (members : ℕ) (table : Table) (who : ℕ) (events : List Event) (mail : List ℕ) (tasks : List Task) (situation : Situation) (rows : List Row) : Type 0 where
  pub later : Situation
  pub rest : List Row
  pub same : after_turns members situation rows ≡ after_turns members later rest
  pub turns : AreTurnsFor members later tasks rest
  pub follow : AllFollow members table later.standing rest
  pub passes : Passes members table (table_size table) who events situation later
  pub mailed : later.mails who ≡ mail

part_none : (members : ℕ) (table : Table) (who : ℕ) (mail : List ℕ) (tasks : List Task) (situation : Situation) (rows : List Row)
    → AreTurnsFor members situation tasks rows → AllFollow members table situation.standing rows → situation.mails who ≡ mail
    → Part members table who [] mail tasks situation rows
part_none members table who mail tasks situation rows turns follow mailed = record {
  later = situation;
  rest = rows;
  same = refl;
  turns = turns;
  follow = follow;
  passes = pass_none members table (table_size table) who situation;
  mailed = mailed;
}

-- one part behind another
part_join : (members : ℕ) (table : Table) (who : ℕ) (xs ys : List Event) (one two : List ℕ) (tasks more : List Task) (situation : Situation) (rows : List Row)
    → (first : Part members table who xs one tasks situation rows) → Part members table who ys two more first.later first.rest
    → Part members table who (xs ++ ys) two more situation rows
part_join members table who xs ys one two tasks more situation rows first second = record {
  later = second.later;
  rest = second.rest;
  same = first.same ∙ second.same;
  turns = second.turns;
  follow = second.follow;
  passes = pass_join members table (table_size table) who xs ys situation first.later second.later first.passes second.passes;
  mailed = second.mailed;
}

-- one turn
part_one : (members : ℕ) (table : Table) (who : ℕ) (cause : Cause) (event : Event) (mail : List ℕ) (tasks : List Task) (situation : Situation) (row : Row) (rows : List Row)
    → (does : Does situation.fates who cause row.turn) → AreTurnsFor members (after_turn members situation row) tasks rows
    → AllFollow members table situation.standing (row ∷ rows) → row.event ≡ event → mails_after (Did who cause does.made) situation.mails who ≡ mail
    → Part members table who (event ∷ []) mail tasks situation (row ∷ rows)
part_one members table who cause event mail tasks situation row rows does turns follow is mailed = record {
  later = after_turn members situation row;
  rest = rows;
  same = refl;
  turns = turns;
  follow = follow.1;
  passes = subst (λ e. Passes members table (table_size table) who (e ∷ []) situation (after_turn members situation row)) is
      (turn_passes members table (table_size table) who cause does.made situation row does.is follow.0);
  mailed = ap (λ turn. mails_after turn situation.mails who) does.is ∙ mailed;
}

-- ---- an answer

-- an answer that waits is taken, with the rows of the launch table
pub record Answers (members : ℕ) (table : Table) (who : ℕ) (waits : Option SchedRow) (tasks : List Task) (situation : Situation) (rows : List Row) : Type 0 where
  pub known : List JobRow
  pub part : Part members table who (answer_events waits known) (situation.mails who) tasks situation rows

pub answers_part : (members : ℕ) (table : Table) (who : ℕ) (waits : Option SchedRow) (tasks : List Task) (situation : Situation) (rows : List Row)
    → situation.standing.waits who ≡ waits → AreTurnsFor members situation (answer_tasks who waits ++ tasks) rows → AllFollow members table situation.standing rows
    → Answers members table who waits tasks situation rows
answers_part members table who None tasks situation rows are turns follow =
    record { known = []; part = part_none members table who (situation.mails who) tasks situation rows turns follow refl }
answers_part members table who (Some answer) tasks situation [] are turns follow = absurd cc
answers_part members table who (Some answer) tasks situation (row ∷ rows) are turns follow =
    let may = subst (λ turn. MayFollow members table situation.standing turn row) turns.0.is follow.0 in
    let taken = may.0.event_of in
    let same : taken.row ≡ answer = same_some taken.row answer (sym taken.waits ∙ are) in
    record {
      known = taken.plan.rows;
      part = part_one members table who Answer _ (situation.mails who) tasks situation row rows turns.0 turns.1 follow
          (taken.is ∙ ap (λ (a : SchedRow). told.Answer a.name.job a.name.at a.kind taken.plan.rows) same) refl;
    }

-- ---- a mail

pub zip_posted : (members : ℕ) (size : TableSize) (posted more : List PostedLetter) (who : ℕ) (numbers : List ℕ) (letters : List HeardLetter)
    → AllZip (IsLetterAt members size posted who) numbers letters → AllZip (IsLetterAt members size (posted ++ more) who) numbers letters
zip_posted members size posted more who [] [] zips = zips
zip_posted members size posted more who [] (letter ∷ letters) zips = absurd zips
zip_posted members size posted more who (number ∷ numbers) [] zips = absurd zips
zip_posted members size posted more who (number ∷ numbers) (letter ∷ letters) (one, zips) = (
  record { sent = one.sent; there = found_still posted more number one.sent one.there; to = one.to; heard = one.heard },
  zip_posted members size posted more who numbers letters zips,
)

-- the event of a letter that is heard
heard_event : (members : ℕ) (table : Table) (situation : Situation) (who number : ℕ) (letter : HeardLetter) (event : Event)
    → TakesTurn members table situation.standing who (Hear number) event → IsLetterAt members (table_size table) situation.standing.posted who number letter
    → event ≡ told.Hear letter.from letter.messages
heard_event members table situation who number letter event takes at =
    one_event members table situation.standing who (Hear number) event (told.Hear letter.from letter.messages) takes
    (record {
      member = takes.member;
      runs = takes.runs;
      event_of = record { letter = at.sent; there = at.there; to = at.to; messages = letter.messages; heard = at.heard.heard; is = ap (λ from. told.Hear from letter.messages) at.heard.from };
      planned = tt;
    })

pub hears_part : (members : ℕ) (table : Table) (who : ℕ) (numbers : List ℕ) (letters : List HeardLetter) (tasks : List Task) (situation : Situation) (rows : List Row)
    → situation.mails who ≡ numbers → AllZip (IsLetterAt members (table_size table) situation.standing.posted who) numbers letters
    → AreTurnsFor members situation (hear_tasks who numbers ++ tasks) rows → AllFollow members table situation.standing rows
    → Part members table who (hear_events letters) [] tasks situation rows
hears_part members table who [] [] tasks situation rows mailed zips turns follow = part_none members table who [] tasks situation rows turns follow mailed
hears_part members table who [] (letter ∷ letters) tasks situation rows mailed zips turns follow = absurd zips
hears_part members table who (number ∷ numbers) [] tasks situation rows mailed zips turns follow = absurd zips
hears_part members table who (number ∷ numbers) (letter ∷ letters) tasks situation [] mailed zips turns follow = absurd cc
hears_part members table who (number ∷ numbers) (letter ∷ letters) tasks situation (row ∷ rows) mailed zips turns follow =
    let size = table_size table in
    let may = subst (λ turn. MayFollow members table situation.standing turn row) turns.0.is follow.0 in
    let event = heard_event members table situation who number letter row.event may.0 zips.0 in
    let first = part_one members table who (Hear number) (told.Hear letter.from letter.messages) numbers (hear_tasks who numbers ++ tasks) situation row rows turns.0 turns.1 follow event
    (fact_here who (drop 1 (situation.mails who)) situation.mails ∙ ap (drop 1) mailed) in
    part_join members table who (told.Hear letter.from letter.messages ∷ []) (hear_events letters) numbers [] (hear_tasks who numbers ++ tasks) tasks situation (row ∷ rows) first
    (hears_part members table who numbers letters tasks first.later first.rest first.mailed
    (subst (λ posted. AllZip (IsLetterAt members size posted who) numbers letters) (sym first.passes.posted)
    (zip_posted members size situation.standing.posted first.passes.more who numbers letters zips.1))
    first.turns first.follow)

-- ---- a tick

waits_answer : (members : ℕ) (situation : Situation) (who : ℕ) (cause : Cause) (made : Option CallRow) (row : Row) → row.turn ≡ Did who cause made
    → (after_turn members situation row).standing.waits who ≡ answer_to made
waits_answer members situation who cause None row is =
    ap (λ turn. (after_row members situation.standing turn row.event row.letters).waits who) is ∙ waits_none members situation.standing who cause row.event row.letters
waits_answer members situation who cause (Some made) row is =
    ap (λ turn. (after_row members situation.standing turn row.event row.letters).waits who) is ∙ waits_made members situation.standing who cause made row.event row.letters

fate_done : (made : Option CallRow) (fates : ℕ → Fate) (who : ℕ) → fates who ≡ fate.Done → IfSome made (λ call. call.fate ≡ fates who)
    → (call : CallRow) → made ≡ Some call → call.fate ≡ fate.Done
fate_done None fates who done if_made call is = absurd cc
fate_done (Some made) fates who done if_made call is =
    let same : made ≡ call = same_some made call is in
    ap (λ (c : CallRow). c.fate) (sym same) ∙ if_made ∙ done

-- the clock ticks, and its call is answered
pub record Ticks (members : ℕ) (table : Table) (at : ℤ) (who : ℕ) (mail : List ℕ) (tasks : List Task) (situation : Situation) (rows : List Row) : Type 0 where
  pub plan : Plan
  pub answer : Option SchedRow
  pub part : Part members table who (told.Tick at plan ∷ []) mail tasks situation rows
  pub waits : part.later.standing.waits who ≡ answer
  pub answered : IsAnswerTo (calls_of (step (identity_of members who) (told.Tick at plan) (situation.standing.replicas who))) answer

pub ticks_part : (members : ℕ) (table : Table) (at : ℤ) (now : Minute) (who : ℕ) (mail : List ℕ) (tasks : List Task) (situation : Situation) (rows : List Row)
    → now.0 ≡ at → situation.mails who ≡ mail → situation.fates who ≡ fate.Done
    → AreTurnsFor members situation (Do who (Tick now) ∷ tasks) rows → AllFollow members table situation.standing rows
    → Ticks members table at who mail tasks situation rows
unfolding part_one
ticks_part members table at now who mail tasks situation [] reads mailed done turns follow = absurd cc
ticks_part members table at now who mail tasks situation (row ∷ rows) reads mailed done turns follow =
    let may = subst (λ turn. MayFollow members table situation.standing turn row) turns.0.is follow.0 in
    let plan : Plan = may.0.event_of.1 in
    let event : row.event ≡ told.Tick at plan = may.0.event_of.2 ∙ ap (λ t. told.Tick t plan) reads in
    record {
      plan = plan;
      answer = answer_to turns.0.made;
      part = part_one members table who (Tick now) (told.Tick at plan) mail tasks situation row rows turns.0 turns.1 follow event mailed;
      waits = waits_answer members situation who (Tick now) turns.0.made row turns.0.is;
      answered = subst (λ e. IsAnswerTo (calls_of (step (identity_of members who) e (situation.standing.replicas who))) (answer_to turns.0.made)) event
          (made_answer situation.standing.held _ turns.0.made may.1.call (fate_done turns.0.made situation.fates who done turns.0.fate));
    }

-- ---- all of it

-- a replica has its part of a round, by an advice, and an answer waits for it after that where it called
pub record TakesPart (members : ℕ) (table : Table) (at : ℤ) (who : ℕ) (waits : Option SchedRow) (mail : List HeardLetter) (tasks : List Task) (situation : Situation) (rows : List Row) : Type 0 where
  pub advice : Advice
  pub answer : Option SchedRow
  pub part : Part members table who (events_of at advice waits mail) [] tasks situation rows
  pub waits_now : part.later.standing.waits who ≡ answer
  pub answered : IsAnswerTo (calls_of (step (identity_of members who) (told.Tick at advice.plan)
      (after_events (identity_of members who) (answer_events waits advice.rows ++ hear_events mail) (situation.standing.replicas who)))) answer

pub takes_part : (members : ℕ) (table : Table) (at : ℤ) (now : Minute) (who : ℕ) (waits : Option SchedRow) (numbers : List ℕ) (mail : List HeardLetter) (tasks : List Task) (situation : Situation) (rows : List Row)
    → now.0 ≡ at → situation.standing.waits who ≡ waits → situation.mails who ≡ numbers → situation.fates who ≡ fate.Done
    → AllZip (IsLetterAt members (table_size table) situation.standing.posted who) numbers mail
    → AreTurnsFor members situation (answer_tasks who waits ++ (hear_tasks who numbers ++ Do who (Tick now) ∷ tasks)) rows
    → AllFollow members table situation.standing rows
    → TakesPart members table at who waits mail tasks situation rows
unfolding part_join
takes_part members table at now who waits numbers mail tasks situation rows reads are mailed done zips turns follow =
    let self = identity_of members who in
    let size = table_size table in
    let heard_tasks : List Task = hear_tasks who numbers ++ Do who (Tick now) ∷ tasks in
    let one = answers_part members table who waits heard_tasks situation rows are turns follow in
    let two = hears_part members table who numbers mail (Do who (Tick now) ∷ tasks) one.part.later one.part.rest (one.part.mailed ∙ mailed)
    (subst (λ posted. AllZip (IsLetterAt members size posted who) numbers mail) (sym one.part.passes.posted)
    (zip_posted members size situation.standing.posted one.part.passes.more who numbers mail zips)) one.part.turns one.part.follow in
    let three = ticks_part members table at now who [] tasks two.later two.rest reads two.mailed (two.passes.done who (one.part.passes.done who done)) two.turns two.follow in
    let both = pass_join members table size who (answer_events waits one.known) (hear_events mail) situation one.part.later two.later one.part.passes two.passes in
    let later = part_join members table who (hear_events mail) (told.Tick at three.plan ∷ []) [] [] (Do who (Tick now) ∷ tasks) tasks one.part.later one.part.rest two three.part in
    record {
      advice = record { rows = one.known; plan = three.plan };
      answer = three.answer;
      part = part_join members table who (answer_events waits one.known) (hear_events mail ++ told.Tick at three.plan ∷ []) (situation.mails who) [] heard_tasks tasks situation rows one.part later;
      waits_now = three.waits;
      answered = subst (λ s. IsAnswerTo (calls_of (step self (told.Tick at three.plan) s)) three.answer) both.replica three.answered;
    }
