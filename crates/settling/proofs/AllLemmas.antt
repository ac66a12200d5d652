-- What all replicas do in a round, one after another by their numbers.
use Rattle.std.proofs.Common.{◌≡◌, ◌≢◌, ℕ, zero, suc, ◌+◌, ◌<◌, ◌≤◌, Option, None, List, [], ◌∷◌, ◌++◌, append_assoc, append-nil, ℤ, refl, sym, ap, ◌∙◌, inl, inr, arith, subst}
use Rattle.std.specs.List.{AllZip, filter, flat_map, range_with_len}
use Rattle.std.proofs.lemmas.Bool.{cases_eq}
use Rattle.std.proofs.lemmas.List.Elements.{filter-append}
use Rattle.cluster_sched.specs.declared.fate.Fate.TheVariants as fate
use Rattle.cluster_sched.specs.declared.row.SchedRow.{SchedRow}
use Rattle.launch_machine.specs.Clerk.{table_size}
use Rattle.due_set.specs.Table.{Table}
use Rattle.launch_machine.specs.declared.machine.Intent.TheVariants.{Rest}
use Rattle.zone_minutes.specs.declared.minute.Minute.{Minute}
use Rattle.step_spec.specs.Folds.{calls_of}
use Rattle.step_spec.specs.State.{State}
use Rattle.step_spec.specs.Step.{Event, step}
use Rattle.step_spec.specs.Step as told
use Rattle.agreement.specs.Transition.{identity_of}
use Rattle.history.specs.Book.{PostedLetter, Row, with_fact}
use Rattle.history.specs.declared.turn.Cause.TheVariants.{Tick}
use Rattle.history.proofs.Turns.{AllFollow}
use Rattle.synchronous_rounds.specs.Cluster.{Advice, ArePlanned, Cluster, HeardLetter, after_events, answer_events, events_of, hear_events, letters_to}
use Rattle.synchronous_rounds.specs.Rounds.{IsAnswerTo}
use Rattle.script_semantics.specs.Round.{answer_tasks, hear_tasks}
use Rattle.script_semantics.specs.Situation.{AreTurnsFor, Situation, Task, Do, after_turns}
use Rattle.settling.specs.Stands.{IsHeardLike, IsLetterAt}
use Rattle.settling.proofs.PartLemmas.{TakesPart, takes_part, zip_posted}
use Rattle.settling.proofs.PassLemmas.{Passes, whole_left, whole_right, zip_append}
use Rattle.settling.proofs.PostLemmas.{AreWhole, is_to}
use Rattle.history.proofs.Standings.{fact_here, fact_there}

-- what is told to a replica, by an advice
abbrev pub told_by : ℤ → Cluster → Advice → ℕ → List Event
told_by at cluster advice who = events_of at advice (cluster.waits who) (cluster.mails who)

-- the letters of one replica to another
abbrev pub letters_of_one : (members : ℕ) → ℤ → Cluster → (q : ℕ) → Advice → ℕ → List HeardLetter
letters_of_one members at cluster q advice who = letters_to (identity_of members who) q (told_by at cluster advice who) (cluster.replicas who)

-- A replica as its turns come, and the tasks that it has.
pub record BeginsPart (members : ℕ) (table : Table) (at : ℤ) (tasks : ℕ → List Task) (cluster : Cluster) (situation : Situation) (who : ℕ) : Type 0 where
  pub replica : situation.standing.replicas who ≡ cluster.replicas who
  pub waits : situation.standing.waits who ≡ cluster.waits who
  pub letters : AllZip (IsLetterAt members (table_size table) situation.standing.posted who) (situation.mails who) (cluster.mails who)
  pub done : situation.fates who ≡ fate.Done
  pub now : Minute
  pub reads : now.0 ≡ at
  pub tasks_are : tasks who ≡ answer_tasks who (cluster.waits who) ++ (hear_tasks who (situation.mails who) ++ Do who (Tick now) ∷ [])

-- A replica behind its turns.
pub record HadPart (members : ℕ) (table : Table) (at : ℤ) (cluster : Cluster) (later : Situation) (who : ℕ) (advice : Advice) (answer : Option SchedRow) : Type 0 where
  pub replica : later.standing.replicas who ≡ after_events (identity_of members who) (told_by at cluster advice who) (cluster.replicas who)
  pub waits : later.standing.waits who ≡ answer
  pub mailed : later.mails who ≡ []
  pub planned : ArePlanned (identity_of members who) table (told_by at cluster advice who) (cluster.replicas who)
  pub answered : IsAnswerTo (calls_of (step (identity_of members who) (told.Tick at advice.plan)
      (after_events (identity_of members who) (answer_events (cluster.waits who) advice.rows ++ hear_events (cluster.mails who)) (cluster.replicas who)))) answer

-- So many replicas, from one on, have had their parts.
pub record HadParts (members : ℕ) (table : Table) (at : ℤ) (from count : ℕ) (cluster : Cluster) (situation : Situation) (rows : List Row) : Type 0 where
  pub later : Situation
  pub is : after_turns members situation rows ≡ later
  pub advice : ℕ → Advice
  pub answers : ℕ → Option SchedRow
  pub own : (who : ℕ) → from ≤ who → who < from + count → HadPart members table at cluster later who (advice who) (answers who)
  pub replicas : (other : ℕ) → other < from → later.standing.replicas other ≡ situation.standing.replicas other
  pub waits : (other : ℕ) → other < from → later.standing.waits other ≡ situation.standing.waits other
  pub mails : (other : ℕ) → other < from → later.mails other ≡ situation.mails other
  pub runs : later.standing.runs ≡ situation.standing.runs
  pub cuts : later.cuts ≡ situation.cuts
  pub skews : later.skews ≡ situation.skews
  pub done : (other : ℕ) → situation.fates other ≡ fate.Done → later.fates other ≡ fate.Done
  pub more : List PostedLetter
  pub posted : later.standing.posted ≡ situation.standing.posted ++ more
  pub letters : AreWhole members (table_size table) more → (q : ℕ) → q < members
      → AllZip (IsHeardLike members (table_size table)) (filter (is_to q) more) (flat_map (λ who. letters_of_one members at cluster q (advice who) who) (range_with_len from count))

-- ---- one after another

flat_same : {X : Type 0} (f g : ℕ → List X) (from count : ℕ) → ((k : ℕ) → from ≤ k → f k ≡ g k) → flat_map f (range_with_len from count) ≡ flat_map g (range_with_len from count)
flat_same f g from zero same = refl
flat_same f g from (suc count) same =
    ap (λ list. list ++ flat_map f (range_with_len (from + 1) count)) (same from (omega arith))
    ∙ ap (λ list. g from ++ list) (flat_same f g (from + 1) count (λ k least. same k (omega (arith, least))))

begins_later : (members : ℕ) (table : Table) (at : ℤ) (tasks : ℕ → List Task) (cluster : Cluster) (before after : Situation) (one who : ℕ) (events : List Event)
    → Passes members table (table_size table) one events before after → who ≢ one → BeginsPart members table at tasks cluster before who → BeginsPart members table at tasks cluster after who
begins_later members table at tasks cluster before after one who events passes apart begins =
    let size = table_size table in
    let mailed : before.mails who ≡ after.mails who = sym (passes.mails who apart) in
    record {
      replica = passes.others who apart ∙ begins.replica;
      waits = passes.waits who apart ∙ begins.waits;
      letters = subst (λ mail. AllZip (IsLetterAt members size after.standing.posted who) mail (cluster.mails who)) mailed
          (subst (λ posted. AllZip (IsLetterAt members size posted who) (before.mails who) (cluster.mails who)) (sym passes.posted)
          (zip_posted members size before.standing.posted passes.more who (before.mails who) (cluster.mails who) begins.letters));
      done = passes.done who begins.done;
      now = begins.now;
      reads = begins.reads;
      tasks_are = begins.tasks_are ∙ ap (λ mail. answer_tasks who (cluster.waits who) ++ (hear_tasks who mail ++ Do who (Tick begins.now) ∷ [])) mailed;
    }

tasks_behind : (front mail : List Task) (tick : Task) (rest : List Task) → (front ++ (mail ++ tick ∷ [])) ++ rest ≡ front ++ (mail ++ tick ∷ rest)
tasks_behind front mail tick rest = append_assoc front (mail ++ tick ∷ []) rest ∙ ap (λ list. front ++ list) (append_assoc mail (tick ∷ []) rest)

-- the first has its part
first_part : (members : ℕ) (table : Table) (at : ℤ) (who : ℕ) (tasks : ℕ → List Task) (back : List Task) (cluster : Cluster) (situation : Situation) (rows : List Row)
    → BeginsPart members table at tasks cluster situation who → AreTurnsFor members situation (tasks who ++ back) rows → AllFollow members table situation.standing rows
    → TakesPart members table at who (cluster.waits who) (cluster.mails who) back situation rows
first_part members table at who tasks back cluster situation rows begins turns follow =
    let tick = Do who (Tick begins.now) in
    let so = ap (λ list. list ++ back) begins.tasks_are ∙ tasks_behind (answer_tasks who (cluster.waits who)) (hear_tasks who (situation.mails who)) tick back in
    takes_part members table at begins.now who (cluster.waits who) (situation.mails who) (cluster.mails who) back situation rows begins.reads begins.waits refl begins.done begins.letters
    (subst (λ list. AreTurnsFor members situation list rows) so turns) follow

-- its part, said of what stands for it
had_first : (members : ℕ) (table : Table) (at : ℤ) (who : ℕ) (tasks : ℕ → List Task) (back : List Task) (cluster : Cluster) (situation : Situation) (rows : List Row)
    → BeginsPart members table at tasks cluster situation who → (takes : TakesPart members table at who (cluster.waits who) (cluster.mails who) back situation rows)
    → HadPart members table at cluster takes.part.later who takes.advice takes.answer
had_first members table at who tasks back cluster situation rows begins takes =
    let self = identity_of members who in
    let events = told_by at cluster takes.advice who in
    let front = answer_events (cluster.waits who) takes.advice.rows ++ hear_events (cluster.mails who) in
    record {
      replica = takes.part.passes.replica ∙ ap (after_events self events) begins.replica;
      waits = takes.waits_now;
      mailed = takes.part.mailed;
      planned = subst (λ s. ArePlanned self table events s) begins.replica takes.part.passes.planned;
      answered = subst (λ (s : State). IsAnswerTo (calls_of (step self (told.Tick at takes.advice.plan) (after_events self front s))) takes.answer) begins.replica takes.answered;
    }

-- turns of others leave it so
had_still : (members : ℕ) (table : Table) (at : ℤ) (cluster : Cluster) (before after : Situation) (who : ℕ) (advice : Advice) (answer : Option SchedRow)
    → after.standing.replicas who ≡ before.standing.replicas who → after.standing.waits who ≡ before.standing.waits who → after.mails who ≡ before.mails who
    → HadPart members table at cluster before who advice answer → HadPart members table at cluster after who advice answer
had_still members table at cluster before after who advice answer replica waits mailed had = record {
  replica = replica ∙ had.replica;
  waits = waits ∙ had.waits;
  mailed = mailed ∙ had.mailed;
  planned = had.planned;
  answered = had.answered;
}

no_parts : (members : ℕ) (table : Table) (at : ℤ) (from : ℕ) (cluster : Cluster) (situation : Situation) (rows : List Row) → rows ≡ [] → HadParts members table at from 0 cluster situation rows
no_parts members table at from cluster situation rows none = record {
  later = situation;
  is = rw none refl;
  advice = λ who. record { rows = []; plan = record { rows = []; intent = Rest } };
  answers = λ who. None;
  own = λ who least below. absurd (omega (arith, least, below));
  replicas = λ other below. refl;
  waits = λ other below. refl;
  mails = λ other below. refl;
  runs = refl;
  cuts = refl;
  skews = refl;
  done = λ other is. is;
  more = [];
  posted = sym (append-nil situation.standing.posted);
  letters = λ whole q below. tt;
}

-- one more in front of them
parts_next : (members : ℕ) (table : Table) (at : ℤ) (from count : ℕ) (tasks : ℕ → List Task) (back : List Task) (cluster : Cluster) (situation : Situation) (rows : List Row)
    → BeginsPart members table at tasks cluster situation from → (takes : TakesPart members table at from (cluster.waits from) (cluster.mails from) back situation rows)
    → HadParts members table at (from + 1) count cluster takes.part.later takes.part.rest → HadParts members table at from (suc count) cluster situation rows
parts_next members table at from count tasks back cluster situation rows begins takes behind =
    let size = table_size table in
    let passes = takes.part.passes in
    let advice = with_fact from takes.advice behind.advice in
    let answers = with_fact from takes.answer behind.answers in
    let apart : (other : ℕ) → other < from → other ≢ from = λ other below same. absurd (omega (arith, below, same)) in
    record {
      later = behind.later;
      is = takes.part.same ∙ behind.is;
      advice = advice;
      answers = answers;
      own = λ who least below. elim (cases_eq who from) [
        | inl same ↦ subst (λ k. HadPart members table at cluster behind.later k (advice k) (answers k)) (sym same)
            (rw (fact_here from takes.advice behind.advice, fact_here from takes.answer behind.answers)
            (had_still members table at cluster takes.part.later behind.later from takes.advice takes.answer
            (behind.replicas from (omega arith)) (behind.waits from (omega arith)) (behind.mails from (omega arith))
            (had_first members table at from tasks back cluster situation rows begins takes)))
        | inr other ↦
            rw (fact_there from takes.advice behind.advice who other, fact_there from takes.answer behind.answers who other)
            (behind.own who (omega (arith, least, other)) (omega (arith, below)))
      ];
      replicas = λ other below. behind.replicas other (omega (arith, below)) ∙ passes.others other (apart other below);
      waits = λ other below. behind.waits other (omega (arith, below)) ∙ passes.waits other (apart other below);
      mails = λ other below. behind.mails other (omega (arith, below)) ∙ passes.mails other (apart other below);
      runs = behind.runs ∙ passes.runs;
      cuts = behind.cuts ∙ passes.cuts;
      skews = behind.skews ∙ passes.skews;
      done = λ other is. behind.done other (passes.done other is);
      more = passes.more ++ behind.more;
      posted = behind.posted ∙ ap (λ list. list ++ behind.more) passes.posted ∙ append_assoc situation.standing.posted passes.more behind.more;
      letters = λ whole q below.
          let one = letters_of_one members at cluster q takes.advice from in
          let rest = flat_map (λ who. letters_of_one members at cluster q (behind.advice who) who) (range_with_len (from + 1) count) in
          let here : one ≡ letters_of_one members at cluster q (advice from) from = ap (λ a. letters_of_one members at cluster q a from) (sym (fact_here from takes.advice behind.advice)) in
          let there : rest ≡ flat_map (λ who. letters_of_one members at cluster q (advice who) who) (range_with_len (from + 1) count) =
          flat_same (λ who. letters_of_one members at cluster q (behind.advice who) who) (λ who. letters_of_one members at cluster q (advice who) who) (from + 1) count
          (λ k least. ap (λ a. letters_of_one members at cluster q a k) (sym (fact_there from takes.advice behind.advice k (λ same. absurd (omega (arith, least, same)))))) in
          subst (λ list. AllZip (IsHeardLike members size) list (letters_of_one members at cluster q (advice from) from ++ flat_map (λ who. letters_of_one members at cluster q (advice who) who) (range_with_len (from + 1) count)))
          (sym (filter-append (is_to q) passes.more behind.more))
          (zip_append (IsHeardLike members size) (filter (is_to q) passes.more) (letters_of_one members at cluster q (advice from) from) (filter (is_to q) behind.more) _
          (subst (λ list. AllZip (IsHeardLike members size) (filter (is_to q) passes.more) list) here
          (subst (λ s. AllZip (IsHeardLike members size) (filter (is_to q) passes.more) (letters_to (identity_of members from) q (told_by at cluster takes.advice from) s)) begins.replica
          (passes.letters (whole_left members size passes.more behind.more whole) q below)))
          (subst (λ list. AllZip (IsHeardLike members size) (filter (is_to q) behind.more) list) there
          (behind.letters (whole_right members size passes.more behind.more whole) q below)));
    }

pub all_parts : (members : ℕ) (table : Table) (at : ℤ) (from count : ℕ) (tasks : ℕ → List Task) (cluster : Cluster) (situation : Situation) (rows : List Row)
    → ((who : ℕ) → from ≤ who → who < from + count → BeginsPart members table at tasks cluster situation who)
    → AreTurnsFor members situation (flat_map tasks (range_with_len from count)) rows → AllFollow members table situation.standing rows
    → HadParts members table at from count cluster situation rows
all_parts members table at from zero tasks cluster situation rows begins turns follow = no_parts members table at from cluster situation rows turns
all_parts members table at from (suc count) tasks cluster situation rows begins turns follow =
    let back = flat_map tasks (range_with_len (from + 1) count) in
    let first = begins from (omega arith) (omega arith) in
    let takes = first_part members table at from tasks back cluster situation rows first turns follow in
    parts_next members table at from count tasks back cluster situation rows first takes
    (all_parts members table at (from + 1) count tasks cluster takes.part.later takes.part.rest
    (λ who least below. begins_later members table at tasks cluster situation takes.part.later from who _ takes.part.passes (λ same. absurd (omega (arith, least, same)))
    (begins who (omega (arith, least)) (omega (arith, below))))
    takes.part.turns takes.part.follow)
