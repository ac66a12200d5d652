-- What a replica takes in a round.
use Rattle.std.proofs.Common.{List, None, Option, Some, [], ap, append-nil as append_nil, append_assoc, false, refl, subst, sym, true, ℕ, ℤ, ◌++◌, ◌∙◌, ◌∷◌, ◌≡◌}
use Rattle.std.specs.Prelude.{◌<ℤ◌}
use Rattle.std.specs.List.{Contains}
use Rattle.std.proofs.lemmas.List.{map-append}
use Rattle.std.proofs.lemmas.List.Concat.{flat_map-append}
use Rattle.disk_model.specs.View.{DiskView}
use Rattle.zone_minutes.specs.declared.minute.Minute.{Minute}
use Rattle.cluster_sched.specs.declared.row.SchedRow.{SchedRow}
use Rattle.due_set.specs.Table.{Table}
use Rattle.step_spec.proofs.Lists.{nothing_in}
use Rattle.history.specs.Book.{Row, Standing}
use Rattle.history.specs.declared.turn.Cause.TheVariants.{Tick, Hear}
use Rattle.replica_core.specs.declared.input.Input.TheVariants as told
use Rattle.replica_node.specs.declared.node.Node.{Node}
use Rattle.script_semantics.specs.Round.{answer_tasks, clock_reading, hear_tasks, tasks_of}
use Rattle.script_semantics.specs.Situation.{Do, Situation}
use Rattle.world_law.specs.Book.{BookState, standing_behind}
use Rattle.world_steps.specs.Steps.{IsBeside, WasToldOf, causes_of, letters_heard_in}
use Rattle.world_steps.specs.declared.steps.Taken.{Taken}
use Rattle.world_rounds.specs.Rounds.{HasTakenRound, IsMemberIdle}
use Rattle.world_rounds.specs.Hearing.{MayHear, MayTakeAnswer, answer_causes, hear_causes}
use Rattle.world_rounds.specs.Taking.{tasks_by}
use Rattle.script_text.specs.Command.{IsSkew}
use Rattle.world_rounds.specs.World.{IsMemberAhead}
use Rattle.world_steps.specs.Parts.{armed_in}
use Rattle.world_rounds.specs.declared.member.Member.{Member}
use Rattle.script_semantics.proofs.RoundLemmas.{clock_inside}

-- ---- causes and tasks

heard_answers : (waits : Option SchedRow) → letters_heard_in (answer_causes waits) ≡ []
heard_answers None = refl
heard_answers (Some row) = refl

heard_hears : (letters : List ℕ) → letters_heard_in (hear_causes letters) ≡ letters
heard_hears [] = refl
heard_hears (letter ∷ letters) = ap (λ more. letter ∷ more) (heard_hears letters)

heard_all : (waits : Option SchedRow) (letters : List ℕ) (now : Minute) → letters_heard_in ((answer_causes waits ++ hear_causes letters) ++ Tick now ∷ []) ≡ letters
heard_all waits letters now =
    flat_map-append _ (answer_causes waits ++ hear_causes letters) (Tick now ∷ []) ∙ append_nil (letters_heard_in (answer_causes waits ++ hear_causes letters))
    ∙ flat_map-append _ (answer_causes waits) (hear_causes letters) ∙ ap (λ front. front ++ letters_heard_in (hear_causes letters)) (heard_answers waits) ∙ heard_hears letters

answers_by : (who : ℕ) (waits : Option SchedRow) → tasks_by who (answer_causes waits) ≡ answer_tasks who waits
answers_by who None = refl
answers_by who (Some row) = refl

hears_by : (who : ℕ) (letters : List ℕ) → tasks_by who (hear_causes letters) ≡ hear_tasks who letters
hears_by who [] = refl
hears_by who (letter ∷ letters) = ap (λ more. Do who (Hear letter) ∷ more) (hears_by who letters)

tasks_all : (who : ℕ) (waits : Option SchedRow) (letters : List ℕ) (now : Minute)
    → tasks_by who ((answer_causes waits ++ hear_causes letters) ++ Tick now ∷ []) ≡ answer_tasks who waits ++ (hear_tasks who letters ++ Do who (Tick now) ∷ [])
tasks_all who waits letters now =
    map-append (Do who) (answer_causes waits ++ hear_causes letters) (Tick now ∷ [])
    ∙ ap (λ front. front ++ Do who (Tick now) ∷ []) (map-append (Do who) (answer_causes waits) (hear_causes letters) ∙ ap (λ front. front ++ tasks_by who (hear_causes letters)) (answers_by who waits)
    ∙ ap (λ back. answer_tasks who waits ++ back) (hears_by who letters))
    ∙ append_assoc (answer_tasks who waits) (hear_tasks who letters) (Do who (Tick now) ∷ [])

module _ {D : Type 0} (view : DiskView D) (table : Table) (book : BookState) where
  -- ---- what is known when it takes a step

  idle_runs : (rows : List Row) (situation : Situation) (who : ℕ) (member : Member D) → IsMemberIdle view table rows book situation who member → member.mail.runs ≡ true
      → (standing_behind table rows book).runs who ≡ true
  idle_runs rows situation who member idle runs = sym (ap (λ (s : Standing). s.runs who) idle.at.standing) ∙ sym idle.ahead.mail.runs ∙ runs

  pub idle_beside : (rows : List Row) (situation : Situation) (who : ℕ) (member : Member D) → IsMemberIdle view table rows book situation who member → member.mail.runs ≡ true
      → IsBeside view table rows book who [] member.node
  idle_beside rows situation who member idle runs = record {
    sound = idle.at.sound;
    behind = idle.at.behind;
    rest = idle.at.rest;
    few = idle.at.few;
    ahead = idle.ahead.running (idle_runs rows situation who member idle runs);
  }

  pub may_answer : (rows : List Row) (situation : Situation) (who : ℕ) (member : Member D) → IsMemberIdle view table rows book situation who member → member.mail.runs ≡ true
      → MayTakeAnswer view table rows book who member.mail.waits member.node
  may_answer rows situation who member idle runs =
      record { beside = idle_beside rows situation who member idle runs; waiting = idle.ahead.mail.waits ∙ ap (λ (s : Standing). s.waits who) idle.at.standing }

  pub may_hear : (rows : List Row) (situation : Situation) (who : ℕ) (member : Member D) (steps : List Taken) (node : Node D) → IsMemberIdle view table rows book situation who member
      → IsBeside view table rows book who steps node → MayHear view table rows book who steps node member.mail.letters.items
  may_hear rows situation who member steps node idle beside = record { beside = beside; sent = idle.ahead.mail.sent }

  pub told_tick : (rows : List Row) (who : ℕ) (steps : List Taken) (now : Minute) (at skew : ℤ) → table.window.from.0 <ℤ table.window.until.0
      → now ≡ clock_reading table.window at skew
      → WasToldOf table rows book who steps (Tick now) (told.Tick now)
  told_tick rows who steps now at skew ordered is =
      record { is_told = refl; inside = rw is (clock_inside table.window at skew ordered) }

  -- ---- what it has taken

  pub round_taken : (rows : List Row) (situation : Situation) (who : ℕ) (at : ℤ) (now : Minute) (old new : Member D) → IsMemberIdle view table rows book situation who old
      → old.mail.runs ≡ true → IsBeside view table rows book who new.steps.items new.node
      → causes_of new.steps.items ≡ (answer_causes old.mail.waits ++ hear_causes old.mail.letters.items) ++ Tick now ∷ [] → now ≡ clock_reading table.window at old.mail.skew
      → new.mail.letters.items ≡ [] → new.mail.runs ≡ old.mail.runs → new.mail.skew ≡ old.mail.skew → new.mail.fate ≡ old.mail.fate → new.mail.waits ≡ old.mail.waits → new.mail.arm ≡ old.mail.arm
      → HasTakenRound view table rows book situation at who new
  round_taken rows situation who at now old new idle runs beside causes reading none running skew fate waits arm = record {
    ahead = record {
      mail = record {
        runs = running ∙ idle.ahead.mail.runs;
        letters_are =
            idle.ahead.mail.letters_are ∙ sym (heard_all old.mail.waits old.mail.letters.items now) ∙ ap letters_heard_in (sym causes)
            ∙ sym (ap (λ letters. letters_heard_in (causes_of new.steps.items) ++ letters) none ∙ append_nil (letters_heard_in (causes_of new.steps.items)));
        skew = skew ∙ idle.ahead.mail.skew;
        small = subst IsSkew (sym skew) idle.ahead.mail.small;
        fate = fate ∙ idle.ahead.mail.fate;
        waits = waits ∙ idle.ahead.mail.waits;
        arm = ap armed_in arm ∙ idle.ahead.mail.arm;
        sent = λ number has. absurd (nothing_in (subst (λ items. Contains items number) none has));
      };
      running = λ here. beside.ahead;
      stopped = λ stopped. absurd (let e : true ≡ false = sym (idle_runs rows situation who old idle runs) ∙ stopped in cc);
    };
    tasks =
        ap (tasks_by who) causes ∙ tasks_all who old.mail.waits old.mail.letters.items now
        ∙ ap (λ waits. answer_tasks who waits ++ (hear_tasks who old.mail.letters.items ++ Do who (Tick now) ∷ [])) idle.ahead.mail.waits
        ∙ ap (λ letters. answer_tasks who (situation.standing.waits who) ++ (hear_tasks who letters ++ Do who (Tick now) ∷ [])) (sym idle.ahead.mail.letters_are)
        ∙ ap (λ now. answer_tasks who (situation.standing.waits who) ++ (hear_tasks who (situation.mails who) ++ Do who (Tick now) ∷ [])) (reading ∙ ap (clock_reading table.window at) idle.ahead.mail.skew)
        ∙ sym (rw (sym idle.ahead.mail.runs ∙ runs) refl);
  }

  no_tasks : (rows : List Row) (situation : Situation) (who : ℕ) (at : ℤ) (member : Member D) → IsMemberIdle view table rows book situation who member
      → member.mail.runs ≡ false → tasks_of table.window at situation who ≡ []
  no_tasks rows situation who at member idle stopped = let e : situation.standing.runs who ≡ false = sym idle.ahead.mail.runs ∙ stopped in rw e refl

  -- nothing, where it is stopped
  pub round_skipped : (rows : List Row) (situation : Situation) (who : ℕ) (at : ℤ) (member : Member D) → IsMemberIdle view table rows book situation who member
      → member.mail.runs ≡ false → HasTakenRound view table rows book situation at who member
  round_skipped rows situation who at member idle stopped = record {
    ahead = subst (λ steps. IsMemberAhead view table rows book situation who steps member) (sym idle.none) idle.ahead;
    tasks = ap (λ steps. tasks_by who (causes_of steps)) idle.none ∙ sym (no_tasks rows situation who at member idle stopped);
  }
