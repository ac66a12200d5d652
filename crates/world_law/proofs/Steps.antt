-- A step that a replica takes beside a legal book is a turn of it.
use Rattle.std.proofs.Common.{◌≡◌, ℕ, ◌≤◌, List, [], ◌∷◌, ◌++◌, length, Option, Some, refl, sym, ap, ◌∙◌, subst, Bool, suc}
use Rattle.std.specs.List.{AllZip, flat_map, slice_get}
use Rattle.std.specs.Option.{option_map, option_to_list}
use Rattle.std.proofs.lemmas.Option.{slice_get-map}
use Rattle.paxos_letter.proofs.LetterLemmas.{letter_again}
use Rattle.zone_minutes.specs.declared.minute.Minute.{Minute}
use Rattle.cluster_sched.specs.declared.row.SchedRow.{SchedRow}
use Rattle.due_set.specs.Table.{Table}
use Rattle.launch_machine.specs.Clerk.{first_rows, table_size}
use Rattle.step_spec.specs.Act.{Act}
use Rattle.step_spec.specs.Folds.{after_acts, letters_of}
use Rattle.step_spec.specs.Letters.{IsHeardAs, IsSpelled}
use Rattle.step_spec.specs.Message.{Message}
use Rattle.step_spec.specs.Step.{Event, IsLaunchTable, IsPlanned, step}
use Rattle.step_spec.specs.State.{Identity}
use Rattle.step_spec.specs.declared.out.OutLetter.{OutLetter}
use Rattle.launch_machine.specs.declared.machine.Intent.TheVariants.{Rest}
use Rattle.step_spec.specs.Step as heard
use Rattle.step_spec.proofs.Lists.{found_in}
use Rattle.agreement.specs.Transition.{identity_of}
use Rattle.history.specs.Book.{Row, Standing, acts_at, after_row, standing_after, vote_of_delta}
use Rattle.history.specs.Legal.{IsEventOfCause, IsHeard, IsMade, TakesTurn}
use Rattle.history.specs.declared.turn.CallRow.{CallRow}
use Rattle.history.specs.declared.turn.Cause.{Cause}
use Rattle.history.specs.declared.turn.Cause.TheVariants.{Campaign, Tick, Hear, Answer}
use Rattle.history.specs.declared.turn.Turn.TheVariants.{Did}
use Rattle.history.proofs.Acts.{with_here}
use Rattle.history.proofs.Keeping.{stands_next, votes_changed}
use Rattle.history.proofs.Posted.{letters_for_members, posted_by}
use Rattle.replica_core.specs.Replica.{ReplicaState}
use Rattle.replica_core.specs.Step.{IsEventOf, IsInputInside, Steps, Takes}
use Rattle.replica_core.specs.declared.input.Input.{Input}
use Rattle.replica_core.specs.declared.input.Input.TheVariants as told
use Rattle.replica_core.specs.declared.out.StepOut.{StepOut}
use Rattle.world_law.specs.Book.{BookState, HasRoom, MayTickFor, StandsBehind, posted_as, standing_behind}
use Rattle.world_law.specs.Replicas.{IsInputOf, IsLetterInput, IsToldLetter, IsTurnOf, StandsAt}
use Rattle.world_law.specs.declared.letter.LetterRow.{LetterRow}

-- ---- the event

-- the letter of a number is the one that was posted
pub posted_at : (table : Table) (rows : List Row) (book : BookState) (number : ℕ) (letter : LetterRow) → StandsBehind table rows book → slice_get book.letters number ≡ Some letter
    → slice_get (standing_behind table rows book).posted number ≡ Some (posted_as letter)
posted_at table rows book number letter behind there =
    ap (λ posted. slice_get posted number) (sym behind.letters) ∙ slice_get-map posted_as book.letters number ∙ ap (option_map posted_as) there

-- what is heard of a letter's bytes
hears : (table : Table) (old : ReplicaState) (event : Event) (input : Input) (bytes : List ℕ) → IsLetterInput input bytes → IsEventOf table old input event
    → (from : ℕ) × (messages : List Message) × IsHeardAs old.identity.members (table_size table) bytes from messages × (event ≡ heard.Hear from messages)
hears table old event told.Campaign bytes is told = absurd is
hears table old event (told.Tick now) bytes is told = absurd is
hears table old event (told.Hear letter) bytes is told =
    (told.0, told.1, subst (λ bytes. IsHeardAs old.identity.members (table_size table) bytes told.0 told.1) is told.2, told.3)
hears table old event (told.Answer job at kind) bytes is told = absurd is

is_heard : (table : Table) (rows : List Row) (book : BookState) (number : ℕ) (input : Input) (old : ReplicaState) (event : Event) → StandsBehind table rows book
    → StandsAt table rows book old → IsToldLetter book old.identity.me number input → IsEventOf table old input event
    → IsHeard book.members (table_size table) (standing_behind table rows book) old.identity.me number event
is_heard table rows book number input old event behind at is told =
    let there = posted_at table rows book number is.letter behind is.there in
    let found = hears table old event input is.letter.bytes is.is told in
    let members : old.identity.members ≡ book.members = ap (λ (self : Identity). self.members) at.identity in
    let mine : IsHeardAs book.members (table_size table) is.letter.bytes found.0 found.1 = subst (λ n. IsHeardAs n (table_size table) is.letter.bytes found.0 found.1) members found.2 in
    let sender = (letter_again book.members found.0 mine.packets is.letter.bytes mine.spells).sender in
    let poster = posted_by book.members table rows (posted_as is.letter) behind.legal (found_in (standing_behind table rows book).posted number (posted_as is.letter) there) in
    let from : found.0 ≡ is.letter.from = sym sender ∙ poster in
    record {
      letter = posted_as is.letter;
      there = there;
      to = is.to;
      messages = found.1;
      heard = subst (λ from. IsHeardAs book.members (table_size table) is.letter.bytes from found.1) from mine;
      is = found.3 ∙ ap (λ from. heard.Hear from found.1) from;
    }

pub takes_turn : (table : Table) (rows : List Row) (book : BookState) (cause : Cause) (input : Input) (old : ReplicaState) (event : Event) → StandsBehind table rows book
    → StandsAt table rows book old → IsInputOf (standing_behind table rows book) book old.identity.me cause input → IsInputInside table input → IsEventOf table old input event
    → TakesTurn book.members table (standing_behind table rows book) old.identity.me cause event
takes_turn table rows book cause input old event behind at is inside told =
    let found = go cause is in
    record { member = at.member; runs = at.runs; event_of = found.0; planned = found.1 }
  where
    launches : IsLaunchTable table ((standing_behind table rows book).replicas old.identity.me) old.machine.rows
    launches = subst (λ state. IsLaunchTable table state old.machine.rows) at.state at.of_table.rows

    go : (cause : Cause) → IsInputOf (standing_behind table rows book) book old.identity.me cause input
        → IsEventOfCause book.members table (standing_behind table rows book) old.identity.me cause event
        × IsPlanned table ((standing_behind table rows book).replicas old.identity.me) event
    go Campaign is = let same : event ≡ heard.Campaign = subst (λ input. IsEventOf table old input event) is told in (same, rw same tt)
    go (Tick now) is =
        let asked = subst (λ input. IsEventOf table old input event) is told in
        let within = subst (λ input. IsInputInside table input) is inside in
        let asked_of : IsLaunchTable table ((standing_behind table rows book).replicas old.identity.me) asked.0.rows =
        subst (λ launched. IsLaunchTable table ((standing_behind table rows book).replicas old.identity.me) launched) (sym asked.1.rows) launches in
        ((within, asked.0, asked.2), rw asked.2 (asked_of, asked.1.intent))
    go (Hear number) is = let has = is_heard table rows book number input old event behind at is told in (has, rw has.is tt)
    go Answer is =
        let same : event ≡ heard.Answer is.row.name.job is.row.name.at is.row.kind old.machine.rows = subst (λ input. IsEventOf table old input event) is.is told in
        (record { row = is.row; waits = is.waits; plan = record { rows = old.machine.rows; intent = Rest }; is = same }, rw same launches)

-- ---- the turn

after_did : (n : ℕ) (s : Standing) (who : ℕ) (cause : Cause) (made : Option CallRow) (event : Event) (letters : List OutLetter)
    → ((after_row n s (Did who cause made) event letters).runs ≡ s.runs)
    × ((after_row n s (Did who cause made) event letters).replicas who ≡ after_acts (acts_at n s who event) (s.replicas who))
unfolding after_row
after_did n s who cause made event letters = (refl, with_here who (after_acts (acts_at n s who event) (s.replicas who)) s.replicas)

-- the replica's own step is the one that the book has of it
takes_acts : (table : Table) (rows : List Row) (book : BookState) (event : Event) (old new : ReplicaState) (out : StepOut) → StandsAt table rows book old
    → Takes table old new (step old.identity event old.state) out → Takes table old new (acts_at book.members (standing_behind table rows book) old.identity.me event) out
takes_acts table rows book event old new out at took =
    subst (λ acts. Takes table old new acts out)
    (ap (λ self. step self event old.state) at.identity ∙ ap (λ state. step (identity_of book.members old.identity.me) event state) at.state) took

stands_next_to : (table : Table) (rows : List Row) (book after : BookState) (cause : Cause) (made : Option CallRow) (event : Event) (old new : ReplicaState) (out : StepOut) (row : Row)
    → StandsAt table rows book old → Takes table old new (acts_at book.members (standing_behind table rows book) old.identity.me event) out → after.members ≡ book.members
    → row.turn ≡ Did old.identity.me cause made → row.event ≡ event → StandsAt table (rows ++ row ∷ []) after new
stands_next_to table rows book after cause made event old new out row at took members turn event_is = record {
  identity = took.identity ∙ at.identity ∙ rw (members, me) refl;
  member = rw (members, me) at.member;
  runs = rw me (ap (λ (s : Standing). s.runs old.identity.me) stands ∙ ap (λ (runs : ℕ → Bool). runs old.identity.me) did.0 ∙ at.runs);
  state =
      rw me (took.state ∙ ap (after_acts (acts_at book.members (standing_behind table rows book) old.identity.me event)) at.state ∙ sym did.1
      ∙ sym (ap (λ (s : Standing). s.replicas old.identity.me) stands));
  of_table = took.of_table;
}
  where
    me : new.identity.me ≡ old.identity.me
    me = ap (λ (self : Identity). self.me) took.identity

    did : ((after_row book.members (standing_behind table rows book) (Did old.identity.me cause made) event row.letters).runs ≡ (standing_behind table rows book).runs)
        × ((after_row book.members (standing_behind table rows book) (Did old.identity.me cause made) event row.letters).replicas old.identity.me
        ≡ after_acts (acts_at book.members (standing_behind table rows book) old.identity.me event) ((standing_behind table rows book).replicas old.identity.me))
    did = after_did book.members (standing_behind table rows book) old.identity.me cause made event row.letters

    stands : standing_behind table (rows ++ row ∷ []) after ≡ after_row book.members (standing_behind table rows book) (Did old.identity.me cause made) event row.letters
    stands =
        ap (λ n. standing_after n (first_rows table) (rows ++ row ∷ [])) members ∙ stands_next book.members (first_rows table) rows row
        ∙ ap (λ turn. after_row book.members (standing_behind table rows book) turn row.event row.letters) turn
        ∙ ap (λ event. after_row book.members (standing_behind table rows book) (Did old.identity.me cause made) event row.letters) event_is

pub step_is_turn : (table : Table) (rows : List Row) (book : BookState) (cause : Cause) (made : Option CallRow) (input : Input) (old new : ReplicaState) (out : StepOut)
    → book.members ≤ 7 → StandsBehind table rows book → StandsAt table rows book old → IsInputOf (standing_behind table rows book) book old.identity.me cause input
    → IsInputInside table input → Steps table input old new out → IsMade (standing_behind table rows book).held (option_to_list out.call) made
    → IsTurnOf table rows book old.identity.me cause made out new
step_is_turn table rows book cause made input old new out few behind at is inside steps call =
    let takes = takes_turn table rows book cause input old steps.event behind at is inside steps.event_is in
    let took = takes_acts table rows book steps.event old new out at steps.took in
    let acts : List Act = acts_at book.members (standing_behind table rows book) old.identity.me steps.event in
    let spelled : AllZip (IsSpelled 7 old.identity.me) (letters_of (identity_of book.members old.identity.me) acts) out.letters =
    subst (λ self. AllZip (IsSpelled 7 old.identity.me) (letters_of self acts) out.letters) at.identity took.letters in
    let row : Row = record {
      turn = Did old.identity.me cause made;
      event = steps.event;
      letters = out.letters;
      votes = flat_map vote_of_delta (option_to_list out.delta);
      learnt = out.learnt;
    } in
    record {
      row = row;
      is = record { turn_is = refl; letters = refl; votes = refl; learnt = refl };
      may = (
        takes,
        record {
          letters = letters_for_members book.members table rows old.identity.me cause steps.event out.letters few behind.legal takes spelled;
          votes = sym (votes_changed acts ∙ ap (flat_map vote_of_delta) took.delta);
          learnt = took.learnt;
          call = subst (λ calls. IsMade (standing_behind table rows book).held calls made) (sym took.call) call;
        },
      );
      stands = λ after members. stands_next_to table rows book after cause made steps.event old new out row at took members refl refl;
    }

-- ---- the call

zip_length : {A B : Type 0} (P : A → B → Type 0) (xs : List A) (ys : List B) → AllZip P xs ys → length xs ≡ length ys
zip_length P [] [] zips = refl
zip_length P [] (y ∷ ys) zips = absurd zips
zip_length P (x ∷ xs) [] zips = absurd zips
zip_length P (x ∷ xs) (y ∷ ys) zips = ap suc (zip_length P xs ys zips.1)

-- a tick that asked for a call may be answered
pub step_may_call : (table : Table) (rows : List Row) (book : BookState) (now : Minute) (input : Input) (old new : ReplicaState) (out : StepOut) (row : SchedRow)
    → StandsBehind table rows book → StandsAt table rows book old → input ≡ told.Tick now → IsInputInside table input → Steps table input old new out
    → out.call ≡ Some row → HasRoom (length out.letters) book → MayTickFor table book row
step_may_call table rows book now input old new out row behind at is inside steps call room =
    let takes = takes_turn table rows book (Tick now) input old steps.event behind at is inside steps.event_is in
    let took = takes_acts table rows book steps.event old new out at steps.took in
    let acts : List Act = acts_at book.members (standing_behind table rows book) old.identity.me steps.event in
    let spelled : AllZip (IsSpelled 7 old.identity.me) (letters_of (identity_of book.members old.identity.me) acts) out.letters =
    subst (λ self. AllZip (IsSpelled 7 old.identity.me) (letters_of self acts) out.letters) at.identity took.letters in
    let long = zip_length (IsSpelled 7 old.identity.me) (letters_of (identity_of book.members old.identity.me) acts) out.letters spelled in
    record {
      rows = rows;
      behind = behind;
      who = old.identity.me;
      now = now;
      event = steps.event;
      takes = takes;
      asks = took.call ∙ ap option_to_list call;
      room = subst (λ count. HasRoom count book) (sym long) room;
    }
