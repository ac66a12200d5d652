-- A reader that passes over the rows of a group: what is kept beside the rows doesn't hang on them.
use Rattle.std.proofs.Common.{◌≡◌, ℕ, Bool, true, false, ◌&&◌, Option, Some, None, Ok, Err, List, [], ◌∷◌, ◌++◌, length, map, drop, refl, sym, ap, ◌∙◌, subst, inl, inr}
use Rattle.std.specs.Prelude.{Result, MatchResult, nat_le, if◌then◌else◌}
use Rattle.std.specs.List.{filter_map, last_or}
use Rattle.std.specs.Option.{option_or}
use Rattle.std.proofs.lemmas.List.{length-map}
use Rattle.std.proofs.lemmas.Option.{none-some, same_Some}
use Rattle.paxos_base.specs.declared.rows.TableSize.{TableSize}
use Rattle.paxos_base.specs.declared.rows.JobRow.{JobRow}
use Rattle.paxos_base.specs.declared.durable.Durable.{Durable}
use Rattle.store_format.specs.declared.body.Record.{Record}
use Rattle.store_format.specs.declared.body.Record.TheVariants.{Tried, Promised, Voted, Base, Row}
use Rattle.store_format.specs.declared.fault.ReadFault.{ReadFault}
use Rattle.store_format.specs.declared.fault.ReadFault.TheVariants.{OutOfMemory}
use Rattle.store_format.specs.declared.place.Place.{Place}
use Rattle.store_format.specs.declared.place.Place.TheVariants.{Start, Rows, CopyStart, CopyTried, CopyPromised, CopyVotes, Log}
use Rattle.store_format.specs.Area.{StandFor, Stands, fresh_kept, group_of, rows_of_group, copy_records}
use Rattle.store_format.specs.Beside.{beside, IsBehindGroup}
use Rattle.store_format.specs.Order.{IsKeptSound}
use Rattle.store_format.specs.Places.{copy_place, is_above, is_behind, keeps_order, log_place, next_place, taken, takes_own, takes_promise, takes_votes}
use Rattle.store_format.specs.Records.{AreRecords, IsRecord, own_ballot, tried_in}
use Rattle.store_format.proofs.Machine.{IsChange, Reading, reading, run, runs_on, runs_from, run_steps, next-copy, next-log}
use Rattle.store_format.proofs.StandLemmas.{change_not, with_rows}
use Rattle.store_format.proofs.CopyRuns.{copy_reads}
use Rattle.store_format.proofs.BodyLemmas.{AreRecords-append, AreRecords-same, own_ballot-append, own_ballot-push}
use Rattle.store_format.proofs.SoundLemmas.{StandFor-sound, rows_untried}
use Rattle.store_format.proofs.RecordLemmas.{IsRecord-same}

-- ---- what is kept beside the rows

-- behind a group: in a copy or in a log
abbrev pub IsBehind : Place → Type 0
IsBehind Start = ⊥
IsBehind (Rows total) = ⊥
IsBehind place = Unit {0}

next-beside : (size : TableSize) (place : Place) (kept : Durable) (rows : List JobRow) (item : Record) → IsBehind place → next_place size place (beside rows kept) item ≡ next_place size place kept item
next-beside size Start kept rows item behind = absurd behind
next-beside size (Rows total) kept rows item behind = absurd behind
next-beside size CopyStart kept rows (Tried ballot) behind = refl
next-beside size CopyStart kept rows (Promised ballot) behind = refl
next-beside size CopyStart kept rows (Voted vote) behind = refl
next-beside size CopyStart kept rows (Base slot count) behind = refl
next-beside size CopyStart kept rows (Row slot row) behind = refl
next-beside size CopyTried kept rows (Tried ballot) behind = refl
next-beside size CopyTried kept rows (Promised ballot) behind = refl
next-beside size CopyTried kept rows (Voted vote) behind = refl
next-beside size CopyTried kept rows (Base slot count) behind = refl
next-beside size CopyTried kept rows (Row slot row) behind = refl
next-beside size CopyPromised kept rows (Tried ballot) behind = refl
next-beside size CopyPromised kept rows (Promised ballot) behind = refl
next-beside size CopyPromised kept rows (Voted vote) behind = refl
next-beside size CopyPromised kept rows (Base slot count) behind = refl
next-beside size CopyPromised kept rows (Row slot row) behind = refl
next-beside size CopyVotes kept rows (Tried ballot) behind = refl
next-beside size CopyVotes kept rows (Promised ballot) behind = refl
next-beside size CopyVotes kept rows (Voted vote) behind = refl
next-beside size CopyVotes kept rows (Base slot count) behind = refl
next-beside size CopyVotes kept rows (Row slot row) behind = refl
next-beside size Log kept rows (Tried ballot) behind = refl
next-beside size Log kept rows (Promised ballot) behind = refl
next-beside size Log kept rows (Voted vote) behind = refl
next-beside size Log kept rows (Base slot count) behind = refl
next-beside size Log kept rows (Row slot row) behind = refl

behind_if : (test : Bool) (place next : Place) → IsBehind place → (if test then Some place else None) ≡ Some next → IsBehind next
behind_if true place next behind e = subst IsBehind (same_Some place next e) behind
behind_if false place next behind e = absurd (none-some next e)

behind_or : (one other : Option Place) (next : Place) → ((p : Place) → one ≡ Some p → IsBehind p) → ((p : Place) → other ≡ Some p → IsBehind p) → option_or one other ≡ Some next → IsBehind next
behind_or None other next first second e = second next e
behind_or (Some place) other next first second e = first next e

copy_behind : (place : Place) (kept : Durable) (item : Record) (next : Place) → copy_place place kept item ≡ Some next → IsBehind next
copy_behind place kept (Tried ballot) next e = behind_if (takes_own place) CopyTried next tt e
copy_behind place kept (Promised ballot) next e = behind_if (takes_promise place && is_above ballot kept.promised) CopyPromised next tt e
copy_behind place kept (Voted vote) next e = behind_if (takes_votes place && (nat_le kept.base vote.slot && is_behind vote.slot kept.votes)) CopyVotes next tt e
copy_behind place kept (Base slot count) next e = absurd (none-some next e)
copy_behind place kept (Row slot row) next e = absurd (none-some next e)

log_behind : (kept : Durable) (item : Record) (next : Place) → log_place kept item ≡ Some next → IsBehind next
log_behind kept item next e = behind_if (keeps_order kept item) Log next tt e

from_copy : (size : TableSize) (place : Place) (kept : Durable) (item : Record) (next : Place) → takes_votes place ≡ true → next_place size place kept item ≡ Some next → IsBehind next
from_copy size place kept item next copies e =
    behind_or (copy_place place kept item) (log_place kept item) next (copy_behind place kept item) (log_behind kept item) (sym (next-copy size place kept item copies) ∙ e)

-- a record leads no way back into a group
next_behind : (size : TableSize) (place : Place) (kept : Durable) (item : Record) (next : Place) → IsBehind place → next_place size place kept item ≡ Some next → IsBehind next
next_behind size Start kept item next behind e = absurd behind
next_behind size (Rows total) kept item next behind e = absurd behind
next_behind size CopyStart kept item next behind e = from_copy size CopyStart kept item next refl e
next_behind size CopyTried kept item next behind e = from_copy size CopyTried kept item next refl e
next_behind size CopyPromised kept item next behind e = from_copy size CopyPromised kept item next refl e
next_behind size CopyVotes kept item next behind e = from_copy size CopyVotes kept item next refl e
next_behind size Log kept item next behind e = log_behind kept item next (sym (next-log size kept item) ∙ e)

no_base : (size : TableSize) (place : Place) (kept : Durable) (slot count : ℕ) (next : Place) → IsBehind place → next_place size place kept (Base slot count) ≡ Some next → ⊥
no_base size Start kept slot count next behind e = behind
no_base size (Rows total) kept slot count next behind e = behind
no_base size CopyStart kept slot count next behind e = none-some next e
no_base size CopyTried kept slot count next behind e = none-some next e
no_base size CopyPromised kept slot count next behind e = none-some next e
no_base size CopyVotes kept slot count next behind e = none-some next e
no_base size Log kept slot count next behind e = none-some next e

no_row : (size : TableSize) (place : Place) (kept : Durable) (slot : ℕ) (row : JobRow) (next : Place) → IsBehind place → next_place size place kept (Row slot row) ≡ Some next → ⊥
no_row size Start kept slot row next behind e = behind
no_row size (Rows total) kept slot row next behind e = behind
no_row size CopyStart kept slot row next behind e = none-some next e
no_row size CopyTried kept slot row next behind e = none-some next e
no_row size CopyPromised kept slot row next behind e = none-some next e
no_row size CopyVotes kept slot row next behind e = none-some next e
no_row size Log kept slot row next behind e = none-some next e

taken-beside : (size : TableSize) (place : Place) (kept : Durable) (rows : List JobRow) (item : Record) (next : Place) → IsBehind place → next_place size place kept item ≡ Some next
    → taken size next item (beside rows kept) ≡ beside rows (taken size next item kept)
taken-beside size place kept rows (Tried ballot) next behind e = refl
taken-beside size place kept rows (Promised ballot) next behind e = refl
taken-beside size place kept rows (Voted vote) next behind e = refl
taken-beside size place kept rows (Base slot count) next behind e = absurd (no_base size place kept slot count next behind e)
taken-beside size place kept rows (Row slot row) next behind e = absurd (no_row size place kept slot row next behind e)

pub run-beside : (size : TableSize) (place : Place) (kept : Durable) (rows : List JobRow) (items : List Record) (last : Reading) → IsBehind place → run size (reading place kept) items ≡ Some last
    → run size (reading place (beside rows kept)) items ≡ Some (reading last.place (beside rows last.kept))
run-beside size place kept rows [] last behind runs = ap (λ (s : Reading). Some (reading s.place (beside rows s.kept))) (same_Some (reading place kept) last runs)
run-beside size place kept rows (item ∷ items) last behind runs =
    let step = run_steps size place kept item items last runs in
    runs_from size place step.next (beside rows kept) item items (next-beside size place kept rows item behind ∙ step.at)
    ∙ ap (λ (k : Durable). run size (reading step.next k) items) (taken-beside size place kept rows item step.next behind step.at)
    ∙ run-beside size step.next (taken size step.next item kept) rows items last (next_behind size place kept item step.next behind step.at) step.rest

-- ---- bodies behind a group

AreRecords-drop : (bodies : List (List ℕ)) (items more : List Record) → AreRecords bodies (items ++ more) → AreRecords (drop (length items) bodies) more
AreRecords-drop bodies [] more are = are
AreRecords-drop [] (item ∷ items) more are = absurd are
AreRecords-drop (body ∷ bodies) (item ∷ items) more are = AreRecords-drop bodies items more are.1

-- what a reader comes to that begins behind the group of a base at a slot, with no rows
pub record ReadsBehind (size : TableSize) (slot : ℕ) (rest : List (List ℕ)) (place : Place) (kept : Durable) (own : Option ℕ) : Type 0 where
  pub items : List Record
  pub are : AreRecords rest items
  pub runs : run size (reading CopyStart (with_rows slot [])) items ≡ Some (reading place kept)
  pub own_is : own ≡ own_ballot items

pub ReadsBehind-none : (size : TableSize) (slot : ℕ) → ReadsBehind size slot [] CopyStart (with_rows slot []) None
ReadsBehind-none size slot = record { items = []; are = tt; runs = refl; own_is = refl }

pub ReadsBehind-next : (size : TableSize) (slot : ℕ) (rest : List (List ℕ)) (place next : Place) (kept : Durable) (own : Option ℕ) (body : List ℕ) (item : Record) → ReadsBehind size slot rest place kept own → IsRecord body item
    → next_place size place kept item ≡ Some next → ReadsBehind size slot (rest ++ body ∷ []) next (taken size next item kept) (option_or (tried_in item) own)
ReadsBehind-next size slot rest place next kept own body item reads is at =
    record {
      items = reads.items ++ item ∷ [];
      are = AreRecords-append rest (body ∷ []) reads.items (item ∷ []) reads.are (is, tt);
      runs = runs_on size (reading CopyStart (with_rows slot [])) (reading place kept) (reading next (taken size next item kept)) reads.items (item ∷ []) reads.runs (runs_from size place next kept item [] at);
      own_is = ap (option_or (tried_in item)) reads.own_is ∙ sym (own_ballot-push reads.items item);
    }

-- of bodies that begin with a base and stand for a state, the records behind the group lead to it, but for the rows
record IsBaseThen (size : TableSize) (slot : ℕ) (rest : List (List ℕ)) (kept : Durable) (own : Option ℕ) : Type 0 where
  pub items : List Record
  pub are : AreRecords rest items
  pub place : Place
  pub runs : run size (reading CopyStart (with_rows slot [])) items ≡ Some (reading place (beside [] kept))
  pub own_is : own ≡ own_ballot items

abbrev slot_of : Record → ℕ
slot_of (Base slot count) = slot
slot_of item = 0

abbrev count_of : Record → ℕ
count_of (Base slot count) = count
count_of item = 0

group_own : (slot : ℕ) (rows : List JobRow) (more : List Record) → own_ballot (group_of slot rows ++ more) ≡ own_ballot more
group_own slot rows more =
    own_ballot-append (group_of slot rows) more ∙ ap (λ (tried : List ℕ). last_or (last_or None tried) (filter_map tried_in more)) (rows_untried slot rows)

base_then : (size : TableSize) (slot : ℕ) (bodies rest : List (List ℕ)) (kept : Durable) (own : Option ℕ) → IsBehindGroup bodies slot rest → StandFor size bodies kept own → IsBaseThen size slot rest kept own
base_then size slot bodies rest kept own group stand =
    by stand.items (subst (λ (all : List (List ℕ)). AreRecords all stand.items) group.bodies_are stand.are_records) stand.stands stand.own_is
  where
    by : (items : List Record) → AreRecords (group.body ∷ group.tail) items → Stands size items kept → own ≡ own_ballot items → IsBaseThen size slot rest kept own
    by [] are stands own_is = absurd are
    by (item ∷ more) are (inl log) own_is =
        let same : item ≡ Base slot group.count = IsRecord-same group.body item (Base slot group.count) are.0 group.base in
        absurd (subst IsChange same (change_not size (fresh_kept size) kept item more log))
    by (item ∷ more) are (inr base) own_is =
        let items : List Record = copy_records base.copy ++ base.log in
        let rows : List Record = map (λ (row : JobRow). Row base.slot row) base.rows in
        let are_parts : AreRecords (group.body ∷ group.tail) (group_of base.slot base.rows ++ items) = subst (AreRecords (group.body ∷ group.tail)) base.parts are in
        let same : Base base.slot (length base.rows) ≡ Base slot group.count = IsRecord-same group.body (Base base.slot (length base.rows)) (Base slot group.count) are_parts.0 group.base in
        let slot_is : base.slot ≡ slot = ap slot_of same in
        let count_is : length rows ≡ group.count = length-map base.rows (λ (row : JobRow). Row base.slot row) ∙ ap count_of same in
        let are_rest : AreRecords (drop (length rows) group.tail) items = AreRecords-drop group.tail rows items are_parts.1 in
        let rest_is : drop (length rows) group.tail ≡ rest = ap (λ (n : ℕ). drop n group.tail) count_is ∙ sym group.rest_is in
        let reads = copy_reads size base.slot (rows_of_group size base.rows) base.copy base.promised base.log kept base.is_copy base.longest base.greatest base.is_log in
        let runs : run size (reading CopyStart (with_rows base.slot [])) items ≡ Some (reading reads.place (beside [] kept)) =
        run-beside size CopyStart (with_rows base.slot (rows_of_group size base.rows)) [] items (reading reads.place kept) tt reads.runs in
        record {
          items = items;
          are = subst (λ (bodies : List (List ℕ)). AreRecords bodies items) rest_is are_rest;
          place = reads.place;
          runs = subst (λ (at : ℕ). run size (reading CopyStart (with_rows at [])) items ≡ Some (reading reads.place (beside [] kept))) slot_is runs;
          own_is = own_is ∙ ap own_ballot base.parts ∙ group_own base.slot base.rows items;
        }

-- what a reader that has passed over the group comes to
pub passed_all : (size : TableSize) (slot : ℕ) (bodies rest : List (List ℕ)) (place : Place) (kept last : Durable) (own_last own : Option ℕ) → IsBehindGroup bodies slot rest → ReadsBehind size slot rest place last own_last
    → StandFor size bodies kept own → (last ≡ beside last.rows kept) × (own_last ≡ own)
passed_all size slot bodies rest place kept last own_last own group reads stand =
    let other = base_then size slot bodies rest kept own group stand in
    let same_items : other.items ≡ reads.items = AreRecords-same rest other.items reads.items other.are reads.are in
    let same : reading place last ≡ reading other.place (beside [] kept) =
    same_Some (reading place last) (reading other.place (beside [] kept)) (sym reads.runs ∙ ap (run size (reading CopyStart (with_rows slot []))) (sym same_items) ∙ other.runs) in
    let last_is : last ≡ beside [] kept = ap (λ (s : Reading). s.kept) same in (
      last_is ∙ ap (λ (d : Durable). beside d.rows kept) (sym last_is),
      reads.own_is ∙ ap own_ballot (sym same_items) ∙ sym other.own_is,
    )

-- an exact answer is one but for the rows
pub exact_beside : (kept : Durable) (own : Option ℕ) (result : Result (Durable × Option ℕ) ReadFault) → MatchResult result (λ state. (state.0 ≡ kept) × (state.1 ≡ own)) (λ fault. fault ≡ OutOfMemory)
    → MatchResult result (λ state. (state.0 ≡ beside state.0.rows kept) × (state.1 ≡ own)) (λ fault. fault ≡ OutOfMemory)
exact_beside kept own (Ok state) exact = (subst (λ (d : Durable). state.0 ≡ beside state.0.rows d) exact.0 refl, exact.1)
exact_beside kept own (Err fault) exact = exact

-- what is kept is as sound with other rows
sound_beside : (rows : List JobRow) (kept : Durable) (own : Option ℕ) → IsKeptSound kept own → IsKeptSound (beside rows kept) own
sound_beside rows kept own sound = record {
  round = sound.round;
  own_promised = sound.own_promised;
  votes_promised = sound.votes_promised;
  votes_rise = sound.votes_rise;
  votes_from_base = sound.votes_from_base;
}

pub sound_so : (size : TableSize) (bodies : List (List ℕ)) (kept last : Durable) (own_last own : Option ℕ) → StandFor size bodies kept own → (last ≡ beside last.rows kept) × (own_last ≡ own) → IsKeptSound last own_last
sound_so size bodies kept last own_last own stand same =
    subst (IsKeptSound last) (sym same.1)
    (subst (λ (d : Durable). IsKeptSound d own) (sym same.0) (sound_beside last.rows kept own (StandFor-sound size bodies kept own stand)))
