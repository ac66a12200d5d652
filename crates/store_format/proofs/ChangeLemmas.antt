-- A change that may follow, with its record behind the others.
use Rattle.std.proofs.Common.{◌≡◌, ℕ, true, ◌&&◌, leb, Option, Some, List, [], ◌∷◌, ◌++◌, refl, sym, ap, ◌∙◌, subst, inl, inr}
use Rattle.std.proofs.lemmas.Bool.{false≢true}
use Rattle.std.proofs.lemmas.Option.{none-some}
use Rattle.paxos_base.specs.declared.rows.TableSize.{TableSize}
use Rattle.paxos_base.specs.declared.durable.Delta.{Delta}
use Rattle.paxos_base.specs.declared.durable.Durable.{Durable}
use Rattle.paxos_base.specs.Durable.{after_delta}
use Rattle.store_format.specs.declared.body.Record.{Record}
use Rattle.store_format.specs.declared.body.Record.TheVariants.{Tried, Promised, Voted, Base, Row}
use Rattle.store_format.specs.declared.place.Place.{Place}
use Rattle.store_format.specs.declared.place.Place.TheVariants.{Start, Rows, CopyStart, CopyTried, CopyPromised, CopyVotes, Log}
use Rattle.store_format.specs.Area.{Stands, StandFor}
use Rattle.store_format.specs.Order.{ChangeMayFollow, delta_record, own_after}
use Rattle.store_format.specs.Places.{copy_place, is_in_group, log_place, next_place, taken, takes_own, takes_promise, takes_votes, keeps_order, is_above, is_behind}
use Rattle.store_format.specs.Records.{IsRecord}
use Rattle.store_format.proofs.Machine.{reading, run, runs_on, runs_from, next-start, next-log, copy_ends, copy_goes_on, option_cases}
use Rattle.store_format.proofs.LogLemmas.{Keeps, keeps, log_place-keeps}
use Rattle.store_format.proofs.CopyLemmas.{if_some}
use Rattle.store_format.proofs.StandLemmas.{first, Stands-reads, runs-Stands}
use Rattle.store_format.proofs.BodyLemmas.{AreRecords-append}
use Rattle.store_format.proofs.SoundLemmas.{own_ballot-change}

-- the reader goes on with the record, and not into a group
record GoesTo (size : TableSize) (place : Place) (kept : Durable) (item : Record) : Type 0 where
  next : Place
  at : next_place size place kept item ≡ Some next
  not_rows : is_in_group next ≡ true → ⊥

to_log_place : (size : TableSize) (place : Place) (kept : Durable) (item : Record) → next_place size place kept item ≡ log_place kept item → keeps_order kept item ≡ true → GoesTo size place kept item
to_log_place size place kept item same order = record { next = Log; at = same ∙ log_place-keeps kept item order; not_rows = false≢true }

copy_place-not_rows : (place : Place) (kept : Durable) (item : Record) (next : Place) → copy_place place kept item ≡ Some next → is_in_group next ≡ true → ⊥
copy_place-not_rows place kept (Tried ballot) next at is =
    false≢true (ap is_in_group (if_some (takes_own place) CopyTried next at).1 ∙ is)
copy_place-not_rows place kept (Promised ballot) next at is =
    false≢true (ap is_in_group (if_some (takes_promise place && is_above ballot kept.promised) CopyPromised next at).1 ∙ is)
copy_place-not_rows place kept (Voted vote) next at is =
    false≢true (ap is_in_group (if_some (takes_votes place && (leb kept.base vote.slot && is_behind vote.slot kept.votes)) CopyVotes next at).1 ∙ is)
copy_place-not_rows place kept (Base slot count) next at is = absurd (none-some next at)
copy_place-not_rows place kept (Row slot row) next at is = absurd (none-some next at)

from_copy : (size : TableSize) (place : Place) (kept : Durable) (item : Record) → takes_votes place ≡ true → keeps_order kept item ≡ true → GoesTo size place kept item
from_copy size place kept item copies order = elim (option_cases (copy_place place kept item)) [
  | inl none ↦ to_log_place size place kept item (copy_ends size place kept item copies none) order
  | inr (next, at) ↦ record { next = next; at = copy_goes_on size place next kept item copies at; not_rows = copy_place-not_rows place kept item next at }
]

goes_to : (size : TableSize) (place : Place) (kept : Durable) (item : Record) (change : Delta) → (is_in_group place ≡ true → ⊥) → Keeps kept item change → GoesTo size place kept item
goes_to size Start kept item change not_rows keep = to_log_place size Start kept item (next-start size kept item keep.is_change) keep.order
goes_to size (Rows total) kept item change not_rows keep = absurd (not_rows refl)
goes_to size CopyStart kept item change not_rows keep = from_copy size CopyStart kept item refl keep.order
goes_to size CopyTried kept item change not_rows keep = from_copy size CopyTried kept item refl keep.order
goes_to size CopyPromised kept item change not_rows keep = from_copy size CopyPromised kept item refl keep.order
goes_to size CopyVotes kept item change not_rows keep = from_copy size CopyVotes kept item refl keep.order
goes_to size Log kept item change not_rows keep = to_log_place size Log kept item (next-log size kept item) keep.order

pub Stands-change : (size : TableSize) (items : List Record) (item : Record) (kept : Durable) (change : Delta) → Stands size items kept → ChangeMayFollow size kept change → delta_record change ≡ Some item → Stands size (items ++ item ∷ []) (after_delta change kept)
Stands-change size items item kept change stands may is =
    let reads = Stands-reads size items kept stands in
    let keep = keeps size kept item change is may in
    let goes = goes_to size reads.place kept item change reads.not_rows keep in
    let runs : run size (first size) (items ++ item ∷ []) ≡ Some (reading goes.next (taken size goes.next item kept)) =
    runs_on size (first size) (reading reads.place kept) (reading goes.next (taken size goes.next item kept)) items (item ∷ []) reads.runs (runs_from size reads.place goes.next kept item [] goes.at) in
    subst (Stands size (items ++ item ∷ [])) (keep.after size goes.next) (runs-Stands size (items ++ item ∷ []) (reading goes.next (taken size goes.next item kept)) goes.not_rows runs)

pub StandFor-change : (size : TableSize) (bodies : List (List ℕ)) (body : List ℕ) (item : Record) (kept : Durable) (own : Option ℕ) (change : Delta) → StandFor size bodies kept own → ChangeMayFollow size kept change → delta_record change ≡ Some item → IsRecord body item
    → StandFor size (bodies ++ body ∷ []) (after_delta change kept) (own_after change own)
StandFor-change size bodies body item kept own change stand may is is_record =
    record {
      items = stand.items ++ item ∷ [];
      are_records = AreRecords-append bodies (body ∷ []) stand.items (item ∷ []) stand.are_records (is_record, tt);
      stands = Stands-change size stand.items item kept change stand.stands may is;
      own_is = ap (own_after change) stand.own_is ∙ sym (own_ballot-change stand.items change item is);
    }
