-- A list that is written at once.
use Rattle.std.proofs.Common.{◌≡◌, ◌≤◌, List, ℕ, Result, Ok, Err, refl, sym, subst, arith}
use Rattle.std.specs.Prelude.{IsErrAnd}
use Rattle.std.proofs.lemmas.Result.{on_ok_weaker}
use Rattle.cron_io.specs.Faults.{HasCause}
use Rattle.cron_io.specs.Views.{SinkView}
use Rattle.cron_io.specs.Writing.{HasGained, HasGainedPrefix, TakesByRoom}
use Rattle.cron_io.specs.declared.sink.SinkFault.{SinkFault}
use Rattle.due_list.specs.Listing.{GainsList, GainsFront, WritesListing}
use Rattle.due_list.specs.declared.fault.ListFault.{ListFault}
use Rattle.due_list.specs.declared.fault.ListFault.TheVariants.{WriteFault, OutOfMemory}

-- all of a text was written at once
pub writes_whole : {T : Type 0} (a b : SinkView) (value : T) (lent text : List ℕ) → lent ≡ text → HasGained a b lent → a.faults ≤ b.faults
    → (let done : Result (Unit {0}) SinkFault = Ok tt in TakesByRoom a b done lent)
    → let done : Result T ListFault = Ok value in WritesListing a b done (λ written. written ≡ text)
writes_whole {T} a b value lent text same wrote later by_room = record {
  written = record { text = lent; is = same; gained = wrote; taken = by_room.taken };
  front = λ is. absurd (cc);
  nothing = λ is. absurd (cc);
  later = later;
}

-- a write failed
writes_at_fault : {T : Type 0} (a b : SinkView) (fault : ListFault) (cause : SinkFault) (lent text : List ℕ) → fault ≡ WriteFault → lent ≡ text → HasGainedPrefix a b lent
    → (let failed : Result (Unit {0}) SinkFault = Err cause in HasCause a.faults b.faults failed) → (let failed : Result (Unit {0}) SinkFault = Err cause in TakesByRoom a b failed lent)
    → let failed : Result T ListFault = Err fault in WritesListing a b failed (λ written. written ≡ text)
writes_at_fault {T} a b fault cause lent text fault_is same prefix has_cause by_room = record {
  written = tt;
  front = λ is. record { text = lent; is = same; front = prefix; rose = has_cause.fault refl; beyond = by_room.refused };
  nothing = λ is. absurd (cc);
  later = has_cause.later;
}

pub writes_front : {T : Type 0} (a b : SinkView) (result : Result T ListFault) (cause : SinkFault) (lent text : List ℕ) → IsErrAnd result (λ e. e ≡ WriteFault) → lent ≡ text → HasGainedPrefix a b lent
    → (let failed : Result (Unit {0}) SinkFault = Err cause in HasCause a.faults b.faults failed) → (let failed : Result (Unit {0}) SinkFault = Err cause in TakesByRoom a b failed lent)
    → WritesListing a b result (λ written. written ≡ text)
writes_front a b (Ok value) cause lent text is same prefix has_cause by_room = absurd is
writes_front a b (Err fault) cause lent text is same prefix has_cause by_room = writes_at_fault a b fault cause lent text is same prefix has_cause by_room

-- memory ran out before anything was written
pub writes_no_memory : {T : Type 0} (a : SinkView) (result : Result T ListFault) (Is : List ℕ → Type 0) → IsErrAnd result (λ e. e ≡ OutOfMemory) → WritesListing a a result Is
writes_no_memory a (Ok value) Is is = absurd is
writes_no_memory a (Err fault) Is is = record {
  written = tt;
  front = λ e. absurd (cc);
  nothing = λ e. refl;
  later = omega arith;
}

-- a text of the kind was written
pub writes_this : {T : Type 0} (a b : SinkView) (result : Result T ListFault) (text : List ℕ) (Is : List ℕ → Type 0) → Is text → WritesListing a b result (λ written. written ≡ text)
    → WritesListing a b result Is
writes_this {T} a b result text Is is_text writes = record {
  written = on_ok_weaker result whole writes.written;
  front = λ e. some_front (writes.front e);
  nothing = writes.nothing;
  later = writes.later;
}
  where
    whole : GainsList a b (λ written. written ≡ text) → GainsList a b Is
    whole gains = record { text = gains.text; is = subst Is (sym gains.is) is_text; gained = gains.gained; taken = gains.taken }

    some_front : GainsFront a b (λ written. written ≡ text) → GainsFront a b Is
    some_front gains = record { text = gains.text; is = subst Is (sym gains.is) is_text; front = gains.front; rose = gains.rose; beyond = gains.beyond }
