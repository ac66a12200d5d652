-- Parts of a text that are written one after the other.
use Rattle.std.proofs.Common.{◌≡◌, inl, inr, ℕ, ◌+◌, ◌<◌, ◌≤◌, ◌-◌, List, [], ◌∷◌, ◌++◌, Result, Ok, Err, refl, sym, ap, ◌∙◌, subst, arith, append_assoc, append-nil, drop-cons, take-append-drop, suc, length, map, take, drop, get_or, Some, length-append}
use Rattle.std.specs.Prelude.{IsErrAnd, flat_map}
use Rattle.std.proofs.lemmas.List.{take_more, length-map}
use Rattle.std.proofs.Math.ListN.{get_or-map}
use Rattle.std.proofs.lemmas.Grind.{flat_map-append}
use Rattle.std.proofs.KnownBytes.{Appends-nil, Appends-trans}
use Rattle.cron_io.specs.Faults.{Rose}
use Rattle.cron_io.specs.Views.{SinkView}
use Rattle.cron_io.specs.Writing.{HasGained, HasGainedPrefix, HasTakenAll, TakesByRoom}
use Rattle.cron_io.specs.declared.sink.SinkFault.{SinkFault}
use Rattle.report_text.specs.Writes.{Writes, HasWritten}
use Rattle.report_text.specs.declared.fault.ReportFault.{ReportFault}
use Rattle.report_text.specs.declared.fault.ReportFault.TheVariants.{WriteFault, OutOfMemory}

-- a count that rose later rose
pub Rose-later : (a b c : ℕ) → a ≤ b → Rose b c → Rose a c
Rose-later a b c le (inl lt) = inl (omega arith)
Rose-later a b c le (inr last) = inr last

-- nothing was written, as there was nothing to write
pub writes_nothing : {T : Type 0} (a : SinkView) (value : T) → let done : Result T ReportFault = Ok value in Writes a a done []
writes_nothing a value = record {
  written = Appends-nil a.written;
  front = record { front = []; back = []; parts = refl; gained = Appends-nil a.written };
  later = omega arith;
  fault = λ e. absurd (cc);
  taken = λ room is. record { fits = omega arith; left = is ∙ ap Some (omega arith); quiet = refl };
  beyond = λ room is e. absurd (cc);
}

-- nothing was written, for want of memory
writes_none : {T : Type 0} (a : SinkView) (fault : ReportFault) (text : List ℕ) → fault ≡ OutOfMemory → let failed : Result T ReportFault = Err fault in Writes a a failed text
writes_none {T} a fault text e = record {
  written = tt;
  front = record { front = []; back = text; parts = refl; gained = Appends-nil a.written };
  later = omega arith;
  fault = λ is. absurd (cc);
  taken = λ room is. tt;
  beyond = λ room told is. absurd (cc);
}

-- the exit of a `?` that wants memory, before a part wrote anything
pub writes_no_memory : {T : Type 0} (a : SinkView) (result : Result T ReportFault) (text : List ℕ) → IsErrAnd result (λ e. e ≡ OutOfMemory) → Writes a a result text
writes_no_memory a (Ok value) text is = absurd is
writes_no_memory a (Err fault) text is = writes_none a fault text is

-- all of a text was written at once
pub writes_whole : {T : Type 0} (a b : SinkView) (value : T) (lent text : List ℕ) → lent ≡ text → HasGained a b lent
    → HasGainedPrefix a b lent → a.faults ≤ b.faults → (let done : Result (Unit {0}) SinkFault = Ok tt in TakesByRoom a b done lent)
    → let done : Result T ReportFault = Ok value in Writes a b done text
writes_whole {T} a b value lent text same wrote front later by_room =
    subst (λ (bytes : List ℕ). (let done : Result T ReportFault = Ok value in Writes a b done bytes)) same
    (record {
      written = wrote;
      front = front;
      later = later;
      fault = λ is. absurd (cc);
      taken = by_room.taken;
      beyond = λ room told is. absurd (cc);
    })

-- a part that failed is a front of the whole
pub writes_part : {S T : Type 0} (a b : SinkView) (fault : ReportFault) (part rest : List ℕ)
    → (let failed : Result S ReportFault = Err fault in Writes a b failed part) → (let failed : Result T ReportFault = Err fault in Writes a b failed (part ++ rest))
writes_part a b fault part rest w = record {
  written = tt;
  front = record {
    front = w.front.front;
    back = w.front.back ++ rest;
    parts = ap (λ l. l ++ rest) w.front.parts ∙ append_assoc w.front.front w.front.back rest;
    gained = w.front.gained;
  };
  later = w.later;
  fault = λ is. w.fault (let e : fault ≡ WriteFault = cc in ap Err e);
  taken = λ room is. tt;
  beyond = λ room told is.
      let e : fault ≡ WriteFault = cc in
      let beyond = w.beyond room told (ap Err e) in
      let size = length-append part rest in
      omega arith;
}

-- a part and the rest found room
both_fit : (room : ℕ) (a b c : SinkView) (part rest : List ℕ) → HasTakenAll room a b part → HasTakenAll (room - length part) b c rest
    → HasTakenAll room a c (part ++ rest)
both_fit room a b c part rest first next =
    let fits_first = first.fits in
    let fits_next = next.fits in
    let size = length-append part rest in
    record { fits = omega arith; left = next.left ∙ ap Some (omega arith); quiet = next.quiet ∙ first.quiet }

-- a part that was written, and then the rest
pub writes_on : {S T : Type 0} (a b c : SinkView) (value : S) (result : Result T ReportFault) (part rest : List ℕ)
    → Writes a b (Ok value) part → Writes b c result rest → Writes a c result (part ++ rest)
writes_on {S} {T} a b c value (Ok v) part rest first next = record {
  written = Appends-trans a.written b.written c.written part rest first.written next.written;
  front = record {
    front = part ++ next.front.front;
    back = next.front.back;
    parts = ap (λ l. part ++ l) next.front.parts ∙ sym (append_assoc part next.front.front next.front.back);
    gained = Appends-trans a.written b.written c.written part next.front.front first.written next.front.gained;
  };
  later = omega (arith, first.later, next.later);
  fault = λ is. Rose-later a.faults b.faults c.faults first.later (next.fault is);
  taken = λ room is. both_fit room a b c part rest (first.taken room is) (next.taken (room - length part) (first.taken room is).left);
  beyond = λ room told is. absurd (cc);
}
writes_on {S} {T} a b c value (Err e) part rest first next = record {
  written = tt;
  front = record {
    front = part ++ next.front.front;
    back = next.front.back;
    parts = ap (λ l. part ++ l) next.front.parts ∙ sym (append_assoc part next.front.front next.front.back);
    gained = Appends-trans a.written b.written c.written part next.front.front first.written next.front.gained;
  };
  later = omega (arith, first.later, next.later);
  fault = λ is. Rose-later a.faults b.faults c.faults first.later (next.fault is);
  taken = λ room is. tt;
  beyond = λ room told is.
      let beyond = next.beyond (room - length part) (first.taken room told).left is in
      let size = length-append part rest in
      omega arith;
}

-- the exit of a `?` with a part that failed
pub writes_exit : {S T : Type 0} (a b : SinkView) (fault : ReportFault) (result : Result T ReportFault) (part rest : List ℕ)
    → IsErrAnd result (λ e. e ≡ fault) → (let failed : Result S ReportFault = Err fault in Writes a b failed part) → Writes a b result (part ++ rest)
writes_exit {S} {T} a b fault (Ok value) part rest is w = absurd is
writes_exit {S} {T} a b fault (Err e) part rest is w =
    let P : ReportFault → Type 0 = λ f. (let failed : Result T ReportFault = Err f in Writes a b failed (part ++ rest)) in
    subst P (sym is) (writes_part {S = S} {T = T} a b fault part rest w)

-- a last part, with nothing behind it
pub writes_last : {T : Type 0} (a b : SinkView) (result : Result T ReportFault) (part : List ℕ) → Writes a b result part → Writes a b result (part ++ [])
writes_last a b result part w = subst (Writes a b result) (sym (append-nil part)) w

-- a list by what stands before a place, there, and behind it
split_at_place : {X : Type 0} (xs : List X) (i : ℕ) (d : X) → i < length xs → take i xs ++ (get_or xs i d ∷ drop (suc i) xs) ≡ xs
split_at_place xs i d lt = ap (λ l. take i xs ++ l) (sym (drop-cons xs i d lt)) ∙ take-append-drop i xs

-- what the items of a list spell: those before a place, the one there, and the rest
spelled_at : {X : Type 0} (f : X → List ℕ) (xs : List X) (i : ℕ) (x : X) → i < length xs → x ≡ get_or xs i x
    → flat_map f (take i xs) ++ (f x ++ flat_map f (drop (suc i) xs)) ≡ flat_map f xs
spelled_at {X} f xs i x lt x_is =
    ap (λ (y : X). flat_map f (take i xs) ++ (f y ++ flat_map f (drop (suc i) xs))) x_is
    ∙ sym (flat_map-append f (take i xs) (get_or xs i x ∷ drop (suc i) xs))
    ∙ ap (flat_map f) (split_at_place xs i x lt)

-- a loop that fails at an item
pub writes_some : {X S T : Type 0} (f : X → List ℕ) (xs : List X) (i : ℕ) (x : X) (a b c : SinkView) (fault : ReportFault) (result : Result T ReportFault)
    → i < length xs → x ≡ get_or xs i x → HasWritten a b (flat_map f (take i xs))
    → IsErrAnd result (λ e. e ≡ fault) → (let failed : Result S ReportFault = Err fault in Writes b c failed (f x))
    → Writes a c result (flat_map f xs)
writes_some {X} {S} {T} f xs i x a b c fault result lt x_is before is w =
    subst (Writes a c result) (spelled_at f xs i x lt x_is)
    (writes_on a b c tt result (flat_map f (take i xs)) (f x ++ flat_map f (drop (suc i) xs)) before
    (writes_exit {S = S} {T = T} b c fault result (f x) (flat_map f (drop (suc i) xs)) is w))

-- a loop that has written one more item
pub writes_more : {X : Type 0} (f : X → List ℕ) (xs : List X) (i : ℕ) (x : X) (a b c : SinkView)
    → i < length xs → x ≡ get_or xs i x → HasWritten a b (flat_map f (take i xs)) → HasWritten b c (f x)
    → HasWritten a c (flat_map f (take (i + 1) xs))
writes_more {X} f xs i x a b c lt x_is before w =
    let front : flat_map f (take (i + 1) xs) ≡ flat_map f (take i xs) ++ f x =
    ap (flat_map f) (take_more xs i x lt ∙ ap (λ (y : X). take i xs ++ y ∷ []) (sym x_is))
    ∙ flat_map-append f (take i xs) (x ∷ []) ∙ ap (λ (l : List ℕ). flat_map f (take i xs) ++ l) (append-nil (f x)) in
    subst (HasWritten a c) (sym front) (writes_on a b c tt (Ok tt) (flat_map f (take i xs)) (f x) before w)

-- an element of a list, seen through a function
pub seen_at : {X Y : Type 0} (f : X → Y) (xs : List X) (i : ℕ) (x : X) → x ≡ get_or xs i x → f x ≡ get_or (map f xs) i (f x)
seen_at f xs i x x_is = ap f x_is ∙ sym (get_or-map f xs i x)

pub inside_map : {X Y : Type 0} (f : X → Y) (xs : List X) (i : ℕ) → i < length xs → i < length (map f xs)
inside_map f xs i lt = let same : length (map f xs) ≡ length xs = length-map _ _ in omega arith
