-- Writes one after the other.
use Rattle.std.proofs.Common.{◌≡◌, ℕ, ◌-◌, ◌<◌, ◌≤◌, List, [], ◌++◌, length, Some, IsSome, IsErr, Result, Ok, Err, take, drop, refl, sym, ap, subst, ◌∙◌, ◌+◌, append_assoc, take-append-drop, length-append, length-drop, arith}
use Rattle.std.proofs.KnownBytes.{Appends-trans}
use Rattle.cron_io.specs.Views.{SinkView}
use Rattle.cron_io.specs.Writing.{HasGained, HasTakenAll, TakesByRoom}
use Rattle.cron_io.specs.declared.sink.SinkFault.{SinkFault}

-- as far as `write_all` has come
pub record IsWriting (old now : SinkView) (bytes rest : List ℕ) : Type 0 where
  pub front : List ℕ
  pub parts : bytes ≡ front ++ rest
  pub gained : HasGained old now front
  pub later : old.faults ≤ now.faults
  pub room : (n : ℕ) → old.room ≡ Some n → HasTakenAll n old now front
  pub at_once : (n : ℕ) → old.room ≡ Some n → 0 < length rest → front ≡ []

-- one more write takes the front of the rest, and all of it where the sink tells its room
pub IsWriting-next : (old mid new : SinkView) (bytes rest next : List ℕ) (count : ℕ)
    → IsWriting old mid bytes rest → next ≡ drop count rest → HasGained mid new (take count rest) → mid.faults ≤ new.faults
    → (IsSome mid.room → count ≡ length rest) → TakesByRoom {E = SinkFault} mid new (Ok count) rest → IsWriting old new bytes next
IsWriting-next old mid new bytes rest next count so_far left wrote later at_once by_room =
    let taken = take count rest in
    let split : rest ≡ taken ++ next = sym (take-append-drop count rest) ∙ ap (λ l. taken ++ l) (sym left) in
    let all : (n : ℕ) → old.room ≡ Some n → length next ≡ 0 = λ n is.
    let whole : count ≡ length rest = at_once (subst IsSome (sym (so_far.room n is).left) refl) in
    let size : length next ≡ length rest - count = ap length left ∙ length-drop count rest in
    omega arith in
    record {
      front = so_far.front ++ taken;
      parts = so_far.parts ∙ ap (λ l. so_far.front ++ l) split ∙ sym (append_assoc so_far.front taken next);
      gained = Appends-trans old.written mid.written new.written so_far.front taken so_far.gained wrote;
      later = omega (arith, so_far.later);
      room = λ n is.
          let first = so_far.room n is in
          let fits_first = first.fits in
          let then = by_room.taken (n - length so_far.front) first.left in
          let fits_then = then.fits in
          let none = all n is in
          let parts : length rest ≡ length taken + length next = ap length split ∙ length-append taken next in
          let size : length (so_far.front ++ taken) ≡ length so_far.front + length rest = length-append so_far.front taken ∙ omega arith in
          record {
            fits = omega arith;
            left = then.left ∙ ap Some (omega arith);
            quiet = then.quiet ∙ first.quiet;
          };
      at_once = λ n is some. let none = all n is in absurd (omega arith);
    }

-- a write that is refused is the first one, of all the bytes
pub IsWriting-refused : {T : Type 0} (old mid new : SinkView) (bytes rest : List ℕ) (fault : SinkFault)
    (result : Result T SinkFault) → IsWriting old mid bytes rest → 0 < length rest → IsErr result
    → (let failed : Result ℕ SinkFault = Err fault in TakesByRoom mid new failed rest) → TakesByRoom old new result bytes
IsWriting-refused {T} old mid new bytes rest fault (Ok value) so_far some failed by_room = absurd (cc)
IsWriting-refused {T} old mid new bytes rest fault (Err other) so_far some failed by_room =
    let first : (n : ℕ) → old.room ≡ Some n → length so_far.front ≡ 0 = λ n is. ap length (so_far.at_once n is some) in
    record {
      taken = λ n is. tt;
      refused = λ n is.
          let none = first n is in
          let beyond : n - length so_far.front < length rest = by_room.refused _ (so_far.room n is).left in
          let size : length bytes ≡ length so_far.front + length rest = ap length so_far.parts ∙ length-append so_far.front rest in
          omega arith;
      kept = λ n is.
          let none = first n is in
          by_room.kept _ (so_far.room n is).left ∙ (so_far.room n is).left ∙ ap Some (omega arith) ∙ sym is;
    }

-- no byte is left to write
pub IsWriting-done : (old new : SinkView) (bytes rest : List ℕ) → IsWriting old new bytes rest → length rest ≡ 0
    → (let done : Result (Unit {0}) SinkFault = Ok tt in TakesByRoom old new done bytes)
IsWriting-done old new bytes rest so_far none =
    let size : length bytes ≡ length so_far.front = ap length so_far.parts ∙ length-append so_far.front rest ∙ omega arith in
    record {
      taken = λ n is.
          let all = so_far.room n is in
          let fits_front = all.fits in
          record { fits = omega arith; left = all.left ∙ ap Some (omega arith); quiet = all.quiet };
      refused = λ n is. tt;
      kept = λ n is. tt;
    }
