-- Instants at which a zone's clock shows one date.
use Rattle.std.specs.Prelude.{◌≡◌, ℕ, ◌+◌, ◌≤◌, ◌<◌, ℤ, pos, ◌+ℤ◌, ◌≤ℤ◌, ◌<ℤ◌}
use Rattle.jiff.specs.Types.{TimeZone}
use Rattle.zone_minutes.specs.Civil.{minute_of_day}
use Rattle.zone_minutes.specs.Zone.{Source, IsReadAs, local_of}
use Rattle.due_set.specs.declared.anacron.Opening.{Opening}
use Rattle.due_set.specs.Anacron.{MayOpen, MayOpenOn}

-- the clock goes on by the minutes for so many of them from an instant on, at which it shows this civil minute
pub record IsShownFrom (source : Source) (from : ℤ) (count : ℕ) (shown : ℤ) : Type 0 where
  pub on : (zone : TimeZone) → IsReadAs source zone → (steps : ℕ) → steps < count → local_of zone (from +ℤ pos steps) ≡ shown +ℤ pos steps
  pub of_day : minute_of_day shown + count ≤ 1440

-- what is said of a job may open it at the civil minute
abbrev pub Opens : Opening → ℤ → Type 0
Opens opening shown = MayOpen opening.period opening.first_minute opening.last_minute opening.last opening.cursor shown

-- what is said of a job may open it on the date
abbrev pub OpensOn : Opening → ℤ → Type 0
OpensOn opening date = MayOpenOn opening.period opening.last opening.cursor date

-- it may open at none of so many civil minutes
abbrev pub OpensAtNoneOf : Opening → ℤ → ℕ → Type 0
OpensAtNoneOf opening shown count = (steps : ℕ) → steps < count → Opens opening (shown +ℤ pos steps) → ⊥

-- the first civil minute at which it may open is so many minutes after one
pub record OpensAfter (opening : Opening) (shown : ℤ) (steps : ℕ) : Type 0 where
  pub opens : Opens opening (shown +ℤ pos steps)
  pub none_before : OpensAtNoneOf opening shown steps

-- it may open at no instant from one on and before another
abbrev pub OpensAtNone : Opening → Source → ℤ → ℤ → Type 0
OpensAtNone opening source from until =
    (zone : TimeZone) (instant : ℤ) → IsReadAs source zone → from ≤ℤ instant → instant <ℤ until → Opens opening (local_of zone instant) → ⊥

-- it may open at an instant, and at none from another on that is before it
pub record OpensFirst (opening : Opening) (source : Source) (from instant : ℤ) : Type 0 where
  pub opens : (zone : TimeZone) → IsReadAs source zone → Opens opening (local_of zone instant)
  pub none_before : OpensAtNone opening source from instant
