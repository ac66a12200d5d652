-- Windows of instants, and their limits.
use Rattle.std.specs.Prelude.{ℕ, List, ◌∷◌, ◌++◌, ℤ, pos, ◌+ℤ◌, ◌≤ℤ◌, ◌<ℤ◌, codes}
use Rattle.zone_minutes.specs.Stamp.{stamp_text}
use Rattle.zone_minutes.specs.declared.minute.Window.{Window}

-- an instant of the window: its end is outside
pub record IsInWindow (window : Window) (instant : ℤ) : Type 0 where
  pub since : window.from.0 ≤ℤ instant
  pub before : instant <ℤ window.until.0

-- a window from 1971-01-01T00:00Z on, up to 2200-01-01T00:00Z, of at most 576,000 minutes, and not empty
pub record IsWithinLimits (window : Window) : Type 0 where
  pub since : pos 525_600 ≤ℤ window.from.0
  pub until : window.until.0 ≤ℤ pos 120_968_640
  pub ordered : window.from.0 <ℤ window.until.0
  pub short : window.until.0 ≤ℤ (window.from.0 +ℤ pos 576_000)

-- the line of a window, in run files and reports: window STAMP STAMP
abbrev pub window_line : Window → List ℕ
window_line window = codes "window " ++ stamp_text window.from.0 ++ 32 ∷ stamp_text window.until.0
