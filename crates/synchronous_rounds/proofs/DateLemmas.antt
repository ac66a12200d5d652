-- The dates of jobs that run by their periods, as numbers, are below the window's minutes: a window begins a year after the first day.
use Rattle.std.proofs.Common.{◌≡◌, ℕ, Option, ℤ, pos, ◌+ℤ◌, ◌≤ℤ◌, ◌<ℤ◌, refl, arith}
use Rattle.std.specs.Int.{int_div_euclid}
use Rattle.jiff.specs.Words.{offset_at}
use Rattle.jiff_core.proofs.SignedLemmas.{signed_arith}
use Rattle.jiff_core.specs.Timestamp.{IsOffsetSeconds}
use Rattle.zone_minutes.specs.Zone.{local_of, minute_nanos}
use Rattle.zone_minutes.proofs.RunLemmas.{local_of-ahead}
use Rattle.zone_minutes.proofs.ZoneLemmas.{offset_small}
use Rattle.due_set.specs.Anacron.{IsJobOpen}
use Rattle.due_set.specs.Table.{IsSound, Table}

pub dates_inside : (table : Table) (version job : ℕ) (last cursor : Option ℤ) (now date : ℤ) → IsSound table → IsJobOpen table version job last cursor now date → (pos 0 ≤ℤ date) × (date <ℤ table.window.until.0)
dates_inside table version job last cursor now date sound opens =
    let small : IsOffsetSeconds (offset_at opens.zone (minute_nanos now)) = offset_small opens.zone (minute_nanos now) in
    let ahead : local_of opens.zone now ≡ now +ℤ int_div_euclid (offset_at opens.zone (minute_nanos now)) (pos 60) =
    local_of-ahead opens.zone now (offset_at opens.zone (minute_nanos now)) refl in
    let first : pos 525_600 ≤ℤ table.window.from.0 = sound.limits.since in
    let since : table.window.from.0 ≤ℤ now = opens.inside.since in
    let before : now <ℤ table.window.until.0 = opens.inside.before in
    let is = opens.is_date in (
      omega (arith, signed_arith, small, ahead, first, since, is),
      omega (arith, signed_arith, small, ahead, first, since, before, is),
    )
