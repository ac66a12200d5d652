use Rattle.std.proofs.Common.{◌<◌, ◌+◌, length, OnErr, string_len, string_capacity, Result, Ok, Err}
use Rattle.cluster_sched.specs.Names.{name_text}
use Rattle.cluster_sched.proofs.NameLemmas.{IsCalendarTime-name, length-name_text}
use Rattle.cluster_sched.proofs.name.write_name.Goals as goal

pub write_time-requires-clause-calendar : goal.write_time-requires-clause-calendar
write_time-requires-clause-calendar c = IsCalendarTime-name c.args.table.now c.args.name c.name-job.ensures.sound.limits c.requires

pub returns-in_err-reserve-clause-full : goal.returns-in_err-reserve-clause-full
returns-in_err-reserve-clause-full c =
    let long = length-name_text c.args.table.now c.args.name c.name-job.result.now c.time_len.result c.name-job.ensures.name (c.time_len.ensures.len c.args.name.at) in
    let full : string_capacity c.args.into.now < string_len c.args.into.now + length (name_text c.args.table.now c.args.name) = rw long c.in_err-reserve.ensures.full in
    OnErr-always c.from_residual.result full
  where
    OnErr-always : {T E P : Type 0} → (r : Result T E) → P → OnErr r P
    OnErr-always (Ok x) p = tt
    OnErr-always (Err e) p = p
