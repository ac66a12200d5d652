use Rattle.std.proofs.Common.{Option, None, Some, ap, length, sym, ◌∙◌}
use Rattle.std.specs.Prelude.{IfNone}
use Rattle.std.proofs.lemmas.Option.{IfSome_then}
use Rattle.zone_minutes.proofs.StampLemmas.{length-basic_stamp_text}
use Rattle.zone_minutes.proofs.stamp.read_basic_stamp.Goals as goal

IfNone_then : {X : Type 0} (P Q : Type 0) (o : Option X) → IfNone o P → (P → Q) → IfNone o Q
IfNone_then P Q None h f = f h
IfNone_then P Q (Some x) h f = tt

pub returns-in_err-stamp-clause-none : goal.returns-in_err-stamp-clause-none
returns-in_err-stamp-clause-none c =
    rw c.from_residual.ensures (λ at is e. c.in_err-stamp.ensures.none (ap length (c.as_bytes.ensures.value ∙ e) ∙ length-basic_stamp_text at))

pub returns-clause-read : goal.returns-clause-read
returns-clause-read c =
    IfSome_then c.read_minute.result c.read_minute.ensures.read (λ at read. (read.0, sym c.as_bytes.ensures.value ∙ (c.in_ok-stamp.ensures.stamp at.0).1 read.1))

pub returns-clause-none : goal.returns-clause-none
returns-clause-none c =
    IfNone_then _ _ c.read_minute.result c.read_minute.ensures.none (λ none at is e. none at is ((c.in_ok-stamp.ensures.stamp at).0 (c.as_bytes.ensures.value ∙ e)))
