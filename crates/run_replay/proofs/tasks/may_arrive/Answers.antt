use Rattle.std.proofs.Common.{◌≡◌, ◌<◌, ◌&&◌, ◌==◌, nat_lt, not, true, length, sym, ap, ◌∙◌, arith}
use Rattle.std.specs.List.{list_any}
use Rattle.std.proofs.lemmas.Bool.{lt-ltb}
use Rattle.cluster_sched.specs.Fates.{Holdings}
use Rattle.script_semantics.specs.Commands.{has_number}
use Rattle.run_replay.proofs.RepeatLemmas.{any_number}
use Rattle.run_replay.proofs.tasks.may_arrive.Goals as goal

pub returns-then-late : goal.returns-then-late
returns-then-late c =
    let calls : length c.late.result.now ≡ length c.args.book.now.ledger.late = ap length (c.late.ensures ∙ ap (λ (ledger : Holdings). ledger.late) c.ledger.ensures) in
    let within : c.args.late < length c.args.book.now.ledger.late = omega (arith, c.if-late.true, calls) in
    let below : nat_lt c.args.late (length c.args.book.now.ledger.late) ≡ true = lt-ltb c.args.late (length c.args.book.now.ledger.late) within in
    let has : c.contains.result ≡ has_number c.args.late c.args.book.now.arrived =
    c.contains.ensures.value ∙ ap (list_any (λ other. other == c.args.late)) c.arrived.ensures ∙ any_number c.args.late c.args.book.now.arrived in
    ap not has ∙ sym (ap (λ b. b && not (has_number c.args.late c.args.book.now.arrived)) below)
