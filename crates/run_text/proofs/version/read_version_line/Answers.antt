use Rattle.std.proofs.Common.{suc, length, arith}
use Rattle.run_text.proofs.VersionLemmas.{known_begun, begins_next}
use Rattle.run_text.proofs.version.read_version_line.Goals.{in_default-via-in-Some+else-comes_next, in_default-via-in_default}
use Rattle.run_text.proofs.version.read_version_line.Goals as goal

pub returns-in-Some-clause-known : goal.returns-in-Some-clause-known
returns-in-Some-clause-known c run is =
    known_begun c.args.known.now run c.args.number c.in-Some.version c.in-Some.from is (c.comes_next.ensures.0 c.if-comes_next.true)

pub returns-in_default-clause-refused : goal.returns-in_default-clause-refused
returns-in_default-clause-refused c run is from begins = elim c.in_default.branch [
  | in_default-via-in-Some+else-comes_next w ↦
      let said = w.in-Some.ensures in
      let next = begins_next c.args.known.now run c.args.line.now w.in-Some.version w.in-Some.from from is said.few said.calendar said.read begins in
      let yes = w.comes_next.ensures.1 next in
      cc (yes, w.if-comes_next.false)
  | in_default-via-in_default w ↦ w.in_default.ensures.none (suc (length run.versions)) from (omega (arith, begins.few)) begins.calendar begins.is
]
