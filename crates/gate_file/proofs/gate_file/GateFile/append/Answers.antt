use Rattle.std.proofs.Common.{◌≡◌, ◌++◌, ◌∷◌, [], ◌+◌, ◌*◌, length, Some, Ok, Err, refl, sym, subst, arith, rules}
use Rattle.disk_model.specs.Images.{file_of, HoldsPiece, Torn, InFileOnly}
use Rattle.gate_file.specs.File.{bodies_of, file_no}
use Rattle.gate_file.specs.Gates.{HasRestingGate, IsStaged}
use Rattle.gate_file.proofs.AppendLemmas.{mid_behind, mid_open, mid_at_rest, new_at_rest, body_leaves, write_after}
use Rattle.gate_file.proofs.FaultLemmas.{handed_on}
use Rattle.gate_file.proofs.GateLemmas.{torn_gate}
use Rattle.gate_file.proofs.MadeLemmas.{told_all, told_some, written_as}
use Rattle.disk_model.specs.Made.{synced_write}
use Rattle.disk_model.specs.View.{LeavesOnly}
use Rattle.disk_model.proofs.MadeLemmas.{tells_then, tells_weaker, all_then, breaks_later, write_breaks, write_done}
use Rattle.gate_file.specs.Made.{append_calls}
use Rattle.gate_file.proofs.gate_file.GateFile.append.Goals as goal

-- ---- whatever a stop leaves

pub returns-in_err-write_synced-clause-images : goal.returns-in_err-write_synced-clause-images
returns-in_err-write_synced-clause-images g c honest =
    let gates = c.args.self.now in
    let place : c.len-2.result * 57 ≡ 57 * length (bodies_of gates) = omega (arith, c.len-2.ensures, c.reserve.ensures.len, c.args.self.now.bodies.ok.0) in
    let file = file_no gates in
    let old = c.args.disk.now in
    let seen = file_of file (g.D.Disk.view.seen old) in
    let run = subst (λ at. LeavesOnly g.D.Disk.view old c.write_synced.new.disk (InFileOnly file (g.D.Disk.view.may_leave old) (Torn (at + 1) (length c.with_closed_gate.result) seen))) place (c.write_synced.ensures.images honest) in
    let first = body_leaves g.D.Disk.view file c.args.body.now (bodies_of gates) old c.write_synced.new.disk seen (length c.with_closed_gate.result) c.requires.at_rest run in
    first

pub returns-in_err-write_synced-2-clause-images : goal.returns-in_err-write_synced-2-clause-images
returns-in_err-write_synced-2-clause-images g c honest =
    let gates = c.args.self.now in
    let place : c.len-2.result * 57 ≡ 57 * length (bodies_of gates) = omega (arith, c.len-2.ensures, c.reserve.ensures.len, c.args.self.now.bodies.ok.0) in
    let file = file_no gates in
    let old = c.args.disk.now in
    let seen = file_of file (g.D.Disk.view.seen old) in
    let run = subst (λ at. LeavesOnly g.D.Disk.view old c.write_synced.new.disk (InFileOnly file (g.D.Disk.view.may_leave old) (Torn (at + 1) (length c.with_closed_gate.result) seen))) place (c.write_synced.ensures.images honest) in
    let first = body_leaves g.D.Disk.view file c.args.body.now (bodies_of gates) old c.write_synced.new.disk seen (length c.with_closed_gate.result) c.requires.at_rest run in
    let holds : HoldsPiece (57 * length (bodies_of gates) + 1) (c.args.body.now ++ 0 ∷ []) (file_of (file_no gates) (g.D.Disk.view.seen c.args.disk.now)) (file_of (file_no gates) (g.D.Disk.view.seen c.write_synced.new.disk)) =
    subst (λ at. HoldsPiece (at + 1) (c.args.body.now ++ 0 ∷ []) (file_of (file_no gates) (g.D.Disk.view.seen c.args.disk.now)) (file_of (file_no gates) (g.D.Disk.view.seen c.write_synced.new.disk))) place
    (subst (λ piece. HoldsPiece (c.len-2.result * 57 + 1) piece (file_of (file_no gates) (g.D.Disk.view.seen c.args.disk.now)) (file_of (file_no gates) (g.D.Disk.view.seen c.write_synced.new.disk))) c.with_closed_gate.ensures c.in_ok-write_synced.ensures.written.step) in
    let mid = c.write_synced.new.disk in
    let still = c.write_synced.ensures.honest.1 honest in
    let seen_mid = file_of file (g.D.Disk.view.seen mid) in
    let run-2 = subst (λ at. LeavesOnly g.D.Disk.view mid c.write_synced-2.new.disk (InFileOnly file (g.D.Disk.view.may_leave mid) (Torn at 1 seen_mid))) place (c.write_synced-2.ensures.images still) in
    let behind = mid_behind seen c.args.body.now (bodies_of gates) c.requires.at_rest c.told-body seen_mid holds in
    let gates_open = mid_open seen c.args.body.now (bodies_of gates) c.requires.at_rest c.told-body seen_mid holds in
    write_after g.D.Disk.view file (IsStaged (bodies_of gates) (Some c.args.body.now)) old mid c.write_synced-2.new.disk (Torn (57 * length (bodies_of gates)) 1 seen_mid)
    (λ start image le left. g.met.D.Disk.counts_now mid start image still le left) (λ bytes torn. torn_gate seen_mid c.args.body.now bytes (bodies_of gates) gates_open behind torn) first run-2

pub returns-clause-images : goal.returns-clause-images
returns-clause-images g c honest =
    let gates = c.args.self.now in
    let place : c.len-2.result * 57 ≡ 57 * length (bodies_of gates) = omega (arith, c.len-2.ensures, c.reserve.ensures.len, c.args.self.now.bodies.ok.0) in
    let file = file_no gates in
    let old = c.args.disk.now in
    let seen = file_of file (g.D.Disk.view.seen old) in
    let run = subst (λ at. LeavesOnly g.D.Disk.view old c.write_synced.new.disk (InFileOnly file (g.D.Disk.view.may_leave old) (Torn (at + 1) (length c.with_closed_gate.result) seen))) place (c.write_synced.ensures.images honest) in
    let first = body_leaves g.D.Disk.view file c.args.body.now (bodies_of gates) old c.write_synced.new.disk seen (length c.with_closed_gate.result) c.requires.at_rest run in
    let holds : HoldsPiece (57 * length (bodies_of gates) + 1) (c.args.body.now ++ 0 ∷ []) (file_of (file_no gates) (g.D.Disk.view.seen c.args.disk.now)) (file_of (file_no gates) (g.D.Disk.view.seen c.write_synced.new.disk)) =
    subst (λ at. HoldsPiece (at + 1) (c.args.body.now ++ 0 ∷ []) (file_of (file_no gates) (g.D.Disk.view.seen c.args.disk.now)) (file_of (file_no gates) (g.D.Disk.view.seen c.write_synced.new.disk))) place
    (subst (λ piece. HoldsPiece (c.len-2.result * 57 + 1) piece (file_of (file_no gates) (g.D.Disk.view.seen c.args.disk.now)) (file_of (file_no gates) (g.D.Disk.view.seen c.write_synced.new.disk))) c.with_closed_gate.ensures c.in_ok-write_synced.ensures.written.step) in
    let mid = c.write_synced.new.disk in
    let still = c.write_synced.ensures.honest.1 honest in
    let seen_mid = file_of file (g.D.Disk.view.seen mid) in
    let run-2 = subst (λ at. LeavesOnly g.D.Disk.view mid c.write_synced-2.new.disk (InFileOnly file (g.D.Disk.view.may_leave mid) (Torn at 1 seen_mid))) place (c.write_synced-2.ensures.images still) in
    let behind = mid_behind seen c.args.body.now (bodies_of gates) c.requires.at_rest c.told-body seen_mid holds in
    let gates_open = mid_open seen c.args.body.now (bodies_of gates) c.requires.at_rest c.told-body seen_mid holds in
    write_after g.D.Disk.view file (IsStaged (bodies_of gates) (Some c.args.body.now)) old mid c.write_synced-2.new.disk (Torn (57 * length (bodies_of gates)) 1 seen_mid)
    (λ start image le left. g.met.D.Disk.counts_now mid start image still le left) (λ bytes torn. torn_gate seen_mid c.args.body.now bytes (bodies_of gates) gates_open behind torn) first run-2

-- ---- the file is at rest

pub returns-in_err-write_synced-2-clause-memory : goal.returns-in_err-write_synced-2-clause-memory
returns-in_err-write_synced-2-clause-memory g c memory =
    let gates = c.args.self.now in
    let place : c.len-2.result * 57 ≡ 57 * length (bodies_of gates) = omega (arith, c.len-2.ensures, c.reserve.ensures.len, c.args.self.now.bodies.ok.0) in
    let holds : HoldsPiece (57 * length (bodies_of gates) + 1) (c.args.body.now ++ 0 ∷ []) (file_of (file_no gates) (g.D.Disk.view.seen c.args.disk.now)) (file_of (file_no gates) (g.D.Disk.view.seen c.write_synced.new.disk)) =
    subst (λ at. HoldsPiece (at + 1) (c.args.body.now ++ 0 ∷ []) (file_of (file_no gates) (g.D.Disk.view.seen c.args.disk.now)) (file_of (file_no gates) (g.D.Disk.view.seen c.write_synced.new.disk))) place
    (subst (λ piece. HoldsPiece (c.len-2.result * 57 + 1) piece (file_of (file_no gates) (g.D.Disk.view.seen c.args.disk.now)) (file_of (file_no gates) (g.D.Disk.view.seen c.write_synced.new.disk))) c.with_closed_gate.ensures c.in_ok-write_synced.ensures.written.step) in
    let rest = mid_at_rest (file_of (file_no gates) (g.D.Disk.view.seen c.args.disk.now)) c.args.body.now (bodies_of gates) c.requires.at_rest c.told-body (file_of (file_no gates) (g.D.Disk.view.seen c.write_synced.new.disk)) holds in
    let is = handed_on c.in_err-write_synced-2.field-0.0 c.write_synced-2.result c.from_residual-in_err-write_synced-2.result c.in_err-write_synced-2.was c.from_residual-in_err-write_synced-2.ensures.1 memory in
    let same = c.write_synced-2.ensures.unchanged is in
    record {
      at_rest = subst (λ image. HasRestingGate (file_of (file_no gates) image) (c.reserve.new.self.items)) (sym same) (subst (HasRestingGate (file_of (file_no gates) (g.D.Disk.view.seen c.write_synced.new.disk))) (sym c.reserve.ensures.items) rest);
      durable = c.write_synced-2.ensures.still_durable is;
    }

pub returns-clause-rests : goal.returns-clause-rests
returns-clause-rests g c =
    let gates = c.args.self.now in
    let place : c.len-2.result * 57 ≡ 57 * length (bodies_of gates) = omega (arith, c.len-2.ensures, c.reserve.ensures.len, c.args.self.now.bodies.ok.0) in
    let holds : HoldsPiece (57 * length (bodies_of gates) + 1) (c.args.body.now ++ 0 ∷ []) (file_of (file_no gates) (g.D.Disk.view.seen c.args.disk.now)) (file_of (file_no gates) (g.D.Disk.view.seen c.write_synced.new.disk)) =
    subst (λ at. HoldsPiece (at + 1) (c.args.body.now ++ 0 ∷ []) (file_of (file_no gates) (g.D.Disk.view.seen c.args.disk.now)) (file_of (file_no gates) (g.D.Disk.view.seen c.write_synced.new.disk))) place
    (subst (λ piece. HoldsPiece (c.len-2.result * 57 + 1) piece (file_of (file_no gates) (g.D.Disk.view.seen c.args.disk.now)) (file_of (file_no gates) (g.D.Disk.view.seen c.write_synced.new.disk))) c.with_closed_gate.ensures c.in_ok-write_synced.ensures.written.step) in
    let opened : HoldsPiece (57 * length (bodies_of gates)) (1 ∷ []) (file_of (file_no gates) (g.D.Disk.view.seen c.write_synced.new.disk)) (file_of (file_no gates) (g.D.Disk.view.seen c.write_synced-2.new.disk)) =
    subst (λ at. HoldsPiece at (1 ∷ []) (file_of (file_no gates) (g.D.Disk.view.seen c.write_synced.new.disk)) (file_of (file_no gates) (g.D.Disk.view.seen c.write_synced-2.new.disk))) place c.in_ok-write_synced-2.ensures.written.step in
    let rest = new_at_rest (file_of (file_no gates) (g.D.Disk.view.seen c.args.disk.now)) c.args.body.now (bodies_of gates) c.requires.at_rest c.told-body (file_of (file_no gates) (g.D.Disk.view.seen c.write_synced.new.disk)) holds (file_of (file_no gates) (g.D.Disk.view.seen c.write_synced-2.new.disk)) opened in
    let more : c.push.new.self.items ≡ bodies_of gates ++ c.args.body.now ∷ [] = search rules in
    record { at_rest = subst (HasRestingGate (file_of (file_no gates) (g.D.Disk.view.seen c.write_synced-2.new.disk))) (sym more) rest; durable = c.in_ok-write_synced-2.ensures.durable }

-- ---- which of its calls were done

pub returns-in_err-write_synced-clause-told : goal.returns-in_err-write_synced-clause-told
returns-in_err-write_synced-clause-told g c =
    let gates = c.args.self.now in
    let count = length (bodies_of gates) in
    let place : c.len-2.result * 57 + 1 ≡ 57 * count + 1 = omega (arith, c.len-2.ensures, c.reserve.ensures.len, c.args.self.now.bodies.ok.0) in
    let file = file_no gates in
    let old = g.D.Disk.view.told c.args.disk.now in
    let new = g.D.Disk.view.told c.write_synced.new.disk in
    let fault = c.in_err-write_synced.field-0.0 in
    let body = c.args.body.now ++ 0 ∷ [] in
    let written = written_as file (c.len-2.result * 57 + 1) (57 * count + 1) c.with_closed_gate.result body (Err fault) old new place c.with_closed_gate.ensures c.in_err-write_synced.ensures.told in
    told_some (append_calls file count c.args.body.now) fault c.from_residual-in_err-write_synced.result c.from_residual-in_err-write_synced.ensures.1 old new
    (tells_weaker (write_breaks fault file (57 * count + 1) body (synced_write file (57 * count) (1 ∷ []))) old new written)

pub returns-in_err-write_synced-2-clause-told : goal.returns-in_err-write_synced-2-clause-told
returns-in_err-write_synced-2-clause-told g c =
    let gates = c.args.self.now in
    let count = length (bodies_of gates) in
    let place : c.len-2.result * 57 ≡ 57 * count = omega (arith, c.len-2.ensures, c.reserve.ensures.len, c.args.self.now.bodies.ok.0) in
    let behind : c.len-2.result * 57 + 1 ≡ 57 * count + 1 = omega (arith, place) in
    let file = file_no gates in
    let old = g.D.Disk.view.told c.args.disk.now in
    let mid = g.D.Disk.view.told c.write_synced.new.disk in
    let new = g.D.Disk.view.told c.write_synced-2.new.disk in
    let fault = c.in_err-write_synced-2.field-0.0 in
    let body = c.args.body.now ++ 0 ∷ [] in
    let first = written_as file (c.len-2.result * 57 + 1) (57 * count + 1) c.with_closed_gate.result body (Ok tt) old mid behind c.with_closed_gate.ensures c.in_ok-write_synced.ensures.told in
    let second = written_as file (c.len-2.result * 57) (57 * count) (1 ∷ []) (1 ∷ []) (Err fault) mid new place refl c.in_err-write_synced-2.ensures.told in
    told_some (append_calls file count c.args.body.now) fault c.from_residual-in_err-write_synced-2.result c.from_residual-in_err-write_synced-2.ensures.1 old new
    (tells_then (breaks_later fault (synced_write file (57 * count + 1) body) (synced_write file (57 * count) (1 ∷ []))) old mid new
    (tells_weaker (write_done file (57 * count + 1) body) old mid first) (tells_weaker (write_breaks fault file (57 * count) (1 ∷ []) []) mid new second))

pub returns-clause-told : goal.returns-clause-told
returns-clause-told g c =
    let gates = c.args.self.now in
    let count = length (bodies_of gates) in
    let place : c.len-2.result * 57 ≡ 57 * count = omega (arith, c.len-2.ensures, c.reserve.ensures.len, c.args.self.now.bodies.ok.0) in
    let behind : c.len-2.result * 57 + 1 ≡ 57 * count + 1 = omega (arith, place) in
    let file = file_no gates in
    let old = g.D.Disk.view.told c.args.disk.now in
    let mid = g.D.Disk.view.told c.write_synced.new.disk in
    let new = g.D.Disk.view.told c.write_synced-2.new.disk in
    let body = c.args.body.now ++ 0 ∷ [] in
    let first = written_as file (c.len-2.result * 57 + 1) (57 * count + 1) c.with_closed_gate.result body (Ok tt) old mid behind c.with_closed_gate.ensures c.in_ok-write_synced.ensures.told in
    let second = written_as file (c.len-2.result * 57) (57 * count) (1 ∷ []) (1 ∷ []) (Ok tt) mid new place refl c.in_ok-write_synced-2.ensures.told in
    told_all (append_calls file count c.args.body.now) tt old new
    (tells_then (all_then (synced_write file (57 * count + 1) body) (synced_write file (57 * count) (1 ∷ []))) old mid new
    (tells_weaker (write_done file (57 * count + 1) body) old mid first) (tells_weaker (write_done file (57 * count) (1 ∷ [])) mid new second))
