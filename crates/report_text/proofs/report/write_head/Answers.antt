use Rattle.report_text.proofs.WritingLemmas.{writes_on, writes_exit, writes_last}
use Rattle.report_text.proofs.report.write_head.Goals as goal

pub returns-in_err-write_text : goal.returns-in_err-write_text
returns-in_err-write_text g c = writes_exit _ _ _ _ _ _ c.from_residual.ensures.1 c.in_err-write_text.ensures

pub returns-in_err-write_window : goal.returns-in_err-write_window
returns-in_err-write_window g c =
    writes_on _ _ _ _ _ _ _ c.in_ok-write_text.ensures
    (writes_exit _ _ _ _ _ _ c.from_residual-in_err-write_window.ensures.1 (rw c.window.ensures.window at c.in_err-write_window.ensures))

pub returns-in_err-write_members : goal.returns-in_err-write_members
returns-in_err-write_members g c =
    writes_on _ _ _ _ _ _ _ c.in_ok-write_text.ensures
    (writes_on _ _ _ _ _ _ _ (rw c.window.ensures.window at c.in_ok-write_window.ensures)
    (writes_exit _ _ _ _ _ _ c.from_residual-in_err-write_members.ensures.1 c.in_err-write_members.ensures))

pub returns : goal.returns
returns g c =
    writes_on _ _ _ _ _ _ _ c.in_ok-write_text.ensures
    (writes_on _ _ _ _ _ _ _ (rw c.window.ensures.window at c.in_ok-write_window.ensures)
    (writes_on _ _ _ _ _ _ _ c.in_ok-write_members.ensures (writes_last _ _ _ _ (rw c.jobs.ensures.count at c.write_job_number.ensures))))
