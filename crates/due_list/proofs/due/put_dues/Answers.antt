use Rattle.std.proofs.Common.{List, map, ◌++◌, ◌∙◌, ap, get_or, string_bytes, append-nil, sym, pos}
use Rattle.std.proofs.lemmas.List.{get_or_default, take_all}
use Rattle.zone_minutes.specs.declared.minute.Minute.{Minute}
use Rattle.due_list.specs.DueText.{due_line}
use Rattle.cron_io.specs.Lines.{text_of_lines}
use Rattle.due_list.proofs.ListLemmas.{lines_more}
use Rattle.due_list.proofs.due.put_dues.Goals as goal

-- what a read past the end would give
abbrev default_minute : Minute
default_minute = record { 0 = pos 0 }

pub loop-at-init : goal.loop-at-init
loop-at-init c = λ j zone is_in. sym (append-nil (string_bytes c.args.into.now))

pub loop-at-preserved : goal.loop-at-preserved
loop-at-preserved c = λ j zone is_in.
    let dues = c.args.dues.now in
    let i = c.loop-at.at-index in
    lines_more (λ at. due_line c.args.table.now c.args.job zone at.0) dues i (get_or dues i default_minute) (string_bytes c.args.into.now) (string_bytes c.loop-at.into) (string_bytes c.put_due.new.into) c.loop-at-test.true
    (get_or_default dues i _ _ c.loop-at-test.true) (c.loop-at.invariant j zone is_in) (c.in_ok-put_due.ensures j zone is_in)

pub returns : goal.returns
returns c = λ j zone is_in.
    c.loop-at.invariant j zone is_in
    ∙ ap (λ (l : List Minute). string_bytes c.args.into.now ++ text_of_lines (map (λ (at : Minute). due_line c.args.table.now c.args.job zone at.0) l)) (take_all c.loop-at.at-index c.args.dues.now c.loop-at-test.false)
