use Rattle.run_text.specs.Steps.{start, RefusedFrom}
use Rattle.run_text.specs.declared.table.Tables.{Tables}
use Rattle.run_text.proofs.StepLemmas.{goes_on}
use Rattle.run_text.proofs.head.read_head.Goals as goal
use Rattle.crontab_text.proofs.VariantLemmas.{handed_on}

pub returns-in_err-reader-clause-refused : goal.returns-in_err-reader-clause-refused
returns-in_err-reader-clause-refused c =
    handed_on c.from_residual.result c.in_err-reader.field-0.0 (λ refusal. (tables : Tables) → RefusedFrom tables (start c.args.text.now) refusal) c.from_residual.ensures.1
    c.in_err-reader.ensures.refused

pub returns-in_err-members-clause-refused : goal.returns-in_err-members-clause-refused
returns-in_err-members-clause-refused c =
    handed_on c.from_residual-in_err-members.result c.in_err-members.field-0.0 (λ refusal. (tables : Tables) → RefusedFrom tables (start c.args.text.now) refusal)
    c.from_residual-in_err-members.ensures.1
    (λ tables. (c.in_ok-reader.ensures.read tables).refuses _ (c.in_err-members.ensures.refused tables))

pub returns-in_err-window-clause-refused : goal.returns-in_err-window-clause-refused
returns-in_err-window-clause-refused c =
    handed_on c.from_residual-in_err-window.result c.in_err-window.field-0.0 (λ refusal. (tables : Tables) → RefusedFrom tables (start c.args.text.now) refusal)
    c.from_residual-in_err-window.ensures.1
    (λ tables.
    let way = goes_on _ _ _ (c.in_ok-reader.ensures.read tables) (c.in_ok-members.ensures.read tables) in
    way.refuses _ (c.in_err-window.ensures.refused tables c.in_ok-members.members))

pub returns-in_err-grace-clause-refused : goal.returns-in_err-grace-clause-refused
returns-in_err-grace-clause-refused c =
    handed_on c.from_residual-in_err-grace.result c.in_err-grace.field-0.0 (λ refusal. (tables : Tables) → RefusedFrom tables (start c.args.text.now) refusal)
    c.from_residual-in_err-grace.ensures.1
    (λ tables.
    let way = goes_on _ _ _ (c.in_ok-reader.ensures.read tables)
    (goes_on _ _ _ (c.in_ok-members.ensures.read tables) (c.in_ok-window.ensures.read tables c.in_ok-members.members)) in
    way.refuses _ (c.in_err-grace.ensures.refused tables c.in_ok-members.members c.in_ok-window.window))

pub returns-clause-read : goal.returns-clause-read
returns-clause-read c = λ tables.
    goes_on _ _ _ (c.in_ok-reader.ensures.read tables)
    (goes_on _ _ _ (c.in_ok-members.ensures.read tables)
    (goes_on _ _ _ (c.in_ok-window.ensures.read tables c.in_ok-members.members) (c.in_ok-grace.ensures.read tables c.in_ok-members.members c.in_ok-window.window)))
