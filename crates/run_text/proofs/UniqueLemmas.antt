-- A line may stand where it stands, or it may not: never both, and in one way.
use Rattle.std.proofs.Common.{◌≡◌, ◌⊎◌, ℕ, zero, suc, ◌+◌, List, [], ◌∷◌, Option, Some, None, length, get_or, ◌≤◌, refl, ap, ◌∙◌, sym, subst, inl, inr, arith, codes}
use Rattle.std.specs.Prelude.{⊤}
use Rattle.anacron_text.specs.LogicalLines.{joined}
use Rattle.anacron_text.specs.Settings.{no_settings}
use Rattle.crontab_text.specs.Answers.{LineAnswer, Said, Broken}
use Rattle.crontab_text.specs.declared.answer.Style.{Style}
use Rattle.crontab_text.proofs.AnswerLemmas.{same_answer}
use Rattle.script_text.specs.Command.{command_line}
use Rattle.script_text.specs.declared.command.Command.{Command}
use Rattle.script_text.specs.declared.command.Command.TheVariants as command
use Rattle.script_text.proofs.UniqueLemmas.{one_command}
use Rattle.run_text.specs.Follow.{Above, Nothing, Version, Replicas, Times, Sections, Table, Script, End, inside, style_of, MayStandIn, MayStandBelow, OpensZone, OpensVersion, StartsSection, IsOfLine, Refuses, RefusesInTable, RefusesBeforeScript, RefusesInScript, AddsCommand, Misses}
use Rattle.run_text.specs.Grammar.{HasSectionWord}
use Rattle.run_text.specs.Reading.{ReadsFrom, RefusesFrom}
use Rattle.run_text.specs.Run.{Run, Section, opened, with_line}
use Rattle.run_text.specs.declared.refusal.Refusal.{Refusal}
use Rattle.run_text.specs.declared.run.SectionKind.TheVariants.{User, System, Anacron}
use Rattle.run_text.specs.declared.table.Tables.{Tables}
use Rattle.run_text.specs.declared.table.Tables.TheVariants.{Judged, Counted}
use Rattle.run_text.proofs.AnacrontabLemmas as anacrontab
use Rattle.run_text.proofs.PhraseLemmas.{one_members, one_grace_line, one_opening, opening_word}
use Rattle.run_text.proofs.VersionLemmas.{version_word, one_beginning}
use Rattle.run_text.proofs.WindowLemmas.{one_window_line}
use Rattle.run_text.proofs.ZoneLemmas.{zone_word, one_zone}
use Rattle.run_text.specs.Versions.{HasVersionWord}
use Rattle.run_text.specs.Zones.{HasZoneWord}

-- two texts with another byte at a place
at_differs : {a b : List ℕ} (place : ℕ) → a ≡ b → (get_or a place 0 ≡ get_or b place 0 → ⊥) → ⊥
at_differs place is differs = differs (ap (λ l. get_or l place 0) is)

-- the words tell the lines apart
script_no_section : HasSectionWord (codes "script") → ⊥
script_no_section (User, is) = at_differs 0 is (λ e. omega arith)
script_no_section (System, is) = at_differs 1 is (λ e. omega arith)
script_no_section (Anacron, is) = at_differs 0 is (λ e. omega arith)

script_no_zone : HasZoneWord (codes "script") → ⊥
script_no_zone is = at_differs 0 is (λ e. omega arith)

section_no_zone : (line : List ℕ) → HasSectionWord line → HasZoneWord line → ⊥
section_no_zone line (User, is) other = at_differs 0 (sym is ∙ other) (λ e. omega arith)
section_no_zone line (System, is) other = at_differs 0 (sym is ∙ other) (λ e. omega arith)
section_no_zone line (Anacron, is) other = at_differs 0 (sym is ∙ other) (λ e. omega arith)

script_no_version : HasVersionWord (codes "script") → ⊥
script_no_version is = at_differs 0 is (λ e. omega arith)

section_no_version : (line : List ℕ) → HasSectionWord line → HasVersionWord line → ⊥
section_no_version line (User, is) other = at_differs 0 (sym is ∙ other) (λ e. omega arith)
section_no_version line (System, is) other = at_differs 0 (sym is ∙ other) (λ e. omega arith)
section_no_version line (Anacron, is) other = at_differs 0 (sym is ∙ other) (λ e. omega arith)

zone_no_version : (line : List ℕ) → HasZoneWord line → HasVersionWord line → ⊥
zone_no_version line is other = at_differs 0 (sym is ∙ other) (λ e. omega arith)

end_says_none : (command : Command) → codes "end" ≡ command_line command → ⊥
end_says_none (command.Round at rounds) is = at_differs 0 is (λ e. omega arith)
end_says_none (command.Campaign member) is = at_differs 0 is (λ e. omega arith)
end_says_none (command.Stop member) is = at_differs 0 is (λ e. omega arith)
end_says_none (command.Break member pass image) is = at_differs 0 is (λ e. omega arith)
end_says_none (command.Restart member) is = at_differs 0 is (λ e. omega arith)
end_says_none (command.Cut from to) is = at_differs 0 is (λ e. omega arith)
end_says_none command.Heal is = at_differs 0 is (λ e. omega arith)
end_says_none (command.Drop from to) is = at_differs 0 is (λ e. omega arith)
end_says_none (command.Repeat from to) is = at_differs 0 is (λ e. omega arith)
end_says_none (command.Reverse member) is = at_differs 0 is (λ e. omega arith)
end_says_none (command.Again letter) is = at_differs 0 is (λ e. omega arith)
end_says_none (command.Skew member minutes) is = at_differs 0 is (λ e. omega arith)
end_says_none (command.Fate member word) is = at_differs 0 is (λ e. omega arith)
end_says_none (command.Arrive late) is = at_differs 0 is (λ e. omega arith)
end_says_none (command.Settle at) is = at_differs 0 is (λ e. omega arith)
end_says_none (command.Walk to) is = at_differs 0 is (λ e. omega arith)
end_says_none (command.Free at turns) is = at_differs 0 is (λ e. omega arith)

-- there are few replicas, where the line that says how many stands above
abbrev HasFew : Above → Type 0
HasFew Nothing = ⊤
HasFew Version = ⊤
HasFew (Replicas members) = members ≤ 7
HasFew (Times members window) = members ≤ 7
HasFew (Sections run) = run.members ≤ 7
HasFew (Table run section left) = run.members ≤ 7
HasFew (Script run) = run.members ≤ 7
HasFew (End run) = run.members ≤ 7

few_inside : (run : Run) (section : Section) (left : ℕ) → run.members ≤ 7 → HasFew (inside run section left)
few_inside run section zero few = few
few_inside run section (suc left) few = few

few_next : (tables : Tables) (number behind : ℕ) (above : Above) (line : List ℕ) (next : Above) → HasFew above → MayStandBelow tables number behind above line next → HasFew next
few_next tables number behind Nothing line next few may = subst HasFew (sym may.1) tt
few_next tables number behind Version line next few (members, is, next_is) = subst HasFew (sym next_is) is.few
few_next tables number behind (Replicas members) line next few (window, is, next_is) = subst HasFew (sym next_is) few
few_next tables number behind (Times members window) line next few (grace, is, next_is) = subst HasFew (sym next_is) few
few_next tables number behind (Sections run) line next few (inl may) = subst HasFew (sym may.1) few
few_next tables number behind (Sections run) line next few (inr (inl names)) = subst HasFew (sym names.next_is) few
few_next tables number behind (Sections run) line next few (inr (inr (inr begins))) = subst HasFew (sym begins.next_is) few
few_next tables number behind (Sections run) line next few (inr (inr (inl start))) =
    subst HasFew (sym start.next_is) (few_inside run (opened number start.kind start.label start.zone) start.count few)
few_next tables number behind (Table run section left) line next few may = subst HasFew (sym may.1) (few_inside run (with_line section line) left few)
few_next tables number behind (Script run) line next few (inl may) = subst HasFew (sym may.1) few
few_next tables number behind (Script run) line next few (inr adds) = subst HasFew (sym adds.next_is) few
few_next tables number behind (End run) line next few may = absurd may

-- what stands above the next line
next_of_start : (number behind : ℕ) (run : Run) (line : List ℕ) (x y : Above) → StartsSection number behind run line x → StartsSection number behind run line y → x ≡ y
next_of_start number behind run line x y first second =
    let same = one_opening line first.kind second.kind first.label second.label first.zone second.zone first.count second.count first.opens.is second.opens.is in
    first.next_is ∙ rw (same.kind, same.label, same.zone, same.count) (sym second.next_is)

-- the line that ends a script says no command, and another line says one
end_adds_none : (run : Run) (line : List ℕ) (next : Above) → line ≡ codes "end" → AddsCommand run line next → ⊥
end_adds_none run line next is adds = end_says_none adds.command (sym is ∙ adds.says.is.is)

next_of_command : (run : Run) (line : List ℕ) (x y : Above) → run.members ≤ 7 → AddsCommand run line x → AddsCommand run line y → x ≡ y
next_of_command run line x y few first second =
    let same = one_command line run.members run.members run.window run.window (omega arith) (omega arith) first.command second.command first.says.is second.says.is in
    first.next_is ∙ rw same (sym second.next_is)

script_no_start : (number behind : ℕ) (run : Run) (line : List ℕ) (x : Above) → line ≡ codes "script" → StartsSection number behind run line x → ⊥
script_no_start number behind run line x is start =
    script_no_section (subst HasSectionWord is (opening_word line start.kind start.label start.zone start.count start.opens.is))

script_no_name : (number : ℕ) (run : Run) (line : List ℕ) (x : Above) → line ≡ codes "script" → OpensZone number run line x → ⊥
script_no_name number run line x is names =
    script_no_zone (subst HasZoneWord is (zone_word line names.name names.source names.adds.is))

name_no_start : (number behind : ℕ) (run : Run) (line : List ℕ) (x y : Above) → OpensZone number run line x → StartsSection number behind run line y → ⊥
name_no_start number behind run line x y names start =
    section_no_zone line (opening_word line start.kind start.label start.zone start.count start.opens.is) (zone_word line names.name names.source names.adds.is)

next_of_name : (number : ℕ) (run : Run) (line : List ℕ) (x y : Above) → OpensZone number run line x → OpensZone number run line y → x ≡ y
next_of_name number run line x y first second =
    let same = one_zone line first.name second.name first.source second.source first.adds.is second.adds.is in
    first.next_is ∙ rw (same.0, same.1) (sym second.next_is)

-- a line that begins a version is of no other kind
begun_word : (number : ℕ) (run : Run) (line : List ℕ) (x : Above) → OpensVersion number run line x → HasVersionWord line
begun_word number run line x begins = version_word line (suc (length run.versions)) begins.from begins.begins.is

script_no_begin : (number : ℕ) (run : Run) (line : List ℕ) (x : Above) → line ≡ codes "script" → OpensVersion number run line x → ⊥
script_no_begin number run line x is begins = script_no_version (subst HasVersionWord is (begun_word number run line x begins))

name_no_begin : (number : ℕ) (run : Run) (line : List ℕ) (x y : Above) → OpensZone number run line x → OpensVersion number run line y → ⊥
name_no_begin number run line x y names begins =
    zone_no_version line (zone_word line names.name names.source names.adds.is) (begun_word number run line y begins)

start_no_begin : (number behind : ℕ) (run : Run) (line : List ℕ) (x y : Above) → StartsSection number behind run line x → OpensVersion number run line y → ⊥
start_no_begin number behind run line x y start begins =
    section_no_version line (opening_word line start.kind start.label start.zone start.count start.opens.is) (begun_word number run line y begins)

next_of_begin : (number : ℕ) (run : Run) (line : List ℕ) (x y : Above) → OpensVersion number run line x → OpensVersion number run line y → x ≡ y
next_of_begin number run line x y first second =
    first.next_is ∙ rw (one_beginning run line first.from second.from first.begins second.begins) (sym second.next_is)

one_next : (tables : Tables) (number behind : ℕ) (above : Above) (line : List ℕ) (x y : Above) → HasFew above → MayStandBelow tables number behind above line x → MayStandBelow tables number behind above line y → x ≡ y
one_next tables number behind Nothing line x y few p q = p.1 ∙ sym q.1
one_next tables number behind Version line x y few (a, is, next) (b, other, same) = next ∙ rw (one_members line a b is other) (sym same)
one_next tables number behind (Replicas members) line x y few (a, is, next) (b, other, same) = next ∙ rw (one_window_line line a b is other) (sym same)
one_next tables number behind (Times members window) line x y few (a, is, next) (b, other, same) = next ∙ rw (one_grace_line line a b is other) (sym same)
one_next tables number behind (Sections run) line x y few (inl p) (inl q) = p.1 ∙ sym q.1
one_next tables number behind (Sections run) line x y few (inl p) (inr (inl q)) = absurd (script_no_name number run line y p.0 q)
one_next tables number behind (Sections run) line x y few (inl p) (inr (inr (inl q))) = absurd (script_no_start number behind run line y p.0 q)
one_next tables number behind (Sections run) line x y few (inl p) (inr (inr (inr q))) = absurd (script_no_begin number run line y p.0 q)
one_next tables number behind (Sections run) line x y few (inr (inl p)) (inl q) = absurd (script_no_name number run line x q.0 p)
one_next tables number behind (Sections run) line x y few (inr (inl p)) (inr (inl q)) = next_of_name number run line x y p q
one_next tables number behind (Sections run) line x y few (inr (inl p)) (inr (inr (inl q))) = absurd (name_no_start number behind run line x y p q)
one_next tables number behind (Sections run) line x y few (inr (inl p)) (inr (inr (inr q))) = absurd (name_no_begin number run line x y p q)
one_next tables number behind (Sections run) line x y few (inr (inr (inl p))) (inl q) = absurd (script_no_start number behind run line x q.0 p)
one_next tables number behind (Sections run) line x y few (inr (inr (inl p))) (inr (inl q)) = absurd (name_no_start number behind run line y x q p)
one_next tables number behind (Sections run) line x y few (inr (inr (inl p))) (inr (inr (inl q))) = next_of_start number behind run line x y p q
one_next tables number behind (Sections run) line x y few (inr (inr (inl p))) (inr (inr (inr q))) = absurd (start_no_begin number behind run line x y p q)
one_next tables number behind (Sections run) line x y few (inr (inr (inr p))) (inl q) = absurd (script_no_begin number run line x q.0 p)
one_next tables number behind (Sections run) line x y few (inr (inr (inr p))) (inr (inl q)) = absurd (name_no_begin number run line y x q p)
one_next tables number behind (Sections run) line x y few (inr (inr (inr p))) (inr (inr (inl q))) = absurd (start_no_begin number behind run line y x q p)
one_next tables number behind (Sections run) line x y few (inr (inr (inr p))) (inr (inr (inr q))) = next_of_begin number run line x y p q
one_next tables number behind (Table run section left) line x y few p q = p.1 ∙ sym q.1
one_next tables number behind (Script run) line x y few (inl p) (inl q) = p.1 ∙ sym q.1
one_next tables number behind (Script run) line x y few (inl p) (inr q) = absurd (end_adds_none run line y p.0 q)
one_next tables number behind (Script run) line x y few (inr p) (inl q) = absurd (end_adds_none run line x q.0 p)
one_next tables number behind (Script run) line x y few (inr p) (inr q) = next_of_command run line x y few p q
one_next tables number behind (End run) line x y few p q = absurd p

-- a line of a table
said_or_broken : (tables : Tables) (style : Option Style) (number : ℕ) (section : Section) (left : ℕ) (line : List ℕ) (refusal : Refusal) → MayStandIn tables style section left line → RefusesInTable tables style number section left line refusal → ⊥
said_or_broken Counted style number section left line refusal may refused = refused
said_or_broken Judged (Some style) number section left line refusal may refused =
    let same : ◌≡◌ {A = LineAnswer} (Said may.0) (Broken refusal.cause refusal.place) = same_answer style section.label line (Said may.0) (Broken refusal.cause refusal.place) may.1 refused.0 in cc
said_or_broken Judged None number section zero line refusal may refused =
    anacrontab.said_or_broken no_settings (joined (with_line section line).lines) refused.0 refusal.cause refusal.place may refused.1
said_or_broken Judged None number section (suc left) line refusal may refused = refused

pub same_refusal : (a b : Refusal) → a.line ≡ b.line → a.cause ≡ b.cause → a.place ≡ b.place → a ≡ b
same_refusal a b line cause place = rw (line, cause, place) refl

one_break : (tables : Tables) (style : Option Style) (number : ℕ) (section : Section) (left : ℕ) (line : List ℕ) (a b : Refusal) → RefusesInTable tables style number section left line a → RefusesInTable tables style number section left line b → a ≡ b
one_break Counted style number section left line a b first second = absurd first
one_break Judged (Some style) number section left line a b first second =
    let same : ◌≡◌ {A = LineAnswer} (Broken a.cause a.place) (Broken b.cause b.place) = same_answer style section.label line (Broken a.cause a.place) (Broken b.cause b.place) first.0 second.0 in
    let cause : a.cause ≡ b.cause = cc in
    let place : a.place ≡ b.place = cc in
    same_refusal a b (first.1 ∙ sym second.1) cause place
one_break Judged None number section zero line a b first second =
    let same = anacrontab.one_first_break no_settings (joined (with_line section line).lines) first.0 second.0 a.cause b.cause a.place b.place first.1 second.1 in
    same_refusal a b (first.2 ∙ ap (λ n. section.line + n) same.0 ∙ sym second.2) same.1 same.2
one_break Judged None number section (suc left) line a b first second = absurd first

-- a line that may stand there isn't refused
start_not_refused : (number behind : ℕ) (run : Run) (line : List ℕ) (next : Above) (fault : ℕ)
    → StartsSection number behind run line next → RefusesBeforeScript behind run line fault → ⊥
start_not_refused number behind run line next fault p (inl refused) = refused.1 p.kind p.label p.zone p.count p.opens
start_not_refused number behind run line next fault p (inr (inl refused)) =
    section_no_zone line (opening_word line p.kind p.label p.zone p.count p.opens.is) refused.0
start_not_refused number behind run line next fault p (inr (inr (inl refused))) =
    section_no_version line (opening_word line p.kind p.label p.zone p.count p.opens.is) refused.0
start_not_refused number behind run line next fault p (inr (inr (inr refused))) =
    refused.0.no_section (opening_word line p.kind p.label p.zone p.count p.opens.is)

name_not_refused : (number behind : ℕ) (run : Run) (line : List ℕ) (next : Above) (fault : ℕ)
    → OpensZone number run line next → RefusesBeforeScript behind run line fault → ⊥
name_not_refused number behind run line next fault p (inl refused) = section_no_zone line refused.0 (zone_word line p.name p.source p.adds.is)
name_not_refused number behind run line next fault p (inr (inl refused)) = refused.1 p.name p.source p.adds
name_not_refused number behind run line next fault p (inr (inr (inl refused))) =
    zone_no_version line (zone_word line p.name p.source p.adds.is) refused.0
name_not_refused number behind run line next fault p (inr (inr (inr refused))) = refused.0.no_zone (zone_word line p.name p.source p.adds.is)

begin_not_refused : (number behind : ℕ) (run : Run) (line : List ℕ) (next : Above) (fault : ℕ)
    → OpensVersion number run line next → RefusesBeforeScript behind run line fault → ⊥
begin_not_refused number behind run line next fault p (inl refused) = section_no_version line refused.0 (begun_word number run line next p)
begin_not_refused number behind run line next fault p (inr (inl refused)) = zone_no_version line refused.0 (begun_word number run line next p)
begin_not_refused number behind run line next fault p (inr (inr (inl refused))) = refused.1 p.from p.begins
begin_not_refused number behind run line next fault p (inr (inr (inr refused))) = refused.0.no_version (begun_word number run line next p)

script_not_refused : (behind : ℕ) (run : Run) (line : List ℕ) (fault : ℕ) → line ≡ codes "script" → RefusesBeforeScript behind run line fault → ⊥
script_not_refused behind run line fault is (inl refused) = script_no_section (subst HasSectionWord is refused.0)
script_not_refused behind run line fault is (inr (inl refused)) = script_no_zone (subst HasZoneWord is refused.0)
script_not_refused behind run line fault is (inr (inr (inl refused))) = script_no_version (subst HasVersionWord is refused.0)
script_not_refused behind run line fault is (inr (inr (inr refused))) = refused.0.no_script is

not_refused_before_script : (tables : Tables) (number behind : ℕ) (run : Run) (line : List ℕ) (next : Above) (fault : ℕ) → MayStandBelow tables number behind (Sections run) line next → RefusesBeforeScript behind run line fault → ⊥
not_refused_before_script tables number behind run line next fault (inl p) refused = script_not_refused behind run line fault p.0 refused
not_refused_before_script tables number behind run line next fault (inr (inl p)) refused = name_not_refused number behind run line next fault p refused
not_refused_before_script tables number behind run line next fault (inr (inr (inl p))) refused = start_not_refused number behind run line next fault p refused
not_refused_before_script tables number behind run line next fault (inr (inr (inr p))) refused = begin_not_refused number behind run line next fault p refused

not_refused_in_script : (run : Run) (line : List ℕ) (next : Above) (fault : ℕ)
    → ((line ≡ codes "end") × (next ≡ End run)) ⊎ AddsCommand run line next → RefusesInScript run line fault → ⊥
not_refused_in_script run line next fault (inl ends) refused = refused.0 ends.0
not_refused_in_script run line next fault (inr adds) refused = refused.1 adds.command adds.says

pub not_refused : (tables : Tables) (number behind : ℕ) (above : Above) (line : List ℕ) (next : Above) (refusal : Refusal) → MayStandBelow tables number behind above line next → Refuses tables number behind above line refusal → ⊥
not_refused tables number behind Nothing line next refusal p refused = refused.0 p.0
not_refused tables number behind Version line next refusal p refused = refused.0 p.0 p.1
not_refused tables number behind (Replicas members) line next refusal p refused = refused.0 p.0 p.1
not_refused tables number behind (Times members window) line next refusal p refused = refused.0 p.0 p.1
not_refused tables number behind (Sections run) line next refusal p refused = not_refused_before_script tables number behind run line next refusal.cause p refused.0
not_refused tables number behind (Table run section left) line next refusal p refused = said_or_broken tables (style_of section.kind) number section left line refusal p.0 refused
not_refused tables number behind (Script run) line next refusal p refused = not_refused_in_script run line next refusal.cause p refused.0
not_refused tables number behind (End run) line next refusal p refused = absurd p

-- what a refused line is refused for
one_fault_before_script : (behind : ℕ) (run : Run) (line : List ℕ) (f g : ℕ) → RefusesBeforeScript behind run line f → RefusesBeforeScript behind run line g → f ≡ g
one_fault_before_script behind run line f g (inl p) (inl q) = p.2 ∙ sym q.2
one_fault_before_script behind run line f g (inl p) (inr (inl q)) = absurd (section_no_zone line p.0 q.0)
one_fault_before_script behind run line f g (inl p) (inr (inr (inl q))) = absurd (section_no_version line p.0 q.0)
one_fault_before_script behind run line f g (inl p) (inr (inr (inr q))) = absurd (q.0.no_section p.0)
one_fault_before_script behind run line f g (inr (inl p)) (inl q) = absurd (section_no_zone line q.0 p.0)
one_fault_before_script behind run line f g (inr (inl p)) (inr (inl q)) = p.2 ∙ sym q.2
one_fault_before_script behind run line f g (inr (inl p)) (inr (inr (inl q))) = absurd (zone_no_version line p.0 q.0)
one_fault_before_script behind run line f g (inr (inl p)) (inr (inr (inr q))) = absurd (q.0.no_zone p.0)
one_fault_before_script behind run line f g (inr (inr (inl p))) (inl q) = absurd (section_no_version line q.0 p.0)
one_fault_before_script behind run line f g (inr (inr (inl p))) (inr (inl q)) = absurd (zone_no_version line q.0 p.0)
one_fault_before_script behind run line f g (inr (inr (inl p))) (inr (inr (inl q))) = p.2 ∙ sym q.2
one_fault_before_script behind run line f g (inr (inr (inl p))) (inr (inr (inr q))) = absurd (q.0.no_version p.0)
one_fault_before_script behind run line f g (inr (inr (inr p))) (inl q) = absurd (p.0.no_section q.0)
one_fault_before_script behind run line f g (inr (inr (inr p))) (inr (inl q)) = absurd (p.0.no_zone q.0)
one_fault_before_script behind run line f g (inr (inr (inr p))) (inr (inr (inl q))) = absurd (p.0.no_version q.0)
one_fault_before_script behind run line f g (inr (inr (inr p))) (inr (inr (inr q))) = p.1 ∙ sym q.1

one_fault_in_script : (run : Run) (line : List ℕ) (f g : ℕ) → RefusesInScript run line f → RefusesInScript run line g → f ≡ g
one_fault_in_script run line f g p q = p.2 ∙ sym q.2

-- a whole line is refused in one way for one cause
one_of_line : (number : ℕ) (a b : Refusal) → a.cause ≡ b.cause → IsOfLine number a → IsOfLine number b → a ≡ b
one_of_line number a b cause first second = same_refusal a b (first.0 ∙ sym second.0) cause (first.1 ∙ sym second.1)

pub one_fault : (tables : Tables) (number behind : ℕ) (above : Above) (line : List ℕ) (a b : Refusal) → Refuses tables number behind above line a → Refuses tables number behind above line b → a ≡ b
one_fault tables number behind Nothing line a b p q = one_of_line number a b (p.1 ∙ sym q.1) p.2 q.2
one_fault tables number behind Version line a b p q = one_of_line number a b (p.1 ∙ sym q.1) p.2 q.2
one_fault tables number behind (Replicas members) line a b p q = one_of_line number a b (p.1 ∙ sym q.1) p.2 q.2
one_fault tables number behind (Times members window) line a b p q = one_of_line number a b (p.1 ∙ sym q.1) p.2 q.2
one_fault tables number behind (Sections run) line a b p q = one_of_line number a b (one_fault_before_script behind run line a.cause b.cause p.0 q.0) p.1 q.1
one_fault tables number behind (Table run section left) line a b p q = one_break tables (style_of section.kind) number section left line a b p q
one_fault tables number behind (Script run) line a b p q = one_of_line number a b (one_fault_in_script run line a.cause b.cause p.0 q.0) p.1 q.1
one_fault tables number behind (End run) line a b p q = one_of_line number a b (p.0 ∙ sym q.0) p.1 q.1

-- the cause of a line that is missing
one_miss : (above : Above) (c d : ℕ) → Misses above c → Misses above d → c ≡ d
one_miss Nothing c d p q = p ∙ sym q
one_miss Version c d p q = p ∙ sym q
one_miss (Replicas members) c d p q = p ∙ sym q
one_miss (Times members window) c d p q = p ∙ sym q
one_miss (Sections run) c d p q = p ∙ sym q
one_miss (Table run section left) c d p q = absurd p
one_miss (Script run) c d p q = p ∙ sym q
one_miss (End run) c d p q = absurd p

end_no_miss : (above : Above) (run : Run) (cause : ℕ) → above ≡ End run → Misses above cause → ⊥
end_no_miss above run cause is misses = subst (λ a. Misses a cause) is misses

-- Some lines say one run, or are refused for one reason, and never both, by whichever tables.
module _ (tables : Tables) where
  one_run_from : (number : ℕ) (above : Above) (lines : List (List ℕ)) (a b : Run) → HasFew above → ReadsFrom tables number above lines a → ReadsFrom tables number above lines b → a ≡ b
  one_run_from number above [] a b few p q = let same : End a ≡ End b = sym p ∙ q in cc
  one_run_from number above (line ∷ lines) a b few (x, may, reads) (y, other, more) =
      one_run_from (number + 1) y lines a b (few_next tables number (length lines) above line y few other)
      (subst (λ t. ReadsFrom tables (number + 1) t lines a) (one_next tables number (length lines) above line x y few may other) reads) more

  never_both_from : (number : ℕ) (above : Above) (lines : List (List ℕ)) (run : Run) (refusal : Refusal) → HasFew above → ReadsFrom tables number above lines run → RefusesFrom tables number above lines refusal → ⊥
  never_both_from number above [] run refusal few is refused = end_no_miss above run refusal.cause is refused.0
  never_both_from number above (line ∷ lines) run refusal few (x, may, reads) (inl refused) =
      not_refused tables number (length lines) above line x refusal may refused
  never_both_from number above (line ∷ lines) run refusal few (x, may, reads) (inr (y, other, refused)) =
      never_both_from (number + 1) y lines run refusal (few_next tables number (length lines) above line y few other)
      (subst (λ t. ReadsFrom tables (number + 1) t lines run) (one_next tables number (length lines) above line x y few may other) reads) refused

  one_refusal_from : (number : ℕ) (above : Above) (lines : List (List ℕ)) (a b : Refusal) → HasFew above → RefusesFrom tables number above lines a → RefusesFrom tables number above lines b → a ≡ b
  one_refusal_from number above [] a b few p q = one_of_line number a b (one_miss above a.cause b.cause p.0 q.0) p.1 q.1
  one_refusal_from number above (line ∷ lines) a b few (inl p) (inl q) = one_fault tables number (length lines) above line a b p q
  one_refusal_from number above (line ∷ lines) a b few (inl p) (inr (y, may, q)) = absurd (not_refused tables number (length lines) above line y a may p)
  one_refusal_from number above (line ∷ lines) a b few (inr (x, may, p)) (inl q) = absurd (not_refused tables number (length lines) above line x b may q)
  one_refusal_from number above (line ∷ lines) a b few (inr (x, may, p)) (inr (y, other, q)) =
      one_refusal_from (number + 1) y lines a b (few_next tables number (length lines) above line y few other)
      (subst (λ t. RefusesFrom tables (number + 1) t lines a) (one_next tables number (length lines) above line x y few may other) p) q

  -- so it is of a whole text
  pub one_run_by : (lines : List (List ℕ)) (a b : Run) → ReadsFrom tables 1 Nothing lines a → ReadsFrom tables 1 Nothing lines b → a ≡ b
  one_run_by lines a b p q = one_run_from 1 Nothing lines a b tt p q

  pub never_both_by : (lines : List (List ℕ)) (run : Run) (refusal : Refusal) → ReadsFrom tables 1 Nothing lines run → RefusesFrom tables 1 Nothing lines refusal → ⊥
  never_both_by lines run refusal p q = never_both_from 1 Nothing lines run refusal tt p q

  pub one_refusal_by : (lines : List (List ℕ)) (a b : Refusal) → RefusesFrom tables 1 Nothing lines a → RefusesFrom tables 1 Nothing lines b → a ≡ b
  one_refusal_by lines a b p q = one_refusal_from 1 Nothing lines a b tt p q
