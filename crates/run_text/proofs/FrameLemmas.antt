-- The frame of a run file: what is read where the lines of tables are only counted.
use Rattle.std.proofs.Common.{◌≡◌, ℕ, zero, suc, ◌+◌, ◌<◌, ◌≤◌, List, [], ◌∷◌, ◌++◌, length, Option, Some, None, sym, subst, inl, inr, arith, append_assoc, length-append}
use Rattle.std.specs.Prelude.{⊤}
use Rattle.std.specs.List.{AllByRecursion}
use Rattle.crontab_text.specs.Lines.{lines_of}
use Rattle.crontab_text.specs.declared.answer.Style.{Style}
use Rattle.run_text.specs.Follow.{Above, Nothing, Version, Replicas, Times, Sections, Table, Script, End, inside, style_of, MayStandIn, MayStandBelow}
use Rattle.run_text.specs.Reading.{ReadsFrom, IsRunText, IsFrameText}
use Rattle.run_text.specs.Run.{Section, Run, opened, with_line}
use Rattle.run_text.specs.Table.{Says, AreSaid}
use Rattle.run_text.specs.declared.table.Tables.TheVariants.{Judged, Counted}
use Rattle.run_text.proofs.SoundLemmas.{all_next}
use Rattle.cron_io.proofs.ListLemmas.{all_push}

-- a line that may stand where lines are judged may stand where they are counted
counted_line : (number behind : ℕ) (above next : Above) (line : List ℕ) → MayStandBelow Judged number behind above line next → MayStandBelow Counted number behind above line next
counted_line number behind Nothing next line may = may
counted_line number behind Version next line may = may
counted_line number behind (Replicas members) next line may = may
counted_line number behind (Times members window) next line may = may
counted_line number behind (Sections run) next line may = may
counted_line number behind (Table run section left) next line may = (tt, may.1)
counted_line number behind (Script run) next line may = may
counted_line number behind (End run) next line may = may

counted_lines : (number : ℕ) (above : Above) (lines : List (List ℕ)) (run : Run) → ReadsFrom Judged number above lines run → ReadsFrom Counted number above lines run
counted_lines number above [] run is = is
counted_lines number above (line ∷ lines) run (next, may, reads) =
    (next, counted_line number (length lines) above next line may, counted_lines (number + 1) next lines run reads)

-- a run is its text's frame
pub frame_of_run : (text : List ℕ) (run : Run) → IsRunText text run → IsFrameText text run
frame_of_run text run is = counted_lines 1 Nothing (lines_of text) run is

-- the last line of the section stands above the line of that number
abbrev EndsAbove : ℕ → Section → Type 0
EndsAbove number section = section.line + length section.lines < number

-- and so does that of each section above the line
abbrev AllEndAbove : ℕ → Above → Type 0
AllEndAbove number Nothing = ⊤
AllEndAbove number Version = ⊤
AllEndAbove number (Replicas members) = ⊤
AllEndAbove number (Times members window) = ⊤
AllEndAbove number (Sections run) = AllByRecursion (EndsAbove number) run.sections
AllEndAbove number (Table run section left) = AllByRecursion (EndsAbove number) run.sections × EndsAbove number section
AllEndAbove number (Script run) = AllByRecursion (EndsAbove number) run.sections
AllEndAbove number (End run) = AllByRecursion (EndsAbove number) run.sections

end_later : (number next : ℕ) (section : Section) → number ≤ next → EndsAbove number section → EndsAbove next section
end_later number next section le above = omega arith

all_later : (number next : ℕ) (sections : List Section) → number ≤ next → AllByRecursion (EndsAbove number) sections → AllByRecursion (EndsAbove next) sections
all_later number next sections le all = all_next (EndsAbove number) (EndsAbove next) sections (λ section. end_later number next section le) all

all_inside : (number : ℕ) (run : Run) (section : Section) (left : ℕ) → AllByRecursion (EndsAbove number) run.sections → EndsAbove number section → AllEndAbove number (inside run section left)
all_inside number run section zero all above = all_push (EndsAbove number) run.sections section all above
all_inside number run section (suc left) all above = (all, above)

one_longer : (number : ℕ) (section : Section) (line : List ℕ) → EndsAbove number section → EndsAbove (number + 1) (with_line section line)
one_longer number section line above =
    let longer : length (section.lines ++ line ∷ []) ≡ length section.lines + 1 = length-append section.lines (line ∷ []) in
    omega arith

end_next : (number behind : ℕ) (above next : Above) (line : List ℕ) → AllEndAbove number above → MayStandBelow Counted number behind above line next → AllEndAbove (number + 1) next
end_next number behind Nothing next line all may = subst (AllEndAbove (number + 1)) (sym may.1) tt
end_next number behind Version next line all (members, is, next_is) = subst (AllEndAbove (number + 1)) (sym next_is) tt
end_next number behind (Replicas members) next line all (window, is, next_is) = subst (AllEndAbove (number + 1)) (sym next_is) tt
end_next number behind (Times members window) next line all (grace, is, next_is) = subst (AllEndAbove (number + 1)) (sym next_is) tt
end_next number behind (Sections run) next line all (inl may) =
    subst (AllEndAbove (number + 1)) (sym may.1) (all_later number (number + 1) run.sections (omega arith) all)
end_next number behind (Sections run) next line all (inr (inl names)) =
    subst (AllEndAbove (number + 1)) (sym names.next_is) (all_later number (number + 1) run.sections (omega arith) all)
end_next number behind (Sections run) next line all (inr (inr (inr begins))) =
    subst (AllEndAbove (number + 1)) (sym begins.next_is) (all_later number (number + 1) run.sections (omega arith) all)
end_next number behind (Sections run) next line all (inr (inr (inl start))) =
    subst (AllEndAbove (number + 1)) (sym start.next_is)
    (all_inside (number + 1) run (opened number start.kind start.label start.zone) start.count (all_later number (number + 1) run.sections (omega arith) all) (omega arith))
end_next number behind (Table run section left) next line all (may, next_is) =
    subst (AllEndAbove (number + 1)) (sym next_is)
    (all_inside (number + 1) run (with_line section line) left (all_later number (number + 1) run.sections (omega arith) all.0) (one_longer number section line all.1))
end_next number behind (Script run) next line all (inl may) =
    subst (AllEndAbove (number + 1)) (sym may.1) (all_later number (number + 1) run.sections (omega arith) all)
end_next number behind (Script run) next line all (inr adds) =
    subst (AllEndAbove (number + 1)) (sym adds.next_is) (all_later number (number + 1) run.sections (omega arith) all)
end_next number behind (End run) next line all may = absurd may

end_last : (number : ℕ) (above : Above) (lines : List (List ℕ)) (run : Run) → AllEndAbove number above → ReadsFrom Counted number above lines run
    → AllByRecursion (EndsAbove (number + length lines)) run.sections
end_last number above [] run all is =
    all_later number (number + length {A = List ℕ} []) run.sections (omega arith) (subst (AllEndAbove number) is all)
end_last number above (line ∷ lines) run all (next, may, reads) =
    let far = end_last (number + 1) next lines run (end_next number (length lines) above next line all may) reads in
    all_later (number + 1 + length lines) (number + length (line ∷ lines)) run.sections (omega arith) far

-- each line of a frame's sections is one of the text
pub frame_lines : (text : List ℕ) (run : Run) → IsFrameText text run → AllByRecursion (λ section. section.line + length section.lines < 1 + length (lines_of text)) run.sections
frame_lines text run is = end_last 1 Nothing (lines_of text) run tt is

-- each line of the section says something
abbrev IsSaid : Section → Type 0
IsSaid section = AreSaid (style_of section.kind) section.label section.lines

-- each line of the section says something, with some lines more
record IsSaidAtLast (section : Section) : Type 0 where
  pub lines : List (List ℕ)
  pub said : AreSaid (style_of section.kind) section.label (section.lines ++ lines)

-- and so does each line of each section above
abbrev AllSaid : Above → Type 0
AllSaid Nothing = ⊤
AllSaid Version = ⊤
AllSaid (Replicas members) = ⊤
AllSaid (Times members window) = ⊤
AllSaid (Sections run) = AllByRecursion IsSaid run.sections
AllSaid (Table run section left) = AllByRecursion IsSaid run.sections × IsSaidAtLast section
AllSaid (Script run) = AllByRecursion IsSaid run.sections
AllSaid (End run) = AllByRecursion IsSaid run.sections

all_front : {X : Type 0} (P : X → Type 0) (front back : List X) → AllByRecursion P (front ++ back) → AllByRecursion P front
all_front P [] back all = tt
all_front P (x ∷ front) back all = (all.0, all_front P front back all.1)

all_at : {X : Type 0} (P : X → Type 0) (front back : List X) (x : X) → AllByRecursion P (front ++ x ∷ back) → P x
all_at P [] back x all = all.0
all_at P (y ∷ front) back x all = all_at P front back x all.1

said_before : (run : Run) (section : Section) (left : ℕ) → AllSaid (inside run section left) → AllByRecursion IsSaid run.sections
said_before run section zero all = all_front IsSaid run.sections (section ∷ []) all
said_before run section (suc left) all = all.0

-- a line of a section whose lines say something may stand there, as its last or before it
stands_last : (style : Option Style) (section : Section) (line : List ℕ) → AreSaid style section.label (section.lines ++ line ∷ []) → MayStandIn Judged style section zero line
stands_last (Some style) section line said = all_at (Says style section.label) section.lines [] line said
stands_last None section line said = said

stands_before : (style : Option Style) (section : Section) (left : ℕ) (line : List ℕ) (lines : List (List ℕ)) → AreSaid style section.label (section.lines ++ line ∷ lines)
    → MayStandIn Judged style section (suc left) line
stands_before (Some style) section left line lines said = all_at (Says style section.label) section.lines lines line said
stands_before None section left line lines said = tt

judged_line : (number behind : ℕ) (above next : Above) (line : List ℕ) → MayStandBelow Counted number behind above line next → AllSaid next → AllSaid above × MayStandBelow Judged number behind above line next
judged_line number behind Nothing next line may all = (tt, may)
judged_line number behind Version next line may all = (tt, may)
judged_line number behind (Replicas members) next line may all = (tt, may)
judged_line number behind (Times members window) next line may all = (tt, may)
judged_line number behind (Sections run) next line (inl may) all = (subst AllSaid may.1 all, inl may)
judged_line number behind (Sections run) next line (inr (inl names)) all = (subst AllSaid names.next_is all, inr (inl names))
judged_line number behind (Sections run) next line (inr (inr (inl start))) all =
    (said_before run (opened number start.kind start.label start.zone) start.count (subst AllSaid start.next_is all), inr (inr (inl start)))
judged_line number behind (Sections run) next line (inr (inr (inr begins))) all = (subst AllSaid begins.next_is all, inr (inr (inr begins)))
judged_line number behind (Table run section zero) next line (may, next_is) all =
    let said : AllByRecursion IsSaid (run.sections ++ with_line section line ∷ []) = subst AllSaid next_is all in
    let last : AreSaid (style_of section.kind) section.label (section.lines ++ line ∷ []) = all_at IsSaid run.sections [] (with_line section line) said in
    ((all_front IsSaid run.sections (with_line section line ∷ []) said, record { lines = line ∷ []; said = last }), (stands_last (style_of section.kind) section line last, next_is))
judged_line number behind (Table run section (suc left)) next line (may, next_is) all =
    let later : AllSaid (Table run (with_line section line) left) = subst AllSaid next_is all in
    let lines = later.1.lines in
    let said : AreSaid (style_of section.kind) section.label (section.lines ++ line ∷ lines) =
    subst (AreSaid (style_of section.kind) section.label) (append_assoc section.lines (line ∷ []) lines) later.1.said in
    ((later.0, record { lines = line ∷ lines; said = said }), (stands_before (style_of section.kind) section left line lines said, next_is))
judged_line number behind (Script run) next line (inl may) all = (subst AllSaid may.1 all, inl may)
judged_line number behind (Script run) next line (inr adds) all = (subst AllSaid adds.next_is all, inr adds)
judged_line number behind (End run) next line may all = absurd may

judged_lines : (number : ℕ) (above : Above) (lines : List (List ℕ)) (run : Run) → ReadsFrom Counted number above lines run → AllByRecursion IsSaid run.sections
    → AllSaid above × ReadsFrom Judged number above lines run
judged_lines number above [] run is all = (subst AllSaid (sym is) all, is)
judged_lines number above (line ∷ lines) run (next, may, reads) all =
    let more = judged_lines (number + 1) next lines run reads all in
    let here = judged_line number (length lines) above next line may more.0 in
    (here.0, (next, here.1, more.1))

-- a frame whose lines each say something is a run
pub run_of_frame : (text : List ℕ) (run : Run) → IsFrameText text run → AllByRecursion (λ section. AreSaid (style_of section.kind) section.label section.lines) run.sections → IsRunText text run
run_of_frame text run is all = (judged_lines 1 Nothing (lines_of text) run is all).1
