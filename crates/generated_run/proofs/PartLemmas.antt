-- The text of a made run, put together.
use Rattle.std.proofs.Common.{◌≡◌, ℕ, ◌+◌, ◌*◌, ℤ, List, [], ◌∷◌, ◌++◌, map, refl, sym, ap, ◌∙◌, arith, codes, decimal, append_assoc}
use Rattle.std.proofs.lemmas.Fmt.{decimal_digit, decimal_step}
use Rattle.zone_minutes.specs.Stamp.{stamp_text}
use Rattle.zone_minutes.specs.declared.minute.Minute.{Minute}
use Rattle.script_text.specs.Command.{command_line}
use Rattle.script_text.specs.declared.command.Command.{Command}
use Rattle.script_text.specs.declared.command.Command.TheVariants.{Campaign, Restart, Round, Stop}
use Rattle.generated_run.specs.Draws.{draw}
use Rattle.generated_run.specs.Made.{made_instant, made_window, hourly_lines, daily_lines, part_commands, first_parts, head_lines, made_text}
use Rattle.cron_io.specs.Lines.{text_of_lines}
use Rattle.generated_run.proofs.LoopLemmas.{text_more}

-- four texts behind another
four_more : (b0 b1 b2 b3 b4 r m s e : List ℕ) → b1 ≡ b0 ++ r → b2 ≡ b1 ++ m → b3 ≡ b2 ++ s → b4 ≡ b3 ++ e → b4 ≡ b0 ++ (r ++ (m ++ (s ++ e)))
four_more b0 b1 b2 b3 b4 r m s e first second third fourth =
    fourth ∙ ap (λ (t : List ℕ). t ++ e) (third ∙ ap (λ (t : List ℕ). t ++ s) (second ∙ ap (λ (t : List ℕ). t ++ m) first))
    ∙ append_assoc ((b0 ++ r) ++ m) s e ∙ append_assoc (b0 ++ r) m (s ++ e) ∙ append_assoc b0 r (m ++ (s ++ e))

-- numbers in decimal
zero_is : decimal 0 ≡ codes "0"
zero_is = decimal_digit 0 (omega arith)

restarts : codes "restart 0\nrestart 1\nrestart 2\n" ≡ text_of_lines ((codes "restart " ++ decimal 0) ∷ (codes "restart " ++ decimal 1) ∷ (codes "restart " ++ decimal 2) ∷ [])
restarts = rw (zero_is, decimal_digit 1 (omega arith), decimal_digit 2 (omega arith)) refl

-- the two lines of a change of leaders
change : (stops leads : ℕ) (rest : List ℕ) → (codes "stop " ++ decimal stops ++ 10 ∷ codes "campaign " ++ decimal leads ++ 10 ∷ []) ++ rest
    ≡ ((codes "stop " ++ decimal stops) ++ 10 ∷ []) ++ (((codes "campaign " ++ decimal leads) ++ 10 ∷ []) ++ rest)
change stops leads rest =
    ap (λ (t : List ℕ). codes "stop " ++ t)
    (append_assoc ((decimal stops ++ 10 ∷ codes "campaign ") ++ decimal leads) (10 ∷ []) rest ∙ append_assoc (decimal stops ++ 10 ∷ codes "campaign ") (decimal leads) (10 ∷ rest)
    ∙ append_assoc (decimal stops) (10 ∷ codes "campaign ") (decimal leads ++ 10 ∷ rest) ∙ sym (append_assoc (decimal stops) (10 ∷ []) (codes "campaign " ++ (decimal leads ++ 10 ∷ rest)))
    ∙ ap (λ (t : List ℕ). (decimal stops ++ 10 ∷ []) ++ (codes "campaign " ++ t)) (sym (append_assoc (decimal leads) (10 ∷ []) rest)))

-- an instant by its number
abbrev pub instant_at : ℤ → Minute
instant_at number = record { 0 = number }

-- half a day, by what is drawn
abbrev half_day : Minute → (stops leads : ℕ) → List Command
half_day at stops leads = Round at 40 ∷ Stop stops ∷ Campaign leads ∷ Round at 40 ∷ Restart 0 ∷ Restart 1 ∷ Restart 2 ∷ []

pub part_put : (seed number stops leads : ℕ) (at : Minute) (b0 b1 b2 b3 b4 : List ℕ) → at ≡ made_instant (720 * number) → stops ≡ draw seed (360 + 2 * number) 3 → leads ≡ draw seed (361 + 2 * number) 3
    → b1 ≡ b0 ++ (command_line (Round at 40) ++ 10 ∷ []) → b2 ≡ b1 ++ (codes "stop " ++ decimal stops ++ 10 ∷ codes "campaign " ++ decimal leads ++ 10 ∷ [])
    → b3 ≡ b2 ++ (command_line (Round at 40) ++ 10 ∷ []) → b4 ≡ b3 ++ codes "restart 0\nrestart 1\nrestart 2\n" → b4 ≡ b0 ++ text_of_lines (map command_line (part_commands seed number))
unfolding part_commands
part_put seed number stops leads at b0 b1 b2 b3 b4 at_is stops_is leads_is first second third fourth =
    let r : List ℕ = command_line (Round at 40) ++ 10 ∷ [] in
    let e : List ℕ = codes "restart 0\nrestart 1\nrestart 2\n" in
    let whole = four_more b0 b1 b2 b3 b4 r _ r e first second third fourth in
    whole ∙ ap (λ (t : List ℕ). b0 ++ (r ++ t)) (change stops leads (r ++ e) ∙ ap (λ (t : List ℕ). ((codes "stop " ++ decimal stops) ++ 10 ∷ []) ++ (((codes "campaign " ++ decimal leads) ++ 10 ∷ []) ++ (r ++ t))) restarts)
    ∙ ap (λ (a : Minute). b0 ++ text_of_lines (map command_line (half_day a stops leads))) at_is
    ∙ ap (λ (s : ℕ). b0 ++ text_of_lines (map command_line (half_day (made_instant (720 * number)) s leads))) stops_is
    ∙ ap (λ (l : ℕ). b0 ++ text_of_lines (map command_line (half_day (made_instant (720 * number)) (draw seed (360 + 2 * number) 3) l))) leads_is

-- the lines before the table
two_hundred : decimal 200 ≡ codes "200"
two_hundred = decimal_step 200 (omega arith) (omega arith) ∙ ap (λ (l : List ℕ). l ++ 48 ∷ []) (decimal_step 20 (omega arith) (omega arith) ∙ ap (λ (l : List ℕ). l ++ 48 ∷ []) (decimal_digit 2 (omega arith)))

ten_days : decimal 14_400 ≡ codes "14400"
ten_days =
    decimal_step 14_400 (omega arith) (omega arith) ∙ ap (λ (l : List ℕ). l ++ 48 ∷ []) (decimal_step 1440 (omega arith) (omega arith) ∙ ap (λ (l : List ℕ). l ++ 48 ∷ []) (decimal_step 144 (omega arith) (omega arith)
    ∙ ap (λ (l : List ℕ). l ++ 52 ∷ []) (decimal_step 14 (omega arith) (omega arith) ∙ ap (λ (l : List ℕ). l ++ 52 ∷ []) (decimal_digit 1 (omega arith)))))

head_text : (from until : List ℕ) → codes "cronrun 1\nreplicas 3\nwindow " ++ (from ++ (codes " " ++ (until ++ codes "\ngrace 14400\ncrontab make UTC 200\n")))
    ≡ text_of_lines (codes "cronrun 1" ∷ (codes "replicas " ++ decimal 3) ∷ (codes "window " ++ from ++ 32 ∷ until) ∷ (codes "grace " ++ decimal 14_400) ∷ (codes "crontab make UTC " ++ decimal 200) ∷ [])
head_text from until =
    rw (decimal_digit 3 (omega arith), ten_days, two_hundred)
    (ap (λ (t : List ℕ). codes "cronrun 1\nreplicas 3\nwindow " ++ t)
    (sym (append_assoc (from ++ 32 ∷ until) (10 ∷ []) (codes "grace 14400\ncrontab make UTC 200\n") ∙ append_assoc from (32 ∷ until) (10 ∷ codes "grace 14400\ncrontab make UTC 200\n"))))

pub head_put : (b0 b1 b2 b3 b4 b5 : List ℕ) → b1 ≡ b0 ++ codes "cronrun 1\nreplicas 3\nwindow " → b2 ≡ b1 ++ stamp_text made_window.from.0 → b3 ≡ b2 ++ codes " " → b4 ≡ b3 ++ stamp_text made_window.until.0
    → b5 ≡ b4 ++ codes "\ngrace 14400\ncrontab make UTC 200\n" → b5 ≡ b0 ++ text_of_lines head_lines
head_put b0 b1 b2 b3 b4 b5 first second third fourth fifth =
    let from = stamp_text made_window.from.0 in
    let until = stamp_text made_window.until.0 in
    let end : List ℕ = codes "\ngrace 14400\ncrontab make UTC 200\n" in
    four_more b1 b2 b3 b4 b5 from (codes " ") until end second third fourth fifth
    ∙ ap (λ (t : List ℕ). t ++ (from ++ (codes " " ++ (until ++ end)))) first ∙ append_assoc b0 (codes "cronrun 1\nreplicas 3\nwindow ") (from ++ (codes " " ++ (until ++ end)))
    ∙ ap (λ (t : List ℕ). b0 ++ t) (head_text from until)

-- the whole text
script_opens : codes "script\ncampaign 0\n" ≡ text_of_lines (codes "script" ∷ command_line (Campaign 0) ∷ [])
script_opens = rw zero_is refl

pub whole_put : (seed : ℕ) (t0 t1 t2 t3 t4 t5 t6 : List ℕ) → t0 ≡ [] → t1 ≡ t0 ++ text_of_lines head_lines → t2 ≡ t1 ++ text_of_lines (hourly_lines seed 40) → t3 ≡ t2 ++ text_of_lines (daily_lines seed 160)
    → t4 ≡ t3 ++ codes "script\ncampaign 0\n" → t5 ≡ t4 ++ text_of_lines (map command_line (first_parts seed 20)) → t6 ≡ t5 ++ codes "end\n" → t6 ≡ made_text seed
unfolding made_text
whole_put seed t0 t1 t2 t3 t4 t5 t6 none head hours days opens parts ends =
    let h = hourly_lines seed 40 in
    let d = daily_lines seed 160 in
    let sc : List (List ℕ) = codes "script" ∷ command_line (Campaign 0) ∷ [] in
    let p = map command_line (first_parts seed 20) in
    let e : List (List ℕ) = codes "end" ∷ [] in
    let s1 : t1 ≡ [] ++ text_of_lines head_lines = head ∙ ap (λ (t : List ℕ). t ++ text_of_lines head_lines) none in
    let s2 : t2 ≡ [] ++ text_of_lines (head_lines ++ h) = text_more [] t1 t2 head_lines h (head_lines ++ h) s1 hours refl in
    let s3 : t3 ≡ [] ++ text_of_lines ((head_lines ++ h) ++ d) = text_more [] t2 t3 (head_lines ++ h) d ((head_lines ++ h) ++ d) s2 days refl in
    let s4 : t4 ≡ [] ++ text_of_lines (((head_lines ++ h) ++ d) ++ sc) = text_more [] t3 t4 ((head_lines ++ h) ++ d) sc (((head_lines ++ h) ++ d) ++ sc) s3 (opens ∙ ap (λ (t : List ℕ). t3 ++ t) script_opens) refl in
    let s5 : t5 ≡ [] ++ text_of_lines ((((head_lines ++ h) ++ d) ++ sc) ++ p) = text_more [] t4 t5 (((head_lines ++ h) ++ d) ++ sc) p ((((head_lines ++ h) ++ d) ++ sc) ++ p) s4 parts refl in
    let s6 : t6 ≡ [] ++ text_of_lines (((((head_lines ++ h) ++ d) ++ sc) ++ p) ++ e) =
    text_more [] t5 t6 ((((head_lines ++ h) ++ d) ++ sc) ++ p) e (((((head_lines ++ h) ++ d) ++ sc) ++ p) ++ e) s5 ends refl in
    s6 ∙ ap text_of_lines
    (append_assoc (((head_lines ++ h) ++ d) ++ sc) p e ∙ append_assoc ((head_lines ++ h) ++ d) sc (p ++ e)
    ∙ ap (λ (ls : List (List ℕ)). ls ++ (sc ++ (p ++ e))) (append_assoc head_lines h d) ∙ append_assoc head_lines (h ++ d) (sc ++ (p ++ e)))
