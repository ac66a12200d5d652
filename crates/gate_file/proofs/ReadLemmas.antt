-- Bodies one after another, as a loop reads and writes them.
use Rattle.std.proofs.Common.{◌≡◌, inl, inr, ℕ, append_assoc, ◌-◌, ◌*◌, ◌<◌, ◌≤◌, List, [], ◌∷◌, ◌++◌, length, get_or, take, drop, refl, sym, ap, ◌∙◌, arith}
use Rattle.std.proofs.lemmas.List.{get_or-drop, drop-drop, length-drop, flat_map_more, get_or_append_left, get_or_at}
use Rattle.std.specs.List.{flat_map}
use Rattle.std.proofs.lemmas.Bool.{cases_lt}
use Rattle.gate_file.specs.Gates.{AreOpen, AreWhole, HasBodies}
use Rattle.gate_file.proofs.GateLemmas.{one_more, length-push}

-- the first bodies were read, and this is the rest of the file
pub record Reading (file : List ℕ) (bodies : List (List ℕ)) (rest : List ℕ) : Type 0 where
  pub gates_open : AreOpen file bodies
  pub at : rest ≡ drop (57 * length bodies) file
  pub within : 57 * length bodies ≤ length file

pub Reading-first : (file : List ℕ) → Reading file [] file
Reading-first file = record { gates_open = λ number lt. absurd (omega arith); at = refl; within = omega arith }

rest-long : (file : List ℕ) (bodies : List (List ℕ)) (rest : List ℕ) → Reading file bodies rest → length rest ≡ length file - 57 * length bodies
rest-long file bodies rest r = ap length r.at ∙ length-drop (57 * length bodies) file

first_byte : (file : List ℕ) (bodies : List (List ℕ)) (rest : List ℕ) → Reading file bodies rest → get_or rest 0 0 ≡ get_or file (57 * length bodies) 0
first_byte file bodies rest r =
    ap (λ (l : List ℕ). get_or l 0 0) r.at ∙ get_or-drop (57 * length bodies) file 0 0 ∙ ap (λ (n : ℕ). get_or file n 0) (omega arith)

pub Reading-next : (file : List ℕ) (bodies : List (List ℕ)) (rest body : List ℕ) → Reading file bodies rest → 57 < length rest → get_or rest 0 0 ≡ 1 → body ≡ take 56 (drop 1 rest) → Reading file (bodies ++ body ∷ []) (drop 57 rest)
Reading-next file bodies rest body r long is_open is =
    let more = length-push bodies body in
    record {
      gates_open = one_more file body bodies r.gates_open (record { within = omega (arith, long, rest-long file bodies rest r); byte = sym (first_byte file bodies rest r) ∙ is_open })
          (sym (is ∙ ap (λ (l : List ℕ). take 56 (drop 1 l)) r.at ∙ ap (take 56) (drop-drop 1 (57 * length bodies) file)));
      at = ap (drop 57) r.at ∙ drop-drop 57 (57 * length bodies) file ∙ ap (λ (n : ℕ). drop n file) (omega (arith, more));
      within = omega (arith, long, rest-long file bodies rest r, more);
    }

pub Reading-ends : (file : List ℕ) (bodies : List (List ℕ)) (rest : List ℕ) → Reading file bodies rest → (57 < length rest → get_or rest 0 0 ≡ 1 → ⊥) → HasBodies file bodies
Reading-ends file bodies rest r ends =
    record {
      gates_open = r.gates_open;
      tail = λ is_open. ends (omega (arith, is_open.within, rest-long file bodies rest r)) (first_byte file bodies rest r ∙ is_open.byte);
    }

-- so many bodies were written
pub record Writing (bodies : List (List ℕ)) (bytes : List ℕ) : Type 0 where
  pub bytes_are : bytes ≡ flat_map (λ body. 1 ∷ body) bodies
  pub whole : AreWhole bodies

pub Writing-next : (bodies : List (List ℕ)) (bytes body : List ℕ) → Writing bodies bytes → length body ≡ 56 → Writing (bodies ++ body ∷ []) ((bytes ++ 1 ∷ []) ++ body)
Writing-next bodies bytes body w long =
    record {
      bytes_are = append_assoc bytes (1 ∷ []) body ∙ ap (λ (l : List ℕ). l ++ 1 ∷ body) w.bytes_are ∙ flat_map_more (λ (b : List ℕ). 1 ∷ b) [] bodies body;
      whole = λ number lt. elim (cases_lt number (length bodies)) [
        | inl before ↦ ap length (get_or_append_left bodies (body ∷ []) [] number before) ∙ w.whole number before
        | inr last ↦ ap (λ (n : ℕ). length (get_or (bodies ++ body ∷ []) n [])) (omega (arith, lt, length-push bodies body)) ∙ ap length (get_or_at bodies body [] [] (length bodies) refl) ∙ long
      ];
    }
