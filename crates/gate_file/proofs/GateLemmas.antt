-- Gates and bodies of a file, place by place.
use Rattle.std.proofs.Common.{◌≡◌, ◌≢◌, ◌⊎◌, inl, inr, ⊎_elim, ℕ, zero, suc, ◌+◌, ◌-◌, ◌*◌, ◌<◌, ◌≤◌, max, List, [], ◌∷◌, ◌++◌, length, get_or, take, drop, Option, None, Some, IsSomeAnd, refl, sym, ap, ◌∙◌, subst, arith, length-append}
use Rattle.std.proofs.lemmas.Bool.{cases_eq, cases_lt}
use Rattle.std.specs.List.{flat_map}
use Rattle.std.proofs.lemmas.List.Concat.{flat_map-cons}
use Rattle.std.proofs.lemmas.List.{get_or-append-add, drop-drop, get_or-take, get_or-drop, get_or_append_left, get_or_at, drop-take, take-take, take_at, drop_at, length-take, length-drop, ext_get_or}
use Rattle.std.proofs.Common.{append_assoc}
use Rattle.disk_model.specs.Images.{Torn, HoldsPiece, written_over}
use Rattle.disk_model.proofs.FileLemmas.{length-written_over}
use Rattle.gate_file.specs.Gates.{gated, AreWhole, body_in, IsOpen, AreOpen, HasBodies, HasRestingGate, HasBodyBehind, IsStaged, HasEither}

-- ---- what two files share

-- the same front, the same byte in it
same_byte : (one other : List ℕ) (front place : ℕ) → take front one ≡ take front other → place < front → get_or one place 0 ≡ get_or other place 0
same_byte one other front place same lt =
    sym (get_or-take front one place 0 lt) ∙ ap (λ (l : List ℕ). get_or l place 0) same ∙ get_or-take front other place 0 lt

same_body : (one other : List ℕ) (front number : ℕ) → take front one ≡ take front other → 57 * number + 57 ≤ front → body_in one number ≡ body_in other number
same_body one other front number same le =
    sym (drop-take (57 * number + 1) 56 one)
    ∙ ap (drop (57 * number + 1)) (sym (take-take (57 * number + 1 + 56) front one (omega arith)) ∙ ap (take (57 * number + 1 + 56)) same ∙ take-take (57 * number + 1 + 56) front other (omega arith))
    ∙ drop-take (57 * number + 1) 56 other

-- the same back, the same byte in it
same_byte_after : (one other : List ℕ) (front place : ℕ) → drop front one ≡ drop front other → front ≤ place → get_or one place 0 ≡ get_or other place 0
same_byte_after one other front place same le =
    ap (λ (n : ℕ). get_or one n 0) (omega arith)
    ∙ sym (get_or-drop front one (place - front) 0)
    ∙ ap (λ (l : List ℕ). get_or l (place - front) 0) same
    ∙ get_or-drop front other (place - front) 0
    ∙ ap (λ (n : ℕ). get_or other n 0) (omega arith)

-- gates that are open in a file are open in one that has the same front
open_front : (one other : List ℕ) (bodies : List (List ℕ)) (front : ℕ) → take front one ≡ take front other → 57 * length bodies ≤ front → length other ≤ length one → AreOpen other bodies → AreOpen one bodies
open_front one other bodies front same le longer gates number lt =
    let gate = gates number lt in (
      record {
        within = omega (arith, gate.0.within, longer);
        byte = same_byte one other front (57 * number) same (omega arith) ∙ gate.0.byte;
      },
      same_body one other front number same (omega arith) ∙ gate.1,
    )

-- ---- a file at rest, staged, and one more body

pub staged_at_rest : (file : List ℕ) (bodies : List (List ℕ)) (pending : Option (List ℕ)) → HasRestingGate file bodies → IsStaged bodies pending file
staged_at_rest file bodies pending rest = record { gates_open = rest.gates_open; behind = inl rest.tail_closed }

pub staged_empty : (pending : Option (List ℕ)) → IsStaged [] pending []
staged_empty pending = record { gates_open = λ number lt. absurd (omega arith); behind = inl refl }

pub has_at_rest : (file : List ℕ) (bodies : List (List ℕ)) → HasRestingGate file bodies → HasBodies file bodies
has_at_rest file bodies rest = record { gates_open = rest.gates_open; tail = λ is_open. absurd (omega (arith, is_open.byte, rest.tail_closed)) }

pub length-push : (bodies : List (List ℕ)) (body : List ℕ) → length (bodies ++ body ∷ []) ≡ length bodies + 1
length-push bodies body = length-append bodies (body ∷ [])

-- one more gate is open
pub one_more : (file body : List ℕ) (bodies : List (List ℕ)) → AreOpen file bodies → IsOpen file (length bodies) → body_in file (length bodies) ≡ body → AreOpen file (bodies ++ body ∷ [])
one_more file body bodies gates last is number lt = elim (cases_lt number (length bodies)) [
  | inl before ↦ let gate = gates number before in (gate.0, gate.1 ∙ sym (get_or_append_left bodies (body ∷ []) [] number before))
  | inr not_before ↦
      let same : number ≡ length bodies = omega (arith, lt, length-push bodies body) in (
        subst (IsOpen file) (sym same) last,
        ap (body_in file) same ∙ is ∙ sym (ap (λ (n : ℕ). get_or (bodies ++ body ∷ []) n []) same ∙ get_or_at bodies body [] [] (length bodies) refl),
      )
]

next_gate : (bodies : List (List ℕ)) (body : List ℕ) → 57 * length (bodies ++ body ∷ []) ≡ 57 * length bodies + 57
next_gate bodies body = omega (arith, length-push bodies body)

-- a body stands behind an open gate, and a closed one after it
pub rest_with_body : (file body : List ℕ) (bodies : List (List ℕ)) → AreOpen file bodies → HasBodyBehind file (length bodies) body → get_or file (57 * length bodies) 0 ≡ 1 → HasRestingGate file (bodies ++ body ∷ [])
rest_with_body file body bodies gates behind is_open =
    record {
      gates_open = one_more file body bodies gates (record { within = behind.within; byte = is_open }) behind.is;
      tail_within = omega (arith, behind.within, next_gate bodies body);
      tail_closed = ap (λ (n : ℕ). get_or file n 0) (next_gate bodies body) ∙ behind.next_closed;
    }

pub staged_has : (file : List ℕ) (bodies : List (List ℕ)) (pending : Option (List ℕ)) → IsStaged bodies pending file → HasEither bodies pending file
staged_has file bodies pending staged = elim (cases_eq (get_or file (57 * length bodies) 0) 1) [
  | inl is_open ↦
      ⊎_elim
      (λ closed. absurd (omega (arith, closed, is_open)))
      (⊎_elim
      (λ short. inl (record { gates_open = staged.gates_open; tail = λ gate. absurd (omega (arith, gate.within, short)) }))
      (λ behind. inr (with_pending pending is_open behind)))
      staged.behind
  | inr shut ↦ inl (record { gates_open = staged.gates_open; tail = λ gate. shut gate.byte })
]
  where
    with_pending : (p : Option (List ℕ)) → get_or file (57 * length bodies) 0 ≡ 1 → IsSomeAnd p (HasBodyBehind file (length bodies)) → IsSomeAnd p (λ body. HasBodies file (bodies ++ body ∷ []))
    with_pending None is_open behind = absurd behind
    with_pending (Some body) is_open behind = has_at_rest file (bodies ++ body ∷ []) (rest_with_body file body bodies staged.gates_open behind is_open)

-- ---- the write of a body

module _ (file body : List ℕ) (bodies : List (List ℕ)) (rest : HasRestingGate file bodies) where
  -- whatever the write leaves, the tail gate stays closed
  pub torn_body : (count : ℕ) (image : List ℕ) → Torn (57 * length bodies + 1) count file image → IsStaged bodies (Some body) image
  torn_body count image torn =
      record {
        gates_open = open_front image file bodies (57 * length bodies + 1) torn.before (omega arith) torn.no_shorter rest.gates_open;
        behind = inl (same_byte image file (57 * length bodies + 1) (57 * length bodies) torn.before (omega arith) ∙ rest.tail_closed);
      }

  module _ (long : length body ≡ 56) where
    abbrev pub with_body : List ℕ
    with_body = written_over (57 * length bodies + 1) (body ++ 0 ∷ []) file

    piece-long : length (body ++ 0 ∷ []) ≡ 57
    piece-long = omega (arith, length-append body (0 ∷ []), long)

    front-long : length (take (57 * length bodies + 1) file) ≡ 57 * length bodies + 1
    front-long = omega (arith, length-take (57 * length bodies + 1) file, rest.tail_within)

    front-same : take (57 * length bodies + 1) with_body ≡ take (57 * length bodies + 1) file
    front-same = take_at (take (57 * length bodies + 1) file) _ (57 * length bodies + 1) front-long

    back-is : drop (57 * length bodies + 1) with_body ≡ (body ++ 0 ∷ []) ++ drop (57 * length bodies + 1 + length (body ++ 0 ∷ [])) file
    back-is = drop_at (take (57 * length bodies + 1) file) _ (57 * length bodies + 1) front-long

    length-with_body : 57 * length bodies + 57 < length with_body
    length-with_body =
        omega (arith, length-append (take (57 * length bodies + 1) file) ((body ++ 0 ∷ []) ++ drop (57 * length bodies + 1 + length (body ++ 0 ∷ [])) file), length-append (body ++ 0 ∷ []) (drop (57 * length bodies + 1 + length (body ++ 0 ∷ [])) file), piece-long, front-long)

    longer : length file ≤ length with_body
    longer =
        omega (arith, length-append (take (57 * length bodies + 1) file) ((body ++ 0 ∷ []) ++ drop (57 * length bodies + 1 + length (body ++ 0 ∷ [])) file), length-append (body ++ 0 ∷ []) (drop (57 * length bodies + 1 + length (body ++ 0 ∷ [])) file), length-drop (57 * length bodies + 1 + length (body ++ 0 ∷ [])) file, piece-long, front-long)

    -- the body stands behind the gate, and a closed gate after it
    pub body_behind : HasBodyBehind with_body (length bodies) body
    body_behind =
        record {
          within = length-with_body;
          is = ap (take 56) back-is ∙ body_first body (0 ∷ []) _ long;
          next_closed = ap (λ (n : ℕ). get_or with_body n 0) (omega arith)
              ∙ sym (get_or-drop (57 * length bodies + 1) with_body 56 0)
              ∙ ap (λ (l : List ℕ). get_or l 56 0) back-is
              ∙ byte_after body (drop (57 * length bodies + 1 + length (body ++ 0 ∷ [])) file) long;
        }
      where
        body_first : (body next rest : List ℕ) → length body ≡ 56 → take 56 ((body ++ next) ++ rest) ≡ body
        body_first body next rest long = ap (take 56) (append_assoc body next rest) ∙ take_at body (next ++ rest) 56 long

        byte_after : (body rest : List ℕ) → length body ≡ 56 → get_or ((body ++ 0 ∷ []) ++ rest) 56 0 ≡ 0
        byte_after body rest long = ap (λ (l : List ℕ). get_or l 56 0) (append_assoc body (0 ∷ []) rest) ∙ get_or_at body 0 rest 0 56 long

    pub open_with_body : AreOpen with_body bodies
    open_with_body = open_front with_body file bodies (57 * length bodies + 1) front-same (omega arith) longer rest.gates_open

    pub closed_with_body : get_or with_body (57 * length bodies) 0 ≡ 0
    closed_with_body = same_byte with_body file (57 * length bodies + 1) (57 * length bodies) front-same (omega arith) ∙ rest.tail_closed

    pub rest_before_gate : HasRestingGate with_body bodies
    rest_before_gate = record { gates_open = open_with_body; tail_within = omega (arith, length-with_body); tail_closed = closed_with_body }

-- ---- the write of a gate

behind_in_torn : (file body image : List ℕ) (bodies : List (List ℕ)) → HasBodyBehind file (length bodies) body → Torn (57 * length bodies) 1 file image → HasBodyBehind image (length bodies) body
behind_in_torn file body image bodies behind torn =
    record {
      within = omega (arith, behind.within, torn.no_shorter);
      is = ap (take 56) torn.after ∙ behind.is;
      next_closed = same_byte_after image file (57 * length bodies + 1) (57 * length bodies + 57) torn.after (omega arith) ∙ behind.next_closed;
    }

-- Whatever the write of the gate leaves, the file stays staged.
pub torn_gate : (file body image : List ℕ) (bodies : List (List ℕ)) → AreOpen file bodies → HasBodyBehind file (length bodies) body → Torn (57 * length bodies) 1 file image → IsStaged bodies (Some body) image
torn_gate file body image bodies gates behind torn =
    record {
      gates_open = open_front image file bodies (57 * length bodies) torn.before (omega arith) torn.no_shorter gates;
      behind = inr (inr (behind_in_torn file body image bodies behind torn));
    }

-- a whole write is one of those that a stop may leave
pub holds_torn : (at : ℕ) (piece old new : List ℕ) → at ≤ length old → HoldsPiece at piece old new → Torn at (length piece) old new
holds_torn at piece old new le holds =
    let front : length (take at old) ≡ at = omega (arith, length-take at old) in
    let long : length new ≡ at + (length piece + (length old - (at + length piece))) =
    omega (arith, ap length holds, length-append (take at old) (piece ++ drop (at + length piece) old), length-append piece (drop (at + length piece) old), length-drop (at + length piece) old, front) in
    record {
      before = ap (take at) holds ∙ take_at (take at old) _ at front;
      after = ap (drop (at + length piece)) holds
          ∙ ap (drop (at + length piece)) (sym (append_assoc (take at old) piece (drop (at + length piece) old)))
          ∙ drop_at (take at old ++ piece) (drop (at + length piece) old) (at + length piece) (omega (arith, length-append (take at old) piece, front));
      no_shorter = omega (arith, long);
      no_longer = omega (arith, long);
    }

-- the byte that was written
pub byte_written : (at byte : ℕ) (old new : List ℕ) → at ≤ length old → HoldsPiece at (byte ∷ []) old new → get_or new at 0 ≡ byte
byte_written at byte old new le holds =
    ap (λ (l : List ℕ). get_or l at 0) holds ∙ get_or_at (take at old) byte _ 0 at (omega (arith, length-take at old))

-- the gate was opened
pub rest_after_gate : (file body new : List ℕ) (bodies : List (List ℕ)) → AreOpen file bodies → HasBodyBehind file (length bodies) body → HoldsPiece (57 * length bodies) (1 ∷ []) file new → HasRestingGate new (bodies ++ body ∷ [])
rest_after_gate file body new bodies gates behind holds =
    let within : 57 * length bodies ≤ length file = omega (arith, behind.within) in
    let staged = torn_gate file body new bodies gates behind (holds_torn (57 * length bodies) (1 ∷ []) file new within holds) in
    let is_open = byte_written (57 * length bodies) 1 file new within holds in
    ⊎_elim
    (λ closed. absurd (omega (arith, closed, is_open)))
    (⊎_elim
    (λ short. absurd (omega (arith, short, (holds_torn (57 * length bodies) (1 ∷ []) file new within holds).no_shorter, behind.within)))
    (λ found. rest_with_body new body bodies staged.gates_open found is_open))
    staged.behind

-- ---- one list of bodies

-- no gate of one list is past those of the other
no_longer : (file : List ℕ) (bodies others : List (List ℕ)) → HasBodies file bodies → HasBodies file others → length bodies < length others → ⊥
no_longer file bodies others one other less = one.tail (other.gates_open (length bodies) less).0

pub one_list : (file : List ℕ) (bodies others : List (List ℕ)) → HasBodies file bodies → HasBodies file others → bodies ≡ others
one_list file bodies others one other =
    let as_long : length bodies ≡ length others =
    ⊎_elim (λ less. absurd (no_longer file bodies others one other less)) (λ not_less. ⊎_elim (λ less. absurd (no_longer file others bodies other one less)) (λ not_more. omega arith) (cases_lt (length others) (length bodies))) (cases_lt (length bodies) (length others)) in
    ext_get_or [] bodies others as_long (λ number lt. sym (one.gates_open number lt).1 ∙ (other.gates_open number (omega (arith, as_long))).1)

-- the gates after some open ones, as many as the file has room for
more_gates : (left : ℕ) (file : List ℕ) (bodies : List (List ℕ)) → AreOpen file bodies → length file < 57 * length bodies + 57 * left → (all : List (List ℕ)) × HasBodies file all
more_gates zero file bodies gates short = (bodies, record { gates_open = gates; tail = λ is_open. absurd (omega (arith, is_open.within, short)) })
more_gates (suc left) file bodies gates short = elim (cases_eq (get_or file (57 * length bodies) 0) 1) [
  | inl is_one ↦
      elim (cases_lt (57 * length bodies + 57) (length file)) [
        | inl within ↦
            more_gates left file (bodies ++ body_in file (length bodies) ∷ []) (one_more file (body_in file (length bodies)) bodies gates (record { within = within; byte = is_one }) refl)
            (omega (arith, short, length-push bodies (body_in file (length bodies))))
        | inr ends ↦ (bodies, record { gates_open = gates; tail = λ is_open. absurd (omega (arith, is_open.within, ends)) })
      ]
  | inr shut ↦ (bodies, record { gates_open = gates; tail = λ is_open. shut is_open.byte })
]

pub some_list : (file : List ℕ) → (bodies : List (List ℕ)) × HasBodies file bodies
some_list file = more_gates (length file + 1) file [] (λ number lt. absurd (omega arith)) (omega arith)

-- ---- the write of a closed gate

module _ (file image : List ℕ) (bodies found : List (List ℕ)) (pending : Option (List ℕ)) (staged : IsStaged bodies pending file) (torn : Torn (57 * length found) 1 file image) (not_closed : (get_or file (57 * length found) 0 ≢ 0) ⊎ (length file ≤ 57 * length found)) where
  still_short : length file ≤ 57 * length bodies + 57 → found ≡ bodies → length image ≤ 57 * length bodies + 57
  still_short short is = omega (arith, torn.no_longer, ap (λ (l : List (List ℕ)). 57 * length l) is)

  torn_here : found ≡ bodies → Torn (57 * length bodies) 1 file image
  torn_here is = subst (λ (l : List (List ℕ)). Torn (57 * length l) 1 file image) is torn

  pending_here : found ≡ bodies → (p : Option (List ℕ)) → IsSomeAnd p (HasBodyBehind file (length bodies)) → IsSomeAnd p (HasBodyBehind image (length bodies))
  pending_here is None behind = absurd behind
  pending_here is (Some body) behind = behind_in_torn file body image bodies behind (torn_here is)

  behind_here : found ≡ bodies → (get_or image (57 * length bodies) 0 ≡ 0) ⊎ ((length image ≤ 57 * length bodies + 57) ⊎ IsSomeAnd pending (HasBodyBehind image (length bodies)))
  behind_here is = ⊎_elim
      (λ closed. ⊎_elim (λ other. absurd (other (ap (λ (l : List (List ℕ)). get_or file (57 * length l) 0) is ∙ closed))) (λ short. inr (inl (still_short (omega (arith, short, ap (λ (l : List (List ℕ)). 57 * length l) is)) is))) not_closed)
      (⊎_elim (λ short. inr (inl (still_short short is))) (λ behind. inr (inr (pending_here is pending behind))))
      staged.behind

  -- with the pending body, the file is at rest
  at_rest_with : (body : List ℕ) → HasBodies file (bodies ++ body ∷ []) → IsSomeAnd pending (HasBodyBehind file (length bodies)) → IsSomeAnd pending (λ other. other ≡ body) → HasRestingGate file (bodies ++ body ∷ [])
  at_rest_with body has behind same = with_pending pending behind same
    where
      last : IsOpen file (length bodies)
      last = (has.gates_open (length bodies) (omega (arith, length-push bodies body))).0

      with_pending : (p : Option (List ℕ)) → IsSomeAnd p (HasBodyBehind file (length bodies)) → IsSomeAnd p (λ other. other ≡ body) → HasRestingGate file (bodies ++ body ∷ [])
      with_pending None behind same = absurd behind
      with_pending (Some other) behind same = rest_with_body file body bodies staged.gates_open (subst (HasBodyBehind file (length bodies)) same behind) last.byte

  not_at_rest : (body : List ℕ) → IsSomeAnd pending (λ other. other ≡ body) → found ≡ bodies ++ body ∷ [] → HasBodies file (bodies ++ body ∷ []) → ⊥
  not_at_rest body same is has =
      let last = (has.gates_open (length bodies) (omega (arith, length-push bodies body))).0 in
      let place = ap (λ (l : List (List ℕ)). 57 * length l) is in
      ⊎_elim
      (λ closed. absurd (omega (arith, closed, last.byte)))
      (⊎_elim
      (λ short. absurd (omega (arith, short, last.within)))
      (λ behind.
      let rest = at_rest_with body has behind same in
      ⊎_elim (λ other. other (ap (λ (n : ℕ). get_or file n 0) place ∙ rest.tail_closed)) (λ short. absurd (omega (arith, short, rest.tail_within, place))) not_closed))
      staged.behind

  -- Whatever it leaves of a staged file, that stays staged.
  pub staged_tail : HasBodies file found → IsStaged bodies pending image
  staged_tail has = ⊎_elim
      (λ without.
      let is = one_list file found bodies has without in
      record {
        gates_open = open_front image file bodies (57 * length bodies) (torn_here is).before (omega arith) torn.no_shorter staged.gates_open;
        behind = behind_here is;
      })
      (λ with_it. absurd (none_with pending (λ body is. is) with_it))
      (staged_has file bodies pending staged)
    where
      none_with : (p : Option (List ℕ)) → ((body : List ℕ) → IsSomeAnd p (λ other. other ≡ body) → IsSomeAnd pending (λ other. other ≡ body)) → IsSomeAnd p (λ body. HasBodies file (bodies ++ body ∷ [])) → ⊥
      none_with None keeps with_it = with_it
      none_with (Some body) keeps with_it = not_at_rest body (keeps body refl) (one_list file found (bodies ++ body ∷ []) has with_it) with_it

pub rest_after_close : (file new : List ℕ) (bodies : List (List ℕ)) → HasBodies file bodies → 57 * length bodies ≤ length file → HoldsPiece (57 * length bodies) (0 ∷ []) file new → HasRestingGate new bodies
rest_after_close file new bodies has le holds =
    let torn = holds_torn (57 * length bodies) (0 ∷ []) file new le holds in
    let long : length new ≡ max (length file) (57 * length bodies + 1) = ap length holds ∙ length-written_over (57 * length bodies) (0 ∷ []) file le in
    record {
      gates_open = open_front new file bodies (57 * length bodies) torn.before (omega arith) torn.no_shorter has.gates_open;
      tail_within = omega (arith, long);
      tail_closed = byte_written (57 * length bodies) 0 file new le holds;
    }

pub rest_as_is : (file : List ℕ) (bodies : List (List ℕ)) → HasBodies file bodies → 57 * length bodies < length file → get_or file (57 * length bodies) 0 ≡ 0 → HasRestingGate file bodies
rest_as_is file bodies has within closed = record { gates_open = has.gates_open; tail_within = within; tail_closed = closed }

-- ---- a file that was written whole

-- 57 bytes more at the front shift each gate by one
shifted_open : (front file : List ℕ) (number : ℕ) → length front ≡ 57 → IsOpen file number → IsOpen (front ++ file) (suc number)
shifted_open front file number long is_open =
    record {
      within = omega (arith, length-append front file, long, is_open.within);
      byte = ap (λ (n : ℕ). get_or (front ++ file) n 0) (omega (arith, long)) ∙ get_or-append-add front file (57 * number) 0 ∙ is_open.byte;
    }

shifted_body : (front file : List ℕ) (number : ℕ) → length front ≡ 57 → body_in (front ++ file) (suc number) ≡ body_in file number
shifted_body front file number long =
    ap (take 56) (ap (λ (n : ℕ). drop n (front ++ file)) (omega arith) ∙ sym (drop-drop (57 * number + 1) 57 (front ++ file)) ∙ ap (drop (57 * number + 1)) (drop_at front file 57 long))

gated-cons : (body : List ℕ) (bodies : List (List ℕ)) → gated (body ∷ bodies) ≡ (1 ∷ body) ++ gated bodies
gated-cons body bodies =
    ap (λ (l : List ℕ). l ++ 0 ∷ []) (flat_map-cons (λ b. 1 ∷ b) body bodies) ∙ append_assoc (1 ∷ body) (flat_map (λ b. 1 ∷ b) bodies) (0 ∷ [])

length-gated : (bodies : List (List ℕ)) → AreWhole bodies → length (gated bodies) ≡ 57 * length bodies + 1
length-gated [] long = refl
length-gated (body ∷ bodies) long =
    let rest = length-gated bodies (λ number lt. long (suc number) (omega arith)) in
    omega (arith, ap length (gated-cons body bodies), length-append (1 ∷ body) (gated bodies), long 0 (omega arith), rest)

first_body : (body rest : List ℕ) → length body ≡ 56 → body_in ((1 ∷ body) ++ rest) 0 ≡ body
first_body body rest long = take_at body rest 56 long

gated_open : (bodies : List (List ℕ)) → AreWhole bodies → AreOpen (gated bodies) bodies
gated_open [] long number lt = absurd (omega arith)
gated_open (body ∷ bodies) long zero lt =
    let is = gated-cons body bodies in
    let body_long = long 0 (omega arith) in
    let rest = length-gated bodies (λ number lt. long (suc number) (omega arith)) in (
      record {
        within = omega (arith, ap length is, length-append (1 ∷ body) (gated bodies), body_long, rest);
        byte = ap (λ (l : List ℕ). get_or l 0 0) is;
      },
      ap (λ (l : List ℕ). body_in l 0) is ∙ first_body body (gated bodies) body_long,
    )
gated_open (body ∷ bodies) long (suc number) lt =
    let is = gated-cons body bodies in
    let front : length (1 ∷ body) ≡ 57 = omega (arith, long 0 (omega arith)) in
    let later = gated_open bodies (λ number lt. long (suc number) (omega arith)) number (omega arith) in (
      subst (λ (l : List ℕ). IsOpen l (suc number)) (sym is) (shifted_open (1 ∷ body) (gated bodies) number front later.0),
      ap (λ (l : List ℕ). body_in l (suc number)) is ∙ shifted_body (1 ∷ body) (gated bodies) number front ∙ later.1,
    )

gated_tail : (bodies : List (List ℕ)) → AreWhole bodies → get_or (gated bodies) (57 * length bodies) 0 ≡ 0
gated_tail [] long = refl
gated_tail (body ∷ bodies) long =
    let front : length (1 ∷ body) ≡ 57 = omega (arith, long 0 (omega arith)) in
    ap (λ (l : List ℕ). get_or l (57 * length (body ∷ bodies)) 0) (gated-cons body bodies)
    ∙ ap (λ (n : ℕ). get_or ((1 ∷ body) ++ gated bodies) n 0) (omega (arith, front))
    ∙ get_or-append-add (1 ∷ body) (gated bodies) (57 * length bodies) 0
    ∙ gated_tail bodies (λ number lt. long (suc number) (omega arith))

pub gated_rest : (bodies : List (List ℕ)) → AreWhole bodies → HasRestingGate (gated bodies) bodies
gated_rest bodies long = record { gates_open = gated_open bodies long; tail_within = omega (arith, length-gated bodies long); tail_closed = gated_tail bodies long }
