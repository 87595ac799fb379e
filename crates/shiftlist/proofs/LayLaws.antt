-- Laws on laying entries along the records of a part: one record, by what the calls answer, the end, and how many there are at most.
-- Assumes nothing.
use Rattle.std.proofs.Common.{◌≡◌, ℕ, zero, suc, ◌+◌, ◌*◌, ◌/◌, ◌<◌, ◌≤◌, Bool, true, false, cond, eqb, leb, List, [], ◌∷◌, length, get_or, drop, sym, refl, ap, ◌∙◌, add-one, arith, eqb→eq, leb→le, drop-cons, eq-eqb, ne_eqb, drop_of_length-le, leb-true}
use lib.Seq.{sets}
use borrow.Author.Tests.{lt-leb}
use Rattle.std.proofs.lemmas.List.{length-map}
use mir.Val.{bool_byte}
use Rattle.checks.proofs.Tests.{case, left, right, passes}
use Rattle.checks.proofs.Ranges.{from}
use Rattle.std.specs.Simd.{first_chunks}
use Rattle.numbers.specs.Bytes.{bytes_of}
use Rattle.phases.specs.Phases.{next_of, unfinished}
use Rattle.trace.specs.Traces.{entering, phase_by}
use Rattle.shiftlist.specs.declared.Shift.{Shift}
use Rattle.shiftlist.specs.declared.walk.Walk.{Walk}
use Rattle.shiftlist.specs.Lists.{entries_of}
use Rattle.shiftlist.specs.Walks.{Coded, coded, coded_in, coded_all, kind_by, is_still, clock_by, holding, trace_in, in_hand, further, ticked, stepped_by, walked_by, takes_on, closes, with, laid_by}
use Rattle.shiftlist.proofs.StoreLaws.{with_first, with-length, one_at_most, never}

-- ---- records that stand apart, which are the records of the bytes
same_records : (l : List ℕ) → coded_all (first_chunks 4 (length l / 4) l) ≡ coded_in l
same_records l = by (length l / 4) l (omega arith) (omega arith)
  where
    by : (k : ℕ) (l : List ℕ) → 4 * k ≤ length l → length l ≤ 4 * k + 3 → coded_all (first_chunks 4 k l) ≡ coded_in l
    by zero [] g h = refl
    by zero (a ∷ []) g h = refl
    by zero (a ∷ b ∷ []) g h = refl
    by zero (a ∷ b ∷ c ∷ []) g h = refl
    by zero (a ∷ b ∷ c ∷ d ∷ l) g h = absurd (omega arith)
    by (suc k) [] g h = absurd (omega arith)
    by (suc k) (a ∷ []) g h = absurd (omega arith)
    by (suc k) (a ∷ b ∷ []) g h = absurd (omega arith)
    by (suc k) (a ∷ b ∷ c ∷ []) g h = absurd (omega arith)
    by (suc k) (a ∷ b ∷ c ∷ d ∷ l) g h = ap (λ cs. coded a b c d ∷ cs) (by k l (omega arith) (omega arith))

same_phase : (p : ℕ) → closes p p ≡ false
same_phase p = case (leb p 21) (λ e. let l = leb-true p 21 e in rw (e, lt-leb 22 p (omega arith))) (λ e. rw e)

still_is : (w : Walk) (n c a : ℕ) → is_still c ≡ true → ticked w n w.clock ≡ walked_by w n c a
still_is w n c a e =
    let t = passes (is_still c) e in
    from (λ j. ticked w n w.clock ≡ walked_by w n j a) 4 4 (refl, (refl, (refl, (refl, tt)))) c (leb→le 4 c (left (leb 4 c) (leb c 7) t))
    (at_most c (leb→le c 7 (right (leb 4 c) (leb c 7) t)))
  where
    at_most : (j : ℕ) → j ≤ 7 → j < 4 + 4
    at_most j h = omega arith

-- on to a phase
abbrev pub gone_on : Walk → ℕ → ℕ → Walk
gone_on w n q = holding w.clock q w.first n w.kind w.route w.request_time

takes_is : (w : Walk) (n c a : ℕ) → c ≡ 8 → gone_on w n (next_of w.phase) ≡ walked_by w n c a
takes_is w n c a e = ap (λ j. walked_by w n j a) (sym e)

pub same_coded : (l : List ℕ) (rs : List (List ℕ)) → rs ≡ first_chunks 4 (length l / 4) l → coded_all rs ≡ coded_in l
same_coded l rs e = ap coded_all e ∙ same_records l

abbrev pub code_at : List (List ℕ) → ℕ → ℕ
code_at rs i = get_or (get_or rs i []) 0 0

abbrev pub amount_at : List (List ℕ) → ℕ → ℕ
amount_at rs i = get_or (get_or rs i []) 2 0 + 256 * get_or (get_or rs i []) 3 0

-- ---- the record i of such, which is the record n of its file, and the one behind it is the record m
module _ (rs : List (List ℕ)) (i : ℕ) (inside : i < length rs) (w : Walk) (n m : ℕ) (em : n + 1 ≡ m) where
  abbrev code : ℕ
  code = code_at rs i

  abbrev amount : ℕ
  amount = amount_at rs i

  abbrev pub before : List Shift
  before = laid_by w n (coded_all (drop i rs))

  abbrev pub after : Walk → List Shift
  after v = laid_by v m (coded_all (drop (i + 1) rs))

  pub made : (v : Walk) → v ≡ walked_by w n code amount → before ≡ with (closes w.phase v.phase) (in_hand v) (after v)
  made v e =
      let k : suc n ≡ m = omega arith in
      ap (λ q. laid_by w n (coded_all q)) (drop-cons rs i [] inside)
      ∙ ap (λ (u : Walk). with (closes w.phase u.phase) (in_hand u) (laid_by u (suc n) (coded_all (drop (suc i) rs)))) (sym e)
      ∙ ap (λ q. with (closes w.phase v.phase) (in_hand v) (laid_by v q (coded_all (drop (suc i) rs)))) k
      ∙ ap (λ q. with (closes w.phase v.phase) (in_hand v) (laid_by v m (coded_all (drop q rs)))) (sym (add-one i))

  -- a record that ends no shift: a tick, one of the steps that change the stage alone, a take that goes on
  pub open_on : (v : Walk) → v ≡ walked_by w n code amount → closes w.phase v.phase ≡ false → before ≡ after v
  open_on v e f = made v e ∙ ap (λ b. with b (in_hand v) (after v)) f

  pub tick_made : code ≡ 12 → (k : ℕ) → k ≡ clock_by w.clock amount → before ≡ after (ticked w n k)
  tick_made e k ek =
      open_on (ticked w n k)
      (ap (ticked w n) ek ∙ ap (λ b. cond b (ticked w n (clock_by w.clock amount)) (stepped_by w n code)) (sym (eq-eqb code 12 e)))
      (same_phase w.phase)

  pub still_made : is_still code ≡ true → before ≡ after (ticked w n w.clock)
  still_made e = open_on (ticked w n w.clock) (still_is w n code amount e) (same_phase w.phase)

  pub takes_made : takes_on w.phase code ≡ true → (q : ℕ) → q ≡ next_of w.phase → before ≡ after (gone_on w n q)
  takes_made e q eq =
      let t = passes (takes_on w.phase code) e in
      let small = leb→le (next_of w.phase) 21 (right (eqb code 8) (leb (next_of w.phase) 21) t) in
      open_on (gone_on w n q)
      (ap (gone_on w n) eq ∙ takes_is w n code amount (eqb→eq code 8 (left (eqb code 8) (leb (next_of w.phase) 21) t)))
      (never (leb w.phase 21) (leb 22 q) (lt-leb 22 q (omega (arith, small, eq))))

-- ---- any other record
pub other_is : (w : Walk) (n c a : ℕ) → ¬ (c ≡ 12) → stepped_by w n c ≡ walked_by w n c a
other_is w n c a e = ap (λ b. cond b (ticked w n (clock_by w.clock a)) (stepped_by w n c)) (sym (ne_eqb c 12 e))

-- the last record before it does not matter
pub last_goes : (w : Walk) (last n c : ℕ) → stepped_by (record w { last = last }) n c ≡ stepped_by w n c
last_goes w last n c = by (kind_by c)
  where
    by :
        (k : ℕ) → further k (record w { last = last }) n (eqb c 9) (entering (phase_by w.phase c) (trace_in w))
        ≡ further k w n (eqb c 9) (entering (phase_by w.phase c) (trace_in w))
    by zero = refl
    by (suc k) = refl

-- ---- no record is left
pub at_end : (rs : List (List ℕ)) (i : ℕ) (w : Walk) (n : ℕ) → length rs ≤ i → laid_by w n (coded_all (drop i rs)) ≡ with (unfinished w.phase) (in_hand w) []
at_end rs i w n h = ap (λ q. laid_by w n (coded_all q)) (drop_of_length-le rs {i = i} h)

-- ---- what is laid, and what is still to be laid from a place on, are the whole
abbrev pub Left : List ℕ → ℕ → List Shift → List ℕ → ℕ → List Shift → Type 0
Left list₀ from all list p es =
    (from + 16 * length all ≡ p + 16 * length es) × (sets list₀ from (bytes_of (entries_of all)) ≡ sets list p (bytes_of (entries_of es)))

-- one more is laid, or none
pub one_laid :
    (list₀ : List ℕ) (from : ℕ) (all : List Shift) (list : List ℕ) (p : ℕ) (b : Bool) (e : Shift) (es : List Shift) (list' : List ℕ) (p' : ℕ)
    → p' ≡ p + 16 * length (with b e []) → list' ≡ sets list p (bytes_of (entries_of (with b e []))) → Left list₀ from all list p (with b e es)
    → Left list₀ from all list' p' es
one_laid list₀ from all list p b e es list' p' ep el h =
    let long = with-length b e es in (
      omega (arith, h.0, long, ep),
      h.1
          ∙ with_first list p b e es
          ∙ ap (λ q. sets (sets list p (bytes_of (entries_of (with b e [])))) q (bytes_of (entries_of es))) (sym ep)
          ∙ ap (λ o. sets o p' (bytes_of (entries_of es))) (sym el),
    )

-- ---- at most an entry a record, and one for an open shift
abbrev pub open_at : ℕ → ℕ
open_at phase = cond (unfinished phase) 1 0

pub one_if_open : (phase : ℕ) → bool_byte (unfinished phase) ≡ open_at phase
one_if_open phase = by (unfinished phase)
  where
    by : (b : Bool) → bool_byte b ≡ cond b 1 0
    by true = refl
    by false = refl

pub at_most_one : (b : Bool) → cond {A = ℕ} b 1 0 ≤ 1
at_most_one true = omega arith
at_most_one false = omega arith

no_more_open : (p q : ℕ) (e : Shift) → length (with (closes p q) e []) + open_at q ≤ 1 + open_at p
no_more_open p q e =
    case (leb 22 q)
    (λ h.
    let big = leb-true 22 q h in
    let none : open_at q ≡ 0 = rw (never (leb 1 q) (leb q 21) (lt-leb q 21 (omega arith))) in
    omega (arith, none, one_at_most (closes p q) e))
    (λ h.
    let none : length (with (closes p q) e []) ≡ 0 = rw (never (leb p 21) (leb 22 q) h) in
    omega (arith, none, at_most_one (unfinished q)))

pub laid_at_most : (w : Walk) (i : ℕ) (cs : List Coded) → length (laid_by w i cs) ≤ open_at w.phase + length cs
laid_at_most w i [] = case (unfinished w.phase) (λ u. rw u (omega arith)) (λ u. rw u (omega arith))
laid_at_most w i (c ∷ cs) =
    let v = walked_by w i c.code c.amount in
    let rest = laid_by v (suc i) cs in
    let h = laid_at_most v (suc i) cs in
    let k = no_more_open w.phase v.phase (in_hand v) in
    let e = with-length (closes w.phase v.phase) (in_hand v) rest in
    omega (arith, h, k, e)

pub as_many : (rs : List (List ℕ)) → length (coded_all rs) ≡ length rs
as_many rs = length-map rs _
