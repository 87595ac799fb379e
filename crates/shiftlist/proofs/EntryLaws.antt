-- The shifts of Shifts.antt are the entries of Entries.antt, the second wording; no acceptance is needed.
-- Assumes nothing.
use Rattle.std.specs.Prelude.{Ok, Err}
use Rattle.std.proofs.Common.{◌≡◌, ℕ, zero, suc, ◌+◌, ◌<◌, ◌≤◌, false, cond, T, ◌⊎◌, List, [], ◌∷◌, length, get_or, take, sym, refl, ap, ◌∙◌, subst, inl, inr, ⊎_elim, zero-add, arith}
use Rattle.checks.proofs.Tests.{case, passes}
use Rattle.promises.specs.Verdicts.{at}
use Rattle.shift.specs.declared.State.{State}
use Rattle.shift.specs.Readings.{Reading}
use Rattle.shift.specs.declared.Misread.TheVariants.{WrongCode}
use Rattle.shift.specs.declared.Step.TheVariants.{AskClutch}
use Rattle.shift.specs.Answers.{led}
use Rattle.shiftlist.specs.declared.Shift.{Shift}
use Rattle.shiftlist.specs.Shifts.{kind_of, asks, begun, whole, entry_for, shifts_from}
use Rattle.shiftlist.specs.Lists.{no_shift}
use Rattle.shiftlist.specs.Entries.{RequestOf, Asked, EntryOf, before, phase_after, Over, Entry, Entries}
use Rattle.shiftlist.proofs.RequestLaws.{kind_of_a_request, codes_of_requests, begins, asked, asked_there, there_asked, open_is_not_over, ends_so}
use Rattle.shiftlist.proofs.TakenLaws.{Taken, takes}

abbrev Ordered : List Shift → Type 0
Ordered es = (m n : ℕ) → m < n → n < length es → (get_or es m no_shift).first < (get_or es n no_shift).first

-- ---- an entry by its places in rs, from a to m
record Spans (s : State) (rs : List Reading) (a m : ℕ) (e : Shift) : Type 0 where
  request : RequestOf (at rs a) e.kind
  order : a ≤ m
  within : m < length rs
  open_till_then : (j : ℕ) → a ≤ j → j < m → ¬ Over s rs j
  end :
      ((e.end ≡ 1) × (phase_after s rs m ≡ 22))
      ⊎ (((e.end ≡ 2) × (phase_after s rs m ≡ 23)) ⊎ ((e.end ≡ 0) × ¬ Over s rs m × (suc m ≡ length rs)))
  route : ((e.route ≡ 1) × Asked rs a m) ⊎ ((e.route ≡ 0) × ¬ Asked rs a m)
  time : e.request_time ≡ (before s rs a).clock
  age : e.request_time + e.age ≡ (before s rs (suc m)).clock

-- the same where the first of rs is the record i
record Placed (i : ℕ) (s : State) (rs : List Reading) (e : Shift) : Type 0 where
  a : ℕ
  m : ℕ
  first : e.first ≡ i + a
  last : e.last ≡ i + m
  spans : Spans s rs a m e

-- ---- with one record more in front
module _ (s : State) (r : Reading) (rs : List Reading) (a m : ℕ) where
  asked_later : Asked rs a m → Asked (r ∷ rs) (suc a) (suc m)
  asked_later x = record { index = suc x.index; from = omega (arith, x.from); to = omega (arith, x.to); there = x.there }

  asked_sooner : Asked (r ∷ rs) (suc a) (suc m) → Asked rs a m
  asked_sooner x = sooner x.index x.from x.to x.there
    where
      sooner : (k : ℕ) → suc a ≤ k → k ≤ suc m → at (r ∷ rs) k ≡ Ok AskClutch → Asked rs a m
      sooner zero f t e = absurd (omega arith)
      sooner (suc k) f t e = record { index = k; from = omega arith; to = omega arith; there = e }

  open_later :
      ((j : ℕ) → a ≤ j → j < m → ¬ Over (led s r) rs j) → (j : ℕ) → suc a ≤ j → j < suc m → ¬ Over s (r ∷ rs) j
  open_later f zero l h = absurd (omega arith)
  open_later f (suc j) l h = f j (omega arith) (omega arith)

  later : (e : Shift) → Spans (led s r) rs a m e → Spans s (r ∷ rs) (suc a) (suc m) e
  later e x = record {
    request = x.request;
    order = omega (arith, x.order);
    within = omega (arith, x.within);
    open_till_then = open_later x.open_till_then;
    end = ⊎_elim (λ z. inl z) (⊎_elim (λ z. inr (inl z)) (λ z. inr (inr (z.0, z.1, ap suc z.2)))) x.end;
    route = ⊎_elim (λ z. inl (z.0, asked_later z.1)) (λ z. inr (z.0, λ y. z.1 (asked_sooner y))) x.route;
    time = x.time;
    age = x.age;
  }

placed_later : (i : ℕ) (s : State) (r : Reading) (rs : List Reading) (e : Shift) → Placed (suc i) (led s r) rs e → Placed i s (r ∷ rs) e
placed_later i s r rs e x = record {
  a = suc x.a;
  m = suc x.m;
  first = omega (arith, x.first);
  last = omega (arith, x.last);
  spans = later s r rs x.a x.m e x.spans;
}

-- ---- the entry of a request that is the first record
-- the route of what asks for no clutch, and of the n records behind it
route_of :
    (r : Reading) (rs : List Reading) (n route : ℕ) → asks r ≡ false → route ≡ cond (asked (take n rs)) 1 0
    → ((route ≡ 1) × Asked (r ∷ rs) 0 n) ⊎ ((route ≡ 0) × ¬ Asked (r ∷ rs) 0 n)
route_of r rs n route o e =
    let same : asked (take (suc n) (r ∷ rs)) ≡ asked (take n rs) = rw o in
    case (asked (take n rs))
    (λ t.
    let g = asked_there (r ∷ rs) (suc n) (passes (asked (take (suc n) (r ∷ rs))) (same ∙ t)) in
    inl (rw t at e, record { index = g.index; from = omega arith; to = omega (arith, g.below); there = g.there }))
    (λ t. inr (rw t at e, λ x. subst T (same ∙ t) (there_asked (r ∷ rs) (suc n) x.index (omega (arith, x.to)) x.there)))

module _ (i : ℕ) (s : State) (r : Reading) (rs : List Reading) where
  abbrev next : State
  next = led s r

  -- the entry of what has the kind k, and those behind it
  abbrev own : ℕ → Shift
  own k = whole (begun k i s.clock) (suc i) next rs

  abbrev rest : List Shift
  rest = shifts_from (suc i) next rs

  taken : (k : ℕ) → kind_of r ≡ suc k → Taken (begun (suc k) i s.clock) (suc i) next rs (own (suc k))
  taken k e =
      let b = begins s r k e in
      takes (begun (suc k) i s.clock) (suc i) next rs refl refl b.still_open (omega (arith, b.same_clock))

  here : (k : ℕ) → kind_of r ≡ suc k → Placed i s (r ∷ rs) (own (suc k))
  here k e =
      let b = begins s r k e in
      let w = own (suc k) in
      let g = taken k e in
      record {
        a = 0;
        m = g.n;
        first = omega (arith, g.first);
        last = omega (arith, g.last);
        spans = record {
          request = subst (RequestOf r) (sym g.kind) b.request;
          order = omega arith;
          within = omega (arith, g.most);
          open_till_then = λ j l h. open_is_not_over (before next rs j).phase (g.not_yet j h);
          end = ends_so (before next rs g.n).phase w.end (suc g.n) (suc (length rs)) g.end (λ z. ap suc (g.all z));
          route = route_of r rs g.n w.route b.asks_not g.route;
          time = g.time;
          age = omega (arith, g.time, g.age);
        };
      }

  -- each is an entry
  module _ (each : (n : ℕ) → n < length rest → Placed (suc i) next rs (get_or rest n no_shift)) where
    each_on :
        (k : ℕ) → kind_of r ≡ k → (n : ℕ) → n < length (entry_for k (own k) rest)
        → Placed i s (r ∷ rs) (get_or (entry_for k (own k) rest) n no_shift)
    each_on zero e n h = placed_later i s r rs (get_or rest n no_shift) (each n h)
    each_on (suc k) e zero h = here k e
    each_on (suc k) e (suc n) h = placed_later i s r rs (get_or rest n no_shift) (each n (omega arith))

    -- they stand in the order of their first records
    ordered_on : (k : ℕ) → kind_of r ≡ k → Ordered rest → Ordered (entry_for k (own k) rest)
    ordered_on zero e o m n l h = o m n l h
    ordered_on (suc k) e o m zero l h = absurd (omega arith)
    ordered_on (suc k) e o zero (suc n) l h =
        omega (arith, (taken k e).first, (each n (omega arith)).first)
    ordered_on (suc k) e o (suc m) (suc n) l h = o m n (omega arith) (omega arith)

  -- each request has one
  found_on : (k j : ℕ) → EntryOf rest no_shift j → EntryOf (entry_for k (own k) rest) no_shift j
  found_on zero j x = x
  found_on (suc k) j x = record { number = suc x.number; inside = omega (arith, x.inside); there = x.there }

  found_here : (k : ℕ) → kind_of r ≡ k → 1 ≤ k → EntryOf (entry_for k (own k) rest) no_shift i
  found_here zero e l = absurd (omega arith)
  found_here (suc k) e l = record { number = 0; inside = omega arith; there = (taken k e).first }

placed :
    (i : ℕ) (s : State) (rs : List Reading) (n : ℕ) → n < length (shifts_from i s rs)
    → Placed i s rs (get_or (shifts_from i s rs) n no_shift)
placed i s [] n h = absurd (omega arith)
placed i s (r ∷ rs) n h = each_on i s r rs (placed (suc i) (led s r) rs) (kind_of r) refl n h

in_order : (i : ℕ) (s : State) (rs : List Reading) → Ordered (shifts_from i s rs)
in_order i s [] = λ m n l h. absurd (omega arith)
in_order i s (r ∷ rs) = ordered_on i s r rs (placed (suc i) (led s r) rs) (kind_of r) refl (in_order (suc i) (led s r) rs)

found :
    (i : ℕ) (s : State) (rs : List Reading) (j code : ℕ) → RequestOf (at rs j) code
    → EntryOf (shifts_from i s rs) no_shift (i + j)
found i s [] j code q =
    let k = kind_of_a_request (Err WrongCode) code q in
    let c = codes_of_requests (Err WrongCode) code q in
    absurd (omega arith)
found i s (r ∷ rs) zero code q =
    let k = kind_of_a_request r code q in
    let c = codes_of_requests r code q in
    let here : i ≡ i + 0 = omega arith in
    subst (EntryOf (shifts_from i s (r ∷ rs)) no_shift) here (found_here i s r rs (kind_of r) refl (omega arith))
found i s (r ∷ rs) (suc j) code q =
    let there : suc i + j ≡ i + suc j = omega arith in
    found_on i s r rs (kind_of r) (i + suc j)
    (subst (EntryOf (shifts_from (suc i) (led s r) rs) no_shift) there (found (suc i) (led s r) rs j code q))

-- ---- from the first record on
entry : (s : State) (rs : List Reading) (e : Shift) → Placed 0 s rs e → Entry s rs e
entry s rs e x =
    let first : x.a ≡ e.first = omega (arith, x.first) in
    let last : x.m ≡ e.last = omega (arith, x.last) in
    let y = subst (λ a. Spans s rs a e.last e) first (subst (λ m. Spans s rs x.a m e) last x.spans) in
    record {
      request = y.request;
      order = y.order;
      within = y.within;
      open_till_then = y.open_till_then;
      end = y.end;
      route = y.route;
      time = y.time;
      age = y.age;
    }

pub the_entries : (s : State) (rs : List Reading) → Entries s rs (shifts_from 0 s rs) no_shift
the_entries s rs = record {
  each = λ i h. entry s rs (get_or (shifts_from 0 s rs) i no_shift) (placed 0 s rs i h);
  ordered = in_order 0 s rs;
  all = λ j code q. subst (EntryOf (shifts_from 0 s rs) no_shift) (zero-add j) (found 0 s rs j code q);
}
