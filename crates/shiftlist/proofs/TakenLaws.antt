-- What an open entry becomes by the records that follow it: how many of them are its own, and what it says then.
-- Assumes nothing.
use Rattle.std.proofs.Common.{◌≡◌, ℕ, zero, suc, ◌+◌, ◌-◌, ◌<◌, ◌≤◌, Bool, true, false, cond, ◌||◌, List, [], ◌∷◌, length, take, sym, refl, ap, ◌∙◌, arith}
use Rattle.shift.specs.declared.State.{State}
use Rattle.shift.specs.Readings.{Reading}
use Rattle.shift.specs.Answers.{led}
use Rattle.shiftlist.specs.declared.Shift.{Shift}
use Rattle.shiftlist.specs.Shifts.{asks, end_of, grown, unless_ended, whole}
use Rattle.shiftlist.specs.Entries.{before}
use Rattle.shiftlist.proofs.RequestLaws.{clock_goes_on, asked}

-- the entry e with n of the records rs, the first of which is the record i, made in the state s
pub record Taken (e : Shift) (i : ℕ) (s : State) (rs : List Reading) (w : Shift) : Type 0 where
  pub n : ℕ
  pub most : n ≤ length rs
  pub first : w.first ≡ e.first
  pub kind : w.kind ≡ e.kind
  pub time : w.request_time ≡ e.request_time
  pub last : suc w.last ≡ i + n
  pub not_yet : (j : ℕ) → j < n → end_of (before s rs j).phase ≡ 0
  pub end : w.end ≡ end_of (before s rs n).phase
  pub all : w.end ≡ 0 → n ≡ length rs
  pub route : w.route ≡ cond (asked (take n rs)) 1 e.route
  pub age : e.request_time + w.age ≡ (before s rs n).clock

or_cond : (a b : Bool) (n : ℕ) → cond a 1 (cond b 1 n) ≡ cond (b || a) 1 n
or_cond true true n = refl
or_cond true false n = refl
or_cond false true n = refl
or_cond false false n = refl

module _ (e : Shift) (i : ℕ) (s : State) (r : Reading) (rs : List Reading) (o : end_of s.phase ≡ 0) where
  abbrev next : State
  next = led s r

  abbrev e' : Shift
  e' = grown e i r next.clock next.phase

  till :
      {m : ℕ} → ((j : ℕ) → j < m → end_of (before next rs j).phase ≡ 0) → (j : ℕ) → j < suc m
      → end_of (before s (r ∷ rs) j).phase ≡ 0
  till b zero l = o
  till b (suc j) l = b j (omega arith)

  one_more :
      (k : ℕ) → end_of next.phase ≡ k → e.request_time + e'.age ≡ next.clock
      → (end_of next.phase ≡ 0 → Taken e' (suc i) next rs (whole e' (suc i) next rs))
      → Taken e i s (r ∷ rs) (unless_ended k e' (whole e' (suc i) next rs))
  one_more zero z a f =
      let g = f z in
      record {
        n = suc g.n;
        most = omega (arith, g.most);
        first = g.first;
        kind = g.kind;
        time = g.time;
        last = omega (arith, g.last);
        not_yet = till g.not_yet;
        end = g.end;
        all = λ q. ap suc (g.all q);
        route = g.route ∙ or_cond (asked (take g.n rs)) (asks r) e.route;
        age = g.age;
      }
  one_more (suc k) z a f = record {
    n = 1;
    most = omega arith;
    first = refl;
    kind = refl;
    time = refl;
    last = omega arith;
    not_yet = till (λ j l. absurd (omega arith));
    end = refl;
    all = λ q. absurd (omega (arith, z, q));
    route = or_cond false (asks r) e.route;
    age = a;
  }

pub takes :
    (e : Shift) (i : ℕ) (s : State) (rs : List Reading) → suc e.last ≡ i → e.end ≡ 0 → end_of s.phase ≡ 0
    → e.request_time + e.age ≡ s.clock → Taken e i s rs (whole e i s rs)
takes e i s [] l z o a = record {
  n = 0;
  most = omega arith;
  first = refl;
  kind = refl;
  time = refl;
  last = omega arith;
  not_yet = λ j q. absurd (omega arith);
  end = z ∙ sym o;
  all = λ q. refl;
  route = refl;
  age = a;
}
takes e i s (r ∷ rs) l z o a =
    let next = led s r in
    let e' = grown e i r next.clock next.phase in
    let on = clock_goes_on s r in
    let aged : e.request_time + (next.clock - e.request_time) ≡ next.clock = omega arith in
    one_more e i s r rs o (end_of next.phase) refl aged (λ q. takes e' (suc i) next rs refl q q aged)
