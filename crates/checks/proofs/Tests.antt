-- For omega: a test on numbers, or its failure, is read as its fact and shown from it. And tests of statements.
-- Assumes nothing.
use mathlib.Core.Path.{◌≡◌, refl, sym, subst}
use mathlib.Core.Logic.{◌↔◌, ◌⊎◌, inl, inr, ⊎_elim}
use mathlib.Core.Bool.{Bool, true, false, not, ◌&&◌, ◌||◌}
use Prim.Native.Nat.{ℕ, ◌≤◌, ◌<◌}
use lib.Dec.{T, leb, eqb, leb→le, le→leb, eqb→eq, eqb_refl, nleb→lt, T_not}
use borrow.Author.Tests.{lt-leb, ne_eqb}

pub eq→eqb : (m n : ℕ) → m ≡ n → T (eqb m n)
eq→eqb m n e = subst (λ (k : ℕ). T (eqb m k)) e (eqb_refl m)

pub lt→nleb : (m n : ℕ) → n < m → T (not (leb m n))
lt→nleb m n h = rw (lt-leb m n h) tt

pub ne→neqb : (m n : ℕ) → ¬ (m ≡ n) → T (not (eqb m n))
ne→neqb m n h = rw (ne_eqb m n h) tt

pub neqb→ne : (m n : ℕ) → T (not (eqb m n)) → ¬ (m ≡ n)
neqb→ne m n t e = T_not (eqb m n) t (eq→eqb m n e)

pub ruleset tests = (leb→le, le→leb, eqb→eq, eq→eqb, nleb→lt, lt→nleb, ne→neqb, neqb→ne)

-- a test that passed, as an equation, and the other way
pub passed : (b : Bool) → T b → b ≡ true
passed true t = refl
passed false t = absurd t

pub passes : (b : Bool) → b ≡ true → T b
passes b e = subst T (sym e) tt

-- a test, either way
pub case : {A : Type 0} (b : Bool) → (b ≡ true → A) → (b ≡ false → A) → A
case true f g = f refl
case false f g = g refl

-- both of two tests, and one of two
pub left : (a b : Bool) → T (a && b) → T a
left true b t = tt
left false b t = t

pub right : (a b : Bool) → T (a && b) → T b
right true b t = t
right false b t = absurd t

pub both : (a b : Bool) → T a → T b → T (a && b)
both true b s t = t
both false b s t = s

pub either : (a b : Bool) → T (a || b) → T a ⊎ T b
either true b t = inl tt
either false b t = inr t

pub one_of : (a b : Bool) → T a ⊎ T b → T (a || b)
one_of true b h = tt
one_of false b (inl n) = absurd n
one_of false b (inr h) = h

-- ---- a test of a statement passes exactly where it holds
pub record Tests (b : Bool) (P : Type 0) : Type 0 where
  pub read : T b → P
  pub shown : P → T b

pub exactly : {b : Bool} {P : Type 0} → Tests b P → T b ↔ P
exactly t = (t.read, t.shown)

pub nothing_to_test : Tests true (Unit {0})
nothing_to_test = record { read = λ _. tt; shown = λ _. tt }

pub most : {m n : ℕ} → Tests (leb m n) (m ≤ n)
most {m} {n} = record { read = leb→le m n; shown = le→leb m n }

pub equal : {m n : ℕ} → Tests (eqb m n) (m ≡ n)
equal {m} {n} = record { read = eqb→eq m n; shown = eq→eqb m n }

pub all_of : {a b : Bool} {P Q : Type 0} → Tests a P → Tests b Q → Tests (a && b) (P × Q)
all_of {a} {b} p q = record {
  read = λ h. (p.read (left a b h), q.read (right a b h));
  shown = λ h. both a b (p.shown h.0) (q.shown h.1);
}

pub some_of : {a b : Bool} {P Q : Type 0} → Tests a P → Tests b Q → Tests (a || b) (P ⊎ Q)
some_of {a} {b} p q = record {
  read = λ h. ⊎_elim (λ x. inl (p.read x)) (λ y. inr (q.read y)) (either a b h);
  shown = ⊎_elim (λ x. one_of a b (inl (p.shown x))) (λ y. one_of a b (inr (q.shown y)));
}
