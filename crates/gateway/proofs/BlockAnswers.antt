-- Demand 1 of a block of records on any given state and table, as theorems over what the contract of `advanced_block` allows.
-- Assumes nothing.
use mathlib.Core.Path.{◌≡◌, refl, sym, ap, subst, ◌∙◌}
use mathlib.Core.List.{List, [], ◌∷◌}
use Prim.Native.Nat.{ℕ, zero, suc, ◌+◌, ◌*◌, ◌≤◌, ◌<◌}
use native.Mathlib.Numerals.{towards_suc}
use native.Mathlib.Omega.{arith}
use lib.Dec.{eqb}
use lib.ListN.{length, get_or, take}
use borrow.Author.Tests.{eqb-true, eqb-false}
use contract.Lifetimes.{Lfts}
use denote.Triple.Entry.{Args}
use denote.Triple.Clauses.{AtExit}
use Rattle.checks.specs.Conditions.{FirstOf}
use Rattle.checks.proofs.Tests.{case}
use Rattle.limits.specs.declared.Table.{Table}
use Rattle.limits.specs.Rules.{broken_rule}
use Rattle.limits.specs.Refusals.{Admitted, broken}
use Rattle.limits.proofs.Refusals as limits
use Rattle.shift.specs.declared.State.{State}
use Rattle.shift.specs.declared.Answer.{Answer}
use Rattle.shift.specs.Runs.{Outcome, after}
use Rattle.promises.specs.Answered.{Answered}
use Rattle.verdict.specs.declared.Verdict.{Verdict}
use Rattle.verdict.proofs.Verdicts.{outcome}
use Rattle.gateway.specs.Advancing.{advanced_on, advancing, block_on}
use Rattle.gateway.proofs.Answers.{a_record}
use Rattle.gateway.proofs.Blocks.{a_block_is_its_records_one_by_one, admitted, not_admitted}
use Rattle.gateway.specs.contracts.advanced_block as advanced_block_call
use Rattle.gateway.proofs.advanced_block.Reads as advanced_block_reads

-- The records before the index are accepted one by one and lead to the state. Where the number is not 0, the record at the index is
-- refused by it on that state and so far over, in the document's words; where it is 0, there is no record at the index.
pub record BlockAnswered (t : Table) (s : State) (l : List ℕ) (number index excess : ℕ) (s' : State) : Type 0 where
  pub accepted : advancing t s (take (4 * index) l) ≡ record { count = index; number = 0; excess = 0; state = s' }
  pub refused :
      ¬ (number ≡ 0)
      → (4 * index + 3 < length l)
      × Answered t s' (get_or l (4 * index) 0) (get_or l (4 * index + 1) 0) (get_or l (4 * index + 2) 0 + 256 * get_or l (4 * index + 3) 0) number excess s'
  pub whole : number ≡ 0 → (4 * index ≤ length l) × (length l < 4 * index + 4) × (excess ≡ 0)

no_more : (t : Table) (s : State) (l : List ℕ) → length l < 4 → BlockAnswered t s l 0 0 0 s
no_more t s l h = record { accepted = refl; refused = λ n. absurd (n refl); whole = λ _. omega arith }

module _ (t : Table) (s : State) (a b c d : ℕ) (l : List ℕ) where
  abbrev x : Answer
  x = advanced_on t s a b c d

  goes_on :
      (k : ℕ) (o : Outcome) → x.number ≡ k → BlockAnswered t x.state l o.number o.count o.excess o.state
      → (let p = after k x.excess s o in BlockAnswered t s (a ∷ b ∷ c ∷ d ∷ l) p.number p.count p.excess p.state)
  goes_on zero o e h =
      let there : 4 * suc o.count ≡ suc (suc (suc (suc (4 * o.count)))) = omega arith in
      record {
        accepted = rw (there, e, h.accepted);
        refused = λ n.
            let q = h.refused n in
            let w = q.0 in
            (omega arith, rw there (simp towards_suc (simp towards_suc at q.1)));
        whole = λ z. let w = h.whole z in omega arith;
      }
  goes_on (suc k) o e h =
      let r = a_record t s a b c d in
      record {
        accepted = refl;
        refused = λ n. (omega arith, rw (e, r.refused (λ z. omega arith)) at r);
        whole = λ z. absurd (omega arith);
      }

pub where_a_block_stops :
    (t : Table) (s : State) (l : List ℕ)
    → (let v = block_on t s l in BlockAnswered t s l v.number v.index v.excess v.state)
unfolding block_on
where_a_block_stops t s [] = no_more t s [] (omega arith)
where_a_block_stops t s (a ∷ []) = no_more t s (a ∷ []) (omega arith)
where_a_block_stops t s (a ∷ b ∷ []) = no_more t s (a ∷ b ∷ []) (omega arith)
where_a_block_stops t s (a ∷ b ∷ c ∷ []) = no_more t s (a ∷ b ∷ c ∷ []) (omega arith)
where_a_block_stops t s (a ∷ b ∷ c ∷ d ∷ l) =
    let x = advanced_on t s a b c d in
    goes_on t s a b c d l x.number (advancing t x.state l) refl (where_a_block_stops t x.state l)

-- of a block in which there is a record: 4 where the table breaks a rule, with the first that it breaks
abbrev pub Ruled : Table → Verdict → Type 0
Ruled t v = (¬ Admitted t → v.number ≡ 4) × FirstOf (broken t) v.rule

ruled : (t : Table) (s : State) (l : List ℕ) → 4 ≤ length l → Ruled t (block_on t s l)
ruled t s l h =
    case (eqb (broken_rule t) 0)
    (λ e.
    let z = eqb-true (broken_rule t) 0 e in
    let rule = z ∙ ap (λ (v : Verdict). v.rule) (admitted t s l z) in
    (λ n. absurd (n (limits.admitted t z)), subst (FirstOf (broken t)) rule (limits.in_order t)))
    (λ e. subst (Ruled t) (not_admitted t s l (eqb-false (broken_rule t) 0 e) h) (λ _. refl, limits.in_order t))

-- ---- whatever the contract of `advanced_block` allows
module _
    (κs : Lfts 1) (given : Args advanced_block_call.signature κs) (v : Verdict) (at : AtExit advanced_block_call.ended κs)
    (call : advanced_block_reads.Post κs given v at) where
  abbrev pub state : State
  state = given.0

  abbrev pub table : Table
  table = given.1.0

  abbrev pub records : List ℕ
  records = given.1.1.0.now

  pub a_block_is_answered_as_its_records_one_by_one : outcome v ≡ advancing table state records
  a_block_is_answered_as_its_records_one_by_one = ap outcome call ∙ a_block_is_its_records_one_by_one table state records

  pub a_block_is_answered_in_the_document's_words : BlockAnswered table state records v.number v.index v.excess v.state
  a_block_is_answered_in_the_document's_words =
      subst (λ (w : Verdict). BlockAnswered table state records w.number w.index w.excess w.state) (sym call)
      (where_a_block_stops table state records)

  pub a_block_names_the_first_broken_rule : 4 ≤ length records → Ruled table v
  a_block_names_the_first_broken_rule h = subst (Ruled table) (sym call) (ruled table state records h)
