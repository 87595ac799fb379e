-- Any two outcomes that a public contract of this crate allows are equal, in the result and in all that is lent.
-- Assumes nothing.
use mathlib.Core.Path.{◌≡◌, refl, sym, ◌∙◌}
use mathlib.Core.List.{List}
use Prim.Native.Nat.{ℕ}
use seplogic.Ra.Ura.{Ura}
use base.Logic.{SProp}
use prog.Memory.{Memory}
use prog.Routine.{Routine}
use types.Logic.{Logic}
use contract.Lifetimes.{Lfts}
use contract.Monad.{Fun, fact}
use denote.Triple.Entry.{Args, Res}
use denote.Triple.Clauses.{AtExit}
use Rattle.checks.specs.Determined.{Determined, DeterminedLent}
use Rattle.shift.specs.declared.State.{State}
use Rattle.shift.specs.declared.Answer.{Answer}
use Rattle.verdict.specs.declared.Verdict.{Verdict}
use Rattle.gateway.specs.Advancing.{advanced_on, block_on}
use Rattle.munasirel.specs.contracts.munasirel_advance as advance
use Rattle.munasirel.specs.contracts.munasirel_advance_block as advance_block
use Rattle.munasirel.proofs.munasirel_judge.Reads as judge_reads
use Rattle.munasirel.proofs.munasirel_verdict.Reads as verdict_reads
use Rattle.munasirel.proofs.munasirel_admit.Reads as admit_reads
use Rattle.munasirel.proofs.munasirel_tighter.Reads as tighter_reads
use Rattle.munasirel.proofs.munasirel_old_default.Reads as old_default_reads
use Rattle.munasirel.proofs.munasirel_new_default.Reads as new_default_reads
use Rattle.munasirel.proofs.munasirel_house.Reads as house_reads
use Rattle.munasirel.proofs.munasirel_table.Reads as table_reads
use Rattle.munasirel.proofs.munasirel_line.Reads as line_reads_lem
use Rattle.munasirel.proofs.munasirel_join.Reads as join_reads
use Rattle.munasirel.proofs.munasirel_write.Reads as write_reads
use Rattle.munasirel.proofs.munasirel_list.Reads as list_reads
use Rattle.munasirel.proofs.munasirel_fetch.Reads as fetch_reads
use Rattle.munasirel.proofs.munasirel_extend.Reads as extend_reads

pub munasirel_judge : Determined judge_reads.Post
munasirel_judge κs a x y at at' p q = p ∙ sym q

pub munasirel_verdict : Determined verdict_reads.Post
munasirel_verdict κs a x y at at' p q = p ∙ sym q

pub munasirel_admit : Determined admit_reads.Post
munasirel_admit κs a x y at at' p q = p ∙ sym q

pub munasirel_tighter : Determined tighter_reads.Post
munasirel_tighter κs a x y at at' p q = p ∙ sym q

pub munasirel_old_default : Determined old_default_reads.Post
munasirel_old_default κs a x y at at' p q = p ∙ sym q

pub munasirel_new_default : Determined new_default_reads.Post
munasirel_new_default κs a x y at at' p q = p ∙ sym q

pub munasirel_house : Determined house_reads.Post
munasirel_house κs a x y at at' p q = p ∙ sym q

pub munasirel_table : Determined table_reads.Post
munasirel_table κs a x y at at' p q = p ∙ sym q

pub munasirel_fetch : Determined fetch_reads.Post
munasirel_fetch κs a x y at at' p q = p ∙ sym q

-- the buffer
pub munasirel_list : DeterminedLent (λ κs at. at.1.0.now) list_reads.Post
munasirel_list κs a x y at at' p q = (p.0 ∙ sym q.0, p.1 ∙ sym q.1)

pub munasirel_extend : DeterminedLent (λ κs at. at.0.now) extend_reads.Post
munasirel_extend κs a x y at at' p q = (p.0 ∙ sym q.0, p.1 ∙ sym q.1)

-- two lent things that are equal one by one are equal together
both : {B C : Type 0} {b b' : B} {c c' : C} → b ≡ b' → c ≡ c' → ◌≡◌ {A = B × C} (b, c) (b', c')
both p q = rw (p, q)

-- the buffer and the length
pub munasirel_line : DeterminedLent {L = List ℕ × ℕ} (λ κs at. (at.1.0.now, at.1.1.0.now)) line_reads_lem.Post
munasirel_line κs a x y at at' p q = (p.0 ∙ sym q.0, both (p.2 ∙ sym q.2) (p.1 ∙ sym q.1))

-- the buffer and the count
pub munasirel_join : DeterminedLent {L = List ℕ × ℕ} (λ κs at. (at.0.now, at.1.0.now)) join_reads.Post
munasirel_join κs a x y at at' p q = (p.0 ∙ sym q.0, both (p.2 ∙ sym q.2) (p.1 ∙ sym q.1))

-- the buffer, the length, the index and the rule
pub munasirel_write :
    DeterminedLent {L = List ℕ × (ℕ × (ℕ × ℕ))}
    (λ κs at.
    let lent = at.1.1.1.1 in
    (lent.0.now, (lent.1.0.now, (lent.1.1.0.now, lent.1.1.1.0.now))))
    write_reads.Post
munasirel_write κs a x y at at' p q = (
  p.0 ∙ sym q.0,
  both (p.4 ∙ sym q.4) (both (p.1 ∙ sym q.1) (both (p.2 ∙ sym q.2) (p.3 ∙ sym q.3))),
)

-- ---- of `munasirel_advance` and `munasirel_advance_block` the clause as a plain claim, and that in every model the contract has this
-- claim
abbrev answered : (κs : Lfts 2) → Args advance.signature κs → Answer
answered κs a = advanced_on a.1.0 a.0.now a.1.1.0 a.1.1.1.0 a.1.1.1.1.0 a.1.1.1.1.1.0

abbrev pub Advanced : (κs : Lfts 2) → Args advance.signature κs → Res advance.signature κs → AtExit advance.ended κs → Type 0
Advanced κs a r at =
    (r ≡ (answered κs a).number) × (at.0.now ≡ (answered κs a).state) × (at.1.1.1.1.1.1.0.now ≡ (answered κs a).excess)

pub claimed :
    {M : Type 1} {𝓤 : Ura M} (𝓛 : Logic 𝓤) (mem : Memory → SProp 𝓤) (run : Routine → Fun 𝓤) (κs : Lfts 2)
    (a : Args advance.signature κs) (r : Res advance.signature κs) (at : AtExit advance.ended κs)
    → (advance.clauses 𝓛 mem run κs a).ensures tt r at ≡ fact 𝓤 (Advanced κs a r at)
claimed 𝓛 mem run κs a r at = refl

-- the state and the excess
pub munasirel_advance : DeterminedLent {L = State × ℕ} (λ κs at. (at.0.now, at.1.1.1.1.1.1.0.now)) Advanced
munasirel_advance κs a x y at at' p q = (p.0 ∙ sym q.0, both (p.1 ∙ sym q.1) (p.2 ∙ sym q.2))

abbrev judged : (κs : Lfts 4) → Args advance_block.signature κs → Verdict
judged κs a = block_on a.1.0 a.0.now a.1.1.0.now

abbrev pub AdvancedBlock :
    (κs : Lfts 4) → Args advance_block.signature κs → Res advance_block.signature κs → AtExit advance_block.ended κs → Type 0
AdvancedBlock κs a r at =
    (r ≡ (judged κs a).number)
    × (at.0.now ≡ (judged κs a).state)
    × (at.1.1.1.0.now ≡ (judged κs a).index)
    × (at.1.1.1.1.0.now ≡ (judged κs a).excess)

pub claimed_block :
    {M : Type 1} {𝓤 : Ura M} (𝓛 : Logic 𝓤) (mem : Memory → SProp 𝓤) (run : Routine → Fun 𝓤) (κs : Lfts 4)
    (a : Args advance_block.signature κs) (r : Res advance_block.signature κs) (at : AtExit advance_block.ended κs)
    → (advance_block.clauses 𝓛 mem run κs a).ensures tt r at ≡ fact 𝓤 (AdvancedBlock κs a r at)
claimed_block 𝓛 mem run κs a r at = refl

-- the state, the count and the excess
pub munasirel_advance_block :
    DeterminedLent {L = State × (ℕ × ℕ)} (λ κs at. (at.0.now, (at.1.1.1.0.now, at.1.1.1.1.0.now))) AdvancedBlock
munasirel_advance_block κs a x y at at' p q =
    (p.0 ∙ sym q.0, both (p.1 ∙ sym q.1) (both (p.2 ∙ sym q.2) (p.3 ∙ sym q.3)))
