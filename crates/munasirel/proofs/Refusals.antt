-- What a host calls is refused by the first number whose condition holds, in the words of each crate's specs/Refusals.antt, and a refused
-- call keeps the count and every byte that it was lent.
-- Assumes nothing.
use mathlib.Core.Path.{◌≡◌, refl, sym, subst}
use Prim.Native.Nat.{◌≤◌}
use Rattle.checks.specs.Conditions.{FirstOf}
use Rattle.limits.specs.Refusals.{by_old_default, by_new_default, by_house, Admitted, broken}
use Rattle.limits.proofs.Refusals.{all_three_are_admitted, in_order, at_most_16}
use Rattle.line.specs.Refusals.{LineAnswers}
use Rattle.line.proofs.Refusals.{line_answers}
use Rattle.shiftlist.specs.Refusals.{BuildAnswers, FetchAnswers}
use Rattle.shiftlist.proofs.Refusals.{build_answers, fetch_answers}
use Rattle.shiftlist_extend.specs.Refusals.{ExtendAnswers}
use Rattle.shiftlist_extend.proofs.Refusals.{extend_answers}
use Rattle.stepfile.specs.Refusals.{WriteAnswers}
use Rattle.stepfile.proofs.WriteRefusals.{write_answers}
use Rattle.transfer.specs.Refusals.{JoinAnswers}
use Rattle.transfer.proofs.Refusals.{join_answers}
use Rattle.verdict.specs.declared.Verdict.{Verdict}
use Rattle.verdict.specs.Verdicts.{verdict_of}
use Rattle.verdict.specs.Said.{line_for}
use Rattle.verdict.specs.Refusals.{JudgeAnswers}
use Rattle.verdict.proofs.Refusals.{judge_answers}
use Rattle.munasirel.specs.Calls.{wish_of}
use Rattle.munasirel.proofs.munasirel_judge.Reads as judge_reads
use Rattle.munasirel.proofs.munasirel_verdict.Reads as verdict_reads
use Rattle.munasirel.proofs.munasirel_admit.Reads as admit_reads
use Rattle.munasirel.proofs.munasirel_old_default.Reads as old_default_reads
use Rattle.munasirel.proofs.munasirel_new_default.Reads as new_default_reads
use Rattle.munasirel.proofs.munasirel_house.Reads as house_reads
use Rattle.munasirel.proofs.munasirel_line.Reads as line_reads_lem
use Rattle.munasirel.proofs.munasirel_join.Reads as join_reads
use Rattle.munasirel.proofs.munasirel_write.Reads as write_reads
use Rattle.munasirel.proofs.munasirel_list.Reads as list_reads
use Rattle.munasirel.proofs.munasirel_fetch.Reads as fetch_reads
use Rattle.munasirel.proofs.munasirel_extend.Reads as extend_reads

-- the number of a verdict
pub munasirel_judge :
    (κs : _) (a : _) (r : _) (at : _) → judge_reads.Post κs a r at
    → (v : Verdict) × (r ≡ v.number) × JudgeAnswers a.0.now v
munasirel_judge κs a r at p = (verdict_of a.0.now, p, judge_answers a.0.now)

-- the whole verdict
pub munasirel_verdict : (κs : _) (a : _) (r : _) (at : _) → verdict_reads.Post κs a r at → JudgeAnswers a.0.now r
munasirel_verdict κs a r at p = subst (JudgeAnswers a.0.now) (sym p) (judge_answers a.0.now)

-- both defaults and the house's table by name, and they are admitted
pub munasirel_old_default : (κs : _) (a : _) (r : _) (at : _) → old_default_reads.Post κs a r at → (r ≡ by_old_default) × Admitted r
munasirel_old_default κs a r at p = rw p (refl, all_three_are_admitted.0)

pub munasirel_new_default : (κs : _) (a : _) (r : _) (at : _) → new_default_reads.Post κs a r at → (r ≡ by_new_default) × Admitted r
munasirel_new_default κs a r at p = rw p (refl, all_three_are_admitted.1)

pub munasirel_house : (κs : _) (a : _) (r : _) (at : _) → house_reads.Post κs a r at → (r ≡ by_house) × Admitted r
munasirel_house κs a r at p = rw p (refl, all_three_are_admitted.2)

pub munasirel_admit :
    (κs : _) (a : _) (r : _) (at : _) → admit_reads.Post κs a r at → FirstOf (broken a.0) r × (r ≤ 16)
munasirel_admit κs a r at p = rw p (in_order a.0, at_most_16 a.0)

-- the number, the length and the buffer
pub munasirel_line :
    (κs : _) (a : _) (r : _) (at : _) → line_reads_lem.Post κs a r at
    → LineAnswers (line_for a.0.now) a.1.0.now r at.1.1.0.now at.1.0.now
munasirel_line κs a r at p = rw (p.0, p.1, p.2) (line_answers (line_for a.0.now) a.1.0.now)

-- the number, the count and the buffer
pub munasirel_join :
    (κs : _) (a : _) (r : _) (at : _) → join_reads.Post κs a r at
    → JoinAnswers a.0.now a.1.0.now a.1.1.0 a.1.1.1.0.now r at.1.0.now at.0.now
munasirel_join κs a r at p =
    rw (p.0, p.1, p.2) (join_answers a.0.now a.1.0.now a.1.1.0 a.1.1.1.0.now)

-- the number, the rule, the index, the length and the buffer
pub munasirel_write :
    (κs : _) (a : _) (r : _) (at : _) → write_reads.Post κs a r at
    → let given = a.1.1 in
    let lent = at.1.1.1.1 in
    WriteAnswers (wish_of a.1.0 a.0) given.0.now given.1.0.now given.1.1.0.now r
    lent.1.1.1.0.now
    lent.1.1.0.now
    lent.1.0.now
    lent.0.now
munasirel_write κs a r at p =
    let given = a.1.1 in
    rw (p.0, p.1, p.2, p.3, p.4)
    (write_answers (wish_of a.1.0 a.0) given.0.now given.1.0.now given.1.1.0.now)

-- the answer and the buffer
pub munasirel_list :
    (κs : _) (a : _) (r : _) (at : _) → list_reads.Post κs a r at → BuildAnswers a.0.now a.1.0.now r at.1.0.now
munasirel_list κs a r at p = rw (p.0, p.1) (build_answers a.0.now a.1.0.now)

-- the number and the entry
pub munasirel_fetch :
    (κs : _) (a : _) (r : _) (at : _) → fetch_reads.Post κs a r at → FetchAnswers a.0.now a.1.0 r.number r.shift
munasirel_fetch κs a r at p = rw p (fetch_answers a.0.now a.1.0)

-- the answer and the list
pub munasirel_extend :
    (κs : _) (a : _) (r : _) (at : _) → extend_reads.Post κs a r at
    → let given = a.1.1 in
    ExtendAnswers a.0.now a.1.0 given.0 given.1.0 given.1.1.0 given.1.1.1.0.now r at.0.now
munasirel_extend κs a r at p =
    let given = a.1.1 in
    rw (p.0, p.1) (extend_answers a.0.now a.1.0 given.0 given.1.0 given.1.1.0 given.1.1.1.0.now)
