-- The second wording, Entries.antt, leaves one list: two lists of the entries of the same records are equal.
-- Assumes nothing.
use Rattle.std.proofs.Common.{◌≡◌, ℕ, zero, suc, ◌<◌, ◌≤◌, eqb, leb, ◌⊎◌, List, length, get_or, sym, ap, ◌∙◌, subst, inl, inr, ⊎_elim, arith, ext_get_or, ne_eqb, eqb-true, leb-false, leb-true}
use borrow.Author.Tests.{eqb-false}
use Rattle.checks.proofs.Tests.{case}
use Rattle.promises.specs.Verdicts.{at}
use Rattle.shift.specs.declared.State.{State}
use Rattle.shift.specs.Readings.{Reading}
use Rattle.shiftlist.specs.declared.Shift.{Shift}
use Rattle.shiftlist.specs.Shifts.{kind_of, end_of}
use Rattle.shiftlist.specs.Entries.{Asked, EntryOf, before, phase_after, Entry, Entries}
use Rattle.shiftlist.proofs.RequestLaws.{kind_of_a_request}

abbrev by_fields : ℕ → ℕ → ℕ → ℕ → ℕ → ℕ → ℕ → Shift
by_fields first last kind route end time age =
    record { first = first; last = last; kind = kind; route = route; end = end; request_time = time; age = age }

not_over_is_open : (p : ℕ) → ¬ ((p ≡ 22) ⊎ (p ≡ 23)) → end_of p ≡ 0
not_over_is_open p n = rw (ne_eqb p 22 (λ e. n (inl e)), ne_eqb p 23 (λ e. n (inr e)))

module _ (s : State) (rs : List Reading) where
  -- ---- two entries with the same first record are equal
  end_by_phase : (e : Shift) → Entry s rs e → e.end ≡ end_of (phase_after s rs e.last)
  end_by_phase e x =
      let p = phase_after s rs e.last in
      ⊎_elim
      (λ a. a.0 ∙ sym (ap end_of a.1))
      (⊎_elim (λ a. a.0 ∙ sym (ap end_of a.1)) (λ a. a.0 ∙ sym (not_over_is_open p a.1)))
      x.end

  not_sooner : (e f : Shift) → Entry s rs e → Entry s rs f → e.first ≡ f.first → ¬ (e.last < f.last)
  not_sooner e f x y first l =
      let still = y.open_till_then e.last (omega (arith, x.order, first)) l in
      ⊎_elim
      (λ a. still (inl a.1))
      (⊎_elim (λ a. still (inr a.1)) (λ a. omega (arith, a.2, y.within)))
      x.end

  module _ (e f : Shift) (x : Entry s rs e) (y : Entry s rs f) (first : e.first ≡ f.first) where
    same_last : e.last ≡ f.last
    same_last =
        let a = not_sooner e f x y first in
        let b = not_sooner f e y x (sym first) in
        omega arith

    same_kind : e.kind ≡ f.kind
    same_kind =
        sym (kind_of_a_request (at rs e.first) e.kind x.request)
        ∙ ap (λ j. kind_of (at rs j)) first
        ∙ kind_of_a_request (at rs f.first) f.kind y.request

    same_end : e.end ≡ f.end
    same_end = end_by_phase e x ∙ ap (λ j. end_of (phase_after s rs j)) same_last ∙ sym (end_by_phase f y)

    same_route : e.route ≡ f.route
    same_route =
        let over : Asked rs e.first e.last → Asked rs f.first f.last =
        λ a. subst (λ j. Asked rs j f.last) first (subst (Asked rs e.first) same_last a)
        in
        let back : Asked rs f.first f.last → Asked rs e.first e.last =
        λ a. subst (λ j. Asked rs j e.last) (sym first) (subst (Asked rs f.first) (sym same_last) a)
        in
        ⊎_elim
        (λ a. ⊎_elim (λ b. a.0 ∙ sym b.0) (λ b. absurd (b.1 (over a.1))) y.route)
        (λ a. ⊎_elim (λ b. absurd (a.1 (back b.1))) (λ b. a.0 ∙ sym b.0) y.route)
        x.route

    same_time : e.request_time ≡ f.request_time
    same_time = x.time ∙ ap (λ j. (before s rs j).clock) first ∙ sym y.time

    same_age : e.age ≡ f.age
    same_age =
        let sum = x.age ∙ ap (λ j. (before s rs (suc j)).clock) same_last ∙ sym y.age in
        let t = same_time in
        omega arith

    same_entry : e ≡ f
    same_entry =
        ap (λ n. by_fields n e.last e.kind e.route e.end e.request_time e.age) first
        ∙ ap (λ n. by_fields f.first n e.kind e.route e.end e.request_time e.age) same_last
        ∙ ap (λ n. by_fields f.first f.last n e.route e.end e.request_time e.age) same_kind
        ∙ ap (λ n. by_fields f.first f.last f.kind n e.end e.request_time e.age) same_route
        ∙ ap (λ n. by_fields f.first f.last f.kind f.route n e.request_time e.age) same_end
        ∙ ap (λ n. by_fields f.first f.last f.kind f.route f.end n e.age) same_time
        ∙ ap (by_fields f.first f.last f.kind f.route f.end f.request_time) same_age

  -- ---- two lists
  module _ (none : Shift) where
    no_later :
        (es : List Shift) → Entries s rs es none → (m n : ℕ) → m ≤ n → n < length es
        → (get_or es m none).first ≤ (get_or es n none).first
    no_later es x m n l h =
        case (eqb m n)
        (λ t. let e = ap (λ k. (get_or es k none).first) (eqb-true m n t) in omega arith)
        (λ t. let o = x.ordered m n (omega (arith, eqb-false m n t)) h in omega arith)

    -- the entry of the one list that has the first record of the other's entry i
    partner :
        (es fs : List Shift) → Entries s rs es none → Entries s rs fs none → (i : ℕ) → i < length es
        → EntryOf fs none (get_or es i none).first
    partner es fs x y i h = y.all (get_or es i none).first (get_or es i none).kind (x.each i h).request

    not_before :
        (es fs : List Shift) → Entries s rs es none → Entries s rs fs none → (i : ℕ) → i < length es → (n : ℕ) → n < length fs
        → (get_or fs n none).first ≡ (get_or es i none).first → i ≤ n
    not_before es fs x y zero h n l e = omega arith
    not_before es fs x y (suc i) h n l e =
        let p = partner es fs x y i (omega arith) in
        let q = not_before es fs x y i (omega arith) p.number p.inside p.there in
        let o = x.ordered i (suc i) (omega arith) h in
        case (leb n p.number)
        (λ t. let w = no_later fs y n p.number (leb-true n p.number t) p.inside in absurd (omega (arith, p.there)))
        (λ t. let w = leb-false n p.number t in omega arith)

    record There (es fs : List Shift) (i : ℕ) : Type 0 where
      inside : i < length fs
      first : (get_or fs i none).first ≡ (get_or es i none).first

    there : (es fs : List Shift) → Entries s rs es none → Entries s rs fs none → (i : ℕ) → i < length es → There es fs i
    there es fs x y i h =
        let p = partner es fs x y i h in
        let a = not_before es fs x y i h p.number p.inside p.there in
        let b = not_before fs es y x p.number p.inside i h (sym p.there) in
        let same : p.number ≡ i = omega arith in
        record {
          inside = omega (arith, p.inside);
          first = ap (λ k. (get_or fs k none).first) (sym same) ∙ p.there;
        }

    as_long : (es fs : List Shift) → Entries s rs es none → Entries s rs fs none → length es ≤ length fs
    as_long es fs x y =
        case (leb (length es) (length fs))
        (λ t. leb-true (length es) (length fs) t)
        (λ t. absurd (omega (arith, (there es fs x y (length fs) (leb-false (length es) (length fs) t)).inside)))

pub no_other_list :
    (s : State) (rs : List Reading) (es fs : List Shift) (none : Shift) → Entries s rs es none → Entries s rs fs none → es ≡ fs
no_other_list s rs es fs none x y =
    let a = as_long s rs none es fs x y in
    let b = as_long s rs none fs es y x in
    ext_get_or none es fs (omega arith)
    (λ i h.
    let t = there s rs none es fs x y i h in
    same_entry s rs (get_or es i none) (get_or fs i none) (x.each i h) (y.each i t.inside) (sym t.first))
