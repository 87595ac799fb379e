-- Lists worked out by hand: of K1, one shift that is done; of K6, one that is open behind an ask clutch; of a clutch that would not close,
-- one in error.
-- Assumes nothing.
use Rattle.std.proofs.Common.{◌≡◌, [], ◌∷◌, refl}
use Rattle.stepfile.specs.Files.{table_in}
use Rattle.verdict.proofs.KnownFiles.{k1, k6, would_not_close}
use Rattle.shiftlist.specs.Lists.{list_of, shifts_of}

-- from its request, record 0 at clock 0, to the take that enters 22, record 10 at 410
pub k1_is_listed : list_of (shifts_of k1) ≡ 1 ∷ 0 ∷ 0 ∷ 0 ∷ 8 ∷ 0 ∷ 0 ∷ 0 ∷ 0 ∷ 0 ∷ 10 ∷ 0 ∷ 1 ∷ 0 ∷ 1 ∷ 0 ∷ 0 ∷ 0 ∷ 0 ∷ 0 ∷ 154 ∷ 1 ∷ 0 ∷ 0 ∷ []
unfolding table_in
k1_is_listed = refl

-- to the last record, 4, the ask clutch at 151
pub k6_is_listed : list_of (shifts_of k6) ≡ 1 ∷ 0 ∷ 0 ∷ 0 ∷ 8 ∷ 0 ∷ 0 ∷ 0 ∷ 0 ∷ 0 ∷ 4 ∷ 0 ∷ 1 ∷ 1 ∷ 0 ∷ 0 ∷ 0 ∷ 0 ∷ 0 ∷ 0 ∷ 151 ∷ 0 ∷ 0 ∷ 0 ∷ []
unfolding table_in
k6_is_listed = refl

-- to the error that is raised, record 13 at 151
pub would_not_close_is_listed :
    list_of (shifts_of would_not_close) ≡ 1 ∷ 0 ∷ 0 ∷ 0 ∷ 8 ∷ 0 ∷ 0 ∷ 0 ∷ 0 ∷ 0 ∷ 13 ∷ 0 ∷ 1 ∷ 1 ∷ 2 ∷ 0 ∷ 0 ∷ 0 ∷ 0 ∷ 0 ∷ 151 ∷ 0 ∷ 0 ∷ 0 ∷ []
unfolding table_in
would_not_close_is_listed = refl
