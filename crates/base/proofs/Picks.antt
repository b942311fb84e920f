-- Laws of ids picked by a row of corners.
use mathlib.Core.Path.{◌≡◌, refl, ◌∙◌}
use Prim.Native.Nat.{ℕ, zero, suc, ◌-◌, ◌<◌}
use native.Mathlib.Nat.{le_of_suc-le-suc, not-suc-le-zero}
use mathlib.Core.List.{List, [], ◌∷◌, ◌++◌}
use lib.ListN.{length, get_or, length-map}
use Rattle.base.specs.Gather.{pick, undigit}
use Rattle.base.specs.Kinds.{separator}

pub length-pick : (ids row : List ℕ) → length (pick ids row) ≡ length row
unfolding pick
length-pick ids row = length-map row (λ corner. get_or ids corner separator)

pub pick_at : (ids row : List ℕ) (i : ℕ) → i < length row
    → get_or (pick ids row) i 0 ≡ get_or ids (get_or row i 0) separator
unfolding pick
pick_at ids [] i h = absurd (not-suc-le-zero h)
pick_at ids (c ∷ row) zero h = refl
pick_at ids (c ∷ row) (suc i) h = pick_at ids row i (le_of_suc-le-suc h)

-- the same for a row of digits
pub length-undigit : (ids row : List ℕ) → length (pick ids (undigit row)) ≡ length row
length-undigit ids row = length-pick ids (undigit row) ∙ length-map row (λ digit. digit - 48)

pub undigit_at : (ids row : List ℕ) (i : ℕ) → i < length row
    → get_or (pick ids (undigit row)) i 0 ≡ get_or ids (get_or row i 0 - 48) separator
unfolding pick
undigit_at ids [] i h = absurd (not-suc-le-zero h)
undigit_at ids (d ∷ row) zero h = refl
undigit_at ids (d ∷ row) (suc i) h = undigit_at ids row i (le_of_suc-le-suc h)

pub pick-append : (ids row more : List ℕ) → pick ids (row ++ more) ≡ pick ids row ++ pick ids more
unfolding pick
pick-append ids [] more = refl
pick-append ids (c ∷ row) more = rw (pick-append ids row more)

-- an id within the list does not depend on what stands for those past its end
pub within_default : (ids : List ℕ) (i d e : ℕ) → i < length ids → get_or ids i d ≡ get_or ids i e
within_default [] i d e h = absurd (not-suc-le-zero h)
within_default (x ∷ ids) zero d e h = refl
within_default (x ∷ ids) (suc i) d e h = within_default ids i d e (le_of_suc-le-suc h)
