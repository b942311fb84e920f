-- What the searches of a brick and of a wedge lead to.
use Prim.Native.Nat.{ℕ, zero, suc, ◌+◌, ◌<◌}
use mathlib.Core.Path.{◌≡◌, refl}
use mathlib.Core.List.{List, [], ◌∷◌}
use mathlib.Core.Bool.{Bool, true, false, ◌||◌}
use native.Mathlib.Omega.{arith}
use lib.ListN.{get_or}
use borrow.Author.Tests.{eq-eqb, ne_eqb}
use Rattle.std.specs.Prelude.{Option, Some, None}
use Rattle.std.specs.Option.{unwrap_or}
use Rattle.shapes.specs.Brick.{Sides, side_at, sides, opposite, lacks_one, brick, brick_nodes}
use Rattle.shapes.specs.Cells.{cell, none}
use Rattle.shapes.specs.Seek.{corner, nth}
use Rattle.shapes.specs.Wedge.{after, place_in_second, runs_in, wedge, wedge_nodes}
use Rattle.shapes.specs.Inner.Made.{SomeBelow, Near, sides_of}

-- corner 4 is corner 0 again, so a search for a place that finds none may stand at the first
pub corner_or : (quads : List ℕ) (k p : ℕ) (r : Option ℕ) → SomeBelow 4 p r
    → corner quads k (unwrap_or r 0 + 1) ≡ corner quads k (p + 1)
    × (corner quads k (unwrap_or r 0 + 3) ≡ corner quads k (p + 3))
corner_or quads k p None e = rw e (refl, refl)
corner_or quads k p (Some i) e = rw (e.0) (refl, refl)

-- and edge 4 has the side face of edge 0
pub side_or : (l : List ℕ) (j : ℕ) (r : Option ℕ) → SomeBelow 4 j r → get_or l (unwrap_or r 0) 0 ≡ side_at (sides_of l) j
side_or l j None e = rw e refl
side_or l j (Some i) e = rw (e.0) (go i e.1)
  where
    go : (i : ℕ) → i < 4 → get_or l i 0 ≡ side_at (sides_of l) i
    go zero h = refl
    go (suc zero) h = refl
    go (suc (suc zero)) h = refl
    go (suc (suc (suc zero))) h = refl
    go (suc (suc (suc (suc i)))) h = absurd (omega arith)

or-true : (a : Bool) → (a || true) ≡ true
or-true true = refl
or-true false = refl

module _ (s : Sides) where
  pub lacks_first : s.first ≡ 6 → lacks_one s ≡ true
  lacks_first e = rw (eq-eqb s.first 6 e) refl

  pub lacks_second : s.second ≡ 6 → lacks_one s ≡ true
  lacks_second e = simp (eq-eqb s.second 6 e, or-true)

  pub lacks_third : s.third ≡ 6 → lacks_one s ≡ true
  lacks_third e = simp (eq-eqb s.third 6 e, or-true)

  pub lacks_fourth : s.fourth ≡ 6 → lacks_one s ≡ true
  lacks_fourth e = simp (eq-eqb s.fourth 6 e, or-true)

  pub lacks-none : s.first < 6 → s.second < 6 → s.third < 6 → s.fourth < 6 → lacks_one s ≡ false
  lacks-none a b c d =
      rw (
        ne_eqb s.first 6 (λ e. omega arith),
        ne_eqb s.second 6 (λ e. omega arith),
        ne_eqb s.third 6 (λ e. omega arith),
        ne_eqb s.fourth 6 (λ e. omega arith),
      )

-- four faces are each within
pub near : (a b c d : ℕ) → a < 6 → b < 6 → c < 6 → d < 6 → Near (a ∷ b ∷ c ∷ d ∷ [])
near a b c d p q r s zero h = p
near a b c d p q r s (suc zero) h = q
near a b c d p q r s (suc (suc zero)) h = r
near a b c d p q r s (suc (suc (suc zero))) h = s
near a b c d p q r s (suc (suc (suc (suc j)))) h = absurd (omega arith)

-- the three ways in which a brick is found
module _ (quads : List ℕ) where
  pub no_opposite : opposite quads ≡ 6 → none 17 ≡ brick quads
  unfolding brick
  no_opposite e = rw e refl

  module _ (o : ℕ) (is : opposite quads ≡ o) (face : o < 6) where
    pub no_side : lacks_one (sides quads o) ≡ true → none 18 ≡ brick quads
    unfolding brick
    no_side l = rw (is, ne_eqb o 6 (λ q. omega arith), l) refl

    pub with_sides : (s : Sides) → lacks_one (sides quads o) ≡ false → s ≡ sides quads o → cell 15 (brick_nodes quads s) ≡ brick quads
    unfolding brick
    with_sides s l e = rw (e, is, ne_eqb o 6 (λ q. omega arith), l) refl

-- and in which a wedge is, where v and w begin the first triangle the other way round
module _ (tris quads : List ℕ) (v w : ℕ) (first : v ≡ nth tris 1) (second : w ≡ nth tris 0) where
  pub no_quad : runs_in quads v w ≡ 3 → none 12 ≡ wedge tris quads
  unfolding wedge
  no_quad e = rw (← first, ← second, e) refl

  module _ (x : ℕ) (found : runs_in quads v w < 3) (next : x ≡ after quads (runs_in quads v w) v w) where
    pub not_in_second : place_in_second tris x ≡ 3 → none 13 ≡ wedge tris quads
    unfolding wedge
    not_in_second e = rw (← first, ← second, ne_eqb (runs_in quads v w) 3 (λ q. omega arith), ← next, e) refl

    pub with_second : (m : ℕ) → place_in_second tris x ≡ m → m < 3 → cell 13 (wedge_nodes tris m) ≡ wedge tris quads
    unfolding wedge
    with_second m e h =
        rw (← first, ← second, ne_eqb (runs_in quads v w) 3 (λ q. omega arith), ← next, e, ne_eqb m 3 (λ q. omega arith)) refl
