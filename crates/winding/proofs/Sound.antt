-- A cycle in the plane that nothing refuses: its length fits, the points are pairs of numbers, and every id has one.
use Rattle.std.proofs.Common.{◌≡◌, ℕ, suc, ◌/◌, ◌%◌, ◌<◌, ◌≤◌, Bool, true, false, ◌&&◌, ◌||◌, eqb, List, [], ◌∷◌, length, refl, arith, le-ltb, ne_eqb, eqb-true}
use mathlib.Core.Bool.{false≢true}
use borrow.Author.Tests.{lt-leb}
use Rattle.base.specs.Kinds.{separator, element_limit, is_kind}
use Rattle.base.specs.Checks.{element_fits, element_refusal, holds_separator, input_refusal, strays}
use Rattle.base.proofs.Tests.{and-true}
use Rattle.winding.specs.Points.{lacks_point, point_count, points_fit}
use Rattle.winding.specs.Inner.Scan.{Placed}
use Rattle.winding.specs.Reorient.{has_no_rule, reorient_refusal, turns_in_plane, turns_in_space, wants_point}

-- what has a point is no separator
clean : (count : ℕ) (ids : List ℕ) → count ≤ separator → Placed count ids → holds_separator ids ≡ false
unfolding holds_separator
clean count [] h p = refl
clean count (x ∷ xs) h p =
    let l : x < count = p 0 (omega arith) in
    simp (ne_eqb x separator (λ e. omega (arith, e))) (clean count xs h (λ k i. p (suc k) (omega (arith, i))))

-- and lacks none
has_points : (count : ℕ) (ids : List ℕ) → count ≤ separator → Placed count ids → lacks_point count ids ≡ false
unfolding lacks_point
has_points count [] h p = refl
has_points count (x ∷ xs) h p =
    let l : x < count = p 0 (omega arith) in
    simp (ne_eqb x separator (λ e. omega (arith, e)), lt-leb count x l) (has_points count xs h (λ k i. p (suc k) (omega (arith, i))))

and-false : (a : Bool) → (a && false) ≡ false
and-false true = refl
and-false false = refl

module _ (ids : List ℕ) (n : ℕ) (even : n % 2 ≡ 0) (few : length ids ≤ element_limit) (small : n / 2 ≤ separator) (p : Placed (n / 2) ids) where
  -- a kind other than PHED
  none : (kind : ℕ) → is_kind kind ≡ true → eqb kind 19 ≡ false → element_fits kind (length ids) ≡ true → reorient_refusal kind ids 2 n ≡ 0
  unfolding reorient_refusal element_refusal input_refusal strays points_fit has_no_rule wants_point
  none kind known other f =
      simp (
        known,
        le-ltb element_limit (length ids) few,
        f,
        other,
        clean (n / 2) ids small p,
        even,
        has_points (n / 2) ids small p,
        and-false (turns_in_plane kind 2 || turns_in_space kind 2),
      )

  -- one of the three that are wound in the plane
  of_three : (kind : ℕ) → (eqb kind 5 || eqb kind 8 || eqb kind 18) ≡ true → element_fits kind (length ids) ≡ true → reorient_refusal kind ids 2 n ≡ 0
  of_three kind k f = go (eqb kind 5) (eqb kind 8) (eqb kind 18) refl refl refl k
    where
      go : (x y z : Bool) → eqb kind 5 ≡ x → eqb kind 8 ≡ y → eqb kind 18 ≡ z → (x || y || z) ≡ true → reorient_refusal kind ids 2 n ≡ 0
      go true y z a b c h = let e = eqb-true kind 5 a in rw e (none 5 refl refl (rw e at f))
      go false true z a b c h = let e = eqb-true kind 8 b in rw e (none 8 refl refl (rw e at f))
      go false false true a b c h = let e = eqb-true kind 18 c in rw e (none 18 refl refl (rw e at f))
      go false false false a b c h = absurd (false≢true h)

pub sound : (kind : ℕ) (ids : List ℕ) (dimension n : ℕ) → turns_in_plane kind dimension ≡ true → points_fit dimension n ≡ true
    → length ids ≤ element_limit → n ≤ separator → element_fits kind (length ids) ≡ true → Placed (point_count dimension n) ids
    → reorient_refusal kind ids dimension n ≡ 0
unfolding turns_in_plane points_fit
sound kind ids dimension n t even few small f p =
    let b = and-true (eqb dimension 2) (eqb kind 5 || eqb kind 8 || eqb kind 18) t in
    let two = eqb-true dimension 2 b.0 in
    let half : n / 2 ≤ separator = omega (arith, small) in
    rw two (of_three ids n (eqb-true (n % 2) 0 (rw two at even)) few half (rw two at p) kind b.1 f)
