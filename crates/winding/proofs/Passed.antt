-- What holds of an input that `reorient` does not refuse, and how long its answer is.
use Rattle.std.proofs.Common.{◌≡◌, ℕ, Bool, true, false, cond, ◌||◌, eqb, List, length, sym, refl, ne_eqb, eqb-true}
use mathlib.Core.Bool.{false≢true}
use lib.Ieee.{Float, lt}
use borrow.Author.Tests.{eqb-false}
use Rattle.base.specs.Kinds.{separator}
use Rattle.base.specs.Checks.{element_refusal, strays}
use Rattle.base.proofs.Accepted.{element_accepted}
use Rattle.base.proofs.Tests.{and-true}
use Rattle.faces.specs.Faces.{faces, joined}
use Rattle.winding.specs.Points.{point_count, lacks_point}
use Rattle.winding.specs.Inner.Scan.{Placed}
use Rattle.winding.specs.Plane.{zero64, signed_area2, wound_in_plane}
use Rattle.winding.specs.Reference.{reference_of}
use Rattle.winding.specs.Space.{looks_in, outward, wound_in_space}
use Rattle.winding.specs.Reorient.{turns_in_plane, turns_in_space, reoriented}
use Rattle.winding.proofs.Turned.{length-turned}
use Rattle.winding.proofs.Points.{placed_all}
use Rattle.winding.proofs.Joined.{joined_length}

-- refusal 19 of an id without a point is not given: none lacks one
pub none_lacks : (lacks : Bool) → ◌≡◌ {A = ℕ} (cond lacks 19 0) 0 → lacks ≡ false
none_lacks true h = absurd (eqb-false 19 0 refl h)
none_lacks false h = refl

no_polyhedron : (kind : ℕ) → ((eqb kind 5 || eqb kind 8) || eqb kind 18) ≡ true → kind ≡ 19 → ⊥
no_polyhedron kind h e = false≢true (rw e at h)

-- a cycle in the plane: each entry has a point
pub placed_cycle : (kind : ℕ) (ids : List ℕ) (dimension n : ℕ) → element_refusal kind ids ≡ 0 → turns_in_plane kind dimension ≡ true
    → ◌≡◌ {A = ℕ} (cond (lacks_point (point_count dimension n) ids) 19 0) 0 → Placed (point_count 2 n) ids
unfolding turns_in_plane strays
placed_cycle kind ids dimension n r t l =
    let b = and-true (eqb dimension 2) ((eqb kind 5 || eqb kind 8) || eqb kind 18) t in
    let d : dimension ≡ 2 = eqb-true dimension 2 b.0 in
    placed_all (point_count 2 n) ids (rw d at (none_lacks _ l))
    (simp (ne_eqb kind 19 (no_polyhedron kind b.1)) at (element_accepted kind ids r).clean)

module _ (kind : ℕ) (ids : List ℕ) (dimension : ℕ) (points : List Float) where
  in_plane : turns_in_space kind dimension ≡ false → turns_in_plane kind dimension ≡ true
      → reoriented kind ids dimension points ≡ wound_in_plane points ids
  unfolding reoriented
  in_plane s t = simp (s, t)

  -- what is wound in the plane is not wound in space
  pub wound_plane : turns_in_plane kind dimension ≡ true → wound_in_plane points ids ≡ reoriented kind ids dimension points
  unfolding turns_in_plane turns_in_space
  wound_plane t = sym (in_plane (go (eqb dimension 2) (eqb kind 19) refl) t)
    where
      go : (a b : Bool) → eqb dimension 2 ≡ a → turns_in_space kind dimension ≡ false
      go true b e = rw (eqb-true dimension 2 e) refl
      go false b e = absurd (false≢true (rw e at t))

-- ---- lengths

pub length_in_plane : (points : List Float) (ids : List ℕ) → length (wound_in_plane points ids) ≡ length ids
unfolding wound_in_plane
length_in_plane points ids = length-turned (lt (signed_area2 points ids) zero64) ids

pub length_in_space : (points : List Float) (ids : List ℕ) → length (wound_in_space points ids) ≡ length (joined separator (faces ids))
unfolding wound_in_space
length_in_space points ids =
    let reference = reference_of points ids in
    joined_length (outward points reference) (λ face. length-turned (looks_in points reference face) face) (faces ids)
