-- The claims on winding, of the answers themselves.
use Rattle.std.proofs.Common.{◌≡◌, ℕ, ◌+◌, Bool, true, false, cond, T, eqb, List, [], ◌∷◌, ◌++◌, map, reverse, refl, ap, ◌∙◌, arith, ne_eqb, eqb-true}
use mathlib.Core.Bool.{false≢true}
use mathlib.Core.List.{reverse-cons, reverse-reverse}
use lib.Ieee.{Float, lt}
use Rattle.base.specs.Kinds.{separator}
use Rattle.faces.specs.Faces.{onto, runs, lead, full, faces, joined, further}
use Rattle.winding.specs.Turn.{turned}
use Rattle.winding.specs.Plane.{zero64, signed_area2, wound_in_plane}
use Rattle.winding.specs.Reference.{reference_of}
use Rattle.winding.specs.Space.{looks_in, outward, wound_in_space}
use Rattle.winding.specs.Reorient.{turns_in_plane, turns_in_space, reoriented}
use Rattle.winding.specs.Claims.{ReversedExactly, ReversedTwice, times, SameIds}
use Rattle.winding.proofs.Grid.{area_exact}

truth : (b : Bool) → b ≡ true → T b
truth true h = tt
truth false h = absurd (false≢true h)

pub reversed_exactly : ReversedExactly
unfolding wound_in_plane
reversed_exactly points ids l g = ap (λ (b : Bool). turned b ids) (area_exact points ids l (truth _ g))

pub reversed_twice : ReversedTwice
reversed_twice list = reverse-reverse list

-- ---- how often an id stands in parts of a list

module _ (id : ℕ) where
  times-append : (a b : List ℕ) → times id (a ++ b) ≡ times id a + times id b
  unfolding times
  times-append [] b = omega arith
  times-append (x ∷ a) b = omega (arith, times-append a b)

  times-reverse : (l : List ℕ) → times id (reverse l) ≡ times id l
  unfolding times
  times-reverse [] = refl
  times-reverse (x ∷ l) = rw (reverse-cons, times-append) (omega (arith, times-reverse l))

  times-turned : (b : Bool) (l : List ℕ) → times id (turned b l) ≡ times id l
  times-turned true l = times-reverse l
  times-turned false l = refl

  -- how often in all of the faces
  abbrev total : List (List ℕ) → ℕ
  total [] = 0
  total (f ∷ fs) = times id f + total fs

  total-map : (g : List ℕ → List ℕ) → ((f : List ℕ) → times id (g f) ≡ times id f) → (fs : List (List ℕ)) → total (map g fs) ≡ total fs
  total-map g h [] = refl
  total-map g h (f ∷ fs) = omega (arith, h f, total-map g h fs)

  total-lead : (f : List ℕ) (fs : List (List ℕ)) → total (lead f fs) ≡ times id f + total fs
  unfolding times
  total-lead [] fs = omega arith
  total-lead (x ∷ f) fs = refl

  module _ (apart : id ≡ separator → ⊥) where
    total-further : (fs : List (List ℕ)) → times id (further separator fs) ≡ total fs
    unfolding further times
    total-further [] = refl
    total-further (f ∷ fs) = simp (ne_eqb id separator apart) (omega (arith, times-append f (further separator fs), total-further fs))

    total-joined : (fs : List (List ℕ)) → times id (joined separator fs) ≡ total fs
    unfolding joined times
    total-joined [] = refl
    total-joined (f ∷ fs) = rw times-append (omega (arith, total-further fs))

    total_runs : (l : List ℕ) → times id (runs l).first + total (full (runs l).rest) ≡ times id l
    unfolding runs full times
    total_runs [] = refl
    total_runs (x ∷ l) = go (eqb x separator) refl (total_runs l)
      where
        go : (b : Bool) → eqb x separator ≡ b → times id (runs l).first + total (full (runs l).rest) ≡ times id l
            → times id (onto b x (runs l)).first + total (full (onto b x (runs l)).rest) ≡ cond (eqb id x) 1 0 + times id l
        go true e p =
            let n : eqb id x ≡ false = ne_eqb id x (λ s. apart (s ∙ eqb-true x separator e)) in
            simp n (omega (arith, total-lead (runs l).first (full (runs l).rest)))
        go false e p = omega arith

    total-faces : (l : List ℕ) → total (faces l) ≡ times id l
    unfolding faces
    total-faces l = total-lead (runs l).first (full (runs l).rest) ∙ total_runs l

    same_in_space : (points : List Float) (ids : List ℕ) → times id (wound_in_space points ids) ≡ times id ids
    unfolding wound_in_space
    same_in_space points ids =
        let reference = reference_of points ids in
        let turn = outward points reference in
        total-joined (map turn (faces ids))
        ∙ total-map turn (λ f. times-turned (looks_in points reference f) f) (faces ids)
        ∙ total-faces ids

same_in_plane : (id : ℕ) (points : List Float) (ids : List ℕ) → times id (wound_in_plane points ids) ≡ times id ids
unfolding wound_in_plane
same_in_plane id points ids = times-turned id (lt (signed_area2 points ids) zero64) ids

pub same_ids : SameIds
unfolding reoriented
same_ids kind ids dimension points id apart = go (turns_in_space kind dimension) (turns_in_plane kind dimension)
  where
    go : (s p : Bool) → times id (cond s (wound_in_space points ids) (cond p (wound_in_plane points ids) ids)) ≡ times id ids
    go true p = same_in_space id apart points ids
    go false true = same_in_plane id points ids
    go false false = refl
