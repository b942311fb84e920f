-- What one step of the walk over the faces does to the tally, to the lengths and to the nodes of the faces of one length.
use Prim.Native.Nat.{ℕ, suc, ◌+◌, ◌*◌, ◌≤◌, ◌<◌}
use mathlib.Core.Path.{◌≡◌, refl, sym, ap}
use mathlib.Core.Logic.{◌⊎◌, inl, inr}
use mathlib.Core.List.{List, [], ◌∷◌, ◌++◌}
use mathlib.Core.Bool.{Bool, true, false, cond}
use native.Mathlib.Nat.{zero-mul, one-mul, add-mul, zero-add}
use native.Mathlib.Omega.{arith}
use lib.ListN.{length, take, length-append, length-take}
use lib.Dec.{eqb}
use mir.Val.{bool_byte}
use borrow.Author.Tests.{eqb-true, eq-eqb, ne_eqb}
use Rattle.faces.specs.Faces.{lead, full, faces, runs, onto}
use Rattle.std.specs.Prelude.{Option, Some, None}
use Rattle.base.specs.Kinds.{separator}
use Rattle.base.specs.Inner.Numbers.{some_unless_zero}
use Rattle.shapes.specs.Cells.{none}
use Rattle.recognise.specs.Recognise.{from_faces, mixed, nodes_in, other_length, regular, tally}

-- the nodes of the faces that have n are n for each
pub length_nodes : (n : ℕ) (fs : List (List ℕ)) → length (nodes_in n fs) ≡ tally n fs * n
unfolding nodes_in tally
length_nodes n [] = sym (zero-mul n)
length_nodes n (f ∷ fs) = go (eqb (length f) n) refl (length_nodes n fs)
  where
    go : (b : Bool) → eqb (length f) n ≡ b → length (nodes_in n fs) ≡ tally n fs * n
        → length (cond b f [] ++ nodes_in n fs) ≡ (cond b 1 0 + tally n fs) * n
    go true e p = rw (add-mul, one-mul, length-append, eqb-true (length f) n e, p)
    go false e p = rw (zero-add, p)

-- a face in front
module _ (n : ℕ) (all : List (List ℕ)) (f : List ℕ) (fs : List (List ℕ)) (e : all ≡ f ∷ fs) where
  pub tally_step : tally n all ≡ bool_byte (eqb (length f) n) + tally n fs
  unfolding tally
  tally_step = rw e (go (eqb (length f) n))
    where
      go : (b : Bool) → cond b 1 0 + tally n fs ≡ bool_byte b + tally n fs
      go true = refl
      go false = refl

  pub nodes_step : length f ≡ n → nodes_in n all ≡ f ++ nodes_in n fs
  unfolding nodes_in
  nodes_step h = rw (e, eq-eqb (length f) n h)

  pub nodes_pass : (length f ≡ n → ⊥) → nodes_in n all ≡ nodes_in n fs
  unfolding nodes_in
  nodes_pass h = rw (e, ne_eqb (length f) n h)

-- what is filled, and a face that there is room for
pub filled_room : (all rest out f : List ℕ) (i : ℕ) → take i out ++ (f ++ rest) ≡ all → i ≤ length out → length all ≡ length out
    → i + length f ≤ length out
filled_room all rest out f i e h l =
    let k : length (take i out ++ (f ++ rest)) ≡ length all = ap length e in
    omega (arith, simp (length-append, length-take) at k)

-- lengths other than a and b
module _ (a b : ℕ) (all : List (List ℕ)) (f : List ℕ) (fs : List (List ℕ)) (e : all ≡ f ∷ fs) where
  pub other_here : (length f ≡ a → ⊥) → (length f ≡ b → ⊥) → other_length a b all ≡ length f
  unfolding other_length
  other_here p q = rw (e, ne_eqb (length f) a p, ne_eqb (length f) b q)

  pub other_pass : ((length f ≡ a → ⊥) × (length f ≡ b)) ⊎ (length f ≡ a) → other_length a b all ≡ other_length a b fs
  unfolding other_length
  other_pass (inl p) = rw (e, ne_eqb (length f) a p.0, eq-eqb (length f) b p.1)
  other_pass (inr p) = rw (e, eq-eqb (length f) a p)

-- a face has a node
pub first-some : (r : List ℕ) (rs : List (List ℕ)) (f : List ℕ) (fs : List (List ℕ)) → lead r (full rs) ≡ f ∷ fs → 0 < length f
unfolding full
first-some (x ∷ r) rs f fs e = let q : x ∷ r ≡ f = cc in rw (← q) (omega arith)
first-some [] (r ∷ rs) f fs e = first-some r rs f fs e
first-some [] [] f fs e = absurd (cc)

pub face-some : (l f : List ℕ) (fs : List (List ℕ)) → faces l ≡ f ∷ fs → 0 < length f
unfolding faces
face-some l f fs e = first-some (runs l).first (runs l).rest f fs e

-- a list has no more faces than entries
lead_few : (r : List ℕ) (fs : List (List ℕ)) → length (lead r fs) ≤ length r + length fs
lead_few [] fs = omega arith
lead_few (x ∷ r) fs = omega arith

runs_few : (l : List ℕ) → length (runs l).first + length (full (runs l).rest) ≤ length l
unfolding runs full
runs_few [] = omega arith
runs_few (x ∷ l) = go (eqb x separator) (runs_few l)
  where
    go : (b : Bool) → length (runs l).first + length (full (runs l).rest) ≤ length l
        → length (onto b x (runs l)).first + length (full (onto b x (runs l)).rest) ≤ suc (length l)
    go true h = omega (arith, lead_few (runs l).first (full (runs l).rest))
    go false h = omega arith

faces-few : (l : List ℕ) → length (faces l) ≤ length l
unfolding faces
faces-few l = omega (arith, runs_few l, lead_few (runs l).first (full (runs l).rest))

pub tally_most : (n : ℕ) (fs : List (List ℕ)) → tally n fs ≤ length fs
unfolding tally
tally_most n [] = omega arith
tally_most n (f ∷ fs) = go (eqb (length f) n) (tally_most n fs)
  where
    go : (b : Bool) → tally n fs ≤ length fs → cond b 1 0 + tally n fs ≤ suc (length fs)
    go true h = omega arith
    go false h = omega arith

pub tally_few : (n : ℕ) (l : List ℕ) → tally n (faces l) ≤ length l
tally_few n l = omega (arith, tally_most n (faces l), faces-few l)

-- what an option says of the number that it stands for
pub zero-none : (n : ℕ) → ◌≡◌ {A = Option ℕ} None (some_unless_zero n) → n ≡ 0
zero-none n e = go (eqb n 0) refl e
  where
    go : (b : Bool) → eqb n 0 ≡ b → ◌≡◌ {A = Option ℕ} None (cond b None (Some n)) → n ≡ 0
    go true q e = eqb-true n 0 q
    go false q e = absurd (cc)

pub some-is : (n k : ℕ) → ◌≡◌ {A = Option ℕ} (Some k) (some_unless_zero n) → (n ≡ k) × (eqb n 0 ≡ false)
some-is n k e = go (eqb n 0) refl e
  where
    go : (b : Bool) → eqb n 0 ≡ b → ◌≡◌ {A = Option ℕ} (Some k) (cond b None (Some n)) → (n ≡ k) × (eqb n 0 ≡ false)
    go true q e = absurd (cc)
    go false q e = (cc, q)

-- the cell that the lengths of the faces lead to
module _ (fs : List (List ℕ)) where
  pub no_faces : other_length 0 0 fs ≡ 0 → none 8 ≡ from_faces fs
  unfolding from_faces
  no_faces e = rw e refl

  module _ (a : ℕ) (first : (other_length 0 0 fs ≡ a) × (eqb (other_length 0 0 fs) 0 ≡ false)) where
    pub one_length : other_length a a fs ≡ 0 → regular fs ≡ from_faces fs
    unfolding from_faces
    one_length e = rw (first.1, first.0, e) refl

    module _ (b : ℕ) (second : (other_length a a fs ≡ b) × (eqb (other_length a a fs) 0 ≡ false)) where
      pub two_lengths : other_length a b fs ≡ 0 → mixed fs ≡ from_faces fs
      unfolding from_faces
      two_lengths e = rw (first.1, first.0, second.1, second.0, e) refl

      pub three_lengths : (c : ℕ) → (other_length a b fs ≡ c) × (eqb (other_length a b fs) 0 ≡ false) → none 10 ≡ from_faces fs
      unfolding from_faces
      three_lengths c third = rw (first.1, first.0, second.1, second.0, third.1) refl
