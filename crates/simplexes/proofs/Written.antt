-- Which cut a kind has, and that gathering by its rows writes its simplexes.
use borrow.Author.Tests.{ne_eqb}
use mathlib.Core.Path.{◌≡◌, refl}
use mathlib.Core.Logic.{◌⊎◌, inl, inr}
use mathlib.Core.List.{List, []}
use Prim.Native.Nat.{ℕ}
use lib.Dec.{eqb}
use lib.ListN.{length}
use Rattle.std.specs.Prelude.{Result}
use Rattle.base.specs.Kinds.{nodes_of}
use Rattle.base.specs.Inner.Numbers.{answer_of, number_of}
use Rattle.base.specs.Gather.{pick, corners, undigit}
use Rattle.base.specs.Outcome.{Permits, settle}
use Rattle.base.specs.declared.kinds.Kind.{Kind}
use Rattle.base.specs.declared.kinds.Kind.TheVariants.{
  Vertex,
  Seg2,
  Seg3,
  Seg4,
  Tri3,
  Tri6,
  Tri7,
  Quad4,
  Quad8,
  Quad9,
  Tet4,
  Tet10,
  Wedge6,
  Wedge15,
  Hex8,
  Hex21,
  Pline,
  Pgon,
  Phed,
}
use Rattle.base.specs.declared.refusals.Given.{Given}
use Rattle.base.specs.declared.refusals.Refusal.{Refusal}
use Rattle.cuts.specs.Smallest.{smallest_pos, first_diagonal}
use Rattle.cuts.specs.Rows.{vertex_rows, seg_rows, tri_rows, quad_rows, tet_rows}
use Rattle.cuts.specs.Split.{Cut, by, cut, split, split_count, split_kind, simplexes, wedge_cut, hex_cut}
use Rattle.simplexes.specs.Inner.Written.{CutInto, SplitInto}

-- cells of this kind are cut by c into simplexes of the kind `simplex`, 0 where there is no rule
pub record IsCut (kind : ℕ) (ids : List ℕ) (simplex : ℕ) (c : Cut) : Type 0 where
  pub gives : split_kind kind ≡ simplex
  pub cuts : cut kind ids ≡ c

-- a cut that is given, or finds no room, is the split of a cell that is cut so
pub cut_splits : (kind : ℕ) (ids : List ℕ) (simplex : ℕ) (c : Cut) → IsCut kind ids simplex c → (simplex ≡ 0 → ⊥)
    → (out : List ℕ) (result : Result Given Refusal) (lent : List ℕ) → CutInto simplex c out result lent
    → SplitInto kind ids out result lent
unfolding split split_count
cut_splits kind ids simplex c is some out result lent p = rw (is.gives, is.cuts, ne_eqb simplex 0 some) p

-- so is a row of corners that is gathered
pub row_splits : (kind : ℕ) (ids : List ℕ) (simplex : ℕ) (rows : List ℕ) → IsCut kind ids simplex (by ids rows) → (simplex ≡ 0 → ⊥)
    → (row : List ℕ) → undigit row ≡ corners (nodes_of simplex) rows → (count : ℕ) → length rows ≡ count
    → (out : List ℕ) (result : Result Given Refusal) (lent : List ℕ)
    → Permits (settle 0 simplex count (pick ids (undigit row)) out) (answer_of result) lent → SplitInto kind ids out result lent
unfolding simplexes
row_splits kind ids simplex rows is some row e count k out result lent p =
    cut_splits kind ids simplex (by ids rows) is some out result lent (rw (e, ← k) at p)

-- which cut each family of kinds has
module _ (kind : Kind) (ids : List ℕ) where
  pub vertex_is : kind ≡ Vertex → IsCut (number_of kind) ids 1 (by ids vertex_rows)
  unfolding cut split_kind
  vertex_is e = rw e (record { gives = refl; cuts = refl })

  pub seg_is : (kind ≡ Seg2) ⊎ ((kind ≡ Seg3) ⊎ (kind ≡ Seg4)) → IsCut (number_of kind) ids 2 (by ids (seg_rows (eqb (smallest_pos ids) 0)))
  unfolding cut split_kind
  seg_is (inl e) = rw e (record { gives = refl; cuts = refl })
  seg_is (inr (inl e)) = rw e (record { gives = refl; cuts = refl })
  seg_is (inr (inr e)) = rw e (record { gives = refl; cuts = refl })

  pub tri_is : (kind ≡ Tri3) ⊎ ((kind ≡ Tri6) ⊎ (kind ≡ Tri7)) → IsCut (number_of kind) ids 5 (by ids tri_rows)
  unfolding cut split_kind
  tri_is (inl e) = rw e (record { gives = refl; cuts = refl })
  tri_is (inr (inl e)) = rw e (record { gives = refl; cuts = refl })
  tri_is (inr (inr e)) = rw e (record { gives = refl; cuts = refl })

  pub quad_is : (kind ≡ Quad4) ⊎ ((kind ≡ Quad8) ⊎ (kind ≡ Quad9)) → IsCut (number_of kind) ids 5 (by ids (quad_rows (first_diagonal ids)))
  unfolding cut split_kind
  quad_is (inl e) = rw e (record { gives = refl; cuts = refl })
  quad_is (inr (inl e)) = rw e (record { gives = refl; cuts = refl })
  quad_is (inr (inr e)) = rw e (record { gives = refl; cuts = refl })

  pub tet_is : (kind ≡ Tet4) ⊎ (kind ≡ Tet10) → IsCut (number_of kind) ids 11 (by ids tet_rows)
  unfolding cut split_kind
  tet_is (inl e) = rw e (record { gives = refl; cuts = refl })
  tet_is (inr e) = rw e (record { gives = refl; cuts = refl })

  pub wedge_is : (kind ≡ Wedge6) ⊎ (kind ≡ Wedge15) → IsCut (number_of kind) ids 11 (wedge_cut ids)
  unfolding cut split_kind
  wedge_is (inl e) = rw e (record { gives = refl; cuts = refl })
  wedge_is (inr e) = rw e (record { gives = refl; cuts = refl })

  pub hex_is : (kind ≡ Hex8) ⊎ (kind ≡ Hex21) → IsCut (number_of kind) ids 11 (hex_cut ids)
  unfolding cut split_kind
  hex_is (inl e) = rw e (record { gives = refl; cuts = refl })
  hex_is (inr e) = rw e (record { gives = refl; cuts = refl })

  pub poly_is : (kind ≡ Pline) ⊎ ((kind ≡ Pgon) ⊎ (kind ≡ Phed)) → IsCut (number_of kind) ids 0 (by ids [])
  unfolding cut split_kind
  poly_is (inl e) = rw e (record { gives = refl; cuts = refl })
  poly_is (inr (inl e)) = rw e (record { gives = refl; cuts = refl })
  poly_is (inr (inr e)) = rw e (record { gives = refl; cuts = refl })
