-- Laws of the numbers of kinds and refusals.
use Rattle.std.proofs.Common.{◌≡◌, ◌<◌, ◌≤◌, ℕ, true, false, refl, arith, lit<}
use mathlib.Core.Bool.{Bool, ◌&&◌}
use mathlib.Core.List.{◌∷◌}
use lib.Dec.{leb}
use lib.ListN.{get_or, get_or-eq_default, length}
use borrow.Author.Tests.{leb-false}
use Rattle.base.specs.Kinds.{is_kind, node_counts, nodes_of}
use Rattle.base.specs.Inner.Numbers.{number_of, refusal_number}
use Rattle.base.specs.declared.kinds.Kind.{Kind}
use Rattle.base.specs.declared.kinds.Kind.TheVariants.{Vertex, Seg2, Seg3, Seg4, Tri3, Tri6, Tri7, Quad4, Quad8, Quad9, Tet4, Tet10, Wedge6, Wedge15, Hex8, Hex21, Pline, Pgon, Phed}
use Rattle.base.specs.declared.refusals.Refusal.{Refusal}
use Rattle.base.specs.declared.refusals.Refusal.TheVariants.{UnknownKind, TooManyEntries, WrongNodeCount, StraySeparator, NoSuchCodimension, NoRule, ShortOutput, NoFace, NoSuchPoly, ThreeFaceLengths, NoWedgeFaces, NoQuadAtEdge, NotInSecondTriangle, OpenSurface, NoSuchSurface, NoOppositeFace, NoSideFace, NoPoint, WrongPoints, BadRecord}

-- each kind is one by its number
pub kind_is_kind : (kind : Kind) → is_kind (number_of kind) ≡ true
kind_is_kind Vertex = refl
kind_is_kind Seg2 = refl
kind_is_kind Seg3 = refl
kind_is_kind Seg4 = refl
kind_is_kind Tri3 = refl
kind_is_kind Tri6 = refl
kind_is_kind Tri7 = refl
kind_is_kind Quad4 = refl
kind_is_kind Quad8 = refl
kind_is_kind Quad9 = refl
kind_is_kind Tet4 = refl
kind_is_kind Tet10 = refl
kind_is_kind Wedge6 = refl
kind_is_kind Wedge15 = refl
kind_is_kind Hex8 = refl
kind_is_kind Hex21 = refl
kind_is_kind Pline = refl
kind_is_kind Pgon = refl
kind_is_kind Phed = refl

-- 0 stands for no refusal
pub refusal_positive : (refusal : Refusal) → 0 < refusal_number refusal
refusal_positive UnknownKind = lit< tt
refusal_positive TooManyEntries = lit< tt
refusal_positive WrongNodeCount = lit< tt
refusal_positive StraySeparator = lit< tt
refusal_positive NoSuchCodimension = lit< tt
refusal_positive NoRule = lit< tt
refusal_positive ShortOutput = lit< tt
refusal_positive NoFace = lit< tt
refusal_positive NoSuchPoly = lit< tt
refusal_positive ThreeFaceLengths = lit< tt
refusal_positive NoWedgeFaces = lit< tt
refusal_positive NoQuadAtEdge = lit< tt
refusal_positive NotInSecondTriangle = lit< tt
refusal_positive OpenSurface = lit< tt
refusal_positive NoSuchSurface = lit< tt
refusal_positive NoOppositeFace = lit< tt
refusal_positive NoSideFace = lit< tt
refusal_positive NoPoint = lit< tt
refusal_positive WrongPoints = lit< tt
refusal_positive BadRecord = lit< tt

-- a number that is no kind fixes no node count
pub no_kind_no_nodes : (number : ℕ) → is_kind number ≡ false → nodes_of number ≡ 0
unfolding nodes_of
no_kind_no_nodes number h = go (leb 1 number) refl h
  where
    go : (low : Bool) → leb 1 number ≡ low → (low && leb number 19) ≡ false → get_or (0 ∷ node_counts) number 0 ≡ 0
    go true e p =
        let past : length (0 ∷ node_counts) ≤ number = omega (arith, leb-false number 19 p) in
        get_or-eq_default (0 ∷ node_counts) 0 past
    go false e p =
        let none : number ≡ 0 = omega (arith, leb-false 1 number e) in
        rw none
