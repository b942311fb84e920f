-- The faces over which demand 3 is stated are the sub-entities of codimension 1, in their order and winding.
use mathlib.Core.Path.{◌≡◌, refl}
use Rattle.base.specs.Kinds.{nodes_of}
use Rattle.parts.specs.Tables.{parts_of, table_of}
use Rattle.parts.specs.Poly.{rows_of}
use Rattle.cuts.specs.Demand3.{faces_of}

pub tet-faces-agree : faces_of 11 ≡ rows_of (parts_of 11 1)
unfolding table_of nodes_of
tet-faces-agree = refl

pub wedge-faces-agree : faces_of 13 ≡ rows_of (parts_of 13 1)
unfolding table_of nodes_of
wedge-faces-agree = refl

pub hex_faces-agree : faces_of 15 ≡ rows_of (parts_of 15 1)
unfolding table_of nodes_of
hex_faces-agree = refl
