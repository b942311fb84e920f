-- The brick's split as one table (document 02, No. 6): sixty-four rows, place of the smallest by case of the diagonals,
-- each of up to six tetrahedra in the corner numbers that the brick came with.
use Rattle.std.specs.Prelude.{ℕ, ◌+◌, ◌*◌, min, ◌≡◌, Bool, true, false, cond, ◌&&◌, ◌||◌, List, [], ◌∷◌, eqb, length, get_or}
use Rattle.base.specs.Gather.{corners}
use Rattle.cuts.specs.Smallest.{smallest_pos}
use Rattle.cuts.specs.Split.{Cut, by, hex_case, hex_cut, renumbered, simplexes}
use Rattle.cuts.specs.Triangle.{Tri, tri, count, flip, tet_tris}
use Rattle.cuts.specs.Demand3.{hex_faces}

-- eight rows a place, in the order of the cases; 0000 fills the rows of five
abbrev pub hex_table : List (List ℕ)
hex_table =
    (0564 ∷ 0126 ∷ 0165 ∷ 0674 ∷ 0237 ∷ 0276 ∷ [])
    ∷ (0564 ∷ 0126 ∷ 0165 ∷ 0674 ∷ 0637 ∷ 0236 ∷ [])
    ∷ (0564 ∷ 0125 ∷ 0526 ∷ 0674 ∷ 0237 ∷ 0276 ∷ [])
    ∷ (0564 ∷ 0125 ∷ 0526 ∷ 0674 ∷ 0637 ∷ 0236 ∷ [])
    ∷ (0574 ∷ 0165 ∷ 0675 ∷ 0126 ∷ 0723 ∷ 0762 ∷ [])
    ∷ (0574 ∷ 0165 ∷ 0675 ∷ 0126 ∷ 0637 ∷ 0236 ∷ [])
    ∷ (0574 ∷ 0125 ∷ 2675 ∷ 0237 ∷ 0527 ∷ 0000 ∷ [])
    ∷ (0574 ∷ 0567 ∷ 0637 ∷ 0125 ∷ 0652 ∷ 0362 ∷ [])
    ∷ (1675 ∷ 1237 ∷ 1276 ∷ 1745 ∷ 1304 ∷ 1347 ∷ [])
    ∷ (1675 ∷ 1237 ∷ 1276 ∷ 1745 ∷ 1704 ∷ 1307 ∷ [])
    ∷ (1675 ∷ 1236 ∷ 1637 ∷ 1745 ∷ 1304 ∷ 1347 ∷ [])
    ∷ (1675 ∷ 1236 ∷ 1637 ∷ 1745 ∷ 1704 ∷ 1307 ∷ [])
    ∷ (1645 ∷ 1276 ∷ 1746 ∷ 1237 ∷ 1430 ∷ 1473 ∷ [])
    ∷ (1645 ∷ 1276 ∷ 1746 ∷ 1237 ∷ 1704 ∷ 1307 ∷ [])
    ∷ (1645 ∷ 1236 ∷ 3746 ∷ 1304 ∷ 1634 ∷ 0000 ∷ [])
    ∷ (1645 ∷ 1674 ∷ 1704 ∷ 1236 ∷ 1763 ∷ 1073 ∷ [])
    ∷ (2746 ∷ 2304 ∷ 2347 ∷ 2456 ∷ 2015 ∷ 2054 ∷ [])
    ∷ (2746 ∷ 2304 ∷ 2347 ∷ 2456 ∷ 2415 ∷ 2014 ∷ [])
    ∷ (2746 ∷ 2307 ∷ 2704 ∷ 2456 ∷ 2015 ∷ 2054 ∷ [])
    ∷ (2746 ∷ 2307 ∷ 2704 ∷ 2456 ∷ 2415 ∷ 2014 ∷ [])
    ∷ (2756 ∷ 2347 ∷ 2457 ∷ 2304 ∷ 2501 ∷ 2540 ∷ [])
    ∷ (2756 ∷ 2347 ∷ 2457 ∷ 2304 ∷ 2415 ∷ 2014 ∷ [])
    ∷ (2756 ∷ 2307 ∷ 0457 ∷ 2015 ∷ 2705 ∷ 0000 ∷ [])
    ∷ (2756 ∷ 2745 ∷ 2415 ∷ 2307 ∷ 2470 ∷ 2140 ∷ [])
    ∷ (3457 ∷ 3015 ∷ 3054 ∷ 3567 ∷ 3126 ∷ 3165 ∷ [])
    ∷ (3457 ∷ 3015 ∷ 3054 ∷ 3567 ∷ 3526 ∷ 3125 ∷ [])
    ∷ (3457 ∷ 3014 ∷ 3415 ∷ 3567 ∷ 3126 ∷ 3165 ∷ [])
    ∷ (3457 ∷ 3014 ∷ 3415 ∷ 3567 ∷ 3526 ∷ 3125 ∷ [])
    ∷ (3467 ∷ 3054 ∷ 3564 ∷ 3015 ∷ 3612 ∷ 3651 ∷ [])
    ∷ (3467 ∷ 3054 ∷ 3564 ∷ 3015 ∷ 3526 ∷ 3125 ∷ [])
    ∷ (3467 ∷ 3014 ∷ 1564 ∷ 3126 ∷ 3416 ∷ 0000 ∷ [])
    ∷ (3467 ∷ 3456 ∷ 3526 ∷ 3014 ∷ 3541 ∷ 3251 ∷ [])
    ∷ (4320 ∷ 4762 ∷ 4723 ∷ 4210 ∷ 4651 ∷ 4612 ∷ [])
    ∷ (4320 ∷ 4762 ∷ 4723 ∷ 4210 ∷ 4251 ∷ 4652 ∷ [])
    ∷ (4320 ∷ 4763 ∷ 4362 ∷ 4210 ∷ 4651 ∷ 4612 ∷ [])
    ∷ (4320 ∷ 4763 ∷ 4362 ∷ 4210 ∷ 4251 ∷ 4652 ∷ [])
    ∷ (4310 ∷ 4723 ∷ 4213 ∷ 4762 ∷ 4165 ∷ 4126 ∷ [])
    ∷ (4310 ∷ 4723 ∷ 4213 ∷ 4762 ∷ 4251 ∷ 4652 ∷ [])
    ∷ (4310 ∷ 4763 ∷ 6213 ∷ 4651 ∷ 4361 ∷ 0000 ∷ [])
    ∷ (4310 ∷ 4321 ∷ 4251 ∷ 4763 ∷ 4236 ∷ 4526 ∷ [])
    ∷ (5031 ∷ 5473 ∷ 5430 ∷ 5321 ∷ 5762 ∷ 5723 ∷ [])
    ∷ (5031 ∷ 5473 ∷ 5430 ∷ 5321 ∷ 5362 ∷ 5763 ∷ [])
    ∷ (5031 ∷ 5470 ∷ 5073 ∷ 5321 ∷ 5762 ∷ 5723 ∷ [])
    ∷ (5031 ∷ 5470 ∷ 5073 ∷ 5321 ∷ 5362 ∷ 5763 ∷ [])
    ∷ (5021 ∷ 5430 ∷ 5320 ∷ 5473 ∷ 5276 ∷ 5237 ∷ [])
    ∷ (5021 ∷ 5430 ∷ 5320 ∷ 5473 ∷ 5362 ∷ 5763 ∷ [])
    ∷ (5021 ∷ 5470 ∷ 7320 ∷ 5762 ∷ 5072 ∷ 0000 ∷ [])
    ∷ (5021 ∷ 5032 ∷ 5362 ∷ 5470 ∷ 5307 ∷ 5637 ∷ [])
    ∷ (6102 ∷ 6540 ∷ 6501 ∷ 6032 ∷ 6473 ∷ 6430 ∷ [])
    ∷ (6102 ∷ 6540 ∷ 6501 ∷ 6032 ∷ 6073 ∷ 6470 ∷ [])
    ∷ (6102 ∷ 6541 ∷ 6140 ∷ 6032 ∷ 6473 ∷ 6430 ∷ [])
    ∷ (6102 ∷ 6541 ∷ 6140 ∷ 6032 ∷ 6073 ∷ 6470 ∷ [])
    ∷ (6132 ∷ 6501 ∷ 6031 ∷ 6540 ∷ 6347 ∷ 6304 ∷ [])
    ∷ (6132 ∷ 6501 ∷ 6031 ∷ 6540 ∷ 6073 ∷ 6470 ∷ [])
    ∷ (6132 ∷ 6541 ∷ 4031 ∷ 6473 ∷ 6143 ∷ 0000 ∷ [])
    ∷ (6132 ∷ 6103 ∷ 6073 ∷ 6541 ∷ 6014 ∷ 6704 ∷ [])
    ∷ (7213 ∷ 7651 ∷ 7612 ∷ 7103 ∷ 7540 ∷ 7501 ∷ [])
    ∷ (7213 ∷ 7651 ∷ 7612 ∷ 7103 ∷ 7140 ∷ 7541 ∷ [])
    ∷ (7213 ∷ 7652 ∷ 7251 ∷ 7103 ∷ 7540 ∷ 7501 ∷ [])
    ∷ (7213 ∷ 7652 ∷ 7251 ∷ 7103 ∷ 7140 ∷ 7541 ∷ [])
    ∷ (7203 ∷ 7612 ∷ 7102 ∷ 7651 ∷ 7054 ∷ 7015 ∷ [])
    ∷ (7203 ∷ 7612 ∷ 7102 ∷ 7651 ∷ 7140 ∷ 7541 ∷ [])
    ∷ (7203 ∷ 7652 ∷ 5102 ∷ 7540 ∷ 7250 ∷ 0000 ∷ [])
    ∷ (7203 ∷ 7210 ∷ 7140 ∷ 7652 ∷ 7125 ∷ 7415 ∷ [])
    ∷ []

-- the tetrahedra of a row, up to the filler
abbrev pub used : List ℕ → List ℕ
used [] = []
used (row ∷ rows) = cond (eqb row 0000) [] (row ∷ used rows)

-- the place of a brick's row; a smallest past the corners counts as at the last
unfoldable pub hex_place : List ℕ → ℕ
hex_place ids = min (smallest_pos ids) 7 * 8 + hex_case (renumbered ids)

-- the brick cut by the table: no renumbering, one row
abbrev pub table_cut : List ℕ → Cut
table_cut ids = by ids (used (get_or hex_table (hex_place ids) []))

-- a corner is one of a face's
abbrev pub among : ℕ → List ℕ → Bool
among corner [] = false
among corner (x ∷ face) = eqb corner x || among corner face

-- a triangle of corners lies in one of the faces
abbrev pub in_face : List (List ℕ) → Tri → Bool
in_face [] t = false
in_face (face ∷ faces) (tri a b c) = (among a face && (among b face && among c face)) || in_face faces (tri a b c)

-- each of the triangles lies in a face of the brick, or is there once in either winding
abbrev pub each_cancels : List Tri → List Tri → Bool
each_cancels ts [] = true
each_cancels ts (t ∷ more) = (in_face hex_faces t || (eqb (count t ts) 1 && eqb (count (flip t) ts) 1)) && each_cancels ts more

-- in each row the inner triangles cancel
abbrev pub inner_cancel : List (List ℕ) → Bool
inner_cancel [] = true
inner_cancel (row ∷ rows) =
    (let ts = tet_tris (corners 4 (used row)) in each_cancels ts ts) && inner_cancel rows

pub record OneTable : Type 0 where
  -- the same tetrahedra in the same order as the two steps give, for every list of ids
  pub same : (ids : List ℕ) → simplexes 4 (table_cut ids) ≡ simplexes 4 (hex_cut ids)
  pub as_many : (ids : List ℕ) → length (table_cut ids).rows ≡ length (hex_cut ids).rows
  -- one rule over the whole table
  pub cancels : inner_cancel hex_table ≡ true
