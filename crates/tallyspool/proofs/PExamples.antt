-- The examples that document 01 wants proved: what is asked, what is answered, and one theorem for all of them.
use Prim.Native.Nat.{ℕ}
use mathlib.Core.Path.{◌≡◌, refl}
use mathlib.Core.List.{List, [], ◌∷◌, map}
use lib.ListN.{replicate}
use Rattle.base.specs.Kinds.{separator, nodes_of}
use Rattle.base.specs.Checks.{element_refusal, input_refusal, element_fits, strays, holds_separator}
use Rattle.base.specs.Gather.{pick, digits, corners}
use Rattle.base.specs.Outcome.{Outcome, decide, settle, settle_one, overwrite, given, refused}
use Rattle.base.specs.declared.refusals.Answer.{Answer}
use Rattle.faces.specs.Edges.{along, count, edges, twice}
use Rattle.faces.specs.Faces.{faces, full, further, joined, runs}
use Rattle.parts.specs.Poly.{poly_ids, poly_kind}
use Rattle.parts.specs.Tables.{table_of}
use Rattle.recognise.specs.FromPoly.{from_poly, plain_kind, recognised}
use Rattle.recognise.specs.Recognise.{from_faces, mixed, nodes_in, other_length, regular, tally}
use Rattle.shapes.specs.Brick.{above, brick, has_edge, home, opposite, place, side, sides, top, touches}
use Rattle.shapes.specs.Seek.{seek}
use Rattle.shapes.specs.Tet.{fourth}
use Rattle.shapes.specs.Wedge.{place_in_second, runs_at, runs_in, wedge}
use Rattle.cuts.specs.Split.{cut, simplexes, split, split_count, split_kind, split_refusal, to_simplexes}

-- a cell split; a PHED of these faces recognised; a cell taken to its poly form and recognised again
pub data Asked : Type 0 where
  splitting : ℕ → List ℕ → Asked
  recognising : List (List ℕ) → Asked
  there_and_back : ℕ → List ℕ → Asked

-- 24 entries of 99 are lent
abbrev lent : List ℕ
lent = replicate 24 99

abbrev outcome_of : Asked → Outcome Answer (List ℕ)
outcome_of (splitting kind ids) = to_simplexes kind ids lent
outcome_of (recognising fs) = from_poly 19 (joined separator fs) lent
outcome_of (there_and_back kind ids) = from_poly (poly_kind kind) (poly_ids kind ids) lent

pub record Example : Type 0 where
  pub asked : Asked
  pub outcome : Outcome Answer (List ℕ)

-- simplexes or a cell, of this kind and so many, over the front of what is lent
abbrev gives : Asked → ℕ → ℕ → List ℕ → Example
gives asked kind count ids = record { asked = asked; outcome = record { answer = given kind count; lent = overwrite ids lent } }

-- what is lent stays
abbrev refuses : Asked → ℕ → Example
refuses asked why = record { asked = asked; outcome = record { answer = refused why; lent = lent } }

abbrev tri : ℕ → List ℕ
tri nodes = digits 3 nodes

abbrev quad : ℕ → List ℕ
quad nodes = digits 4 nodes

abbrev pub examples : List Example
examples =
    gives (splitting 15 (digits 8 01234567)) 11 6 (corners 4 (0564 ∷ 0126 ∷ 0165 ∷ 0674 ∷ 0237 ∷ 0276 ∷ []))
    ∷ gives (splitting 15 (digits 8 04256173)) 11 5 (corners 4 (0136 ∷ 0421 ∷ 2731 ∷ 0253 ∷ 0123 ∷ []))
    ∷ gives (splitting 13 (digits 6 012345)) 11 3 (corners 4 (0453 ∷ 0154 ∷ 0512 ∷ []))
    ∷ gives (splitting 13 (10 ∷ 8 ∷ 7 ∷ 9 ∷ 11 ∷ 12 ∷ [])) 11 3 (7 ∷ 9 ∷ 11 ∷ 12 ∷ 7 ∷ 11 ∷ 9 ∷ 8 ∷ 7 ∷ 8 ∷ 9 ∷ 10 ∷ [])
    ∷ gives (splitting 8 (digits 4 5398)) 5 2 (corners 3 (538 ∷ 983 ∷ []))
    ∷ gives (splitting 8 (digits 4 3598)) 5 2 (corners 3 (398 ∷ 359 ∷ []))
    ∷ gives (there_and_back 11 (digits 4 0123)) 11 4 (digits 4 0132)
    ∷ gives (there_and_back 15 (digits 8 01234567)) 15 8 (digits 8 03214765)
    ∷ gives (there_and_back 13 (digits 6 012345)) 13 6 (digits 6 012345)
    ∷ gives (recognising (tri 123 ∷ tri 123 ∷ tri 456 ∷ tri 456 ∷ [])) 11 4 (digits 4 1234)
    ∷ refuses
    (recognising (quad 1234 ∷ quad 1234 ∷ quad 1567 ∷ quad 1567 ∷ (1 ∷ 8 ∷ 9 ∷ 10 ∷ []) ∷ (1 ∷ 8 ∷ 9 ∷ 10 ∷ []) ∷ []))
    17
    ∷ refuses (recognising (quad 1122 ∷ quad 1133 ∷ quad 2244 ∷ quad 3344 ∷ quad 5678 ∷ quad 5678 ∷ [])) 18
    ∷ []

abbrev answered : Example → Example
answered e = record { asked = e.asked; outcome = outcome_of e.asked }

pub examples_hold : map answered examples ≡ examples
unfolding to_simplexes split_refusal split_kind split_count split simplexes cut from_poly recognised plain_kind poly_ids poly_kind table_of settle settle_one decide overwrite pick element_refusal input_refusal element_fits nodes_of strays holds_separator joined further faces full runs edges along count twice from_faces regular mixed other_length tally nodes_in fourth wedge runs_at runs_in place_in_second brick opposite touches sides side has_edge top home above place seek
examples_hold = refl
