-- Document 01's examples of recognition, the round trips among them, and an input of each refusal: one table, one theorem.
use Prim.Native.Nat.{ℕ}
use mathlib.Core.Path.{◌≡◌, refl}
use mathlib.Core.List.{List, [], ◌∷◌, map}
use Rattle.base.specs.Kinds.{separator, nodes_of}
use Rattle.base.specs.Checks.{element_fits, element_refusal, holds_separator, input_refusal, strays}
use Rattle.base.specs.Gather.{digits}
use Rattle.base.specs.Outcome.{Outcome, decide, given, overwrite, refused, settle, settle_one}
use Rattle.base.specs.declared.refusals.Answer.{Answer}
use Rattle.faces.specs.Edges.{along, count, edges, twice}
use Rattle.faces.specs.Faces.{faces, full, further, joined, runs}
use Rattle.shapes.specs.Brick.{above, brick, has_edge, home, opposite, place, side, sides, top, touches}
use Rattle.shapes.specs.Seek.{seek}
use Rattle.shapes.specs.Tet.{fourth}
use Rattle.shapes.specs.Wedge.{place_in_second, runs_at, runs_in, wedge}
use Rattle.recognise.specs.FromPoly.{from_poly, plain_kind, recognised}
use Rattle.recognise.specs.Recognise.{from_faces, mixed, nodes_in, other_length, regular, tally}

-- a triangle and a quad, their nodes as digits
abbrev tri : ℕ → List ℕ
tri nodes = digits 3 nodes

abbrev quad : ℕ → List ℕ
quad nodes = digits 4 nodes

-- nine ids are lent, each a 9
abbrev lent : List ℕ
lent = digits 9 999999999

-- a kind and a list, and what `from_poly` makes of them
pub record Example : Type 0 where
  pub kind : ℕ
  pub ids : List ℕ
  pub outcome : Outcome Answer (List ℕ)

-- the answer is of this kind and has n nodes; what is lent then holds these digits
abbrev gives : ℕ → List ℕ → ℕ → ℕ → ℕ → Example
gives kind ids found n holds =
    record { kind = kind; ids = ids; outcome = record { answer = given found n; lent = digits 9 holds } }

-- the answer is a refusal; what is lent is as it was
abbrev refuses : ℕ → List ℕ → ℕ → Example
refuses kind ids why = record { kind = kind; ids = ids; outcome = record { answer = refused why; lent = lent } }

abbrev pub examples : List Example
examples =
    -- through poly and back: TET4 0..3 gives 0132, HEX8 0..7 gives 03214765, WEDGE6 itself
    gives 19 (joined separator (tri 013 ∷ tri 123 ∷ tri 203 ∷ tri 021 ∷ [])) 11 4 013299999
    ∷ gives 19 (joined separator (quad 0321 ∷ quad 4567 ∷ quad 0154 ∷ quad 1265 ∷ quad 2376 ∷ quad 3047 ∷ [])) 15 8 032147659
    ∷ gives 19 (joined separator (tri 021 ∷ tri 345 ∷ quad 0143 ∷ quad 1254 ∷ quad 2035 ∷ [])) 13 6 012345999
    -- two doubled triangles
    ∷ gives 19 (joined separator (tri 123 ∷ tri 123 ∷ tri 456 ∷ tri 456 ∷ [])) 11 4 123499999
    -- a brick whose bottom holds a node twice: the node above goes by id
    ∷ gives 19 (joined separator (quad 0122 ∷ quad 0332 ∷ quad 2113 ∷ quad 4224 ∷ quad 1301 ∷ quad 3443 ∷ [])) 15 8 012233339
    -- idle separators make no face
    ∷ gives 19 (separator ∷ separator ∷ joined separator (tri 013 ∷ [] ∷ tri 123 ∷ tri 203 ∷ tri 021 ∷ [] ∷ [])) 11 4 013299999
    -- 8 no face
    ∷ refuses 19 [] 8
    ∷ refuses 19 (separator ∷ separator ∷ []) 8
    -- 10 three lengths, 11 two lengths but no wedge's
    ∷ refuses 19 (joined separator (tri 012 ∷ quad 0123 ∷ digits 2 56 ∷ [])) 10
    ∷ refuses 19 (joined separator (tri 012 ∷ quad 0123 ∷ [])) 11
    ∷ refuses 19 (joined separator (quad 0321 ∷ tri 014 ∷ tri 124 ∷ tri 234 ∷ tri 304 ∷ [])) 11
    -- 12 no quad runs v1 to v0, 13 the node found is not in the second triangle
    ∷ refuses 19 (joined separator (tri 012 ∷ tri 345 ∷ quad 0143 ∷ quad 1254 ∷ quad 2035 ∷ [])) 12
    ∷ refuses 19 (joined separator (tri 021 ∷ tri 678 ∷ quad 0143 ∷ quad 1254 ∷ quad 2035 ∷ [])) 13
    -- 14 an edge not there exactly twice; a face that runs an edge twice counts it twice
    ∷ refuses 19 (joined separator (tri 012 ∷ [])) 14
    ∷ refuses 19 (digits 1 1) 14
    ∷ refuses 19 (joined separator (tri 012 ∷ tri 012 ∷ tri 012 ∷ [])) 14
    -- 15 closed, but no such surface
    ∷ refuses 19 (joined separator (tri 012 ∷ tri 012 ∷ [])) 15
    ∷ refuses 19 (digits 2 12) 15
    ∷ refuses 19 (joined separator (digits 1 1 ∷ digits 1 1 ∷ [])) 15
    -- 17 no opposite face, 18 no side face
    ∷ refuses 19
    (joined separator (quad 1234 ∷ quad 1234 ∷ quad 1567 ∷ quad 1567 ∷ (1 ∷ 8 ∷ 9 ∷ 10 ∷ []) ∷ (1 ∷ 8 ∷ 9 ∷ 10 ∷ []) ∷ [])) 17
    ∷ refuses 19 (joined separator (quad 1122 ∷ quad 1133 ∷ quad 2244 ∷ quad 3344 ∷ quad 5678 ∷ quad 5678 ∷ [])) 18
    -- PLINE and PGON, 9 where they are no fixed kind
    ∷ gives 17 (digits 2 12) 2 2 129999999
    ∷ refuses 17 (digits 3 123) 9
    ∷ gives 18 (tri 123) 5 3 123999999
    ∷ gives 18 (quad 1234) 8 4 123499999
    ∷ refuses 18 (digits 1 1) 9
    ∷ refuses 18 (digits 5 12345) 9
    -- the other kinds unchanged, after 1, 3 and 4 and before 7
    ∷ gives 11 (quad 1234) 11 4 123499999
    ∷ refuses 20 (quad 1234) 1
    ∷ refuses 11 (tri 123) 3
    ∷ refuses 11 (1 ∷ 2 ∷ 3 ∷ separator ∷ []) 4
    ∷ refuses 12 (digits 10 1234567890) 7
    ∷ []

-- what `from_poly` makes of an example's kind and list
abbrev judged : Example → Example
judged e = record { kind = e.kind; ids = e.ids; outcome = from_poly e.kind e.ids lent }

pub examples_hold : map judged examples ≡ examples
unfolding from_poly recognised plain_kind settle settle_one decide overwrite element_refusal input_refusal element_fits nodes_of strays holds_separator faces full runs joined further edges along count twice from_faces regular mixed other_length tally nodes_in fourth wedge runs_at runs_in place_in_second brick opposite touches sides side has_edge top home above place seek
examples_hold = refl
