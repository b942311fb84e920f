-- Kinds and refusals as numbers, and results as answers: what crosses to C, and what the paper counts by.
use Rattle.std.specs.Prelude.{ℕ, ◌≡◌, false, cond, eqb, Option, Some, None, Result, Ok, Err}
use Rattle.base.specs.Kinds.{is_kind}
use Rattle.base.specs.Outcome.{given, refused}
use Rattle.base.specs.declared.kinds.Kind.{Kind}
use Rattle.base.specs.declared.kinds.Kind.TheVariants.{
  Vertex,
  Seg2,
  Seg3,
  Seg4,
  Tri3,
  Tri6,
  Tri7,
  Quad4,
  Quad8,
  Quad9,
  Tet4,
  Tet10,
  Wedge6,
  Wedge15,
  Hex8,
  Hex21,
  Pline,
  Pgon,
  Phed,
}
use Rattle.base.specs.declared.refusals.Answer.{Answer}
use Rattle.base.specs.declared.refusals.Given.{Given}
use Rattle.base.specs.declared.refusals.Refusal.{Refusal}
use Rattle.base.specs.declared.refusals.Refusal.TheVariants.{
  UnknownKind,
  TooManyEntries,
  WrongNodeCount,
  StraySeparator,
  NoSuchCodimension,
  NoRule,
  ShortOutput,
  NoFace,
  NoSuchPoly,
  ThreeFaceLengths,
  NoWedgeFaces,
  NoQuadAtEdge,
  NotInSecondTriangle,
  OpenSurface,
  NoSuchSurface,
  NoOppositeFace,
  NoSideFace,
  NoPoint,
  WrongPoints,
  BadRecord,
}

-- the number of a kind (document 01, 'Ids, kinds, sizes')
abbrev pub number_of : Kind → ℕ
number_of Vertex = 1
number_of Seg2 = 2
number_of Seg3 = 3
number_of Seg4 = 4
number_of Tri3 = 5
number_of Tri6 = 6
number_of Tri7 = 7
number_of Quad4 = 8
number_of Quad8 = 9
number_of Quad9 = 10
number_of Tet4 = 11
number_of Tet10 = 12
number_of Wedge6 = 13
number_of Wedge15 = 14
number_of Hex8 = 15
number_of Hex21 = 16
number_of Pline = 17
number_of Pgon = 18
number_of Phed = 19

-- the number of a refusal (document 01, 'Numbers returned')
abbrev pub refusal_number : Refusal → ℕ
refusal_number UnknownKind = 1
refusal_number TooManyEntries = 2
refusal_number WrongNodeCount = 3
refusal_number StraySeparator = 4
refusal_number NoSuchCodimension = 5
refusal_number NoRule = 6
refusal_number ShortOutput = 7
refusal_number NoFace = 8
refusal_number NoSuchPoly = 9
refusal_number ThreeFaceLengths = 10
refusal_number NoWedgeFaces = 11
refusal_number NoQuadAtEdge = 12
refusal_number NotInSecondTriangle = 13
refusal_number OpenSurface = 14
refusal_number NoSuchSurface = 15
refusal_number NoOppositeFace = 17
refusal_number NoSideFace = 18
refusal_number NoPoint = 19
refusal_number WrongPoints = 20
refusal_number BadRecord = 21

-- where the paper has 0 for none
abbrev pub some_unless_zero : ℕ → Option ℕ
some_unless_zero n = cond (eqb n 0) None (Some n)

-- the kind of a number, or 1
abbrev pub IsOfKind : ℕ → Result Kind Refusal → Type 0
IsOfKind number (Ok kind) = number_of kind ≡ number
IsOfKind number (Err refusal) = (refusal ≡ UnknownKind) × (is_kind number ≡ false)

-- refused exactly by the refusal that the paper numbers `why`, 0 for none
abbrev pub RefusedBy : {T : Type 0} → ℕ → Result T Refusal → Type 0
RefusedBy why (Ok _) = why ≡ 0
RefusedBy why (Err refusal) = why ≡ refusal_number refusal

-- the same, with the kind of a number where there is no refusal
abbrev pub KindUnless : ℕ → ℕ → Result Kind Refusal → Type 0
KindUnless why number (Ok kind) = (why ≡ 0) × (number_of kind ≡ number)
KindUnless why number (Err refusal) = why ≡ refusal_number refusal

-- what a result is to C: the kind and count of what was given, or the refusal
abbrev pub answer_of : Result Given Refusal → Answer
answer_of (Ok g) = given (number_of g.kind) g.count
answer_of (Err refusal) = refused (refusal_number refusal)

-- the same for a count of what has no kind
abbrev pub count_answer_of : Result ℕ Refusal → Answer
count_answer_of (Ok count) = given 0 count
count_answer_of (Err refusal) = refused (refusal_number refusal)
