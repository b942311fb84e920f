-- What the code returns, and what the paper says of it: cells, and options for numbers with one more for none.
use Rattle.std.specs.Prelude.{ℕ, ◌≡◌, ◌<◌, List, true, false, get_or, Option, Some, None, Result, Ok, Err}
use Rattle.base.specs.Inner.Numbers.{refusal_number}
use Rattle.base.specs.declared.refusals.Refusal.{Refusal}
use Rattle.shapes.specs.Brick.{Sides, lacks_one}
use Rattle.shapes.specs.Cells.{cell, none}
use Rattle.shapes.specs.Wedge.{runs_in, after}
use Rattle.shapes.specs.Cells
use Rattle.shapes.specs.declared.cells.Cell.{Cell}
use Rattle.shapes.specs.declared.cells.Cell.TheVariants.{Tet4, Wedge6, Hex8}

-- the kind of a cell, and its nodes
abbrev pub kind_of : Cell → ℕ
kind_of (Tet4 nodes) = 11
kind_of (Wedge6 nodes) = 13
kind_of (Hex8 nodes) = 15

abbrev pub nodes_of : Cell → List ℕ
nodes_of (Tet4 nodes) = nodes
nodes_of (Wedge6 nodes) = nodes
nodes_of (Hex8 nodes) = nodes

-- what a result is to the paper
abbrev pub cell_of : Result Cell Refusal → Rattle.shapes.specs.Cells.Cell
cell_of (Ok c) = cell (kind_of c) (nodes_of c)
cell_of (Err refusal) = none (refusal_number refusal)

-- what a number below n stands for, where n itself stands for none
abbrev pub SomeBelow : ℕ → ℕ → Option ℕ → Type 0
SomeBelow n k None = k ≡ n
SomeBelow n k (Some i) = (k ≡ i) × (i < n)

-- the side faces as a list
abbrev pub sides_of : List ℕ → Sides
sides_of l =
    record { first = get_or l 0 0; second = get_or l 1 0; third = get_or l 2 0; fourth = get_or l 3 0 }

-- all are faces of a brick
abbrev pub Near : List ℕ → Type 0
Near l = (j : ℕ) → j < 4 → get_or l j 0 < 6

-- the side faces, or that one lacks
abbrev pub SidesUnless : Sides → Option (List ℕ) → Type 0
SidesUnless s None = lacks_one s ≡ true
SidesUnless s (Some l) = (lacks_one s ≡ false) × (sides_of l ≡ s) × Near l

-- the node after w in the first quad that runs v to w, or that none does
abbrev pub AfterUnless : List ℕ → ℕ → ℕ → Option ℕ → Type 0
AfterUnless quads v w None = runs_in quads v w ≡ 3
AfterUnless quads v w (Some x) = (runs_in quads v w < 3) × (x ≡ after quads (runs_in quads v w) v w)
