-- What recognition finds: a cell by its kind and its nodes, or the number of the refusal.
use Rattle.std.specs.Prelude.{ℕ, List, []}

-- why is 0, or else the refusal
pub record Cell : Type 0 where
  pub why : ℕ
  pub kind : ℕ
  pub nodes : List ℕ

abbrev pub cell : ℕ → List ℕ → Cell
cell kind nodes = record { why = 0; kind = kind; nodes = nodes }

abbrev pub none : ℕ → Cell
none why = record { why = why; kind = 0; nodes = [] }
