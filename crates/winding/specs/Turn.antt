-- A list as it is, or back to front.
use Rattle.std.specs.Prelude.{ℕ, Bool, cond, List, reverse}

-- the list, back to front if it is so wanted
abbrev pub turned : Bool → List ℕ → List ℕ
turned back list = cond back (reverse list) list
