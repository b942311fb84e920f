-- The first place at which a test holds, and the corners of faces that stand one after another in a list of nodes.
use Rattle.std.specs.Prelude.{ℕ, zero, suc, ◌+◌, ◌*◌, ◌%◌, List, Bool, cond, get_or}
use Rattle.base.specs.Kinds.{separator}

-- the first of i, i + 1, .. , i + n - 1 at which the test holds, or i + n
unfoldable pub seek : (ℕ → Bool) → ℕ → ℕ → ℕ
seek test i zero = i
seek test i (suc n) = cond (test i) i (seek test (suc i) n)

-- entry i of a list of nodes
abbrev pub nth : List ℕ → ℕ → ℕ
nth nodes i = get_or nodes i separator

-- corner j of the k-th quad of a list of quads, going round
abbrev pub corner : List ℕ → ℕ → ℕ → ℕ
corner quads k j = nth quads (4 * k + j % 4)
