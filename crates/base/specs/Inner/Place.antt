-- A list written into a lent one from a place on.
use Rattle.std.specs.Prelude.{ℕ, List, ◌++◌, take, drop}
use Rattle.base.specs.Outcome.{overwrite}

-- xs over what stands from a place on; what lies before and behind stays
unfoldable pub put_at : List ℕ → ℕ → List ℕ → List ℕ
put_at xs at out = take at out ++ overwrite xs (drop at out)
