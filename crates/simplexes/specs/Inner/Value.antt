-- How the split of one cell by value is the record that `ByValue` defines.
use Rattle.std.specs.Prelude.{replicate, Option, Some, None}
use Rattle.base.specs.Inner.Numbers.{number_of}
use Rattle.simplexes.specs.declared.Split.{Split}
use Rattle.simplexes.specs.ByValue.{ByValue}

-- what the code gives, so counted
abbrev pub by_value : Option Split → ByValue
by_value None = record { kind = 0; count = 0; ids = replicate 24 0 }
by_value (Some s) = record { kind = number_of s.kind; count = s.count; ids = s.ids }
