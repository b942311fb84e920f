-- The kind of an element that is no PHED, as the paper numbers it.
use Rattle.std.specs.Prelude.{ℕ, Option, Some, None}
use Rattle.base.specs.Inner.Numbers.{number_of}
use Rattle.base.specs.declared.kinds.Kind.{Kind}

-- 0 for none
abbrev pub number_or_zero : Option Kind → ℕ
number_or_zero None = 0
number_or_zero (Some kind) = number_of kind
