-- `smallest::smallest_of_eight` meets its contract: the lesser of two fours is the smallest of eight.
use mathlib.Core.Path.{◌∙◌, ap₂}
use borrow.Author.Rules.{rules}
use Rattle.simplexes.specs.Inner.Lesser.{lesser_of}
use Rattle.simplexes.proofs.Scan.{eight_smallest}
use Rattle.simplexes.proofs.smallest.smallest_of_eight.Goals as goal

pub returns : goal.returns
returns c =
    eight_smallest c.args.ids.now (search rules) c.lesser.result
    (c.lesser.ensures ∙ ap₂ lesser_of c.least_of_four.ensures c.least_of_four-2.ensures)
