-- `smallest::smallest_of_six` meets its contract: the lesser of four and two is the smallest of six.
use mathlib.Core.Path.{◌∙◌, ap₂}
use borrow.Author.Rules.{rules}
use Rattle.simplexes.specs.Inner.Lesser.{lesser_of}
use Rattle.simplexes.proofs.Scan.{six_smallest}
use Rattle.simplexes.proofs.smallest.smallest_of_six.Goals as goal

pub returns : goal.returns
returns c =
    six_smallest c.args.ids.now (search rules) c.lesser.result
    (c.lesser.ensures ∙ ap₂ lesser_of c.least_of_four.ensures c.least_of_two.ensures)
