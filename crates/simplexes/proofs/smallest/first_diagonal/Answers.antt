-- `smallest::first_diagonal` meets its contract: the four ids that are gathered are those of the quad.
use borrow.Author.Rules.{rules}
use mathlib.Core.Path.{◌≡◌, ◌∙◌, ap}
use lib.ListN.{length}
use Rattle.base.specs.Gather.{pick, undigit}
use Rattle.base.proofs.Picks.{length-undigit}
use Rattle.cuts.specs.Smallest.{first_diagonal}
use Rattle.simplexes.proofs.Laws.{fills, four_are}
use Rattle.simplexes.proofs.smallest.first_diagonal.Goals as goal

pub returns : goal.returns
returns c =
    let a = c.args in
    let ids = a.ids.now in
    let four : length a.quad.now ≡ 4 = search rules in
    let long : length (pick ids (undigit a.quad.now)) ≡ 4 = length-undigit ids a.quad.now ∙ four in
    let e = c.gather_digits.ensures ∙ fills (pick ids (undigit a.quad.now)) _ long in
    rw e at c.on_first.ensures ∙ ap first_diagonal (four_are (pick ids (undigit a.quad.now)) long)
