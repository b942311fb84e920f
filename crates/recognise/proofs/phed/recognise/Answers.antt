-- `phed::recognise` meets its contract: a list that is laid out so is the cell that its places make.
use mathlib.Core.Path.{sym, ◌∙◌}
use Rattle.recognise.proofs.Usual.{laid_tet_lem, laid_brick_lem, laid_wedge_lem}
use Rattle.recognise.proofs.phed.recognise.Goals as goal

pub returns-then-is_laid_tet : goal.returns-then-is_laid_tet
returns-then-is_laid_tet c = c.laid_tet.ensures ∙ laid_tet_lem _ (sym c.is_laid_tet.ensures ∙ c.if-is_laid_tet.true)

pub returns-then-is_laid_brick : goal.returns-then-is_laid_brick
returns-then-is_laid_brick c = c.laid_brick.ensures ∙ laid_brick_lem _ (sym c.is_laid_brick.ensures ∙ c.if-is_laid_brick.true)

pub returns-then-is_laid_wedge : goal.returns-then-is_laid_wedge
returns-then-is_laid_wedge c = c.laid_wedge.ensures ∙ laid_wedge_lem _ (sym c.is_laid_wedge.ensures ∙ c.if-is_laid_wedge.true)
