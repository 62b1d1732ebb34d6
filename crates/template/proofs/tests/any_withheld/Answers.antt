use mathlib.Core.Path.{◌∙◌}
use borrow.Author.Rules.{rules}
use Rattle.std.proofs.lemmas.Iterator.{YieldsList-from_slice}
use Rattle.std.proofs.lemmas.Iterator.Search.{any_from_yields_List}
use Rattle.template_rules.specs.Filling.{withheld}
use Rattle.template.proofs.Asking.{any_list}
use Rattle.template.proofs.tests.any_withheld.Goals as goal

pub returns : goal.returns
returns c =
    any_from_yields_List (withheld c.args.marks.now) _ _ _ c.any.ensures.ran (YieldsList-from_slice c.args.slots.now cc) (λ x b q k. search rules)
    ∙ any_list _ _
