use mathlib.Core.Path.{◌∙◌}
use borrow.Author.Rules.{rules}
use Rattle.std.proofs.lemmas.Iterator.{YieldsList-from_slice}
use Rattle.std.proofs.lemmas.Iterator.Search.{all_from_yields_List}
use Rattle.txset.specs.Sets.{has_in}
use Rattle.template.proofs.Asking.{all_list}
use Rattle.template.proofs.tests.all_taken.Goals as goal

pub returns : goal.returns
returns c =
    all_from_yields_List (has_in c.args.taken.now) _ _ _ c.all.ensures.ran (YieldsList-from_slice c.args.slots.now cc) (λ x b q k. search rules)
    ∙ all_list _ _
