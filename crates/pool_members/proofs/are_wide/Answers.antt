-- `are_wide`: the test of each length. Assumes nothing.
use mathlib.Core.Path.{◌≡◌, refl, ap, ◌∙◌}
use mathlib.Core.Bool.{Bool, ◌&&◌}
use mathlib.Core.List.{List, [], ◌∷◌}
use Prim.Native.Nat.{ℕ}
use lib.Dec.{ltb}
use borrow.Author.Rules.{rules}
use borrow.Author.Tests.{tests}
use Rattle.std.specs.List.{list_all}
use Rattle.std.proofs.lemmas.Iterator.{YieldsList-from_slice}
use Rattle.std.proofs.lemmas.Iterator.Search.{all_from_yields_List}
use Rattle.lists.specs.Lists.{all_of}
use Rattle.pool_order.specs.Order.{roomy}
use Rattle.pool_members.proofs.are_wide.Goals as goal

each_wide : (n : ℕ) (lens : List ℕ) → list_all (ltb n) lens ≡ roomy n lens
unfolding roomy all_of
each_wide n [] = refl
each_wide n (x ∷ xs) = ap (λ (b : Bool). ltb n x && b) (each_wide n xs)

pub returns : goal.returns
returns c =
    all_from_yields_List (ltb c.args.n) _ _ _ c.all.ensures.ran (YieldsList-from_slice c.args.lens.now cc) (λ x b q k. search (rules, tests))
    ∙ each_wide c.args.n c.args.lens.now
