use mathlib.Core.Path.{refl, sym, ap, ◌∙◌}
use mathlib.Core.Bool.{Bool, ◌&&◌, and-false}
use Rattle.lists.proofs.Bools.{clash}
use Rattle.txset.specs.Sets.{mem}
use Rattle.txset.proofs.Sets.{empty_mem}
use Rattle.depgraph.proofs.gaining.Goals as goal

pub returns-then-is_empty : goal.returns-then-is_empty
returns-then-is_empty c = let args = c.args in
    let none = empty_mem args.set (sym c.is_empty.ensures ∙ c.if-is_empty.true) in record {
      by_index = λ i a.
          ap (λ (b : Bool). mem args.set i && b) (none a) ∙ and-false (mem args.set i)
          ∙ sym (ap (λ (b : Bool). mem args.walk i && b) (none a) ∙ and-false (mem args.walk i));
      by_index_2 = λ i e. clash e (none i);
    }

pub returns : goal.returns
returns c = record {
  by_index = λ i a. refl;
  by_index_2 = λ i e. e;
}
