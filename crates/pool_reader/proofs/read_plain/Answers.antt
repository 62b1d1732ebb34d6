use mathlib.Core.Path.{sym, ◌∙◌}
use lib.ListN.{take}
use Rattle.pool_reader.proofs.Reading.{word_is}
use Rattle.pool_reader.specs.Requests.{clear, totals}
use Rattle.pool_reader.proofs.Asking.{by_make, by_clear, by_totals, by_delta, by_mark, by_template, by_none, alone, not_alone}
use Rattle.pool_reader.proofs.read_plain.Goals as goal

pub returns-then-eq : goal.returns-then-eq
returns-then-eq c = λ x ps. c.read_make.ensures x ps ∙ sym (by_make _ _ (word_is (take c.args.end c.args.line.now) c.as_slice.result.now _ c.eq.ensures c.as_slice.ensures ∙ c.if-eq.true))

pub returns-then-end-line : goal.returns-then-end-line
returns-then-end-line c = λ x ps. sym (by_clear _ _ (word_is (take c.args.end c.args.line.now) c.as_slice.result.now _ c.eq.ensures c.as_slice.ensures ∙ c.if-eq.false) (word_is (take c.args.end c.args.line.now) c.as_slice-2.result.now _ c.eq-2.ensures c.as_slice-2.ensures ∙ c.if-eq-2.true) ∙ not_alone clear _ _ c.if-end-line.true)

pub returns-then-eq-2 : goal.returns-then-eq-2
returns-then-eq-2 c = λ x ps. sym (by_clear _ _ (word_is (take c.args.end c.args.line.now) c.as_slice.result.now _ c.eq.ensures c.as_slice.ensures ∙ c.if-eq.false) (word_is (take c.args.end c.args.line.now) c.as_slice-2.result.now _ c.eq-2.ensures c.as_slice-2.ensures ∙ c.if-eq-2.true) ∙ alone clear _ _ c.if-end-line.false)

pub returns-then-end-line-2 : goal.returns-then-end-line-2
returns-then-end-line-2 c = λ x ps. sym (by_totals _ _ (word_is (take c.args.end c.args.line.now) c.as_slice.result.now _ c.eq.ensures c.as_slice.ensures ∙ c.if-eq.false) (word_is (take c.args.end c.args.line.now) c.as_slice-2.result.now _ c.eq-2.ensures c.as_slice-2.ensures ∙ c.if-eq-2.false) (word_is (take c.args.end c.args.line.now) c.as_slice-3.result.now _ c.eq-3.ensures c.as_slice-3.ensures ∙ c.if-eq-3.true) ∙ not_alone totals _ _ c.if-end-line-2.true)

pub returns-then-eq-3 : goal.returns-then-eq-3
returns-then-eq-3 c = λ x ps. sym (by_totals _ _ (word_is (take c.args.end c.args.line.now) c.as_slice.result.now _ c.eq.ensures c.as_slice.ensures ∙ c.if-eq.false) (word_is (take c.args.end c.args.line.now) c.as_slice-2.result.now _ c.eq-2.ensures c.as_slice-2.ensures ∙ c.if-eq-2.false) (word_is (take c.args.end c.args.line.now) c.as_slice-3.result.now _ c.eq-3.ensures c.as_slice-3.ensures ∙ c.if-eq-3.true) ∙ alone totals _ _ c.if-end-line-2.false)

pub returns-then-eq-4 : goal.returns-then-eq-4
returns-then-eq-4 c = λ x ps. c.read_delta.ensures x ps ∙ sym (by_delta _ _ (word_is (take c.args.end c.args.line.now) c.as_slice.result.now _ c.eq.ensures c.as_slice.ensures ∙ c.if-eq.false) (word_is (take c.args.end c.args.line.now) c.as_slice-2.result.now _ c.eq-2.ensures c.as_slice-2.ensures ∙ c.if-eq-2.false) (word_is (take c.args.end c.args.line.now) c.as_slice-3.result.now _ c.eq-3.ensures c.as_slice-3.ensures ∙ c.if-eq-3.false) (word_is (take c.args.end c.args.line.now) c.as_slice-4.result.now _ c.eq-4.ensures c.as_slice-4.ensures ∙ c.if-eq-4.true))

pub returns-then-eq-5 : goal.returns-then-eq-5
returns-then-eq-5 c = λ x ps. c.read_mark.ensures x ps ∙ sym (by_mark _ _ (word_is (take c.args.end c.args.line.now) c.as_slice.result.now _ c.eq.ensures c.as_slice.ensures ∙ c.if-eq.false) (word_is (take c.args.end c.args.line.now) c.as_slice-2.result.now _ c.eq-2.ensures c.as_slice-2.ensures ∙ c.if-eq-2.false) (word_is (take c.args.end c.args.line.now) c.as_slice-3.result.now _ c.eq-3.ensures c.as_slice-3.ensures ∙ c.if-eq-3.false) (word_is (take c.args.end c.args.line.now) c.as_slice-4.result.now _ c.eq-4.ensures c.as_slice-4.ensures ∙ c.if-eq-4.false) (word_is (take c.args.end c.args.line.now) c.as_slice-5.result.now _ c.eq-5.ensures c.as_slice-5.ensures ∙ c.if-eq-5.true))

pub returns-then-eq-6 : goal.returns-then-eq-6
returns-then-eq-6 c = λ x ps. c.read_terms.ensures x ps ∙ sym (by_template _ _ (word_is (take c.args.end c.args.line.now) c.as_slice.result.now _ c.eq.ensures c.as_slice.ensures ∙ c.if-eq.false) (word_is (take c.args.end c.args.line.now) c.as_slice-2.result.now _ c.eq-2.ensures c.as_slice-2.ensures ∙ c.if-eq-2.false) (word_is (take c.args.end c.args.line.now) c.as_slice-3.result.now _ c.eq-3.ensures c.as_slice-3.ensures ∙ c.if-eq-3.false) (word_is (take c.args.end c.args.line.now) c.as_slice-4.result.now _ c.eq-4.ensures c.as_slice-4.ensures ∙ c.if-eq-4.false) (word_is (take c.args.end c.args.line.now) c.as_slice-5.result.now _ c.eq-5.ensures c.as_slice-5.ensures ∙ c.if-eq-5.false) (word_is (take c.args.end c.args.line.now) c.as_slice-6.result.now _ c.eq-6.ensures c.as_slice-6.ensures ∙ c.if-eq-6.true))

pub returns : goal.returns
returns c = λ x ps. sym (by_none _ _ (word_is (take c.args.end c.args.line.now) c.as_slice.result.now _ c.eq.ensures c.as_slice.ensures ∙ c.if-eq.false) (word_is (take c.args.end c.args.line.now) c.as_slice-2.result.now _ c.eq-2.ensures c.as_slice-2.ensures ∙ c.if-eq-2.false) (word_is (take c.args.end c.args.line.now) c.as_slice-3.result.now _ c.eq-3.ensures c.as_slice-3.ensures ∙ c.if-eq-3.false) (word_is (take c.args.end c.args.line.now) c.as_slice-4.result.now _ c.eq-4.ensures c.as_slice-4.ensures ∙ c.if-eq-4.false) (word_is (take c.args.end c.args.line.now) c.as_slice-5.result.now _ c.eq-5.ensures c.as_slice-5.ensures ∙ c.if-eq-5.false) (word_is (take c.args.end c.args.line.now) c.as_slice-6.result.now _ c.eq-6.ensures c.as_slice-6.ensures ∙ c.if-eq-6.false))
