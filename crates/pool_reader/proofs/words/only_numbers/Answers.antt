use Rattle.pool_reader.proofs.Reading.{not_only, numbers_end, numbers_more}
use Rattle.pool_reader.proofs.words.only_numbers.Goals as goal

pub returns-in_err-values : goal.returns-in_err-values
returns-in_err-values g c = rw (c.from_residual.ensures, not_only g.row.N _ c.in_err-values.ensures)

pub returns-then-end-text : goal.returns-then-end-text
returns-then-end-text g c =
    let n = c.in_ok-values.ensures in
    rw (numbers_more g.row.N n.0 n.1 c.if-end-text.true)

pub returns : goal.returns
returns g c =
    let n = c.in_ok-values.ensures in
    let all = numbers_end g.row.N n.0 n.1 c.if-end-text.false in
    rw (all.0, all.1)
