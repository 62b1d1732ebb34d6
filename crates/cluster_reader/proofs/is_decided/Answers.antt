use mathlib.Core.Path.{sym, ap, subst, ◌∙◌}
use Rattle.cluster_reader.specs.Calls.{Decided}
use Rattle.cluster_reader.specs.Reading.{told}
use Rattle.cluster_reader.proofs.Reading.{count_open, refused_certain, refused_decided}
use Rattle.cluster_reader.proofs.is_decided.Goals as goal

pub returns-in-Ok : goal.returns-in-Ok
returns-in-Ok c = record {
  decided = tt;
  value = count_open c.args.start.now c.in-Ok.field-0 (sym c.first_line.ensures ∙ ap told c.in-Ok.is);
}

pub returns-in-Err : goal.returns-in-Err
returns-in-Err c =
    let e = sym c.first_line.ensures ∙ ap told c.in-Err.is in
    record {
      decided = subst (Decided c.args.start.now) (sym c.has_end.ensures) (refused_decided c.args.start.now c.in-Err.field-0 e);
      value = c.has_end.ensures ∙ refused_certain c.args.start.now c.in-Err.field-0 e;
    }
