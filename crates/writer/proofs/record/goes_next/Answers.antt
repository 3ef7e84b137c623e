use Rattle.std.proofs.Common.{arith, sym, ◌∙◌}
use borrow.Author.Tests.{leb-true, not-true}
use Rattle.writer.proofs.Forms.{few}
use Rattle.writer.proofs.Records.{goes_next}
use Rattle.writer.proofs.record.goes_next.Goals as goal
use Rattle.writer.proofs.record.goes_next.Goals.{then-n-form, else-n-form, then-form-n, else-form-n}

pub returns-then-p-gt0 : goal.returns-then-p-gt0
returns-then-p-gt0 c = λ d.
    elim c.if-form-n.branch [
      | then-form-n w ↦
          elim c.if-n-form.branch [
            | then-n-form v ↦
                let fits = leb-true _ _ (sym v.value-is ∙ w.if-form-n.true) in
                goes_next _ _ _ _ _ _ (search few) (omega arith) (omega arith) (sym c.enters_on.ensures ∙ not-true _ d)
            | else-n-form v ↦ grind arith
          ]
      | else-form-n w ↦ grind arith
    ]
