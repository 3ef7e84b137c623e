use Rattle.std.proofs.Common.{arith, sym, ◌∙◌}
use borrow.Author.Tests.{leb-true}
use Rattle.writer.proofs.Forms.{few}
use Rattle.writer.proofs.Records.{goes_in}
use Rattle.writer.proofs.record.goes_in.Goals as goal
use Rattle.writer.proofs.record.goes_in.Goals.{then-n-form, else-n-form}

pub returns-then-p : goal.returns-then-p
returns-then-p c =
    elim c.if-n-form.branch [
      | then-n-form w ↦ λ h.
          let fits = leb-true _ _ h in
          goes_in _ _ _ _ _ (sym w.value-is ∙ c.if-p.true) (search few) (omega arith)
      | else-n-form w ↦ grind arith
    ]
