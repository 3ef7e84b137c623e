use Rattle.listing.proofs.Lines.{Lining, left}
use Rattle.listing.proofs.put_listing.Given as goal

abbrev pub invariant-loop-next : goal.invariant-loop-next
invariant-loop-next l = Lining l.image l.initial.out l.initial.end l.out l.end l.n l.next

abbrev pub decreases-loop-next : goal.decreases-loop-next
decreases-loop-next l = left l.image l.next
