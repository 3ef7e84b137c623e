use lib.ListN.{drop}
use Rattle.sheet.proofs.Files.{FilesLeft}
use Rattle.sheet.proofs.file.are_legal.Given as goal

abbrev pub invariant-loop-count : goal.invariant-loop-count
invariant-loop-count l =
    FilesLeft l.set l.files l.counts l.lengths l.bytes l.entries (drop l.count-index l.counts) l.left l.at
