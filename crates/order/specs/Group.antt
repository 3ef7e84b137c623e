-- Where an item stands, as far as it decides what a block is: among labels (0), among the labels of a header, behind which a mark
-- opens the data (1), or among data blocks (2). Whatever the items before it were, there is one answer: so anything can be shown
-- item by item, whole or damaged.
-- `Groups.antt` in proofs/ has that along a set that follows the order the groups are those of its phases.
use Rattle.std.specs.Prelude.{ℕ, eqb}
use Rattle.base.specs.If.{if_b}
use Rattle.order.specs.Kind.{hdr, uhl, data_block, tape_mark}
use Rattle.order.specs.declared.Kind.{Kind}

abbrev pub among_labels : ℕ
among_labels = 0

abbrev pub among_headers : ℕ
among_headers = 1

abbrev pub among_data : ℕ
among_data = 2

-- behind an item of this kind
unfoldable pub group_after : ℕ → Kind → ℕ
group_after g k =
    if_b (eqb k.family tape_mark.family) (if_b (eqb g among_headers) among_data among_labels)
    (if_b (eqb k.family data_block.family) among_data
    (if_b (eqb k.family (hdr 1).family) among_headers
    (if_b (eqb k.family uhl.family) among_headers
    among_labels)))
